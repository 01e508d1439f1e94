-- Parts that are put together.
use Rattle.std.proofs.Common.{◌≡◌, ℕ, suc, ◌+◌, ◌*◌, ◌<◌, ◌≤◌, pos, negsuc, ◌+ℤ◌, List, [], ◌++◌, Bool, length, slice_get, Some, refl, sym, ap, subst, ◌∙◌, arith, append_assoc, length-append}
use Rattle.std.proofs.lemmas.List.{append-nil}
use Rattle.std.proofs.Math.IntN.{pos-+ℤ-pos, +ℤ_invr}
use Rattle.s80_base.specs.Literal.{small}
use Rattle.s80_code.specs.Entries.{EntryTree}
use Rattle.s80_code.specs.declared.instruction.Instruction.{Instruction}
use Rattle.s80_code.specs.declared.instruction.Instruction.TheVariants.{Jump, PushContext, SendSpecial}
use Rattle.s80_code.specs.Special.{block_copy}
use Rattle.s80_code.specs.Spelling.{Written, far}
use Rattle.s80_code.proofs.lemmas.SpellingLemmas.{ahead}
use Rattle.s80_scope.specs.declared.fit.position.Position.{Position}
use Rattle.s80_scope.specs.declared.fit.position.Position.TheVariants.{Value, Effect}
use Rattle.s80_core.specs.Core.{CoreTree, CoreTrees, SendTrees, constant}
use Rattle.s80_core.specs.Measures.{popped, nil_width}
use Rattle.s80_compile.specs.Rows.{Both, Ends, NilFor, Chooses, JumpsOver, Skips, Loops, Makes, Takes, Pushes, jump_unless}
use Rattle.s80_compile.specs.Compiles.{AreFirsts}
use Rattle.s80_compile.specs.Emitted.{Row, Emitted, CoreRow, CoresRow, SendsRow, OneRow, Adds, AddsBack, AddsFar, AddsEnd, AddsNil, AddsTakes, AddsChoice, HasRoom}
use Rattle.s80_compile.proofs.Firsts.{firsts_join, room_second}
use Rattle.s80_compile.proofs.Moves.{Sits, sits_all, sits_more, sits_last, sits_within, written_goes, over_goes, get_more, core_goes, cores_go, sends_go, takes_goes, constant_goes_along}

-- code of this form goes on standing where it is moved
abbrev pub Moves : Row → Type 0
Moves R = (part whole : List ℕ) (k : ℕ) (old new : List EntryTree) → Sits part whole k → ((n : ℕ) (x : EntryTree) → slice_get old n ≡ Some x → slice_get new n ≡ Some x) → (p q : ℕ) → R part old p q → R whole new (k + p) (k + q)

pub core_moves : (c : CoreTree) (position : Position) → Moves (CoreRow c position)
core_moves c position part whole k old new here kept = core_goes part whole k old new here kept c position

pub cores_move : (cs : CoreTrees) → Moves (CoresRow cs)
cores_move cs part whole k old new here kept = cores_go part whole k old new here kept cs

pub sends_move : (to_super : Bool) (ms : SendTrees) → Moves (SendsRow to_super ms)
sends_move to_super ms part whole k old new here kept = sends_go part whole k old new here kept to_super ms

-- a whole part between the places where it was moved
pub moved : (R : Row) (part whole : List ℕ) (k : ℕ) (old new more : List EntryTree) (p q : ℕ) → Moves R → Sits part whole k → new ≡ old ++ more → p ≡ k → q ≡ k + length part → R part old 0 (length part) → R whole new p q
moved R part whole k old new more p q move here is from to r =
    let first : k + 0 ≡ p = omega (arith, from) in
    subst (λ (n : ℕ). R whole new n q) first
    (subst (λ (n : ℕ). R whole new (k + 0) n) (sym to)
    (move part whole k old new here (λ n x e. subst (λ (f : List EntryTree). slice_get f n ≡ Some x) (sym is) (get_more old more n x e)) 0 (length part) r))

pub stands_moved : (i : Instruction) (part whole : List ℕ) (k p q : ℕ) → Sits part whole k → p ≡ k → q ≡ k + length part → Written part 0 i (length part) → Written whole p i q
stands_moved i part whole k p q here from to s =
    let first : k + 0 ≡ p = omega (arith, from) in
    subst (λ (n : ℕ). Written whole n i q) first (subst (λ (n : ℕ). Written whole (k + 0) i n) (sym to) (written_goes part whole k 0 (length part) i here s))

-- the same for a jump over what follows
pub over_moved : (d : ℕ) (whole : List ℕ) (k to p q : ℕ) → Sits (far 164 d) whole k → d < 1024 → p ≡ k → q ≡ k + 2 → to ≡ q + d → JumpsOver whole to p q
over_moved d whole k to p q here reach from behind lands =
    let jump : JumpsOver (far 164 d) (2 + d) 0 2 =
    record { distance = d; reach = reach; stands = record { width = 2; is_decoded = ahead d reach []; behind = refl }; here = refl; lands = refl } in
    let first : k + 0 ≡ p = omega (arith, from) in
    let target : k + (2 + d) ≡ to = omega (arith, behind, lands) in
    subst (λ (n : ℕ). JumpsOver whole n p q) target
    (subst (λ (n : ℕ). JumpsOver whole (k + (2 + d)) n q) first
    (subst (λ (n : ℕ). JumpsOver whole (k + (2 + d)) (k + 0) n) (sym behind) (over_goes (far 164 d) whole k (2 + d) 0 2 here jump)))

-- one list behind two
pub behind_two : {X : Type 0} (a b c x y : List X) → x ≡ a ++ b → y ≡ x ++ c → y ≡ a ++ (b ++ c)
behind_two a b c x y e f = f ∙ ap (λ l. l ++ c) e ∙ append_assoc a b c

-- the frame of two parts
pub firsts_of_two : (f g v w a b : List EntryTree) → g ≡ f ++ a → AreFirsts f v a → AreFirsts g w b → AreFirsts f (v ++ w) (a ++ b)
firsts_of_two f g v w a b is first second = firsts_join f v w a b first (subst (λ (s : List EntryTree). AreFirsts s w b) is second)

abbrev pub BothRow : Row → Row → Row
BothRow P Q bytes entries p q = Both (P bytes entries) (Q bytes entries) p q

pub joined : (P Q : Row) (v w : List EntryTree) (m n : ℕ) (f g h : List EntryTree) (c d e : List ℕ) → Moves P → Moves Q → Emitted P v m f g c d → Emitted Q w n g h d e → Emitted (BothRow P Q) (v ++ w) (m + n) f h c e
joined P Q v w m n f g h c d e p_moves q_moves a b =
    let lengths = length-append a.part b.part in
    record {
      part = a.part ++ b.part;
      added = a.added ++ b.added;
      is_code = behind_two c a.part b.part d e a.is_code b.is_code;
      is_frame = behind_two f a.added b.added g h a.is_frame b.is_frame;
      firsts = firsts_of_two f g v w a.added b.added a.is_frame a.firsts b.firsts;
      stands = record {
        mid = length a.part;
        first = moved P a.part (a.part ++ b.part) 0 g h b.added 0 (length a.part) p_moves (sits_more a.part a.part b.part 0 (sits_all a.part)) b.is_frame refl (omega arith) a.stands;
        second = moved Q b.part (a.part ++ b.part) (length a.part) h h [] (length a.part) (length (a.part ++ b.part)) q_moves (sits_last a.part b.part) (sym (append-nil h)) refl lengths b.stands;
      };
      short = omega (arith, lengths, a.short, b.short);
    }

-- the same with other words for what is wanted and a greater bound
pub told : (P : Row) (v w : List EntryTree) (m n : ℕ) (f g : List EntryTree) (c d : List ℕ) → v ≡ w → m ≤ n → Emitted P v m f g c d → Emitted P w n f g c d
told P v w m n f g c d same more a =
    record {
      part = a.part;
      added = a.added;
      is_code = a.is_code;
      is_frame = a.is_frame;
      firsts = subst (λ (x : List EntryTree). AreFirsts f x a.added) same a.firsts;
      stands = a.stands;
      short = omega (arith, more, a.short);
    }

-- what adds no entry
pub ends_moves : (position : Position) → Moves (λ bytes entries p q. Ends bytes position p q)
ends_moves Value part whole k old new here kept p q e = ap (λ n. k + n) e
ends_moves Effect part whole k old new here kept p q s = written_goes part whole k p q _ here s

pub nil_moves : (position : Position) → Moves (λ bytes entries p q. NilFor bytes position p q)
nil_moves Value part whole k old new here kept p q s = written_goes part whole k p q _ here s
nil_moves Effect part whole k old new here kept p q e = ap (λ n. k + n) e

pub stands_moves : (i : Instruction) → Moves (λ bytes entries p q. Written bytes p i q)
stands_moves i part whole k old new here kept p q s = written_goes part whole k p q i here s

pub ended : (position : Position) (f : List EntryTree) (c d : List ℕ) → AddsEnd position c d → Emitted (λ bytes entries p q. Ends bytes position p q) [] (popped position) f f c d
ended position f c d a = record { part = a.part; added = []; is_code = a.is; is_frame = sym (append-nil f); firsts = refl; stands = a.stands; short = a.short }

pub nil_ended : (position : Position) (f : List EntryTree) (c d : List ℕ) → AddsNil position c d → Emitted (λ bytes entries p q. NilFor bytes position p q) [] (nil_width position) f f c d
nil_ended position f c d a = record { part = a.part; added = []; is_code = a.is; is_frame = sym (append-nil f); firsts = refl; stands = a.stands; short = a.short }

pub instructed : (i : Instruction) (most : ℕ) (f : List EntryTree) (c d : List ℕ) → Adds i most c d → Emitted (λ bytes entries p q. Written bytes p i q) [] most f f c d
instructed i most f c d a = record { part = a.part; added = []; is_code = a.is; is_frame = sym (append-nil f); firsts = refl; stands = a.stands; short = a.short }

-- room for the second of two parts
pub room_after : (P : Row) (v w : List EntryTree) (m : ℕ) (f g : List EntryTree) (c d : List ℕ) → Emitted P v m f g c d → HasRoom f (v ++ w) → HasRoom g w
room_after P v w m f g c d a r = subst (λ (x : List EntryTree). HasRoom x w) (sym a.is_frame) (room_second f v w a.added r a.firsts)

-- ---- two arms

abbrev pub ChooseRow : Bool → Row → Row → Row → Row
ChooseRow on C A B bytes entries p q = Chooses bytes on (C bytes entries) (A bytes entries) (B bytes entries) p q

pub chosen : (on : Bool) (C A B : Row) (u v w : List EntryTree) (l m n : ℕ) (f g h i : List EntryTree) (old code first second new : List ℕ)
    → Moves C → Moves A → Moves B → Emitted C u l f g old code → Emitted A v m g h [] first → Emitted B w n h i [] second → AddsChoice on first second code new
    → Emitted (ChooseRow on C A B) (u ++ (v ++ w)) (l + 2 + m + 2 + n) f i old new
chosen on C A B u v w l m n f g h i old code first second new c_moves a_moves b_moves c a b k =
    let front = c.part ++ k.unless.part in
    let arm = front ++ k.longer in
    let whole = arm ++ second in
    let front_length = length-append c.part k.unless.part in
    let arm_length = length-append front k.longer in
    let whole_length = length-append arm second in
    let longer_length : length k.longer ≡ length a.part + length k.past.part = ap length (k.past.is ∙ ap (λ x. x ++ k.past.part) a.is_code) ∙ length-append a.part k.past.part in
    let second_length : length second ≡ length b.part = ap length b.is_code in
    let in_longer : Sits k.longer whole (length front) = sits_more k.longer arm second (length front) (sits_last front k.longer) in
    let first_in : Sits a.part k.longer 0 = subst (λ (x : List ℕ). Sits a.part x 0) (sym (k.past.is ∙ ap (λ x. x ++ k.past.part) a.is_code)) (sits_more a.part a.part k.past.part 0 (sits_all a.part)) in
    let past_in : Sits k.past.part k.longer (length a.part) = subst (λ (x : List ℕ). Sits k.past.part x (length a.part)) (sym (k.past.is ∙ ap (λ x. x ++ k.past.part) a.is_code)) (sits_last a.part k.past.part) in
    let second_in : Sits b.part whole (length arm) = subst (λ (x : List ℕ). Sits x whole (length arm)) b.is_code (sits_last arm second) in
    record {
      part = whole;
      added = c.added ++ (a.added ++ b.added);
      is_code = behind_two old arm second (k.mid ++ k.longer) new (behind_two old front k.longer k.mid (k.mid ++ k.longer) (behind_two old c.part k.unless.part code k.mid c.is_code k.unless.is) refl) k.is;
      is_frame = behind_two f c.added (a.added ++ b.added) g i c.is_frame (behind_two g a.added b.added h i a.is_frame b.is_frame);
      firsts = firsts_of_two f g u (v ++ w) c.added (a.added ++ b.added) c.is_frame c.firsts (firsts_of_two g h v w a.added b.added a.is_frame a.firsts b.firsts);
      stands = record {
        test = length c.part;
        first_at = length front;
        over = length front + length a.part;
        second_at = length arm;
        condition = moved C c.part whole 0 g i (a.added ++ b.added) 0 (length c.part) c_moves
            (sits_more c.part arm second 0 (sits_more c.part front k.longer 0 (sits_more c.part c.part k.unless.part 0 (sits_all c.part))))
            (behind_two g a.added b.added h i a.is_frame b.is_frame) refl (omega arith) c.stands;
        unless = record {
          distance = pos (length k.longer);
          stands = stands_moved (jump_unless on (pos (length k.longer))) k.unless.part whole (length c.part) (length c.part) (length front)
              (sits_more k.unless.part arm second (length c.part) (sits_more k.unless.part front k.longer (length c.part) (sits_last c.part k.unless.part)))
              refl front_length k.unless.stands;
          lands = ap pos arm_length ∙ sym (pos-+ℤ-pos (length front) (length k.longer));
        };
        first = moved A a.part whole (length front + 0) h i b.added (length front) (length front + length a.part) a_moves
            (sits_within a.part k.longer whole 0 (length front) first_in in_longer) b.is_frame (omega arith) (omega arith) a.stands;
        past = record {
          distance = pos (length second);
          stands = stands_moved (Jump (pos (length second))) k.past.part whole (length front + length a.part) (length front + length a.part) (length arm)
              (sits_within k.past.part k.longer whole (length a.part) (length front) past_in in_longer) refl (omega (arith, arm_length, longer_length)) k.past.stands;
          lands = ap pos whole_length ∙ sym (pos-+ℤ-pos (length arm) (length second));
        };
        second = moved B b.part whole (length arm) i i [] (length arm) (length whole) b_moves second_in (sym (append-nil i)) refl (omega (arith, whole_length, second_length)) b.stands;
      };
      short = omega (arith, front_length, arm_length, whole_length, longer_length, second_length, c.short, a.short, b.short, k.unless.short, k.past.short);
    }

-- ---- one arm

abbrev pub SkipRow : Bool → Row → Row → Row
SkipRow on C A bytes entries p q = Skips bytes on (C bytes entries) (A bytes entries) p q

pub skipped : (on : Bool) (C A : Row) (u v : List EntryTree) (l m : ℕ) (f g h : List EntryTree) (old code mid arm new : List ℕ)
    → Moves C → Moves A → Emitted C u l f g old code → Emitted A v m g h [] arm → Adds (jump_unless on (pos (length arm))) 2 code mid → new ≡ mid ++ arm
    → Emitted (SkipRow on C A) (u ++ v) (l + 2 + m) f h old new
skipped on C A u v l m f g h old code mid arm new c_moves a_moves c a unless is =
    let front = c.part ++ unless.part in
    let whole = front ++ arm in
    let front_length = length-append c.part unless.part in
    let whole_length = length-append front arm in
    let arm_length : length arm ≡ length a.part = ap length a.is_code in
    record {
      part = whole;
      added = c.added ++ a.added;
      is_code = behind_two old front arm mid new (behind_two old c.part unless.part code mid c.is_code unless.is) is;
      is_frame = behind_two f c.added a.added g h c.is_frame a.is_frame;
      firsts = firsts_of_two f g u v c.added a.added c.is_frame c.firsts a.firsts;
      stands = record {
        test = length c.part;
        arm_at = length front;
        condition = moved C c.part whole 0 g h a.added 0 (length c.part) c_moves (sits_more c.part front arm 0 (sits_more c.part c.part unless.part 0 (sits_all c.part))) a.is_frame refl (omega arith) c.stands;
        unless = record {
          distance = pos (length arm);
          stands = stands_moved (jump_unless on (pos (length arm))) unless.part whole (length c.part) (length c.part) (length front)
              (sits_more unless.part front arm (length c.part) (sits_last c.part unless.part)) refl front_length unless.stands;
          lands = ap pos whole_length ∙ sym (pos-+ℤ-pos (length front) (length arm));
        };
        arm = moved A a.part whole (length front) h h [] (length front) (length whole) a_moves (subst (λ (x : List ℕ). Sits x whole (length front)) a.is_code (sits_last front arm))
            (sym (append-nil h)) refl (omega (arith, whole_length, arm_length)) a.stands;
      };
      short = omega (arith, front_length, whole_length, arm_length, c.short, a.short, unless.short);
    }

-- ---- loops

abbrev pub LoopRow : Bool → Row → Row → Position → Row
LoopRow on C A position bytes entries p q = Loops bytes on (C bytes entries) (A bytes entries) position p q

-- the loop itself, in bytes of its own: the condition, a jump to the end, the body and a jump back
pub looped : (on : Bool) (C A : Row) (position : Position) (u v : List EntryTree) (l m far : ℕ) (f g h : List EntryTree) (turn test body whole back old code new : List ℕ)
    → Moves C → Moves A → Emitted C u l f g [] turn → Emitted A v m g h [] body → far ≡ length body + 2 → Adds (jump_unless on (pos far)) 2 turn test
    → whole ≡ test ++ body → AddsBack (length whole + 1) whole back → code ≡ old ++ back → AddsNil position code new
    → Emitted (LoopRow on C A position) (u ++ v) (l + 2 + m + 2 + nil_width position) f h old new
looped on C A position u v l m far f g h turn test body whole back old code new c_moves a_moves c a far_is unless is jump added nil =
    let front = c.part ++ unless.part in
    let round = front ++ body in
    let closed = round ++ jump.adds.part in
    let all = closed ++ nil.part in
    let front_length = length-append c.part unless.part in
    let round_length = length-append front body in
    let closed_length = length-append round jump.adds.part in
    let all_length = length-append closed nil.part in
    let body_length : length body ≡ length a.part = ap length a.is_code in
    let test_is : test ≡ front = unless.is ∙ ap (λ x. x ++ unless.part) c.is_code in
    let whole_is : whole ≡ round = is ∙ ap (λ x. x ++ body) test_is in
    let back_is : back ≡ closed = jump.adds.is ∙ ap (λ x. x ++ jump.adds.part) whole_is in
    let whole_length : length whole ≡ length round = ap length whole_is in
    record {
      part = all;
      added = c.added ++ a.added;
      is_code = behind_two old closed nil.part code new (added ∙ ap (λ x. old ++ x) back_is) nil.is;
      is_frame = behind_two f c.added a.added g h c.is_frame a.is_frame;
      firsts = firsts_of_two f g u v c.added a.added c.is_frame c.firsts a.firsts;
      stands = record {
        test = length c.part;
        body_at = length front;
        over = length round;
        done = length closed;
        condition = moved C c.part all 0 g h a.added 0 (length c.part) c_moves
            (sits_more c.part closed nil.part 0 (sits_more c.part round jump.adds.part 0 (sits_more c.part front body 0 (sits_more c.part c.part unless.part 0 (sits_all c.part)))))
            a.is_frame refl (omega arith) c.stands;
        unless = record {
          distance = pos far;
          stands = stands_moved (jump_unless on (pos far)) unless.part all (length c.part) (length c.part) (length front)
              (sits_more unless.part closed nil.part (length c.part) (sits_more unless.part round jump.adds.part (length c.part) (sits_more unless.part front body (length c.part) (sits_last c.part unless.part))))
              refl front_length unless.stands;
          lands = (let there : length closed ≡ length front + far = omega (arith, round_length, closed_length, far_is, jump.width) in ap pos there) ∙ sym (pos-+ℤ-pos (length front) far);
        };
        body = moved A a.part all (length front) h h [] (length front) (length round) a_moves
            (sits_more a.part closed nil.part (length front) (sits_more a.part round jump.adds.part (length front) (subst (λ (x : List ℕ). Sits x round (length front)) a.is_code (sits_last front body))))
            (sym (append-nil h)) refl (omega (arith, round_length, body_length)) a.stands;
        back = record {
          distance = negsuc (length whole + 1);
          stands = stands_moved (Jump (negsuc (length whole + 1))) jump.adds.part all (length round) (length round) (length closed)
              (sits_more jump.adds.part closed nil.part (length round) (sits_last round jump.adds.part)) refl closed_length jump.adds.stands;
          lands = goes_back (length closed) (length whole + 1) (omega (arith, closed_length, jump.width, whole_length));
        };
        leaves = moved (λ bytes entries p q. NilFor bytes position p q) nil.part all (length closed) h h [] (length closed) (length all) (nil_moves position)
            (sits_last closed nil.part) (sym (append-nil h)) refl all_length nil.stands;
      };
      short = omega (arith, front_length, round_length, closed_length, all_length, body_length, c.short, a.short, unless.short, jump.adds.short, nil.short);
    }
  where
    goes_back : (a d : ℕ) → a ≡ suc d → pos 0 ≡ pos a +ℤ negsuc d
    goes_back a d e = sym (ap (λ n. pos n +ℤ negsuc d) e ∙ +ℤ_invr (pos (suc d)))

-- ---- real blocks

abbrev pub BlockRow : ℕ → ℕ → Row → Position → Row
BlockRow first n B position bytes entries p q = Makes bytes entries first n (B bytes entries) position p q

abbrev pub CountRow : ℕ → Row
CountRow n = OneRow (λ entries i. Pushes entries (constant (small (pos n))) i)

pub count_moves : (n : ℕ) → Moves (CountRow n)
count_moves n part whole k old new here kept = constant_goes_along part whole k old new here kept (small (pos n))

pub takes_move : (first n : ℕ) → Moves (λ bytes entries p q. Takes bytes first n p q)
takes_move first n part whole k old new here kept = takes_goes part whole k old new here kept n first

pub made : (first n : ℕ) (B : Row) (position : Position) (v w : List EntryTree) (l m : ℕ) (f g h : List EntryTree) (old context counted copied taken body jumped code new : List ℕ)
    → Moves B → Adds PushContext 1 old context → Emitted (CountRow n) v l f g context counted → Adds (SendSpecial block_copy) 1 counted copied
    → AddsTakes first n [] taken → Emitted B w m g h taken body → AddsFar (length body) copied jumped → code ≡ jumped ++ body → AddsEnd position code new
    → Emitted (BlockRow first n B position) (v ++ w) (4 + l + 2 * n + m + popped position) f h old new
made first n B position v w l m f g h old context counted copied taken body jumped code new b_moves push count special takes b over is end =
    let pushed = push.part ++ count.part in
    let copy = pushed ++ special.part in
    let jump = far 164 (length body) in
    let front = copy ++ jump in
    let made = front ++ body in
    let all = made ++ end.part in
    let pushed_length = length-append push.part count.part in
    let copy_length = length-append pushed special.part in
    let front_length = length-append copy jump in
    let made_length = length-append front body in
    let all_length = length-append made end.part in
    let body_is : body ≡ takes.part ++ b.part = b.is_code ∙ ap (λ x. x ++ b.part) takes.is in
    let body_length : length body ≡ length takes.part + length b.part = ap length body_is ∙ length-append takes.part b.part in
    let takes_in : Sits takes.part body 0 = subst (λ (x : List ℕ). Sits takes.part x 0) (sym body_is) (sits_more takes.part takes.part b.part 0 (sits_all takes.part)) in
    let b_in : Sits b.part body (length takes.part) = subst (λ (x : List ℕ). Sits b.part x (length takes.part)) (sym body_is) (sits_last takes.part b.part) in
    let body_in : Sits body all (length front) = sits_more body made end.part (length front) (sits_last front body) in
    let front_in : (part : List ℕ) (k : ℕ) → Sits part front k → Sits part all k = λ part k s. sits_more part made end.part k (sits_more part front body k s) in
    let jump_in : Sits jump all (length copy) = front_in jump (length copy) (sits_last copy jump) in
    record {
      part = all;
      added = count.added ++ b.added;
      is_code = behind_two old made end.part code new
          (behind_two old front body jumped code (behind_two old copy jump copied jumped (behind_two old pushed special.part counted copied (behind_two old push.part count.part context counted push.is count.is_code) special.is) over.is) is) end.is;
      is_frame = behind_two f count.added b.added g h count.is_frame b.is_frame;
      firsts = firsts_of_two f g v w count.added b.added count.is_frame count.firsts b.firsts;
      stands = record {
        push = length push.part;
        copy = length pushed;
        jump = length copy;
        start = length front;
        body_at = length front + length takes.part;
        after = length made;
        context = stands_moved PushContext push.part all 0 0 (length push.part)
            (front_in push.part 0 (sits_more push.part copy jump 0 (sits_more push.part pushed special.part 0 (sits_more push.part push.part count.part 0 (sits_all push.part))))) refl (omega arith) push.stands;
        parameters = moved (CountRow n) count.part all (length push.part) g h b.added (length push.part) (length pushed) (count_moves n)
            (front_in count.part (length push.part) (sits_more count.part copy jump (length push.part) (sits_more count.part pushed special.part (length push.part) (sits_last push.part count.part))))
            b.is_frame refl pushed_length count.stands;
        copies = stands_moved (SendSpecial block_copy) special.part all (length pushed) (length pushed) (length copy)
            (front_in special.part (length pushed) (sits_more special.part copy jump (length pushed) (sits_last pushed special.part))) refl copy_length special.stands;
        over = over_moved (length body) all (length copy) (length made) (length copy) (length front) jump_in over.reach refl front_length made_length;
        takes = moved (λ bytes entries p q. Takes bytes first n p q) takes.part all (length front + 0) h h [] (length front) (length front + length takes.part) (takes_move first n)
            (sits_within takes.part body all 0 (length front) takes_in body_in) (sym (append-nil h)) (omega arith) (omega arith) takes.stands;
        body = moved B b.part all (length front + length takes.part) h h [] (length front + length takes.part) (length made) b_moves
            (sits_within b.part body all (length takes.part) (length front) b_in body_in) (sym (append-nil h)) refl (omega (arith, made_length, body_length)) b.stands;
        ending = moved (λ bytes entries p q. Ends bytes position p q) end.part all (length made) h h [] (length made) (length all) (ends_moves position)
            (sits_last made end.part) (sym (append-nil h)) refl all_length end.stands;
      };
      short = omega (arith, pushed_length, copy_length, front_length, made_length, all_length, body_length, push.short, count.short, special.short, takes.short, b.short, end.short);
    }
