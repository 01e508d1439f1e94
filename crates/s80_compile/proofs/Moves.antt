-- Code goes on standing where it is put behind other code, and where the frame gets further entries.
use Rattle.std.proofs.Common.{◌≡◌, ℕ, zero, suc, ◌+◌, ◌-◌, ◌<◌, ◌≤◌, ℤ, pos, ◌+ℤ◌, List, ◌++◌, Bool, length, take, drop, slice_get, slice_range, Option, Some, None, sym, ap, ap₂, subst, ◌∙◌, arith, append_assoc, length-append, take-append-drop, length-drop}
use Rattle.std.proofs.lemmas.Option.{slice_get_within, get_or_from_slice_get, slice_get-get_or}
use Rattle.std.proofs.lemmas.List.{get_or_append_left, get_or-append-add, drop-append-le, take-append-le}
use Rattle.std.proofs.Math.Seq.{drop-append-add}
use Rattle.std.proofs.Math.IntN.{+ℤ_assoc, pos-+ℤ-pos}
use Rattle.s80_base.specs.Literal.{LiteralTree, small}
use Rattle.s80_code.specs.Entries.{EntryTree}
use Rattle.s80_code.specs.declared.instruction.Instruction.{Instruction}
use Rattle.s80_code.specs.declared.instruction.Instruction.TheVariants.{Jump}
use Rattle.s80_code.specs.Table.{Stands, decoded}
use Rattle.s80_code.specs.Spelling.{Written}
use Rattle.s80_code.proofs.lemmas.TableLemmas.{decodes, place_law}
use Rattle.s80_scope.specs.declared.fit.position.Position.{Position}
use Rattle.s80_scope.specs.declared.fit.position.Position.TheVariants.{Value, Effect}
use Rattle.s80_core.specs.Core.{VariableTree, temporary, instance, class_variable, outer, LeafTree, variable, constant, receiver, context, CoreTree, CoreTrees, SendTrees, leaf, assign, value, send, cascade, real_block, two_arms, one_arm, shortcut, repeat, nothing, before, answer, answer_fixed, leave, no_cores, cores, no_sends, sends, count}
use Rattle.s80_core.specs.Measures.{fixed_number, sent_number}
use Rattle.s80_compile.specs.Rows.{Part, Holds, PushesConstant, Pushes, Stores, SendsBy, SendsTo, One, Both, Ends, NilFor, JumpsTo, JumpsOver, Chooses, Skips, Loops, Takes, Makes, At, AllAt, SendsAt}

-- what is read at a place, with more behind
pub get_more : {X : Type 0} (xs ys : List X) (n : ℕ) (x : X) → slice_get xs n ≡ Some x → slice_get (xs ++ ys) n ≡ Some x
get_more xs ys n x e =
    let within = slice_get_within xs n x e in
    slice_get-get_or (xs ++ ys) n x (omega (arith, within, length-append xs ys))
    ∙ ap Some (get_or_append_left xs ys x n within ∙ get_or_from_slice_get xs n x x e)

-- and with more before
pub get_behind : {X : Type 0} (xs ys : List X) (n : ℕ) (x : X) → slice_get ys n ≡ Some x → slice_get (xs ++ ys) (length xs + n) ≡ Some x
get_behind xs ys n x e =
    let within = slice_get_within ys n x e in
    slice_get-get_or (xs ++ ys) (length xs + n) x (omega (arith, within, length-append xs ys))
    ∙ ap Some (get_or-append-add xs ys n x ∙ get_or_from_slice_get ys n x x e)

pub stands_more : (bytes more : List ℕ) (p q : ℕ) (i : Instruction) → Stands bytes p i q → Stands (bytes ++ more) p i q
stands_more bytes more p q i s =
    let within = place_law bytes p q i s in
    let d = decodes (drop p bytes) (i, s.width) s.is_decoded in
    record {
      width = s.width;
      is_decoded =
          ap decoded
          (drop-append-le p bytes more (omega (arith, within.0, within.1))
          ∙ ap (λ b. b ++ more) (sym (take-append-drop s.width (drop p bytes)))
          ∙ append_assoc (take s.width (drop p bytes)) (drop s.width (drop p bytes)) more)
          ∙ d.same (drop s.width (drop p bytes) ++ more);
      behind = s.behind;
    }

pub stands_behind : (front bytes : List ℕ) (p q : ℕ) (i : Instruction) → Stands bytes p i q → Stands (front ++ bytes) (length front + p) i (length front + q)
stands_behind front bytes p q i s =
    record {
      width = s.width;
      is_decoded = ap decoded (drop-append-add front bytes p) ∙ s.is_decoded;
      behind = omega (arith, s.behind);
    }

-- the bytes between two places, with more behind and with more before
range_more : (bytes more : List ℕ) (p q : ℕ) → p < q → q ≤ length bytes → slice_range (bytes ++ more) p q ≡ slice_range bytes p q
range_more bytes more p q some within =
    ap (take (q - p)) (drop-append-le p bytes more (omega (arith, some, within)))
    ∙ take-append-le (q - p) (drop p bytes) more (omega (arith, some, within, length-drop p bytes))

range_behind : (front bytes : List ℕ) (p q : ℕ) → slice_range (front ++ bytes) (length front + p) (length front + q) ≡ slice_range bytes p q
range_behind front bytes p q =
    let same : (length front + q) - (length front + p) ≡ q - p = omega arith in
    ap (take ((length front + q) - (length front + p))) (drop-append-add front bytes p) ∙ ap (λ n. take n (drop p bytes)) same

-- all that stands in one stands in the other, so much further on, by the same bytes
pub record Sits (part whole : List ℕ) (k : ℕ) : Type 0 where
  pub stands : (p q : ℕ) (i : Instruction) → Stands part p i q → Stands whole (k + p) i (k + q)
  pub range : (p q : ℕ) (i : Instruction) → Stands part p i q → slice_range whole (k + p) (k + q) ≡ slice_range part p q

pub sits_all : (part : List ℕ) → Sits part part 0
sits_all part =
    record {
      stands = λ p q i s. subst (λ (n : ℕ). Stands part n i (0 + q)) (sym (none_before p)) (subst (λ (n : ℕ). Stands part p i n) (sym (none_before q)) s);
      range = λ p q i s. ap₂ (slice_range part) (none_before p) (none_before q);
    }
  where
    none_before : (n : ℕ) → 0 + n ≡ n
    none_before n = omega arith

pub sits_more : (part whole more : List ℕ) (k : ℕ) → Sits part whole k → Sits part (whole ++ more) k
sits_more part whole more k s =
    record {
      stands = λ p q i h. stands_more whole more (k + p) (k + q) i (s.stands p q i h);
      range = λ p q i h. let within = place_law whole (k + p) (k + q) i (s.stands p q i h) in range_more whole more (k + p) (k + q) within.0 within.1 ∙ s.range p q i h;
    }

pub sits_last : (front part : List ℕ) → Sits part (front ++ part) (length front)
sits_last front part = record { stands = λ p q i s. stands_behind front part p q i s; range = λ p q i s. range_behind front part p q }

pub sits_within : (part mid whole : List ℕ) (j k : ℕ) → Sits part mid j → Sits mid whole k → Sits part whole (k + j)
sits_within part mid whole j k s t =
    record {
      stands = λ p q i h. subst (λ (n : ℕ). Stands whole n i ((k + j) + q)) (sym (regroup p)) (subst (λ (n : ℕ). Stands whole (k + (j + p)) i n) (sym (regroup q)) (t.stands (j + p) (j + q) i (s.stands p q i h)));
      range = λ p q i h. ap₂ (slice_range whole) (regroup p) (regroup q) ∙ t.range (j + p) (j + q) i (s.stands p q i h) ∙ s.range p q i h;
    }
  where
    regroup : (n : ℕ) → (k + j) + n ≡ k + (j + n)
    regroup n = omega arith

pub written_goes : (part whole : List ℕ) (k p q : ℕ) (i : Instruction) → Sits part whole k → Written part p i q → Written whole (k + p) i (k + q)
written_goes part whole k p q i here w = record { stands = here.stands p q i w.stands; here = here.range p q i w.stands ∙ w.here }

pub over_goes : (part whole : List ℕ) (k to p q : ℕ) → Sits part whole k → JumpsOver part to p q → JumpsOver whole (k + to) (k + p) (k + q)
over_goes part whole k to p q here j =
    record {
      distance = j.distance;
      reach = j.reach;
      stands = here.stands p q (Jump (pos j.distance)) j.stands;
      here = here.range p q (Jump (pos j.distance)) j.stands ∙ j.here;
      lands = omega (arith, j.lands);
    }

module _ (part whole : List ℕ) (k : ℕ) (old new : List EntryTree) (here : Sits part whole k) (kept : (n : ℕ) (x : EntryTree) → slice_get old n ≡ Some x → slice_get new n ≡ Some x) where
  -- a part that moves along
  abbrev Goes : Part → Part → Type 0
  Goes P Q = (p q : ℕ) → P p q → Q (k + p) (k + q)

  same_goes : (p q : ℕ) → p ≡ q → k + p ≡ k + q
  same_goes p q e = ap (λ n. k + n) e

  holds_goes : (v : VariableTree) (s : _) → Holds old v s → Holds new v s
  holds_goes (temporary number) s h = h
  holds_goes (instance place) s h = h
  holds_goes (class_variable owner word) s h = (h.0, h.1, kept h.0 _ h.2)
  holds_goes (outer word) s h = (h.0, h.1, kept h.0 _ h.2)

  constant_goes : (v : LiteralTree) (number : Option ℕ) (i : Instruction) → PushesConstant old v number i → PushesConstant new v number i
  constant_goes v (Some number) i h = h
  constant_goes v None i h = (h.0, h.1, kept h.0 _ h.2)

  leaf_goes : (l : LeafTree) (i : Instruction) → Pushes old l i → Pushes new l i
  leaf_goes (variable v) i h = (h.0, h.1, holds_goes v h.0 h.2)
  leaf_goes (constant v) i h = constant_goes v (fixed_number v) i h
  leaf_goes receiver i h = h
  leaf_goes context i h = h

  stores_goes : (v : VariableTree) (position : Position) (i : Instruction) → Stores old v position i → Stores new v position i
  stores_goes v position i h = (h.0, h.1, holds_goes v h.0 h.2)

  by_goes : (to_super : Bool) (s : List ℕ) (n : ℕ) (number : Option ℕ) (i : Instruction) → SendsBy old to_super s n number i → SendsBy new to_super s n number i
  by_goes to_super s n (Some number) i h = h
  by_goes to_super s n None i h = (h.0, h.1, kept h.0 _ h.2)

  sends_goes : (to_super : Bool) (s : List ℕ) (n : ℕ) (i : Instruction) → SendsTo old to_super s n i → SendsTo new to_super s n i
  sends_goes to_super s n i h = by_goes to_super s n (sent_number to_super s) i h

  one_goes : (P Q : Instruction → Type 0) → ((i : Instruction) → P i → Q i) → Goes (One part P) (One whole Q)
  one_goes P Q f p q o = record { instruction = o.instruction; is = f o.instruction o.is; stands = written_goes part whole k p q o.instruction here o.stands }

  both_go : (P Q R S : Part) → Goes P R → Goes Q S → Goes (Both P Q) (Both R S)
  both_go P Q R S f g p q b = record { mid = k + b.mid; first = f p b.mid b.first; second = g b.mid q b.second }

  ends_go : (position : Position) → Goes (Ends part position) (Ends whole position)
  ends_go Value p q e = same_goes p q e
  ends_go Effect p q s = written_goes part whole k p q _ here s

  nil_goes : (position : Position) → Goes (NilFor part position) (NilFor whole position)
  nil_goes Value p q s = written_goes part whole k p q _ here s
  nil_goes Effect p q e = same_goes p q e

  lands_goes : (to q : ℕ) (d : ℤ) → pos to ≡ pos q +ℤ d → pos (k + to) ≡ pos (k + q) +ℤ d
  lands_goes to q d e =
      sym (pos-+ℤ-pos k to) ∙ ap (λ z. pos k +ℤ z) e ∙ sym (+ℤ_assoc (pos k) (pos q) d) ∙ ap (λ z. z +ℤ d) (pos-+ℤ-pos k q)

  jump_goes : (jump : ℤ → Instruction) (to p q : ℕ) → JumpsTo part jump to p q → JumpsTo whole jump (k + to) (k + p) (k + q)
  jump_goes jump to p q j = record { distance = j.distance; stands = written_goes part whole k p q _ here j.stands; lands = lands_goes to q j.distance j.lands }

  choice_goes : (on : Bool) (C A B D E F : Part) → Goes C D → Goes A E → Goes B F → Goes (Chooses part on C A B) (Chooses whole on D E F)
  choice_goes on C A B D E F c a b p q h =
      record {
        test = k + h.test;
        first_at = k + h.first_at;
        over = k + h.over;
        second_at = k + h.second_at;
        condition = c p h.test h.condition;
        unless = jump_goes _ h.second_at h.test h.first_at h.unless;
        first = a h.first_at h.over h.first;
        past = jump_goes _ q h.over h.second_at h.past;
        second = b h.second_at q h.second;
      }

  skip_goes : (on : Bool) (C A D E : Part) → Goes C D → Goes A E → Goes (Skips part on C A) (Skips whole on D E)
  skip_goes on C A D E c a p q h =
      record {
        test = k + h.test;
        arm_at = k + h.arm_at;
        condition = c p h.test h.condition;
        unless = jump_goes _ q h.test h.arm_at h.unless;
        arm = a h.arm_at q h.arm;
      }

  loop_goes : (on : Bool) (C A D E : Part) (position : Position) → Goes C D → Goes A E → Goes (Loops part on C A position) (Loops whole on D E position)
  loop_goes on C A D E position c a p q h =
      record {
        test = k + h.test;
        body_at = k + h.body_at;
        over = k + h.over;
        done = k + h.done;
        condition = c p h.test h.condition;
        unless = jump_goes _ h.done h.test h.body_at h.unless;
        body = a h.body_at h.over h.body;
        back = jump_goes _ p h.over h.done h.back;
        leaves = nil_goes position h.done q h.leaves;
      }

  takes_go : (n first : ℕ) → Goes (Takes part first n) (Takes whole first n)
  takes_go zero first p q e = same_goes p q e
  takes_go (suc n) first p q b = record { mid = k + b.mid; first = takes_go n (suc first) p b.mid b.first; second = written_goes part whole k b.mid q _ here b.second }

  block_goes : (first n : ℕ) (B D : Part) (position : Position) → Goes B D → Goes (Makes part old first n B position) (Makes whole new first n D position)
  block_goes first n B D position body p q h =
      record {
        push = k + h.push;
        copy = k + h.copy;
        jump = k + h.jump;
        start = k + h.start;
        body_at = k + h.body_at;
        after = k + h.after;
        context = written_goes part whole k p h.push _ here h.context;
        parameters = one_goes (Pushes old (constant (small (pos n)))) (Pushes new (constant (small (pos n)))) (leaf_goes (constant (small (pos n)))) h.push h.copy h.parameters;
        copies = written_goes part whole k h.copy h.jump _ here h.copies;
        over = over_goes part whole k h.after h.jump h.start here h.over;
        takes = takes_go n first h.start h.body_at h.takes;
        body = body h.body_at h.after h.body;
        ending = ends_go position h.after q h.ending;
      }

  mutual
    pub core_goes : (c : CoreTree) (position : Position) → Goes (At part old c position) (At whole new c position)
    core_goes (leaf l) position = both_go _ _ _ _ (one_goes _ _ (leaf_goes l)) (ends_go position)
    core_goes (assign v e) position = both_go _ _ _ _ (core_goes e Value) (one_goes _ _ (stores_goes v position))
    core_goes (value e) position = both_go _ _ _ _ (core_goes e Value) (ends_go position)
    core_goes (send r to_super s es) position =
        both_go _ _ _ _ (core_goes r Value) (both_go _ _ _ _ (cores_go es) (both_go _ _ _ _ (one_goes _ _ (sends_goes to_super s (count es))) (ends_go position)))
    core_goes (cascade r to_super ms) position = both_go _ _ _ _ (core_goes r Value) (both_go _ _ _ _ (sends_go to_super ms) (ends_go position))
    core_goes (real_block first n e) position = block_goes first n _ _ position (core_goes e Effect)
    core_goes (two_arms on c a b) position = choice_goes on _ _ _ _ _ _ (core_goes c Value) (core_goes a position) (core_goes b position)
    core_goes (one_arm on c a) Value = choice_goes on _ _ _ _ _ _ (core_goes c Value) (core_goes a Value) (nil_goes Value)
    core_goes (one_arm on c a) Effect = skip_goes on _ _ _ _ (core_goes c Value) (core_goes a Effect)
    core_goes (shortcut on c a) position =
        both_go _ _ _ _ (choice_goes on _ _ _ _ _ _ (core_goes c Value) (core_goes a Value) (λ p q s. written_goes part whole k p q _ here s)) (ends_go position)
    core_goes (repeat on c e) position = loop_goes on _ _ _ _ position (core_goes c Value) (core_goes e Effect)
    core_goes nothing position = nil_goes position
    core_goes (before a b) position = both_go _ _ _ _ (core_goes a Effect) (core_goes b position)
    core_goes (answer e) position = both_go _ _ _ _ (core_goes e Value) (λ p q s. written_goes part whole k p q _ here s)
    core_goes (answer_fixed n) position = λ p q s. written_goes part whole k p q _ here s
    core_goes (leave e) position = both_go _ _ _ _ (core_goes e Value) (λ p q s. written_goes part whole k p q _ here s)

    pub cores_go : (cs : CoreTrees) → Goes (AllAt part old cs) (AllAt whole new cs)
    cores_go no_cores = same_goes
    cores_go (cores c cs) = both_go _ _ _ _ (core_goes c Value) (cores_go cs)

    pub sends_go : (to_super : Bool) (ms : SendTrees) → Goes (SendsAt part old to_super ms) (SendsAt whole new to_super ms)
    sends_go to_super no_sends = same_goes
    sends_go to_super (sends s es no_sends) = both_go _ _ _ _ (cores_go es) (one_goes _ _ (sends_goes to_super s (count es)))
    sends_go to_super (sends s es (sends t fs ms)) =
        both_go _ _ _ _ (λ p q s. written_goes part whole k p q _ here s)
        (both_go _ _ _ _ (cores_go es) (both_go _ _ _ _ (one_goes _ _ (sends_goes to_super s (count es))) (both_go _ _ _ _ (λ p q s. written_goes part whole k p q _ here s) (sends_go to_super (sends t fs ms)))))

  pub takes_goes : (n first : ℕ) → Goes (Takes part first n) (Takes whole first n)
  takes_goes = takes_go

  pub constant_goes_along : (v : LiteralTree) → Goes (One part (Pushes old (constant v))) (One whole (Pushes new (constant v)))
  constant_goes_along v = one_goes _ _ (leaf_goes (constant v))

  pub leaf_goes_along : (l : LeafTree) → Goes (One part (Pushes old l)) (One whole (Pushes new l))
  leaf_goes_along l = one_goes _ _ (leaf_goes l)

  pub stores_go_along : (v : VariableTree) (position : Position) → Goes (One part (Stores old v position)) (One whole (Stores new v position))
  stores_go_along v position = one_goes _ _ (stores_goes v position)

  pub sends_go_along : (to_super : Bool) (s : List ℕ) (n : ℕ) → Goes (One part (SendsTo old to_super s n)) (One whole (SendsTo new to_super s n))
  sends_go_along to_super s n = one_goes _ _ (sends_goes to_super s n)
