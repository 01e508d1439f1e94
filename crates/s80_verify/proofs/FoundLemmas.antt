-- The search: what a new point changes, and what it comes to.
use Rattle.std.proofs.Common.{◌≡◌, ◌≢◌, ◌∙◌, ap, sym, subst, refl, ℕ, zero, suc, ◌+◌, ◌<◌, ◌≤◌, ◌⊎◌, inl, inr, List, [], ◌∷◌, ◌++◌, Option, Some, None, Bool, true, false, length, slice_get, set, replicate, arith, length-append}
use Rattle.std.specs.Prelude.{is_some, not, IfSome}
use Rattle.s80_code.specs.declared.code.Code.{Code}
use Rattle.s80_code.specs.declared.instruction.Instruction.{Instruction}
use Rattle.s80_code.specs.Table.{Stands}
use Rattle.s80_code.proofs.lemmas.TableLemmas.{value}
use Rattle.s80_verify.specs.declared.stack.Stack.{Stack}
use Rattle.s80_verify.specs.declared.stack.Stack.TheVariants.{OfHome, OfBlock}
use Rattle.s80_verify.specs.declared.point.Point.{Point}
use Rattle.s80_verify.specs.declared.point.Marks.{Marks}
use Rattle.s80_verify.specs.declared.search.Found.{Found}
use Rattle.s80_verify.specs.declared.search.Steps.{Steps}
use Rattle.s80_verify.specs.Reach.{Reached, Leads}
use Rattle.s80_verify.specs.Fault.{room_of, taken}
use Rattle.s80_verify.specs.Record.{Depths, Fits}
use Rattle.s80_verify.specs.Found.{held, depth_in, depths_of, free, Sets, Clashes, IsKnown, point_at, IsSound, Grows, IsDone, AreDone, depths_in, IsStep, AreSteps}
use Rattle.s80_verify.proofs.lemmas.ListLemmas.{same_or_not, get_front, get_last, get_either, get_below, get_past, set_here, set_there, fewer_blanks, nothing_held}

pub stacks : (s t : Stack) → (s ≡ t) ⊎ (s ≢ t)
stacks OfHome OfHome = inl refl
stacks OfHome OfBlock = inr (λ e. cc)
stacks OfBlock OfHome = inr (λ e. cc)
stacks OfBlock OfBlock = inl refl

abbrev pub with_home : Marks → ℕ → ℕ → Marks
with_home marks at depth = record marks { home = set marks.home at (Some depth) }

abbrev pub with_block : Marks → ℕ → ℕ → Marks
with_block marks at depth = record marks { block = set marks.block at (Some depth) }

pub home_there : (marks : Marks) (at depth : ℕ) (stack : Stack) (other : ℕ) → (stack ≢ OfHome) ⊎ (other ≢ at) → depth_in (with_home marks at depth) stack other ≡ depth_in marks stack other
home_there marks at depth OfHome other (inl d) = absurd (d refl)
home_there marks at depth OfHome other (inr d) = ap held (set_there marks.home at other (Some depth) d)
home_there marks at depth OfBlock other d = refl

pub block_there : (marks : Marks) (at depth : ℕ) (stack : Stack) (other : ℕ) → (stack ≢ OfBlock) ⊎ (other ≢ at) → depth_in (with_block marks at depth) stack other ≡ depth_in marks stack other
block_there marks at depth OfBlock other (inl d) = absurd (d refl)
block_there marks at depth OfBlock other (inr d) = ap held (set_there marks.block at other (Some depth) d)
block_there marks at depth OfHome other d = refl

pub sets_home : (marks : Marks) (at depth : ℕ) → at < length marks.home → depth_in marks OfHome at ≡ None → Sets marks (with_home marks at depth) (point_at at OfHome depth)
sets_home marks at depth within none =
    record {
      here = ap held (set_here marks.home at (Some depth) within);
      there = home_there marks at depth;
      fewer = omega (arith, fewer_blanks marks.home at depth within none);
    }

pub sets_block : (marks : Marks) (at depth : ℕ) → at < length marks.block → depth_in marks OfBlock at ≡ None → Sets marks (with_block marks at depth) (point_at at OfBlock depth)
sets_block marks at depth within none =
    record {
      here = ap held (set_here marks.block at (Some depth) within);
      there = block_there marks at depth;
      fewer = omega (arith, fewer_blanks marks.block at depth within none);
    }

-- a depth that is marked now was set, or was marked before
pub record IsNew (point : Point) (stack : Stack) (at depth : ℕ) : Type 0 where
  pub stack_is : stack ≡ point.stack
  pub at_is : at ≡ point.at
  pub depth_is : depth ≡ point.depth

pub new_or_old : (old new : Marks) (point : Point) → Sets old new point → (stack : Stack) (at depth : ℕ) → depth_in new stack at ≡ Some depth → IsNew point stack at depth ⊎ (depth_in old stack at ≡ Some depth)
new_or_old old new point s stack at depth e =
    elim (stacks stack point.stack) [
      | inr differs ↦ inr (sym (s.there stack at (inl differs)) ∙ e)
      | inl same ↦ elim (same_or_not at point.at) [
        | inr differs ↦ inr (sym (s.there stack at (inr differs)) ∙ e)
        | inl place ↦
            let here : depth_in new point.stack point.at ≡ Some depth = ap (λ t. depth_in new t point.at) (sym same) ∙ ap (λ q. depth_in new stack q) (sym place) ∙ e in
            inl (record { stack_is = same; at_is = place; depth_is = sym (value (sym s.here ∙ here)) })
      ]
    ]

pub stays : (old new : Marks) (point : Point) → Sets old new point → depth_in old point.stack point.at ≡ None → (stack : Stack) (at depth : ℕ) → depth_in old stack at ≡ Some depth → depth_in new stack at ≡ Some depth
stays old new point s unset stack at depth e =
    elim (stacks stack point.stack) [
      | inr differs ↦ s.there stack at (inl differs) ∙ e
      | inl same ↦ elim (same_or_not at point.at) [
        | inr differs ↦ s.there stack at (inr differs) ∙ e
        | inl place ↦
            let both : None ≡ Some depth = sym unset ∙ ap (λ t. depth_in old t point.at) (sym same) ∙ ap (λ q. depth_in old stack q) (sym place) ∙ e in
            absurd (let differs = both in cc)
      ]
    ]

-- a new point in the list and the marks
pub record Adds (old new : Found) (point : Point) : Type 0 where
  pub sets : Sets old.marks new.marks point
  pub unset : depth_in old.marks point.stack point.at ≡ None
  pub pushed : new.points ≡ old.points ++ point ∷ []
  pub agrees : Clashes old.marks point → ⊥

pub agrees_at : (marks : Marks) (point : Point) → (Clashes marks point → ⊥) → (stack : Stack) (at depth : ℕ) → at ≡ point.at → depth_in marks stack at ≡ Some depth → point.depth ≡ depth
agrees_at marks point h stack at depth place e =
    elim (same_or_not point.depth depth) [
      | inl same ↦ same
      | inr differs ↦ absurd (h (stack, depth, ap (λ q. depth_in marks stack q) (sym place) ∙ e, differs))
    ]

pub adds_one : (old new : Found) (point : Point) (code : Code) → IsSound code old → Adds old new point → (stack other : Stack) (at depth another : ℕ) → depth_in new.marks stack at ≡ Some depth → depth_in new.marks other at ≡ Some another → depth ≡ another
adds_one old new point code h a stack other at depth another e f =
    elim (new_or_old old.marks new.marks point a.sets stack at depth e) [
      | inl new_one ↦ elim (new_or_old old.marks new.marks point a.sets other at another f) [
        | inl again ↦ new_one.depth_is ∙ sym again.depth_is
        | inr before ↦ new_one.depth_is ∙ agrees_at old.marks point a.agrees other at another new_one.at_is before
      ]
      | inr before ↦ elim (new_or_old old.marks new.marks point a.sets other at another f) [
        | inl again ↦ sym (again.depth_is ∙ agrees_at old.marks point a.agrees stack at depth again.at_is before)
        | inr too ↦ h.one stack other at depth another before too
      ]
    ]

pub known_still : (code : Code) (old new : Marks) (point : Point) → ((stack : Stack) (at depth : ℕ) → depth_in old stack at ≡ Some depth → depth_in new stack at ≡ Some depth) → IsKnown code old point → IsKnown code new point
known_still code old new point keeps k = record { reached = k.reached; marked = keeps point.stack point.at point.depth k.marked; within = k.within; room = k.room }

pub adds_known : (code : Code) (old new : Found) (point : Point) → IsSound code old → Adds old new point → IsKnown code new.marks point → (k : ℕ) (p : Point) → slice_get new.points k ≡ Some p → IsKnown code new.marks p
adds_known code old new point h a known k p e =
    elim (get_either old.points point k p (ap (λ l. slice_get l k) (sym a.pushed) ∙ e)) [
      | inl before ↦ known_still code old.marks new.marks p (stays old.marks new.marks point a.sets a.unset) (h.known k p before)
      | inr same ↦ subst (λ (q : Point). IsKnown code new.marks q) same known
    ]

pub point_is : (point : Point) (stack : Stack) (at depth : ℕ) → IsNew point stack at depth → point ≡ point_at at stack depth
point_is point stack at depth n =
    ap (λ d. record { at = point.at; stack = point.stack; depth = d }) (sym n.depth_is)
    ∙ ap (λ s. record { at = point.at; stack = s; depth = depth }) (sym n.stack_is)
    ∙ ap (λ q. record { at = q; stack = stack; depth = depth }) (sym n.at_is)

pub adds_listed : (code : Code) (old new : Found) (point : Point) → IsSound code old → Adds old new point → (stack : Stack) (at depth : ℕ) → depth_in new.marks stack at ≡ Some depth → (k : ℕ) × (slice_get new.points k ≡ Some (point_at at stack depth))
adds_listed code old new point h a stack at depth e =
    elim (new_or_old old.marks new.marks point a.sets stack at depth e) [
      | inl n ↦ (length old.points, ap (λ l. slice_get l (length old.points)) a.pushed ∙ get_last old.points point ∙ ap (λ p. Some p) (point_is point stack at depth n))
      | inr before ↦
          let (k, got) = h.listed stack at depth before in
          (k, ap (λ l. slice_get l k) a.pushed ∙ get_front old.points (point ∷ []) k (point_at at stack depth) got)
    ]

pub adds_sound : (code : Code) (old new : Found) (point : Point) → IsSound code old → Adds old new point → Reached code point.at point.stack point.depth → point.at ≤ length code.bytes → taken code point.stack point.depth ≤ room_of code → IsSound code new
adds_sound code old new point h a reached within room =
    record {
      known = adds_known code old new point h a (record { reached = reached; marked = a.sets.here; within = within; room = room });
      listed = adds_listed code old new point h a;
      one = adds_one old new point code h a;
      count = omega (arith, h.count, a.sets.fewer, ap (λ l. length l) a.pushed ∙ length-append old.points (point ∷ []));
    }

pub adds_grows : (old new : Found) (point : Point) → Adds old new point → Grows old new
adds_grows old new point a =
    record {
      marks = stays old.marks new.marks point a.sets a.unset;
      points = λ k p e. ap (λ l. slice_get l k) a.pushed ∙ get_front old.points (point ∷ []) k p e;
    }

pub grows_twice : (a b c : Found) → Grows a b → Grows b c → Grows a c
grows_twice a b c g h =
    record { marks = λ s q d e. h.marks s q d (g.marks s q d e); points = λ k p e. h.points k p (g.points k p e) }

pub marked_reached : (code : Code) (found : Found) → IsSound code found → (stack : Stack) (at depth : ℕ) → depth_in found.marks stack at ≡ Some depth → Reached code at stack depth
marked_reached code found h stack at depth e =
    let (k, got) = h.listed stack at depth e in (h.known k (point_at at stack depth) got).reached

-- the points that are done stay so
pub done_still : (code : Code) (old new : Found) (point : Point) → Grows old new → IsDone code old.marks point → IsDone code new.marks point
done_still code old new point g d =
    record { fits = d.fits; closed = λ other to after leads. g.marks other to after (d.closed other to after leads) }

pub one_more_done : (code : Code) (old new : Found) (n : ℕ) (point : Point) → Grows old new → AreDone code old n → slice_get old.points n ≡ Some point → IsDone code new.marks point → AreDone code new (n + 1)
one_more_done code old new n point g done got here k p upto e =
    elim (same_or_not k n) [
      | inl same ↦
          let is : Some point ≡ Some p = sym (g.points n point got) ∙ ap (λ j. slice_get new.points j) (sym same) ∙ e in
          subst (λ (q : Point). IsDone code new.marks q) (value is) here
      | inr differs ↦
          let (q, before) = get_below old.points k n point got (omega arith) in
          let is : Some q ≡ Some p = sym (g.points k q before) ∙ e in
          done_still code old new p g (done k p (omega arith) (before ∙ is))
    ]

-- where all points are done, the depths are those of the code
pub all_done : (code : Code) (found : Found) (n : ℕ) → IsSound code found → AreDone code found n → slice_get found.points n ≡ None → depth_in found.marks OfHome 0 ≡ Some 0 → Depths code (depths_in found)
all_done code found n h done last start =
    record {
      start = start;
      one = h.one;
      fits = λ stack at depth e. let (k, got) = h.listed stack at depth e in (done k (point_at at stack depth) (get_past found.points k n (point_at at stack depth) last got) got).fits;
      closed = λ stack other at depth to after e leads.
          let (k, got) = h.listed stack at depth e in
          (done k (point_at at stack depth) (get_past found.points k n (point_at at stack depth) last got) got).closed other to after leads;
    }

-- no depth is set at the beginning
pub no_marks : (stack : Stack) (at : ℕ) → depth_in (record { home = replicate 1024 None; block = replicate 1024 None }) stack at ≡ None
no_marks OfHome at = nothing_held 1024 at
no_marks OfBlock at = nothing_held 1024 at

pub set_home_at : (marks : Marks) (point : Point) → point.stack ≡ OfHome → point.at < length marks.home → depth_in marks point.stack point.at ≡ None → Sets marks (with_home marks point.at point.depth) point
set_home_at marks point is within none =
    subst (λ (s : Stack). Sets marks (with_home marks point.at point.depth) (point_at point.at s point.depth)) (sym is)
    (sets_home marks point.at point.depth within (ap (λ s. depth_in marks s point.at) (sym is) ∙ none))

pub set_block_at : (marks : Marks) (point : Point) → point.stack ≡ OfBlock → point.at < length marks.block → depth_in marks point.stack point.at ≡ None → Sets marks (with_block marks point.at point.depth) point
set_block_at marks point is within none =
    subst (λ (s : Stack). Sets marks (with_block marks point.at point.depth) (point_at point.at s point.depth)) (sym is)
    (sets_block marks point.at point.depth within (ap (λ s. depth_in marks s point.at) (sym is) ∙ none))

pub none_from : (o : Option ℕ) (none : Bool) → is_some o ≡ not none → none ≡ true → o ≡ None
none_from None none e f = refl
none_from (Some x) none e f = let both = e ∙ ap not f in cc

pub adding : (old : Found) (marks : Marks) (points : List Point) (point : Point) (clashes none : Bool) (o : Option ℕ) → Sets old.marks marks point → o ≡ depth_in old.marks point.stack point.at → is_some o ≡ not none → none ≡ true
    → points ≡ old.points ++ point ∷ [] → (Clashes old.marks point → clashes ≡ true) → clashes ≡ false → Adds old (record { marks = marks; points = points }) point
adding old marks points point clashes none o sets got is yes_none pushed h e =
    record { sets = sets; unset = sym got ∙ none_from o none is yes_none; pushed = pushed; agrees = λ x. let both = sym e ∙ h x in cc }

pub if_some : {A : Type 0} (o : Option A) (P : A → Type 0) → ((x : A) → o ≡ Some x → P x) → IfSome o P
if_some None P h = tt
if_some (Some x) P h = h x refl

pub holds_of : {A : Type 0} (o : Option A) (P : A → Type 0) (x : A) → IfSome o P → o ≡ Some x → P x
holds_of None P x h e = absurd (let both = e in cc)
holds_of (Some y) P x h e = subst P (value e) h

pub not_none : (o : Option ℕ) → o ≢ None → (d : ℕ) × (o ≡ Some d)
not_none None h = absurd (h refl)
not_none (Some d) h = (d, refl)

-- a point whose three steps are marked is done
pub visited : (code : Code) (a b c d : Found) (point : Point) (steps : Steps) → Fits code point.at point.stack point.depth → AreSteps code point steps
    → IfSome steps.behind (λ p. depth_in b.marks p.stack p.at ≡ Some p.depth) → Grows b c
    → IfSome steps.jump (λ p. depth_in c.marks p.stack p.at ≡ Some p.depth) → Grows c d
    → IfSome steps.block (λ p. depth_in d.marks p.stack p.at ≡ Some p.depth) → IsDone code d.marks point
visited code a b c d point steps fits h first g second i third =
    record { fits = fits; closed = λ other to after leads. marked_at other to after (h.whole other to after leads) }
  where
    marked_at : (other : Stack) (to after : ℕ) → IsStep steps (point_at to other after) → depth_in d.marks other to ≡ Some after
    marked_at other to after (inl e) = i.marks other to after (g.marks other to after (holds_of steps.behind (λ (p : Point). depth_in b.marks p.stack p.at ≡ Some p.depth) (point_at to other after) first e))
    marked_at other to after (inr (inl e)) = i.marks other to after (holds_of steps.jump (λ (p : Point). depth_in c.marks p.stack p.at ≡ Some p.depth) (point_at to other after) second e)
    marked_at other to after (inr (inr e)) = holds_of steps.block (λ (p : Point). depth_in d.marks p.stack p.at ≡ Some p.depth) (point_at to other after) third e
