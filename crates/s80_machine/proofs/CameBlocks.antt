-- A block that is made for the active context.
use Rattle.std.proofs.Common.{◌≡◌, ◌∙◌, ap, sym, subst, refl, ℕ, ◌+◌, ◌<◌, ◌^◌, pos, List, [], ◌∷◌, Bool, true, false, slice_get, nat_le, length, ok_or, Option, Some, None, Result, Ok, Err, arith, if◌then◌else◌}
use Rattle.std.proofs.lemmas.Bool.Decides.{nat_tests}
use Rattle.s80_object.specs.Body.{block, number_to}
use Rattle.s80_object.specs.declared.value.Value.{Value}
use Rattle.s80_object.specs.declared.value.Value.TheVariants.{Object, Small}
use Rattle.s80_machine.specs.declared.halt.Halt.{Halt}
use Rattle.s80_machine.specs.declared.halt.Halt.TheVariants as halt
use Rattle.s80_machine.specs.declared.machine.Machine.{Machine}
use Rattle.s80_machine.specs.World.{World, home_in}
use Rattle.s80_machine.specs.Turn.{Context, waiting, Turn, Stuck, given, goes_on}
use Rattle.s80_machine.specs.Step.{block_made, copy_turn, with_room}
use Rattle.s80_machine.specs.Sound.{HasCount}
use Rattle.s80_machine.specs.Seen.{Does, DoesOne, Given, popped, popped_from, with_stack}
use Rattle.s80_machine.specs.Came.{Came}

-- ---- values that are taken off the active context's stack

record IsOff (c : Context) (rest new : List Context) (v : Value) : Type 0 where
  stack : List Value
  was : c.stack ≡ v ∷ stack
  is : new ≡ with_stack c stack ∷ rest

one_off : (c : Context) (rest cs new : List Context) (v : Value) → cs ≡ c ∷ rest → Does (λ v. v) popped cs new (Ok v) → IsOff c rest new v
one_off c rest cs new v is does = by_stack c.stack refl (subst (λ cs. Does (λ v. v) popped cs new (Ok v)) is does)
  where
    by_stack : (vs : List Value) → c.stack ≡ vs → DoesOne (λ v. v) (popped_from c vs) rest new (Ok v) → IsOff c rest new v
    by_stack [] e h = absurd (let f : ⊥ = cc h in f)
    by_stack (u ∷ stack) e h = record { stack = stack; was = e ∙ ap (λ u. u ∷ stack) (sym h.0); is = h.1 }

-- what was on top and what stood below it, where it goes on at a place
pub record AreOff (c : Context) (next : ℕ) (rest new : List Context) (v : Value) : Type 0 where
  pub below : Value
  pub stack : List Value
  pub was : c.stack ≡ v ∷ below ∷ stack
  pub is : new ≡ waiting c next stack ∷ rest

pub two_off : (c : Context) (next : ℕ) (rest cs between new : List Context) (v x : Value) → cs ≡ record c { place = next } ∷ rest → Does (λ v. v) popped cs between (Ok v) → Does (λ v. v) popped between new (Ok x) → AreOff c next rest new v
two_off c next rest cs between new v x is one two =
    let here : Context = record c { place = next } in
    let top = one_off here rest cs between v is one in
    let under = one_off (with_stack here top.stack) rest between new x top.is two in
    record { below = x; stack = under.stack; was = top.was ∙ ap (λ vs. v ∷ vs) under.was; is = under.is }

-- ---- the block

some_context : (c d : Context) → Some c ≡ Some d → c ≡ d
some_context c d e = cc e

-- there is no part
pub stuck_of : {A : Type 0} (h : Halt) (o : Option A) → Err h ≡ ok_or o halt.Stuck → o ≡ None → h ≡ halt.Stuck
stuck_of h o is none = let stuck : Err h ≡ ok_or None halt.Stuck = is ∙ ap (λ o. ok_or o halt.Stuck) none in cc stuck

small_is : (v : Value) (n : ℕ) → Some n ≡ number_to 255 v → v ≡ Small (pos n)
small_is (Small (pos k)) n some = by_test (nat_le k 255) some
  where
    by_test : (b : Bool) → Some n ≡ (if b then Some k else None) → Small (pos k) ≡ Small (pos n)
    by_test true e = let same : k ≡ n = cc e in ap (λ k. Small (pos k)) same
    by_test false e = absurd (let f : ⊥ = cc e in f)
small_is _ n some = absurd (let f : ⊥ = cc some in f)

module _ (on : Given) (c : Context) (next : ℕ) (rest : List Context) (w : World) where
  abbrev turns : List Value → Turn
  turns = copy_turn on.table on.methods on.code on.budget c next rest w

  abbrev makes : ℕ → List Value → ℕ → Turn
  makes = block_made on.table on.methods on.code on.budget c next rest w

  no_number : (v x : Value) (stack : List Value) → number_to 255 v ≡ None → ((n : ℕ) → HasCount n (v ∷ x ∷ stack) → n < 2 ^ 8) → turns (v ∷ x ∷ stack) ≡ Stuck
  no_number (Small (pos n)) x stack none few =
      let small : n < 2 ^ 8 = few n refl in
      let fits : nat_le n 255 ≡ true = grind (arith, nat_tests) in
      absurd (let some : Some n ≡ None = sym (ap (λ (b : Bool). if b then Some n else None) fits) ∙ none in let f : ⊥ = cc some in f)
  no_number _ x stack none few = refl

  module _ (last : List Context) (v : Value) (off : AreOff c next rest last v) where
    -- what is on top is no number
    pub not_counted : (new : Machine) → number_to 255 v ≡ None → ((n : ℕ) → HasCount n c.stack → n < 2 ^ 8) → Came on (turns c.stack) new (Err halt.Stuck)
    not_counted new none few =
        let stuck : turns c.stack ≡ Stuck = ap turns off.was ∙ no_number v off.below off.stack none (λ n counts. few n (subst (HasCount n) (sym off.was) counts)) in
        subst (λ (turn : Turn). Came on turn new (Err halt.Stuck)) (sym stuck) tt

    pub home_left : (active : Context) (h : Option ℕ) → Some active ≡ slice_get last 0 → h ≡ home_in active.activation → home_in c.activation ≡ h
    home_left active h top home =
        sym (home ∙ ap (λ (c : Context). home_in c.activation) (some_context active (waiting c next off.stack) (top ∙ ap (λ cs. slice_get cs 0) off.is)))

    -- a block of this home is made and pushed
    pub block_pushed : (count h start : ℕ) → Some count ≡ number_to 255 v → home_in c.activation ≡ Some h → start ≡ next + 2 → (new : Machine) (result : Result (Unit {0}) Halt)
        → Came on (with_room w (block (Object h) start count) (goes_on c next (Object (length w.objects.bodies) ∷ off.stack) rest)) new result → Came on (turns c.stack) new result
    block_pushed count h start some home is new result came =
        let turn : turns c.stack ≡ given (home_in c.activation) (makes count off.stack) = ap turns (off.was ∙ ap (λ v. v ∷ off.below ∷ off.stack) (small_is v count some)) in
        subst (λ (turn : Turn). Came on turn new result) (sym (turn ∙ ap (λ h. given h (makes count off.stack)) home))
        (subst (λ n. Came on (with_room w (block (Object h) n count) (goes_on c next (Object (length w.objects.bodies) ∷ off.stack) rest)) new result) is came)
