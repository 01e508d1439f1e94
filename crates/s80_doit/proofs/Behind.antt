-- What holds of each instruction from a place on, one behind another, holds at each place that is reached.
use Rattle.std.proofs.Common.{◌≡◌, ◌≢◌, ◌∙◌, sym, subst, ℕ, zero, suc, inl, inr, List, length, Option, Some, None, arith}
use Rattle.s80_code.specs.declared.code.Code.{Code}
use Rattle.s80_code.specs.declared.instruction.Instruction.{Instruction}
use Rattle.s80_code.specs.declared.instruction.Instruction.TheVariants.{PushContext, SendSpecial, Jump}
use Rattle.s80_code.specs.Table.{Stands}
use Rattle.s80_verify.specs.declared.stack.Stack.{Stack}
use Rattle.s80_verify.specs.Effect.{distance_of, Goes}
use Rattle.s80_verify.specs.Reach.{IsPlaceAfter, IsPlace, Begins, ReachedIn}
use Rattle.s80_verify.specs.Fault.{RunsAt}
use Rattle.s80_verify.specs.Record.{HasDepths}
use Rattle.s80_verify.proofs.lemmas.PlaceLemmas.{same_instruction, goes_forward, ends_within, place_behind}
use Rattle.s80_verify.proofs.lemmas.LawLemmas.{fits_there, fits_as}
use Rattle.s80_compile.proofs.PointsSound.{one_target}

module _ (bytes : List ℕ) (P : Instruction → Type 0) where
  -- the next so many instructions from a place on
  abbrev pub Holds : ℕ → ℕ → Type 0
  Holds zero at = Unit {0}
  Holds (suc n) at = (i : Instruction) (next : ℕ) → Stands bytes at i next → P i × Holds n next

  abbrev pub HoldsFrom : ℕ → Type 0
  HoldsFrom at = (n : ℕ) → Holds n at

  pub before_it : (i : Instruction) (p q : ℕ) → P i → Stands bytes p i q → HoldsFrom q → (n : ℕ) → Holds n p
  before_it i p q holds s behind zero = tt
  before_it i p q holds s behind (suc n) = λ j after t.
      let same = same_instruction bytes p i j q after s t in
      (subst P same.instruction holds, subst (λ (k : ℕ). Holds n k) same.place (behind n))

  -- none stands behind the last byte
  pub at_the_end : (p : ℕ) → p ≡ length bytes → (n : ℕ) → Holds n p
  at_the_end p is zero = tt
  at_the_end p is (suc n) = λ i after s. absurd (omega (arith, is, goes_forward bytes p i after s, ends_within bytes p i after s))

  at_place : (n at : ℕ) → HoldsFrom 0 → IsPlaceAfter bytes n at → (k : ℕ) → Holds k at
  at_place zero at all is k = subst (λ (p : ℕ). Holds k p) (sym is) (all k)
  at_place (suc n) at all (before, i, place, s) k = (at_place n before all place (suc k) i at s).1

  pub holds_at : (at : ℕ) (i : Instruction) (next : ℕ) → HoldsFrom 0 → IsPlace bytes at → Stands bytes at i next → P i
  holds_at at i next all (n, place) s = (at_place n at all place (suc zero) i next s).0

-- ---- places that are reached

is_some : {X : Type 0} (o : Option X) (x : X) → o ≡ Some x → o ≢ None
is_some o x e none = let differs = sym e ∙ none in cc

module _ (code : Code) (h : HasDepths code) where
  -- a jump lands at an instruction
  goes_to_place : (n at to : ℕ) (stack : Stack) (depth : ℕ) (i : Instruction) (next : ℕ) → IsPlace code.bytes at → ReachedIn code n at stack depth
      → Stands code.bytes at i next → Goes i next to → IsPlace code.bytes to
  goes_to_place n at to stack depth i next place reached s (inl (on, e)) = subst (λ (p : ℕ). IsPlace code.bytes p) (sym e) (place_behind code.bytes at i next place s)
  goes_to_place n at to stack depth i next place reached s (inr (distance, is, lands)) =
      let run = fits_as code at stack depth (fits_there code h at stack depth (n, reached)) i next s in
      let (other, jumps, there) = run.lands (is_some (distance_of i) distance is) in
      subst (λ (p : ℕ). IsPlace code.bytes p) (sym (one_target i next other to jumps (distance, is, lands))) there.0

  begins_at_place : (at arguments start : ℕ) → Begins code at arguments start → IsPlace code.bytes start
  begins_at_place at arguments start b =
      let push = place_behind code.bytes b.context PushContext b.push b.placed b.is_context in
      let copy = place_behind code.bytes b.push b.count at push b.is_count in
      let jump = place_behind code.bytes at (SendSpecial 24) b.jump copy b.is_copy in
      place_behind code.bytes b.jump (Jump b.distance) start jump b.is_jump

  reached_place : (n at : ℕ) (stack : Stack) (depth : ℕ) → ReachedIn code n at stack depth → IsPlace code.bytes at
  reached_place zero at stack depth (first, home, empty) = (zero, first)
  reached_place (suc n) at stack depth (before, under, held, reached, inl c) =
      goes_to_place n before at under held c.instruction c.next (reached_place n before under held reached) reached c.stands c.leads
  reached_place (suc n) at stack depth (before, under, held, reached, inr (on, b)) = begins_at_place before depth at b

  -- what holds of all instructions from the first on holds of each that runs
  pub runs_with : (P : Instruction → Type 0) → HoldsFrom code.bytes P 0 → (at : ℕ) (run : RunsAt code at) → P run.instruction
  runs_with P all at run = holds_at code.bytes P at run.instruction run.next all (reached_place run.reached.0 at run.stack run.depth run.reached.1) run.stands
