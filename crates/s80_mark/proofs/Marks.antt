-- How the valid mark follows from the two slots.
use Rattle.std.proofs.Common.{◌≡◌, ◌<◌, ◌≤◌, ◌⊎◌, inl, inr, ⊎_elim, ℕ, ◌+◌, ◌%◌, ◌^◌, Bool, true, false, List, length, refl, sym, ◌∙◌, ap, arith}
use Rattle.std.specs.Prelude.{is_some, Option, Some, None, if◌then◌else◌}
use Rattle.std.proofs.lemmas.Bool.{cases_lt}
use Rattle.std.proofs.lemmas.Bool.Decides.{nat_tests}
use Rattle.s80_mark.specs.declared.mark.MarkState.{MarkState}
use Rattle.s80_mark.specs.declared.slots.Slots.{Slots}
use Rattle.s80_mark.specs.declared.slots.Slot.{Slot}
use Rattle.s80_mark.specs.declared.slots.Slot.TheVariants.{First, Second}
use Rattle.s80_mark.specs.Mark.{is_open, mark_behind, is_later, later_open, valid_mark}
use Rattle.s80_mark.specs.Slots.{place_of, other_of, mark_in, slots_of, mark_at}
use Rattle.s80_mark.specs.Writes.{KeepsOther, Closes, Fills, IsFilled}

-- a slot as it was read
pub slot_read : (file : List ℕ) (slot : Slot) → mark_at (slots_of file) slot ≡ mark_in file slot
slot_read file First = refl
slot_read file Second = refl

-- a mark file with an open slot is whole
pub open_long : (file : List ℕ) (slot : Slot) (mark : MarkState) → mark_in file slot ≡ Some mark → 128 ≤ length file
open_long file slot mark is = elim (cases_lt (length file) 128) [
  | inl short ↦ absurd (let h : None ≡ Some mark = sym (none short) ∙ is in cc)
  | inr long ↦ long
]
  where
    -- a short file has none
    none : length file < 128 → mark_in file slot ≡ None
    none short =
        let shut : is_open file (place_of slot) ≡ false = grind (arith, nat_tests) in
        ap (λ (b : Bool). if b then Some (mark_behind file (place_of slot)) else None) shut

-- where one slot is closed the other decides
pub only_other : (file : List ℕ) (slot : Slot) → mark_in file slot ≡ None → valid_mark file ≡ mark_in file (other_of slot)
only_other file First none = ap (λ (o : Option MarkState). later_open o (mark_in file Second)) none
only_other file Second none = ap (later_open (mark_in file First)) none ∙ alone (mark_in file First)
  where
    alone : (o : Option MarkState) → later_open o None ≡ o
    alone None = refl
    alone (Some mark) = refl

-- the next sequence is later, and the one before isn't
is_later_next : (old : ℕ) → is_later old ((old + 1) % 2 ^ 64) ≡ true
is_later_next old = grind (arith, nat_tests)

not_later : (old : ℕ) → is_later ((old + 1) % 2 ^ 64) old ≡ false
not_later old = grind (arith, nat_tests)

-- of two open slots the one that follows is valid
pub next_valid : (file : List ℕ) (slot : Slot) (old next : MarkState) → mark_in file (other_of slot) ≡ Some old → mark_in file slot ≡ Some next → next.sequence ≡ (old.sequence + 1) % 2 ^ 64 → valid_mark file ≡ Some next
next_valid file First old next there here follows =
    (λ i. later_open (here i) (there i)) ∙ ap (λ (t : Bool). if t then Some old else Some next) (ap (λ (n : ℕ). is_later n old.sequence) follows ∙ not_later old.sequence)
next_valid file Second old next there here follows =
    (λ i. later_open (there i) (here i)) ∙ ap (λ (t : Bool). if t then Some next else Some old) (ap (is_later old.sequence) follows ∙ is_later_next old.sequence)

-- where both slots stay, so does the valid mark
pub same_valid : (old new : List ℕ) (slot : Slot) → mark_in new slot ≡ mark_in old slot → KeepsOther slot old new → valid_mark new ≡ valid_mark old
same_valid old new First here there = λ i. later_open (here i) (there i)
same_valid old new Second here there = λ i. later_open (there i) (here i)

module _ (old next : MarkState) (slot : Slot) (file : List ℕ) (holds : mark_in file (other_of slot) ≡ Some old) where
  -- while the gate is closed
  pub closing : (was_open : Bool) → is_some (mark_in file slot) ≡ was_open → valid_mark file ≡ Some old → (new : List ℕ) → Closes slot was_open file new → valid_mark new ≡ Some old
  closing was_open is valid new closes =
      let slots = closes (open_long file (other_of slot) old holds) is in
      ⊎_elim (λ same. same_valid file new slot same slots.0 ∙ valid) (λ none. only_other new slot none ∙ slots.0 ∙ holds) slots.1

  -- while the next mark is written and its gate is opened
  pub filling : (tells : Bool) → tells ≡ true → mark_in file slot ≡ None → next.sequence ≡ (old.sequence + 1) % 2 ^ 64 → (new : List ℕ) → Fills tells slot next file new → (valid_mark new ≡ Some old) ⊎ (valid_mark new ≡ Some next)
  filling tells told none follows new fills =
      let slots = fills told (open_long file (other_of slot) old holds) none in
      ⊎_elim (λ still. inl (only_other new slot still ∙ slots.0 ∙ holds)) (λ done. inr (next_valid new slot old next (slots.0 ∙ holds) done follows)) slots.1

  -- when the gate is open
  pub filled : next.sequence ≡ (old.sequence + 1) % 2 ^ 64 → (new : List ℕ) → IsFilled slot next file new → valid_mark new ≡ Some next
  filled follows new fills =
      let slots = fills (open_long file (other_of slot) old holds) in
      next_valid new slot old next (slots.0 ∙ holds) slots.1 follows

-- the slot that a commit leaves alone
pub spare_holds : (file : List ℕ) (slots : Slots) (spare : Slot) (old : MarkState) → slots ≡ slots_of file → mark_at slots (other_of spare) ≡ later_open slots.first slots.second → valid_mark file ≡ Some old → mark_in file (other_of spare) ≡ Some old
spare_holds file slots spare old read holder valid =
    sym (slot_read file (other_of spare)) ∙ ap (λ (s : Slots). mark_at s (other_of spare)) (sym read) ∙ holder ∙ ap (λ (s : Slots). later_open s.first s.second) read ∙ valid

-- whether its gate is open, as it was read
pub gate_read : (file : List ℕ) (slots : Slots) (spare : Slot) (gate : Bool) → slots ≡ slots_of file → gate ≡ is_some (mark_at slots spare) → is_some (mark_in file spare) ≡ gate
gate_read file slots spare gate read is = ap (λ (o : Option MarkState). is_some o) (sym (slot_read file spare) ∙ ap (λ (s : Slots). mark_at s spare) (sym read)) ∙ sym is
