-- What a write does to the two slots of a mark file.
use Rattle.std.specs.Prelude.{◌≡◌, ◌⊎◌, ◌≤◌, ℕ, Bool, IsTrue, List, length, Some, None, is_some}
use Rattle.s80_mark.specs.declared.mark.MarkState.{MarkState}
use Rattle.s80_mark.specs.declared.slots.Slot.{Slot}
use Rattle.s80_mark.specs.Slots.{other_of, mark_in}

-- the other slot stays
abbrev pub KeepsOther : Slot → List ℕ → List ℕ → Type 0
KeepsOther slot old new = mark_in new (other_of slot) ≡ mark_in old (other_of slot)

-- in a whole mark file where this says whether the slot is open, it stays or is closed
abbrev pub Closes : Slot → Bool → List ℕ → List ℕ → Type 0
Closes slot was_open old new =
    128 ≤ length old → is_some (mark_in old slot) ≡ was_open → KeepsOther slot old new × ((mark_in new slot ≡ mark_in old slot) ⊎ (mark_in new slot ≡ None))

abbrev pub IsClosed : Slot → Bool → List ℕ → List ℕ → Type 0
IsClosed slot was_open old new =
    128 ≤ length old → is_some (mark_in old slot) ≡ was_open → KeepsOther slot old new × (mark_in new slot ≡ None)

-- in a whole mark file where the slot is closed, it stays so or has this mark
abbrev pub Fills : Bool → Slot → MarkState → List ℕ → List ℕ → Type 0
Fills tells slot mark old new =
    IsTrue tells → 128 ≤ length old → mark_in old slot ≡ None → KeepsOther slot old new × ((mark_in new slot ≡ None) ⊎ (mark_in new slot ≡ Some mark))

abbrev pub IsFilled : Slot → MarkState → List ℕ → List ℕ → Type 0
IsFilled slot mark old new = 128 ≤ length old → KeepsOther slot old new × (mark_in new slot ≡ Some mark)
