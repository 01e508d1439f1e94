-- The two slots of a mark file, and what is read of them.
use Rattle.std.specs.Prelude.{ℕ, List, Option}
use Rattle.s80_mark.specs.declared.mark.MarkState.{MarkState}
use Rattle.s80_mark.specs.declared.slots.Slot.{Slot}
use Rattle.s80_mark.specs.declared.slots.Slot.TheVariants.{First, Second}
use Rattle.s80_mark.specs.declared.slots.Slots.{Slots}
use Rattle.s80_mark.specs.Mark.{open_mark}

-- where a slot's gate stands
abbrev pub place_of : Slot → ℕ
place_of First = 0
place_of Second = 64

abbrev pub other_of : Slot → Slot
other_of First = Second
other_of Second = First

-- the mark of a slot of a mark file, where its gate is open
abbrev pub mark_in : List ℕ → Slot → Option MarkState
mark_in file slot = open_mark file (place_of slot)

-- the same, as it was read
abbrev pub mark_at : Slots → Slot → Option MarkState
mark_at slots First = slots.first
mark_at slots Second = slots.second

abbrev pub slots_of : List ℕ → Slots
slots_of file = record { first = open_mark file 0; second = open_mark file 64 }
