-- Methods as dictionaries have them.
use Rattle.s80_code.specs.declared.code.Code.{Code}
use Rattle.s80_dict.specs.Dict.{Methods}
use Rattle.s80_dict.specs.declared.dict.MethodEntry.{MethodEntry}
use Rattle.s80_apply.specs.State.{MethodRow}
use Rattle.s80_apply.specs.Placed.{PlacedRow}
use Rattle.s80_apply.specs.Seen.{AreSeen}

abbrev pub Entry : Type 0
Entry = MethodEntry Code

-- what the state has of a method
abbrev pub state_row : {C : Type 0} → MethodEntry C → MethodRow
state_row entry = record { category = entry.category; source = entry.source }

-- the same, and where its source stands: all but its code
abbrev pub row_in : {C : Type 0} → MethodEntry C → PlacedRow
row_in entry = record { category = entry.category; source = entry.source; from_kernel = entry.from_kernel; position = entry.position; length = entry.length }

-- the entries are those of the methods
abbrev pub AreEntriesOf : Methods Entry → Methods MethodRow → Type 0
AreEntriesOf entries rows = AreSeen state_row entries rows
