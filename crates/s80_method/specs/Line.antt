-- A class and its superclasses, told by numbers.
use Rattle.std.specs.Prelude.{◌≡◌, ℕ, List, Option, Some, map as list_map, option_map, option_and_then}
use Rattle.std.specs.FinMap as map
use Rattle.s80_class.specs.Classes.{Name, ClassRow}
use Rattle.s80_class.specs.Table.{Table, name_of}

-- the class of this number
abbrev pub class_at : Table → ℕ → Option (Name × ClassRow)
class_at table number = option_and_then (λ name. option_map (λ row. (name, row)) (map.get table.classes name)) (name_of table.names number)

-- these are the numbers of the classes
abbrev pub AreNumbersOf : Table → List (Name × ClassRow) → List ℕ → Type 0
AreNumbersOf table es numbers = list_map (class_at table) numbers ≡ list_map Some es
