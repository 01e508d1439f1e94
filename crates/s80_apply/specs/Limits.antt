-- What all classes keep within.
use Rattle.std.specs.Prelude.{◌≡◌, ◌≤◌, Some}
use Rattle.std.specs.FinMap as map
use Rattle.s80_class.specs.Classes.{Name, ClassRow, Classes, inherited_of}

-- the classes are within the limits that a definition is held to
pub record IsWithin (classes : Classes) : Type 0 where
  pub count : map.len classes ≤ 65536
  pub inst_vars : (name : Name) (row : ClassRow) → map.get classes name ≡ Some row → (inherited_of classes name).inst_vars ≤ 64
  pub class_side_vars : (name : Name) (row : ClassRow) → map.get classes name ≡ Some row → (inherited_of classes name).class_side_vars ≤ 64
