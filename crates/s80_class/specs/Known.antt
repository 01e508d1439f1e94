-- What is known of each table of classes.
use Rattle.std.specs.Prelude.{◌≡◌, ℕ, Some}
use Rattle.std.specs.FinMap as map
use Rattle.s80_class.specs.Classes.{Name, ClassRow, IsValid}
use Rattle.s80_class.specs.Table.{Table, IsNumberOf}

-- each class has one number, and every class its line of superclasses
pub record IsKnown (table : Table) : Type 0 where
  pub one_number : (i j : ℕ) (name : Name) → IsNumberOf table.names i name → IsNumberOf table.names j name → i ≡ j
  pub known : (number : ℕ) (name : Name) → IsNumberOf table.names number name → (row : ClassRow) × (map.get table.classes name ≡ Some row)
  pub numbered : (name : Name) (row : ClassRow) → map.get table.classes name ≡ Some row → (number : ℕ) × IsNumberOf table.names number name
  pub valid : IsValid table.classes
