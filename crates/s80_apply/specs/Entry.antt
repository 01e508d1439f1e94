-- The entry that a definition makes.
use Rattle.std.specs.Prelude.{◌≡◌, ℕ, Some, None, MatchOption}
use Rattle.std.specs.FinMap as map
use Rattle.s80_form.specs.declared.definition.Definition.{Definition}
use Rattle.s80_class.specs.declared.entry.ClassEntry.{ClassEntry}
use Rattle.s80_class.specs.Classes.{Name}
use Rattle.s80_class.specs.Table.{Table, IsNumberOf, row_of}
use Rattle.s80_apply.specs.Accept.{row_of as defined_row}

-- the entry says of the class what it is to be, and its superclass is that of the definition
pub record IsDefined (table : Table) (d : Definition) (entry : ClassEntry) : Type 0 where
  pub class_name : entry.class_name ≡ d.class_name
  pub row : row_of table.names entry ≡ defined_row d (map.get table.classes d.class_name)
  pub superclass : MatchOption entry.superclass (map.get table.classes d.superclass ≡ None) (λ c. IsNumberOf table.names c d.superclass)

-- the class of this name has this number and this entry
pub record IsNamed (table : Table) (name : Name) (number : ℕ) (entry : ClassEntry) : Type 0 where
  pub named : IsNumberOf table.names number name
  pub row : map.get table.classes name ≡ Some (row_of table.names entry)
