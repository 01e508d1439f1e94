-- A table of classes, in which each has a number.
use Rattle.std.specs.Prelude.{◌≡◌, ℕ, suc, List, [], ◌∷◌, false, Option, Some, None, slice_get, option_and_then, unwrap_or, if◌then◌else◌}
use Rattle.std.specs.Option.{option_map}
use Rattle.std.specs.Str.{bytes_eq}
use Rattle.std.specs.FinMap as map
use Rattle.s80_class.specs.declared.entry.ClassEntry.{ClassEntry}
use Rattle.s80_class.specs.Classes.{Name, ClassRow, Classes, is_under}

-- the classes, the name of the class of each number (none where it was removed), and for how many more there is room
pub record Table : Type 0 where
  pub classes : Classes
  pub names : List (Option Name)
  pub spare : ℕ

-- the name of the class of this number
abbrev pub name_of : List (Option Name) → ℕ → Option Name
name_of names number = option_and_then (λ name. name) (slice_get names number)

-- the same, and no byte where there is none
abbrev pub class_name : Table → ℕ → Name
class_name t c = unwrap_or (name_of t.names c) []

-- the number of the class of this name
abbrev pub onto_number : Name → Option Name → Option ℕ → Option ℕ
onto_number word None rest = option_map suc rest
onto_number word (Some name) rest = if bytes_eq name word then Some 0 else option_map suc rest

abbrev pub number_of : List (Option Name) → Name → Option ℕ
number_of [] word = None
number_of (n ∷ names) word = onto_number word n (number_of names word)

-- a class of this name has this number
abbrev pub IsNumberOf : List (Option Name) → ℕ → Name → Type 0
IsNumberOf names number name = slice_get names number ≡ Some (Some name)

-- some class has this number
abbrev pub IsClass : List (Option Name) → ℕ → Type 0
IsClass names number = (name : Name) × IsNumberOf names number name

-- the superclass is none, or a class of the table
abbrev pub IsSuperclass : List (Option Name) → Option ℕ → Type 0
IsSuperclass names None = Unit {0}
IsSuperclass names (Some number) = IsClass names number

-- what an entry says of a class, its superclass by name
abbrev pub row_of : List (Option Name) → ClassEntry → ClassRow
row_of names entry = record {
  superclass = option_and_then (name_of names) entry.superclass;
  kind = entry.kind;
  inst_vars = entry.inst_vars;
  class_vars = entry.class_vars;
  pools = entry.pools;
  category = entry.category;
  comment = entry.comment;
  class_side_vars = entry.class_side_vars;
}

-- the superclass is none, or a class that neither is this one nor descends from it
abbrev pub IsAbove : Table → Option ℕ → Name → Type 0
IsAbove table None name = Unit {0}
IsAbove table (Some number) name = (above : Name) × IsNumberOf table.names number above × (is_under table.classes above name ≡ false)

-- the entry is that of the class of this number
pub record IsEntryOf (table : Table) (number : ℕ) (entry : ClassEntry) : Type 0 where
  pub named : IsNumberOf table.names number entry.class_name
  pub row : map.get table.classes entry.class_name ≡ Some (row_of table.names entry)
  pub superclass : IsSuperclass table.names entry.superclass
