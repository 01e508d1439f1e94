-- A class and its descendants with their totals.
use Rattle.std.specs.Prelude.{◌≡◌, ◌++◌, ℕ, true, List, Option, Some, slice_get}
use Rattle.std.specs.FinMap as map
use Rattle.s80_class.specs.declared.inherited.Totals.{Totals}
use Rattle.s80_class.specs.declared.inherited.Greatest.{Greatest}
use Rattle.s80_class.specs.Classes.{Name, ClassRow, Classes, IsValid, inherited_of, is_under}
use Rattle.s80_class.specs.Counted.{totals, over, own_of}
use Rattle.s80_class.specs.Table.{Table, IsNumberOf}

-- of no class
abbrev pub least : Greatest
least = record { inst_vars = 0; class_side_vars = 0; bits_variables = 0 }

-- a class with its totals
abbrev pub Found : Type 0
Found = ℕ × Totals

-- the class of this number has this row, and the class of the other number is its superclass
pub record IsBelow (table : Table) (number : ℕ) (row : ClassRow) (superclass : ℕ) : Type 0 where
  pub name : Name
  pub above : Name
  pub named : IsNumberOf table.names number name
  pub here : map.get table.classes name ≡ Some row
  pub superclass_is : row.superclass ≡ Some above
  pub named_above : IsNumberOf table.names superclass above

abbrev pub AreDistinct : List Found → Type 0
AreDistinct found = (j k : ℕ) (p q : Found) → slice_get found j ≡ Some p → slice_get found k ≡ Some q → p.0 ≡ q.0 → j ≡ k

-- these are subclasses of a class that has these totals, each once
pub record AreUnder (table : Table) (number : ℕ) (totals : Totals) (more : List Found) : Type 0 where
  pub distinct : AreDistinct more
  pub sound : (k : ℕ) (p : Found) → slice_get more k ≡ Some p → (row : ClassRow) × IsBelow table p.0 row number × (p.1 ≡ over (own_of row) totals)

-- these are all of them
pub record AreSubclasses (table : Table) (number : ℕ) (totals : Totals) (more : List Found) : Type 0 where
  pub under : AreUnder table number totals more
  pub all : (x : ℕ) (row : ClassRow) → IsBelow table x row number → (k : ℕ) × (t : Totals) × (slice_get more k ≡ Some (x, t))

abbrev pub Grows : Table → ℕ → Totals → List Found → List Found → Type 0
Grows table number totals old new = (more : List Found) × (new ≡ old ++ more) × AreSubclasses table number totals more

-- these are the class of that name and its descendants, each once, with their totals
pub record IsFamily (names : List (Option Name)) (classes : Classes) (name : Name) (found : List Found) : Type 0 where
  pub distinct : AreDistinct found
  pub each : (k : ℕ) (p : Found) → slice_get found k ≡ Some p → (q : Name) × IsNumberOf names p.0 q × (map.contains_key classes q ≡ true) × (is_under classes q name ≡ true) × (p.1 ≡ totals (inherited_of classes q))
  pub all : (q : Name) → map.contains_key classes q ≡ true → is_under classes q name ≡ true → (k : ℕ) × (p : Found) × (slice_get found k ≡ Some p) × IsNumberOf names p.0 q × (p.1 ≡ totals (inherited_of classes q))

-- they are that if the class of this number comes to have a row with which it has these totals
abbrev pub FindsFamily : Table → ℕ → Totals → List Found → Type 0
FindsFamily table number top found =
    (name : Name) (row : ClassRow) → IsNumberOf table.names number name → IsValid (map.insert table.classes name row)
    → top ≡ totals (inherited_of (map.insert table.classes name row) name) → IsFamily table.names (map.insert table.classes name row) name found

-- these are the numbers of the class of that name and of its descendants, each once
pub record AreFamily (table : Table) (name : Name) (numbers : List ℕ) : Type 0 where
  pub distinct : (j k number : ℕ) → slice_get numbers j ≡ Some number → slice_get numbers k ≡ Some number → j ≡ k
  pub each : (k number : ℕ) → slice_get numbers k ≡ Some number → (q : Name) × IsNumberOf table.names number q × (is_under table.classes q name ≡ true)
  pub all : (number : ℕ) (q : Name) → IsNumberOf table.names number q → is_under table.classes q name ≡ true → (k : ℕ) × (slice_get numbers k ≡ Some number)
