-- The code of each method agrees with its source in its class.
use Rattle.std.specs.Prelude.{◌≡◌, ◌≤◌, ℕ, List, length, Some, Ok}
use Rattle.std.specs.FinMap as map
use Rattle.s80_base.specs.declared.names.Side.{Side}
use Rattle.s80_dict.specs.Table.{MethodsValue, methods_at}
use Rattle.s80_change.specs.Check.{IsCheckOf}
use Rattle.s80_class.specs.Classes.{Name, Classes}
use Rattle.s80_class.specs.Table.{Table, IsNumberOf}
use Rattle.s80_method.specs.Code.{IsMethodCode}
use Rattle.s80_apply.specs.Entries.{Entry}

-- the source is a method of this selector that fits, and the code is that of its tree in this class, on this side
pub record HasCode (classes : Classes) (class : Name) (side : Side) (selector : List ℕ) (entry : Entry) : Type 0 where
  pub short : length entry.source ≤ 65535
  pub check : IsCheckOf entry.source (Ok selector)
  pub code : IsMethodCode classes class side selector entry.source entry.code

-- so it is in the class of this number
pub record HasCodeAt (table : Table) (number : ℕ) (side : Side) (selector : List ℕ) (entry : Entry) : Type 0 where
  pub class : Name
  pub named : IsNumberOf table.names number class
  pub has_code : HasCode table.classes class side selector entry

-- and in all dictionaries
abbrev pub AreCodes : Table → MethodsValue Entry → Type 0
AreCodes table methods =
    (number : ℕ) (side : Side) (selector : List ℕ) (entry : Entry) → map.get (methods_at methods number side) selector ≡ Some entry → HasCodeAt table number side selector entry

-- a source that is a method of some selector, and fits
abbrev pub IsSource : Entry → Type 0
IsSource entry = (length entry.source ≤ 65535) × ((selector : List ℕ) × IsCheckOf entry.source (Ok selector))

-- the sources of all methods are methods of their selectors, whatever their code
abbrev pub HaveSources : MethodsValue Entry → Type 0
HaveSources methods =
    (number : ℕ) (side : Side) (selector : List ℕ) (entry : Entry) → map.get (methods_at methods number side) selector ≡ Some entry → (length entry.source ≤ 65535) × IsCheckOf entry.source (Ok selector)
