-- The image of a list of changes.
use Rattle.std.specs.Prelude.{◌≡◌, ℕ, nat_lt, List, map as list_map, length, reverse, Some}
use Rattle.std.specs.FinMap as map
use Rattle.std.specs.List.Sorted.{IsStrictlySortedBy}
use Rattle.s80_base.specs.declared.names.Side.{Side}
use Rattle.s80_code.specs.declared.code.Code.{Code}
use Rattle.s80_change.specs.declared.change.Change.{Change}
use Rattle.s80_class.specs.Classes.{Name, Classes}
use Rattle.s80_history.specs.History.{noting}
use Rattle.s80_history.specs.Lists.{MethodName, set_of, versions_of}
use Rattle.s80_history.specs.Order.{is_among, name_cmp}
use Rattle.s80_method.specs.Code.{IsMethodCode}
use Rattle.s80_apply.specs.Placed.{PlacedRow, PlacedState, placed_of}
use Rattle.s80_apply.specs.Seen.{AreSeen}
use Rattle.s80_image.specs.History.{VersionsView}
use Rattle.s80_image.specs.Image.{ImageView}
use Rattle.s80_image.specs.Methods.{code_of}
use Rattle.s80_snapshot.specs.Pictured.{CodedRow, CodedState, classes_view}

-- each method has the code of its source in its class
abbrev pub HaveCodes : CodedState → Type 0
HaveCodes state =
    (name : Name) (side : Side) (selector : List ℕ) (m : CodedRow) → map.get (state.methods name side) selector ≡ Some m
    → (code : Code) × (code_of code ≡ m.code) × IsMethodCode state.classes name side selector m.row.source code

-- these are the classes and methods with the places of their sources, and the code of each
pub record IsCoded (placed : PlacedState) (state : CodedState) : Type 0 where
  pub classes : state.classes ≡ placed.classes
  pub methods : (name : Name) (side : Side) → AreSeen (λ m. m.row) (state.methods name side) (placed.methods name side)
  pub codes : HaveCodes state

-- the places at which the blocks of a method's versions begin, the oldest first
abbrev pub versions_in : List Change → MethodName → VersionsView
versions_in changes name = record { name = name; places = reverse (list_map (λ p. p.0) (versions_of changes name)) }

-- the methods that changes put, whether or not they are there any more, in order
pub record ArePut (changes : List Change) (names : List MethodName) : Type 0 where
  pub sorted : IsStrictlySortedBy name_cmp names
  pub those : (name : MethodName) → is_among name names ≡ nat_lt 0 (length (versions_of changes name))

-- Its number of changes; its classes and methods, each with its code, with the places of their sources; its change set and the versions of all methods, by
-- the places of their blocks.
pub record IsImageOf (changes : List Change) (image : ImageView) : Type 0 where
  pub count : image.count ≡ length changes
  pub state : CodedState
  pub coded : IsCoded (placed_of changes) state
  pub classes : image.classes ≡ classes_view state
  pub change_set : list_map Some image.change_set ≡ list_map (λ p. noting p.0 p.1) (set_of changes)
  pub names : List MethodName
  pub put : ArePut changes names
  pub versions : image.versions ≡ list_map (versions_in changes) names
