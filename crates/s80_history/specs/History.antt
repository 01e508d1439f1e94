-- What is kept of a list beside its classes and methods, step by step: its change set, and the places of the versions of each method.
use Rattle.std.specs.Prelude.{◌≡◌, ℕ, List, [], ◌∷◌, if◌then◌else◌, map as list_map, reverse, option_map, Option, Some, None}
use Rattle.std.specs.Option.{option_map_or}
use Rattle.std.specs.Map.{lookup}
use Rattle.std.specs.Str.{bytes_eq}
use Rattle.s80_base.specs.declared.names.Side.{Side}
use Rattle.s80_base.specs.declared.names.Side.TheVariants.{Instance, Class}
use Rattle.s80_form.specs.declared.form.Form.TheVariants.{Define, ClassVars, Comment, RemoveMethod, Classify, RemoveClass, NoChanges}
use Rattle.s80_change.specs.declared.change.Change.{Change}
use Rattle.s80_change.specs.declared.change.Change.TheVariants.{Form, Method, DoIt}
use Rattle.s80_history.specs.declared.noted.Noted.{Noted}
use Rattle.s80_history.specs.declared.noted.NotedKind.{NotedKind}
use Rattle.s80_history.specs.declared.noted.NotedKind.TheVariants as kinds
use Rattle.s80_history.specs.Lists.{MethodName, is_same, named, set_of, versions_of}

-- ---- what is noted of a change

abbrev pub of_class : NotedKind → List ℕ → ℕ → Noted
of_class kind class at = record { at = at; kind = kind; class_name = class; side = Instance; selector = [] }

abbrev pub of_method : NotedKind → MethodName → ℕ → Noted
of_method kind name at = record { at = at; kind = kind; class_name = name.class_name; side = name.side; selector = name.selector }

-- what is noted of a change whose block begins at this place, if it may stand in a change set
abbrev pub noting : ℕ → Change → Option Noted
noting at (Form (Define d)) = Some (of_class kinds.Define d.class_name at)
noting at (Form (ClassVars class names)) = Some (of_class kinds.ClassVars class at)
noting at (Form (Comment class text)) = Some (of_class kinds.Comment class at)
noting at (Form (RemoveMethod class side selector)) = Some (of_method kinds.RemoveMethod (record { class_name = class; side = side; selector = selector }) at)
noting at (Form (Classify class side selector category)) = Some (of_method kinds.Classify (record { class_name = class; side = side; selector = selector }) at)
noting at (Form (RemoveClass class)) = Some (of_class kinds.RemoveClass class at)
noting at (Form NoChanges) = None
noting at (Method m) = option_map (λ name. of_method kinds.Method name at) (named m m.source.selector)
noting at (DoIt text) = None

-- ---- what is kept

-- the places of the versions of a class's methods by their selectors, the oldest first
abbrev pub Places : Type 0
Places = List (List ℕ × List ℕ)

pub record ClassVersions : Type 0 where
  pub instance : Places
  pub class : Places

abbrev pub places_on : ClassVersions → Side → Places
places_on versions Instance = versions.instance
places_on versions Class = versions.class

abbrev pub places_under : Places → List ℕ → List ℕ
places_under places selector = option_map_or (λ at. at) (lookup (bytes_eq selector) places) []

-- the members of the change set, the oldest first; the places of all versions by their classes; and what is ready to be noted
pub record HistoryState : Type 0 where
  pub members : List Noted
  pub versions : List (List ℕ × ClassVersions)
  pub ready : Option Noted

-- nothing is noted
abbrev pub none_noted : HistoryState
none_noted = record { members = []; versions = []; ready = None }

-- the places of the versions of a method, the newest first
abbrev pub version_places : HistoryState → MethodName → List ℕ
version_places h name = reverse (option_map_or (λ versions. places_under (places_on versions name.side) name.selector) (lookup (bytes_eq name.class_name) h.versions) [])

-- the places of the versions of any method, where one has a version more, which is its newest
abbrev pub with_newest : MethodName → ℕ → MethodName → List ℕ → List ℕ
with_newest own at name places = if is_same name own then at ∷ places else places

-- the places of the members
abbrev pub set_places : HistoryState → List ℕ
set_places h = list_map (λ noted. noted.at) h.members

-- ---- what it stands for

-- these are the change set of a list and the versions of each method
pub record IsHistoryOf (h : HistoryState) (changes : List Change) : Type 0 where
  pub members : list_map Some h.members ≡ list_map (λ p. noting p.0 p.1) (set_of changes)
  pub versions : (name : MethodName) → version_places h name ≡ list_map (λ p. p.0) (versions_of changes name)

-- memory for this change is found
abbrev pub IsReadyFor : HistoryState → Change → Type 0
IsReadyFor h change = h.ready ≡ noting 0 change
