-- Where methods stand, and which of them send a message or refer to a name.
use Rattle.std.specs.Prelude.{◌≡◌, ◌≢◌, ◌⊎◌, ◌↔◌, ℕ, suc, List, [], ◌∷◌, codes, flat_map, map as list_map, slice_get, Some, None}
use Rattle.std.specs.FinMap as map
use Rattle.std.specs.List.{Contains}
use Rattle.std.specs.Ordering.{nat_cmp}
use Rattle.std.specs.Cmp.Lexicographic.{slice_cmp}
use Rattle.std.specs.declared.cmp.Ordering.TheVariants.{Less}
use Rattle.s80_base.specs.declared.names.Side.{Side}
use Rattle.s80_base.specs.declared.names.Side.TheVariants.{Instance, Class}
use Rattle.s80_code.specs.Entries.{outer}
use Rattle.s80_core.specs.Core.{CoreTree}
use Rattle.s80_core.specs.Elaborate.{elaborated}
use Rattle.s80_core.specs.Measures.{entries}
use Rattle.s80_tree.specs.Tree.{MethodParts}
use Rattle.s80_syntax.specs.Text.{IsMethodOf}
use Rattle.s80_method.specs.Shape.{shape_of}
use Rattle.s80_apply.specs.State.{MethodRow, State}
use Rattle.s80_xref.specs.declared.places.MethodPlace.{MethodPlace}
use Rattle.s80_xref.specs.Named.{messages}

-- ---- all methods

abbrev pub place : List ℕ → Side → List ℕ → MethodPlace
place class side selector = record { class_name = class; side = side; selector = selector }

-- those of a side of a class, by their selectors
abbrev pub places_on : State → List ℕ → Side → List MethodPlace
places_on state class side = list_map (place class side) (map.keys (state.methods class side))

-- by the class's name, the instance side first, then by the selector
abbrev pub all_places : State → List MethodPlace
all_places state = flat_map (λ class. flat_map (places_on state class) (Instance ∷ Class ∷ [])) (map.keys state.classes)

-- those of a list of which this holds, in their order
abbrev pub AreThose : {X : Type 0} → (X → Type 0) → List X → List X → Type 0
AreThose P [] found = found ≡ []
AreThose {X} P (x ∷ xs) found = (P x × ((rest : List X) × (found ≡ x ∷ rest) × AreThose P xs rest)) ⊎ ((P x → ⊥) × AreThose P xs found)

-- ---- what methods send and refer to

-- a method's source is that of a tree of which this holds in its class
abbrev pub HasTree : State → (CoreTree → Type 0) → MethodPlace → Type 0
HasTree state P at =
    (row : MethodRow) × (tree : MethodParts) × (map.get (state.methods at.class_name at.side) at.selector ≡ Some row) × IsMethodOf row.source tree
    × P (elaborated tree (shape_of state.classes at.class_name at.side))

abbrev pub Sends : State → List ℕ → MethodPlace → Type 0
Sends state selector = HasTree state (λ core. Contains (messages core) selector)

-- it reads or assigns an outer name
abbrev pub RefersTo : State → List ℕ → MethodPlace → Type 0
RefersTo state name = HasTree state (λ core. Contains (entries core) (outer name))

abbrev pub IsOfSelector : List ℕ → MethodPlace → Type 0
IsOfSelector selector at = at.selector ≡ selector

-- ---- names

-- each once, in the order of their bytes
abbrev pub AreAscending : List (List ℕ) → Type 0
AreAscending names = (i : ℕ) (one next : List ℕ) → slice_get names i ≡ Some one → slice_get names (suc i) ≡ Some next → slice_cmp nat_cmp one next ≡ Less

-- just the names of which this holds, each once, in order
abbrev pub AreNames : (List ℕ → Type 0) → List (List ℕ) → Type 0
AreNames P names = AreAscending names × ((name : List ℕ) → Contains names name ↔ P name)

-- referred to, and neither a class nor one of the two objects of the system
abbrev pub IsUndeclared : State → List ℕ → Type 0
IsUndeclared state name =
    ((at : MethodPlace) × RefersTo state name at) × ((map.get state.classes name ≡ None) × ((name ≢ codes "Smalltalk") × (name ≢ codes "Transcript")))

-- sent, and no method's of any class or side
abbrev pub IsUnimplemented : State → List ℕ → Type 0
IsUnimplemented state selector =
    ((at : MethodPlace) × Sends state selector at) × ((at : MethodPlace) → Contains (all_places state) at → at.selector ≢ selector)

-- a method's, and sent by none
abbrev pub IsUnsent : State → List ℕ → Type 0
IsUnsent state selector =
    ((at : MethodPlace) × Contains (all_places state) at × (at.selector ≡ selector)) × ((at : MethodPlace) → Sends state selector at → ⊥)
