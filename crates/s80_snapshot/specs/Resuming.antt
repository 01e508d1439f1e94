-- A system on its way from an image: its classes are made, and then each method is put.
use Rattle.std.specs.Prelude.{◌≡◌, ◌≤◌, ◌<◌, ◌&&◌, ◌++◌, not, ℕ, zero, suc, Bool, true, false, List, [], ◌∷◌, length, map as list_map, filter, Option, Some, None, Ok, option_map, option_and_then, slice_get, cond, if◌then◌else◌}
use Rattle.std.specs.FinMap as map
use Rattle.std.specs.List.{AllByRecursion, list_any}
use Rattle.std.specs.List.Sorted.{IsStrictlySortedBy}
use Rattle.std.specs.Str.{bytes_eq}
use Rattle.std.specs.Ordering.{nat_cmp}
use Rattle.std.specs.Cmp.Lexicographic.{slice_cmp}
use Rattle.s80_base.specs.declared.names.Side.{Side}
use Rattle.s80_base.specs.declared.names.Side.TheVariants.{Instance, Class}
use Rattle.s80_chunk.specs.Chunks.{IsChunkText}
use Rattle.s80_dict.specs.Dict.{Methods}
use Rattle.s80_dict.specs.Table.{same_side}
use Rattle.s80_kernel.specs.Rows.{is_kernel_class}
use Rattle.s80_form.specs.declared.form.Form.TheVariants.{RemoveMethod}
use Rattle.s80_change.specs.declared.change.Change.{Change}
use Rattle.s80_change.specs.declared.change.Change.TheVariants.{Form, Method}
use Rattle.s80_change.specs.Check.{IsCheckOf}
use Rattle.s80_change.specs.Source.{SourceParts}
use Rattle.s80_class.specs.Classes.{Name, Classes, lineage}
use Rattle.s80_apply.specs.Accept.{accept, len_with}
use Rattle.s80_apply.specs.Codes.{AreCodes}
use Rattle.s80_apply.specs.List.{IsAccepted}
use Rattle.s80_apply.specs.Placed.{PlacedRow, PlacedState, accept_placed}
use Rattle.s80_apply.specs.State.{MethodRow, State, kernel_state, put_method}
use Rattle.s80_apply.specs.System.{HasNumber, HasPlaces, IsSystemOf, SystemState}
use Rattle.s80_fileout.specs.declared.order.RankedClass.{RankedClass}
use Rattle.s80_fileout.specs.Condensed.{comment_of}
use Rattle.s80_fileout.specs.Order.{ranked_class}
use Rattle.s80_image.specs.Classes.{ClassView}
use Rattle.s80_image.specs.Definable.{AreInOrder}
use Rattle.s80_image.specs.Methods.{MethodView, method_of}
use Rattle.s80_image.specs.Together.{classes_by_name, superclass_of}
use Rattle.s80_snapshot.specs.declared.resumed_methods.ListedMethod.{ListedMethod}
use Rattle.s80_snapshot.specs.Pictured.{CodedRow, CodedState}
use Rattle.s80_snapshot.specs.Sources.{ImagedMethod, IsSourceOf, imaged_methods}

-- ---- what is used of a lawful image

abbrev pub names_of : List ClassView → List Name
names_of classes = list_map (λ c. c.heading.name) classes

abbrev pub selectors_of : List MethodView → List (List ℕ)
selectors_of methods = list_map (λ m. m.heading.selector) methods

-- in byte order of their selectors, and not too many
pub record AreListed (methods : List MethodView) : Type 0 where
  pub sorted : IsStrictlySortedBy (slice_cmp nat_cmp) (selectors_of methods)
  pub few : length methods ≤ 16384

-- in byte order of their names, and such as definitions could have made
pub record AreOrdered (classes : List ClassView) : Type 0 where
  pub sorted : IsStrictlySortedBy (slice_cmp nat_cmp) (names_of classes)
  pub methods : AllByRecursion (λ c. AreListed c.instance × AreListed c.class) classes
  pub in_order : AreInOrder (classes_by_name classes)

-- ---- superclasses by their places

-- the place of the class of this name
abbrev pub place_in : List ClassView → Name → Option ℕ
place_in [] name = None
place_in (c ∷ classes) name = if bytes_eq c.heading.name name then Some 0 else option_map suc (place_in classes name)

abbrev pub superclass_place : List ClassView → ClassView → Option ℕ
superclass_place classes c = option_and_then (place_in classes) (superclass_of c.heading.superclass)

abbrev pub place_above : List (Option ℕ) → ℕ → Option ℕ
place_above above place = option_and_then (λ p. p) (slice_get above place)

-- how many classes are passed on the way up, at most so many
abbrev pub climbed : ℕ → List (Option ℕ) → Option ℕ → ℕ
climbed zero above next = 0
climbed (suc count) above None = 0
climbed (suc count) above (Some place) = suc (climbed count above (place_above above place))

-- a class with its depth, unless it is one of the kernel's
abbrev pub ranked : ℕ → Name → List RankedClass
ranked depth name = cond (not (is_kernel_class name)) (record { depth = depth; class_name = name } ∷ []) []

-- ---- what makes one of the kernel's classes

abbrev pub has_selector : List MethodView → List ℕ → Bool
has_selector methods selector = list_any (λ m. bytes_eq m.heading.selector selector) methods

abbrev pub removals_from : Name → Side → List MethodView → List Change
removals_from name side methods =
    list_map (λ selector. Form (RemoveMethod name side selector)) (filter (λ selector. not (has_selector methods selector)) (map.keys (kernel_state.methods name side)))

-- of one method
abbrev pub removal_from : Name → Side → List MethodView → List ℕ → List Change
removal_from name side methods selector = cond (not (has_selector methods selector)) (Form (RemoveMethod name side selector) ∷ []) []

abbrev pub of_kernel_class : ClassView → List Change
of_kernel_class c = comment_of c.heading.name c.heading.comment ++ (removals_from c.heading.name Instance c.instance ++ removals_from c.heading.name Class c.class)

abbrev pub kernel_class : ClassView → List Change
kernel_class c = if is_kernel_class c.heading.name then of_kernel_class c else []

-- ---- the methods of an image

abbrev pub listed_of : ListedMethod → ImagedMethod
listed_of m = record { class_name = m.class_name.now; side = m.side; method = method_of m.method.now }

abbrev pub is_on : Name → Side → ImagedMethod → Bool
is_on name side m = bytes_eq name m.class_name && same_side side m.side

abbrev pub selector_of : ImagedMethod → List ℕ
selector_of m = m.method.heading.selector

-- the classes of an image, and for each of their methods some row
abbrev pub outline : List ClassView → State
outline classes = record {
  classes = classes_by_name classes;
  methods = λ name side. map.from_entries (list_map (λ m. (selector_of m, record { category = []; source = [] })) (filter (is_on name side) (imaged_methods classes)));
}

abbrev pub state_row_of : ImagedMethod → List ℕ → MethodRow
state_row_of m source = record { category = m.method.heading.category; source = source }

abbrev pub placed_row_of : ImagedMethod → List ℕ → PlacedRow
placed_row_of m source = record {
  category = m.method.heading.category;
  source = source;
  from_kernel = m.method.heading.from_kernel;
  position = m.method.heading.position;
  length = m.method.heading.length;
}

-- a method with its source
abbrev pub Sourced : Type 0
Sourced = ImagedMethod × List ℕ

abbrev pub with_sources : List ImagedMethod → List (List ℕ) → List Sourced
with_sources [] sources = []
with_sources (m ∷ methods) [] = []
with_sources (m ∷ methods) (s ∷ sources) = (m, s) ∷ with_sources methods sources

abbrev pub coded_row_of : Sourced → CodedRow
coded_row_of p = record { row = placed_row_of p.0 p.1; code = p.0.method.code }

-- the classes of an image, and its methods with these sources
abbrev pub coded_state : List ClassView → List (List ℕ) → CodedState
coded_state classes sources = record {
  classes = classes_by_name classes;
  methods = λ name side. map.from_entries (list_map (λ p. (selector_of p.0, coded_row_of p)) (filter (λ p. is_on name side p.0) (with_sources (imaged_methods classes) sources)));
}

-- ---- a source

-- it is the text of a chunk, isn't too long, and is a method of this selector that fits
pub record IsFitting (selector text : List ℕ) (source : SourceParts) : Type 0 where
  pub text_is : source.text ≡ text
  pub chunk : IsChunkText text
  pub short : length text ≤ 65535
  pub selector_is : source.selector ≡ Ok selector
  pub check : IsCheckOf text (Ok selector)

abbrev pub Fits : List ℕ → List ℕ → Type 0
Fits selector text = IsChunkText text × (length text ≤ 65535) × IsCheckOf text (Ok selector)

abbrev pub FindsSource : List ℕ → List ℕ → Option SourceParts → Type 0
FindsSource selector text None = Fits selector text → ⊥
FindsSource selector text (Some source) = IsFitting selector text source

-- ---- a change

-- it is accepted
abbrev pub Accepts : SystemState → Change → Type 0
Accepts system change = (state : State) × IsSystemOf system state × IsAccepted (accept change state)

-- this is the system behind it, where its block begins at place 0 of the log
pub record Works (change : Change) (before now : SystemState) : Type 0 where
  pub state : (state : State) → IsSystemOf before state → (after : State) × (accept change state ≡ Ok after) × IsSystemOf now after
  pub placed : (placed : PlacedState) → HasPlaces before placed → (after : PlacedState) × (accept_placed change 0 placed ≡ Ok after) × HasPlaces now after

-- the sources of its methods stand at some places
abbrev pub HasSomePlaces : SystemState → Type 0
HasSomePlaces system = (placed : PlacedState) × HasPlaces system placed

-- ---- one method

abbrev pub method_change : ImagedMethod → SourceParts → Change
method_change m source = Method (record { class_name = m.class_name; side = m.side; category = m.method.heading.category; source = source })

-- its class is there, and with it there aren't too many
pub record MayPut (m : ImagedMethod) (system : SystemState) : Type 0 where
  pub state : State
  pub is : IsSystemOf system state
  pub class : map.contains_key state.classes m.class_name ≡ true
  pub few : len_with (selector_of m) (state.methods m.class_name m.side) ≤ 16384

-- this is the system with the method under this source
pub record Puts (m : ImagedMethod) (source : List ℕ) (before now : SystemState) : Type 0 where
  pub classes : now.table.classes ≡ before.table.classes
  pub number : ℕ
  pub numbered : HasNumber now m.class_name number
  pub state : (state : State) → IsSystemOf before state → IsSystemOf now (put_method m.class_name m.side (selector_of m) (state_row_of m source) state)
  pub placed : (placed : PlacedState) → HasPlaces before placed → HasPlaces now (put_method m.class_name m.side (selector_of m) (placed_row_of m source) placed)

-- the source is that of the method, which is put; or it isn't
abbrev pub Resumed : ImagedMethod → List ℕ → SystemState → SystemState → Bool → Type 0
Resumed m source before now true = IsSourceOf before.table.classes m source × Puts m source before now × AreCodes now.table now.methods
Resumed m source before now false = IsSourceOf before.table.classes m source → ⊥

-- ---- all methods

-- the system has the classes of the image, and no methods but at the places of the image's
pub record IsBegun (classes : List ClassView) (system : SystemState) : Type 0 where
  pub state : State
  pub is : IsSystemOf system state
  pub placed : PlacedState
  pub has_places : HasPlaces system placed
  pub classes_are : state.classes ≡ classes_by_name classes
  pub within : (name : Name) (side : Side) (selector : List ℕ) → map.contains_key (state.methods name side) selector ≡ true → map.contains_key ((outline classes).methods name side) selector ≡ true

-- the same, where so many of the methods have their sources
pub record IsOnWay (classes : List ClassView) (methods : List Sourced) (done : ℕ) (system : SystemState) : Type 0 where
  pub state : State
  pub is : IsSystemOf system state
  pub placed : PlacedState
  pub has_places : HasPlaces system placed
  pub classes_are : state.classes ≡ classes_by_name classes
  pub within : (name : Name) (side : Side) (selector : List ℕ) → map.contains_key (state.methods name side) selector ≡ true → map.contains_key ((outline classes).methods name side) selector ≡ true
  pub codes : 0 < done → AreCodes system.table system.methods
  pub put : (k : ℕ) (p : Sourced) → k < done → slice_get methods k ≡ Some p
      → IsSourceOf (classes_by_name classes) p.0 p.1 × (map.get (placed.methods p.0.class_name p.0.side) (selector_of p.0) ≡ Some (placed_row_of p.0 p.1))
