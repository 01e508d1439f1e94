-- Classes and methods as an image has them.
use Rattle.std.specs.Prelude.{◌≡◌, ◌<◌, ◌^◌, ℕ, List, [], ◌++◌, length, All, map as list_map, reverse, unwrap_or}
use Rattle.std.specs.List.{flat_map}
use Rattle.std.specs.FinMap as map
use Rattle.s80_base.specs.declared.names.Side.{Side}
use Rattle.s80_base.specs.declared.names.Side.TheVariants.{Instance, Class}
use Rattle.s80_dict.specs.Dict.{Methods}
use Rattle.s80_class.specs.Classes.{Name, ClassRow}
use Rattle.s80_history.specs.History.{HistoryState, version_places}
use Rattle.s80_history.specs.Lists.{MethodName}
use Rattle.s80_history.specs.Order.{AreMethodsOf}
use Rattle.s80_apply.specs.Entries.{Entry, row_in}
use Rattle.s80_apply.specs.Placed.{PlacedRow}
use Rattle.s80_apply.specs.State.{StateOf}
use Rattle.s80_apply.specs.System.{IsSystemBy, SystemState}
use Rattle.s80_image.specs.declared.image.ClassHeading.{ClassHeading}
use Rattle.s80_image.specs.Classes.{ClassView}
use Rattle.s80_image.specs.History.{VersionsView}
use Rattle.s80_image.specs.Image.{ImageView}
use Rattle.s80_image.specs.Methods.{CodeView, MethodView, code_of}

-- ---- methods with their codes

-- a method with the place of its source, and its code
pub record CodedRow : Type 0 where
  pub row : PlacedRow
  pub code : CodeView

abbrev pub CodedState : Type 0
CodedState = StateOf CodedRow

-- all that a dictionary has of a method
abbrev pub coded_row : Entry → CodedRow
coded_row entry = record { row = row_in entry; code = code_of entry.code }

-- ---- as an image has them

abbrev pub method_view : List ℕ × CodedRow → MethodView
method_view e = record {
  heading = record { selector = e.0; category = e.1.row.category; from_kernel = e.1.row.from_kernel; position = e.1.row.position; length = e.1.row.length };
  code = e.1.code;
}

-- in byte order of their selectors
abbrev pub methods_view : Methods CodedRow → List MethodView
methods_view methods = list_map method_view (map.entries methods)

abbrev pub heading_view : Name → ClassRow → ClassHeading
heading_view name row = record {
  name = name;
  superclass = unwrap_or row.superclass [];
  kind = row.kind;
  variables = record { instance = row.inst_vars; class = row.class_vars; pools = row.pools; class_side = row.class_side_vars };
  category = row.category;
  comment = row.comment;
}

abbrev pub class_view : CodedState → Name × ClassRow → ClassView
class_view state e = record {
  heading = heading_view e.0 e.1;
  instance = methods_view (state.methods e.0 Instance);
  class = methods_view (state.methods e.0 Class);
}

-- in byte order of their names
abbrev pub classes_view : CodedState → List ClassView
classes_view state = list_map (class_view state) (map.entries state.classes)

-- the sources of all methods, in the same order
abbrev pub sources_on : {M : Type 0} → (M → List ℕ) → Methods M → List (List ℕ)
sources_on source methods = list_map (λ e. source e.1) (map.entries methods)

abbrev pub sources_of : {M : Type 0} → (M → List ℕ) → StateOf M → List (List ℕ)
sources_of source state = flat_map (λ e. sources_on source (state.methods e.0 Instance) ++ sources_on source (state.methods e.0 Class)) (map.entries state.classes)

-- the places of a method's versions, the oldest first
abbrev pub versions_view : HistoryState → MethodName → VersionsView
versions_view history name = record { name = name; places = reverse (version_places history name) }

-- ---- systems and their images

-- these are the classes of a system, with their methods
pub record AreClassesOf (system : SystemState) (classes : List ClassView) : Type 0 where
  pub state : CodedState
  pub shown : IsSystemBy coded_row system state
  pub classes_are : classes ≡ classes_view state

-- this is the image of a system and a history, with this number of changes
pub record IsPicture (system : SystemState) (history : HistoryState) (count : ℕ) (image : ImageView) : Type 0 where
  pub count_is : image.count ≡ count
  pub classes : AreClassesOf system image.classes
  pub change_set : image.change_set ≡ history.members
  pub names : List MethodName
  pub those : AreMethodsOf history names
  pub versions : image.versions ≡ list_map (versions_view history) names

-- the lists of an image whose lengths nothing else bounds have fewer than 2^32 members
pub record IsCounted (image : ImageView) : Type 0 where
  pub change_set : length image.change_set < 2 ^ 32
  pub versions : length image.versions < 2 ^ 32
  pub places : All (λ v. length v.places < 2 ^ 32) image.versions
