-- The sources of an image's methods, and what they have to be.
use Rattle.std.specs.Prelude.{◌≡◌, ◌≤◌, ℕ, List, [], ◌∷◌, ◌++◌, map as list_map, length, Option, Some, None, Ok}
use Rattle.std.specs.List.{flat_map}
use Rattle.s80_base.specs.declared.names.Side.{Side}
use Rattle.s80_base.specs.declared.names.Side.TheVariants.{Instance, Class}
use Rattle.s80_chunk.specs.Chunks.{IsChunkText}
use Rattle.s80_code.specs.declared.code.Code.{Code}
use Rattle.s80_change.specs.Check.{IsCheckOf}
use Rattle.s80_class.specs.Classes.{Name, Classes}
use Rattle.s80_method.specs.Code.{IsMethodCode}
use Rattle.s80_apply.specs.System.{IsSystemBy, SystemState}
use Rattle.s80_image.specs.Classes.{ClassView}
use Rattle.s80_image.specs.Methods.{MethodView, code_of}
use Rattle.s80_image.specs.Together.{classes_by_name}
use Rattle.s80_snapshot.specs.Pictured.{CodedState, classes_view, coded_row, sources_of}

-- a method of an image, with its class and its side
pub record ImagedMethod : Type 0 where
  pub class_name : Name
  pub side : Side
  pub method : MethodView

abbrev pub methods_on : ClassView → Side → List MethodView → List ImagedMethod
methods_on class side methods = list_map (λ m. record { class_name = class.heading.name; side = side; method = m }) methods

-- all methods of an image, in its order
abbrev pub imaged_methods : List ClassView → List ImagedMethod
imaged_methods classes = flat_map (λ c. methods_on c Instance c.instance ++ methods_on c Class c.class) classes

-- The source is the text of a chunk of at most 65,535 bytes, and a method of this selector that fits, whose code in its class is the image's.
pub record IsSourceOf (classes : Classes) (m : ImagedMethod) (source : List ℕ) : Type 0 where
  pub text : IsChunkText source
  pub short : length source ≤ 65535
  pub check : IsCheckOf source (Ok m.method.heading.selector)
  pub code : Code
  pub code_is : code_of code ≡ m.method.code
  pub compiled : IsMethodCode classes m.class_name m.side m.method.heading.selector source code

-- these are as many sources as there are methods, each that of its method
abbrev pub AreEachs : Classes → List ImagedMethod → List (List ℕ) → Type 0
AreEachs classes [] [] = Unit {0}
AreEachs classes [] (s ∷ ss) = ⊥
AreEachs classes (m ∷ ms) [] = ⊥
AreEachs classes (m ∷ ms) (s ∷ ss) = IsSourceOf classes m s × AreEachs classes ms ss

abbrev pub AreSourcesOf : List ClassView → List (List ℕ) → Type 0
AreSourcesOf classes sources = AreEachs (classes_by_name classes) (imaged_methods classes) sources

-- the system has the classes and methods of an image, with these sources
pub record IsResumed (classes : List ClassView) (sources : List (List ℕ)) (system : SystemState) : Type 0 where
  pub state : CodedState
  pub shown : IsSystemBy coded_row system state
  pub by_name : state.classes ≡ classes_by_name classes
  pub classes_are : classes ≡ classes_view state
  pub sources_are : sources ≡ sources_of (λ m. m.row.source) state

-- what is answered for the sources of an image's methods: the system; or nothing, where one of them isn't that of its method
abbrev pub Resumes : List ClassView → List (List ℕ) → Option SystemState → Type 0
Resumes classes sources None = AreSourcesOf classes sources → ⊥
Resumes classes sources (Some system) = AreSourcesOf classes sources × IsResumed classes sources system
