-- What a start begins with: the kernel's classes and methods, or those of the image that the mark names.
use Rattle.std.specs.Prelude.{◌≡◌, ◌≢◌, ◌⊎◌, ◌<◌, ◌≤◌, ℕ, List, [], ◌∷◌, length, All, None, Ok, Err}
use Rattle.std.specs.FinMap as map
use Rattle.s80_base.specs.declared.names.Side.{Side}
use Rattle.s80_disk.specs.Image.{Image}
use Rattle.s80_mark.specs.declared.mark.MarkState.{MarkState}
use Rattle.s80_class.specs.Classes.{Name}
use Rattle.s80_apply.specs.Placed.{PlacedRow, PlacedState, placed_kernel_state, without_place}
use Rattle.s80_apply.specs.Seen.{AreSeen}
use Rattle.s80_apply.specs.Source.{StandsAt}
use Rattle.s80_apply.specs.State.{State, kernel_state}
use Rattle.s80_image.specs.declared.fault.Fault.TheVariants.{Short, Field}
use Rattle.s80_image.specs.Answers.{AllPass, StopsAt, image_met}
use Rattle.s80_image.specs.Image.{ImageView}
use Rattle.s80_image.specs.Together.{decoded_image}
use Rattle.s80_log.specs.Standing.{marked_part}
use Rattle.s80_snapshot.specs.Pictured.{CodedState, classes_view, sources_of}
use Rattle.s80_snapshot.specs.Sources.{AreSourcesOf, ImagedMethod, imaged_methods}
use Rattle.s80_image.specs.Together.{classes_by_name}
use Rattle.s80_keeper.specs.Imaged.{NamesNoImage, image_part}

-- a state, with the places of its sources; where the changes behind it stand in the log; and how many changes are before them
pub record Beginning : Type 0 where
  pub state : State
  pub placed : PlacedState
  pub position : ℕ
  pub count : ℕ

-- before any change
abbrev pub kernel_beginning : Beginning
kernel_beginning = record { state = kernel_state; placed = placed_kernel_state; position = 0; count = 0 }

-- ---- an image by itself

-- a source that stands at the place which an image tells of a method
abbrev pub row_with : ImagedMethod → List ℕ → PlacedRow
row_with m source = record {
  category = m.method.heading.category;
  source = source;
  from_kernel = m.method.heading.from_kernel;
  position = m.method.heading.position;
  length = m.method.heading.length;
}

-- the places of methods hold these sources, each its own
abbrev pub AreHeld : List ℕ → List ImagedMethod → List (List ℕ) → Type 0
AreHeld log [] [] = Unit {0}
AreHeld log [] (s ∷ ss) = ⊥
AreHeld log (m ∷ ms) [] = ⊥
AreHeld log (m ∷ ms) (s ∷ ss) = StandsAt log (row_with m s) × AreHeld log ms ss

-- all places of blocks that an image tells are below this one
pub record AreBelow (position : ℕ) (image : ImageView) : Type 0 where
  pub change_set : All (λ m. m.at < position) image.change_set
  pub versions : All (λ v. All (λ at. at < position) v.places) image.versions

-- the bytes are those of this image, which is lawful and has verified codes
abbrev pub IsDecoded : List ℕ → ImageView → Type 0
IsDecoded bytes image = (decoded_image bytes ≡ Ok image) × AllPass (image_met bytes)

-- it tells no more changes than its position in the log, no place from there on, and places of sources that are those of its methods
pub record IsConsistent (files : Image) (mark : MarkState) (image : ImageView) (sources : List (List ℕ)) : Type 0 where
  pub count : image.count ≤ mark.image_position
  pub below : AreBelow mark.image_position image
  pub held : AreHeld (marked_part mark files) (imaged_methods image.classes) sources
  pub fit : AreSourcesOf image.classes sources

-- the bytes of an image aren't, and where it shows: at the first field that isn't lawful, or else at their end
abbrev pub IsRefused : List ℕ → ℕ → Type 0
IsRefused bytes place =
    ((value : ℕ) × (decoded_image bytes ≡ Err (Field place value)) × AllPass (image_met bytes))
    ⊎ ((place ≡ length bytes) × (decoded_image bytes ≡ Err Short) × AllPass (image_met bytes))
    ⊎ ((place ≡ length bytes) × ((class selector : Name) × StopsAt class selector (image_met bytes)))

-- they are refused; or they are those of an image that isn't consistent
abbrev pub IsBadImage : Image → MarkState → ℕ → Type 0
IsBadImage files mark place =
    IsRefused (image_part mark files) place
    ⊎ ((place ≡ length (image_part mark files)) × ((image : ImageView) × IsDecoded (image_part mark files) image × ((sources : List (List ℕ)) → IsConsistent files mark image sources → ⊥)))

-- ---- what is begun with

-- the state has the classes and methods of an image, with these sources
pub record IsStateOf (image : ImageView) (sources : List (List ℕ)) (begun : Beginning) : Type 0 where
  pub coded : CodedState
  pub classes_are : image.classes ≡ classes_view coded
  pub by_name : coded.classes ≡ classes_by_name image.classes
  pub sources_are : sources ≡ sources_of (λ m. m.row.source) coded
  pub placed_classes : begun.placed.classes ≡ coded.classes
  pub placed_methods : (name : Name) (side : Side) → AreSeen (λ m. m.row) (coded.methods name side) (begun.placed.methods name side)
  pub classes : begun.state.classes ≡ coded.classes
  pub methods : (name : Name) (side : Side) → AreSeen (λ m. without_place m.row) (coded.methods name side) (begun.state.methods name side)
  -- a name that no class has, has no methods
  pub others : (name : Name) (side : Side) → map.get coded.classes name ≡ None → coded.methods name side ≡ map.empty

-- a consistent image, and what it makes
pub record BeginsWith (files : Image) (mark : MarkState) (begun : Beginning) : Type 0 where
  pub image : ImageView
  pub decoded : IsDecoded (image_part mark files) image
  pub sources : List (List ℕ)
  pub consistent : IsConsistent files mark image sources
  pub state : IsStateOf image sources begun
  pub position : begun.position ≡ mark.image_position
  pub count : begun.count ≡ image.count

-- the kernel's state, where the mark names no image; or else that of the image
abbrev pub Begins : Image → MarkState → Beginning → Type 0
Begins files mark begun = (NamesNoImage mark × (begun ≡ kernel_beginning)) ⊎ ((mark.image ≢ 255) × BeginsWith files mark begun)
