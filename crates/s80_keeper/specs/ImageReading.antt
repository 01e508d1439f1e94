-- How the start reads an image.
use Rattle.std.specs.Prelude.{◌≡◌, ◌⊎◌, ◌<◌, ◌≤◌, ◌&&◌, ◌++◌, ℕ, Bool, List, [], ◌∷◌, nat_lt, length, Result, Ok, Err, ⊤}
use Rattle.std.specs.List.{flat_map, list_all}
use Rattle.s80_disk.specs.Image.{Image}
use Rattle.s80_mark.specs.declared.mark.MarkState.{MarkState}
use Rattle.s80_apply.specs.Placed.{PlacedRow}
use Rattle.s80_apply.specs.Source.{StandsAt}
use Rattle.s80_apply.specs.System.{SystemState}
use Rattle.s80_history.specs.History.{HistoryState}
use Rattle.s80_image.specs.Classes.{ClassView}
use Rattle.s80_image.specs.History.{VersionsView}
use Rattle.s80_image.specs.Image.{ImageView, view_of}
use Rattle.s80_image.specs.Methods.{MethodView}
use Rattle.s80_image.specs.Together.{IsLawfulImage}
use Rattle.s80_image.specs.declared.fault.ImageFault.{ImageFault}
use Rattle.s80_image.specs.declared.fault.ImageFault.TheVariants as image_faults
use Rattle.s80_image.specs.declared.image.Image.{Image as ImageInMemory}
use Rattle.s80_log.specs.declared.read.BlockFault.{BlockFault}
use Rattle.s80_log.specs.declared.read.BlockFault.TheVariants as block_faults
use Rattle.s80_snapshot.specs.Restored.{IsHistoryIn}
use Rattle.s80_snapshot.specs.Sources.{AreSourcesOf, IsResumed}
use Rattle.s80_keeper.specs.declared.begin.Begun.{Begun}
use Rattle.s80_keeper.specs.declared.start.Damage.TheVariants.{ImageShort, BadImage}
use Rattle.s80_keeper.specs.declared.start.StartFault.{StartFault}
use Rattle.s80_keeper.specs.declared.start.StartFault.TheVariants as faults
use Rattle.s80_keeper.specs.Beginning.{AreBelow, IsDecoded, IsRefused}
use Rattle.s80_keeper.specs.Imaged.{image_file, image_part}

-- ---- bytes

abbrev pub length_of_image : Image → MarkState → ℕ
length_of_image files mark = length (files (image_file mark.image))

-- what the mark takes of the image; or the file is shorter
abbrev pub IsImageRead : {A : Type 0} → (A → List ℕ) → Image → MarkState → Result A StartFault → Type 0
IsImageRead view files mark (Ok bytes) = (mark.image_length ≤ length_of_image files mark) × (view bytes ≡ image_part mark files)
IsImageRead view files mark (Err (faults.Damaged (ImageShort marked found))) = (marked ≡ mark.image_length) × (found ≡ length_of_image files mark) × (found < marked)
IsImageRead view files mark (Err (faults.Damaged _)) = ⊥
IsImageRead view files mark (Err faults.Memory) = ⊤
IsImageRead view files mark (Err (faults.Disk failed)) = ⊤

-- the image that bytes are, or where it shows that they aren't
abbrev pub DecodesTo : List ℕ → Result ImageInMemory StartFault → Type 0
DecodesTo bytes (Ok image) = IsDecoded bytes (view_of image)
DecodesTo bytes (Err (faults.Damaged (BadImage place))) = IsRefused bytes place
DecodesTo bytes (Err (faults.Damaged _)) = ⊥
DecodesTo bytes (Err faults.Memory) = ⊤
DecodesTo bytes (Err (faults.Disk failed)) = ⊥

-- what the fault of an image of so many bytes is for a start
abbrev pub fault_of_image : ℕ → ImageFault → StartFault
fault_of_image size image_faults.Memory = faults.Memory
fault_of_image size image_faults.Short = faults.Damaged (BadImage size)
fault_of_image size (image_faults.Field place value) = faults.Damaged (BadImage place)
fault_of_image size (image_faults.Unverified class selector) = faults.Damaged (BadImage size)

-- the image, and how many bytes it has
abbrev pub IsImageFound : Image → MarkState → Result (ImageInMemory × ℕ) StartFault → Type 0
IsImageFound files mark (Ok found) = (mark.image_length ≤ length_of_image files mark) × IsDecoded (image_part mark files) (view_of found.0) × (found.1 ≡ length (image_part mark files))
IsImageFound files mark (Err (faults.Damaged (ImageShort marked found))) = (marked ≡ mark.image_length) × (found ≡ length_of_image files mark) × (found < marked)
IsImageFound files mark (Err (faults.Damaged (BadImage place))) = (mark.image_length ≤ length_of_image files mark) × IsRefused (image_part mark files) place
IsImageFound files mark (Err (faults.Damaged _)) = ⊥
IsImageFound files mark (Err faults.Memory) = ⊤
IsImageFound files mark (Err (faults.Disk failed)) = ⊤

-- ---- places

abbrev pub places_below : ℕ → VersionsView → Bool
places_below position versions = list_all (λ at. nat_lt at position) versions.places

-- whether all places that an image tells are below this one
abbrev pub are_below : ℕ → ImageView → Bool
are_below position image = list_all (λ m. nat_lt m.at position) image.change_set && list_all (places_below position) image.versions

-- an image of so many bytes tells no more changes than its position in the log, and no place from there on; or else it is damaged at its end
abbrev pub ArePlacesLawful : {T : Type 0} → ℕ → ImageView → ℕ → Result T StartFault → Type 0
ArePlacesLawful position image size (Ok done) = (image.count ≤ position) × AreBelow position image
ArePlacesLawful position image size (Err (faults.Damaged (BadImage place))) = (place ≡ size) × (image.count ≤ position → AreBelow position image → ⊥)
ArePlacesLawful position image size (Err (faults.Damaged _)) = ⊥
ArePlacesLawful position image size (Err faults.Memory) = ⊥
ArePlacesLawful position image size (Err (faults.Disk failed)) = ⊥

-- ---- sources

abbrev pub methods_of_class : ClassView → List MethodView
methods_of_class class = class.instance ++ class.class

abbrev pub methods_in : List ClassView → List MethodView
methods_in classes = flat_map methods_of_class classes

abbrev pub row_at : MethodView → List ℕ → PlacedRow
row_at m source = record {
  category = m.heading.category;
  source = source;
  from_kernel = m.heading.from_kernel;
  position = m.heading.position;
  length = m.heading.length;
}

-- the places of methods hold these sources, each its own
abbrev pub HoldSources : List ℕ → List MethodView → List (List ℕ) → Type 0
HoldSources log [] [] = Unit {0}
HoldSources log [] (s ∷ ss) = ⊥
HoldSources log (m ∷ ms) [] = ⊥
HoldSources log (m ∷ ms) (s ∷ ss) = StandsAt log (row_at m s) × HoldSources log ms ss

-- the source that the place of a method holds; or it holds none, and the image of so many bytes is damaged at its end
abbrev pub IsSourceAt : List ℕ → MethodView → ℕ → Result (List ℕ) StartFault → Type 0
IsSourceAt log m size (Ok source) = StandsAt log (row_at m source)
IsSourceAt log m size (Err (faults.Damaged (BadImage place))) = (place ≡ size) × ((source : List ℕ) → StandsAt log (row_at m source) → ⊥)
IsSourceAt log m size (Err (faults.Damaged _)) = ⊥
IsSourceAt log m size (Err faults.Memory) = ⊤
IsSourceAt log m size (Err (faults.Disk failed)) = ⊤

-- those of several methods were put behind others
abbrev pub HasAdded : List ℕ → List MethodView → List (List ℕ) → List (List ℕ) → Type 0
HasAdded log ms before now = (more : List (List ℕ)) × (now ≡ before ++ more) × HoldSources log ms more

abbrev pub AddsSources : {T : Type 0} → List ℕ → List MethodView → ℕ → List (List ℕ) → List (List ℕ) → Result T StartFault → Type 0
AddsSources log ms size before now (Ok done) = HasAdded log ms before now
AddsSources log ms size before now (Err (faults.Damaged (BadImage place))) = (place ≡ size) × ((ss : List (List ℕ)) → HoldSources log ms ss → ⊥)
AddsSources log ms size before now (Err (faults.Damaged _)) = ⊥
AddsSources log ms size before now (Err faults.Memory) = ⊤
AddsSources log ms size before now (Err (faults.Disk failed)) = ⊤

-- and alone
abbrev pub AreSources : {A : Type 0} → List ℕ → List MethodView → ℕ → (A → List (List ℕ)) → Result A StartFault → Type 0
AreSources log ms size view (Ok sources) = HoldSources log ms (view sources)
AreSources log ms size view (Err (faults.Damaged (BadImage place))) = (place ≡ size) × ((ss : List (List ℕ)) → HoldSources log ms ss → ⊥)
AreSources log ms size view (Err (faults.Damaged _)) = ⊥
AreSources log ms size view (Err faults.Memory) = ⊤
AreSources log ms size view (Err (faults.Disk failed)) = ⊤

-- what a fault of reading a source is for an image of so many bytes
abbrev pub unread_fault : ℕ → BlockFault → StartFault
unread_fault size block_faults.Memory = faults.Memory
unread_fault size (block_faults.Disk failed) = faults.Disk failed
unread_fault size (block_faults.Bad place) = faults.Damaged (BadImage size)

-- ---- what is restored

-- the system of an image with these sources, and its history; or they aren't those of its methods
abbrev pub IsRestored : ImageView → List (List ℕ) → ℕ → Result (SystemState × HistoryState) StartFault → Type 0
IsRestored image sources size (Ok found) = AreSourcesOf image.classes sources × IsResumed image.classes sources found.0 × IsHistoryIn image found.1
IsRestored image sources size (Err (faults.Damaged (BadImage place))) = (place ≡ size) × (AreSourcesOf image.classes sources → ⊥)
IsRestored image sources size (Err (faults.Damaged _)) = ⊥
IsRestored image sources size (Err faults.Memory) = ⊤
IsRestored image sources size (Err (faults.Disk failed)) = ⊥

-- what is begun with, of an image and with the sources that its methods have in this log
pub record RestoresSo (files : Image) (mark : MarkState) (log : List ℕ) (found : Begun) : Type 0 where
  pub image : ImageView
  pub long : mark.image_length ≤ length_of_image files mark
  pub decoded : IsDecoded (image_part mark files) image
  pub lawful : IsLawfulImage image
  pub count_within : image.count ≤ mark.image_position
  pub below : AreBelow mark.image_position image
  pub sources : List (List ℕ)
  pub held : HoldSources log (methods_in image.classes) sources
  pub fit : AreSourcesOf image.classes sources
  pub system : IsResumed image.classes sources found.system
  pub history : IsHistoryIn image found.history
  pub count : found.count ≡ image.count
  pub at : found.at ≡ mark.image_position

-- no sources are held, or those that are aren't the methods' own
abbrev pub IsUnsound : MarkState → List ℕ → ImageView → Type 0
IsUnsound mark log image = image.count ≤ mark.image_position → AreBelow mark.image_position image → (sources : List (List ℕ)) → HoldSources log (methods_in image.classes) sources → AreSourcesOf image.classes sources → ⊥

abbrev pub IsBegunWith : Image → MarkState → List ℕ → Result Begun StartFault → Type 0
IsBegunWith files mark log (Ok found) = RestoresSo files mark log found
IsBegunWith files mark log (Err (faults.Damaged (ImageShort marked found))) = (marked ≡ mark.image_length) × (found ≡ length_of_image files mark) × (found < marked)
IsBegunWith files mark log (Err (faults.Damaged (BadImage place))) =
    (mark.image_length ≤ length_of_image files mark)
    × (IsRefused (image_part mark files) place ⊎ ((place ≡ length (image_part mark files)) × ((image : ImageView) × IsDecoded (image_part mark files) image × IsUnsound mark log image)))
IsBegunWith files mark log (Err (faults.Damaged _)) = ⊥
IsBegunWith files mark log (Err faults.Memory) = ⊤
IsBegunWith files mark log (Err (faults.Disk failed)) = ⊤
