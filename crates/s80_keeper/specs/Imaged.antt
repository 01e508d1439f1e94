-- The image that a mark names.
use Rattle.std.specs.Prelude.{◌≡◌, ◌≢◌, ◌⊎◌, ◌++◌, ◌==◌, ℕ, List, length, take, if◌then◌else◌}
use Rattle.s80_change.specs.declared.change.Change.{Change}
use Rattle.s80_change.specs.Block.{blocks}
use Rattle.s80_disk.specs.declared.disk.FileId.{FileId}
use Rattle.s80_disk.specs.declared.disk.FileId.TheVariants.{Image0, Image1}
use Rattle.s80_disk.specs.Image.{Image}
use Rattle.s80_image.specs.Image.{ImageView, image_bytes}
use Rattle.s80_image.specs.Together.{IsLawfulImage}
use Rattle.s80_mark.specs.declared.mark.MarkState.{MarkState}
use Rattle.s80_snapshot.specs.OfList.{IsImageOf}

-- a mark that names no image
abbrev pub NamesNoImage : MarkState → Type 0
NamesNoImage mark = mark.image ≡ 255

abbrev pub image_file : ℕ → FileId
image_file number = if number == 0 then Image0 else Image1

-- the bytes that a mark takes of the image that it names
abbrev pub image_part : MarkState → Image → List ℕ
image_part mark files = take mark.image_length (files (image_file mark.image))

-- The file that the mark names begins with the image of a front of the list, whose blocks end at the place that the mark says.
pub record BeginsWithImage (files : Image) (mark : MarkState) (changes : List Change) : Type 0 where
  pub front : List Change
  pub behind : List Change
  pub parts : changes ≡ front ++ behind
  pub position : mark.image_position ≡ length (blocks front)
  pub image : ImageView
  pub lawful : IsLawfulImage image
  pub of_front : IsImageOf front image
  pub whole : mark.image_length ≡ length (image_bytes image)
  pub bytes : image_part mark files ≡ image_bytes image

-- the mark names no image, or one that is there
abbrev pub HasImage : Image → MarkState → List Change → Type 0
HasImage files mark changes = NamesNoImage mark ⊎ BeginsWithImage files mark changes

-- So it is on a disk, and every crash now leaves the marked part of the image as it reads.
pub record KeepsImage (reads : Image) (may_leave : Image → Type 0) (mark : MarkState) (changes : List Change) : Type 0 where
  pub has : HasImage reads mark changes
  pub stays : mark.image ≢ 255 → (c : Image) → may_leave c → image_part mark c ≡ image_part mark reads
