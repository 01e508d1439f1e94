-- What a snapshot answers, and what it leaves.
use Rattle.std.specs.Prelude.{◌≡◌, ◌≢◌, ◌==◌, ◌++◌, ◌∷◌, [], ℕ, Bool, List, length, codes, Some, Result, Ok, Err, if◌then◌else◌}
use Rattle.s80_change.specs.declared.change.Change.{Change}
use Rattle.s80_change.specs.declared.change.Change.TheVariants.{DoIt}
use Rattle.s80_change.specs.Block.{block}
use Rattle.s80_disk.specs.declared.disk.FileId.{FileId}
use Rattle.s80_disk.specs.declared.disk.FileId.TheVariants.{Mark}
use Rattle.s80_disk.specs.Image.{Image}
use Rattle.s80_image.specs.Image.{ImageView, image_bytes}
use Rattle.s80_image.specs.Together.{IsLawfulImage}
use Rattle.s80_log.specs.Commit.{imaged_mark}
use Rattle.s80_snapshot.specs.OfList.{IsImageOf}
use Rattle.s80_keeper.specs.declared.keep.KeepFault.{KeepFault}
use Rattle.s80_keeper.specs.declared.keep.KeepFault.TheVariants as faults
use Rattle.s80_keeper.specs.Answers.{longer, one_more}
use Rattle.s80_keeper.specs.Keeper.{KeeperState, Keeps}
use Rattle.s80_keeper.specs.Standing.{ReadsForEither}

-- what a snapshot puts behind the list: a doIt that no chunk can be
abbrev pub note : Change
note = DoIt (codes "\"----SNAPSHOT----\"")

-- the image that isn't in use: the first where none is
abbrev pub other_image : ℕ → ℕ
other_image image = if image == 0 then 1 else 0

-- the bytes are the image of this list
pub record IsImageText (changes : List Change) (bytes : List ℕ) : Type 0 where
  pub image : ImageView
  pub lawful : IsLawfulImage image
  pub of_list : IsImageOf changes image
  pub spelled : bytes ≡ image_bytes image

-- a keeper once its log is committed by a mark that names the other image, which has so many bytes
abbrev pub imaged : KeeperState → ℕ → KeeperState
imaged keeper size = record keeper { mark = imaged_mark keeper.mark keeper.log keeper.count (other_image keeper.mark.image) size }

-- The note stands behind the list, and the mark names the other image, which has so many bytes.
pub record HasSnapped (before now : KeeperState) : Type 0 where
  pub log : now.log ≡ longer before.log (length (block note))
  pub count : now.count ≡ one_more before.count
  pub size : ℕ
  pub mark : now.mark ≡ imaged_mark before.mark now.log now.count (other_image before.mark.image) size
  pub fault : now.fault ≡ before.fault

-- after a snapshot the disk stands for the list with the note; or all is as before; or the disk failed, and has the one list or the other
abbrev pub Snapped : Result (Unit {0}) KeepFault → Bool → Image → (Image → Type 0) → KeeperState → List Change → Type 0
Snapped (Ok done) tells reads may_leave keeper changes = Keeps tells reads may_leave keeper (changes ++ note ∷ []) (changes ++ note ∷ [])
Snapped (Err faults.Memory) tells reads may_leave keeper changes = Keeps tells reads may_leave keeper changes changes
Snapped (Err (faults.Full count)) tells reads may_leave keeper changes = Keeps tells reads may_leave keeper changes changes
Snapped (Err (faults.Disk failed)) tells reads may_leave keeper changes = ReadsForEither tells reads may_leave changes (changes ++ note ∷ [])
Snapped (Err (faults.Closed failed)) tells reads may_leave keeper changes = ⊥
Snapped (Err (faults.Damaged damage)) tells reads may_leave keeper changes = ⊥

-- the keeper after a snapshot
abbrev pub AfterSnapshot : Result (Unit {0}) KeepFault → KeeperState → KeeperState → Type 0
AfterSnapshot (Ok done) before now = HasSnapped before now
AfterSnapshot (Err (faults.Disk failed)) before now = now.fault ≡ Some failed
AfterSnapshot (Err (faults.Closed failed)) before now = now ≡ before
AfterSnapshot (Err faults.Memory) before now = now.fault ≡ before.fault
AfterSnapshot (Err (faults.Full count)) before now = now.fault ≡ before.fault
AfterSnapshot (Err (faults.Damaged damage)) before now = ⊥

-- This much is told, and but for the mark, one log and one image the files are those of an image that a crash might leave before.
pub record LeavesApart (before : Image → Type 0) (told_before : ℕ) (log image : FileId) (told : ℕ) (c : Image) : Type 0 where
  pub told_is : told ≡ told_before
  pub left : Image
  pub was : before left
  pub others : (other : FileId) → other ≢ Mark → other ≢ log → other ≢ image → c other ≡ left other
