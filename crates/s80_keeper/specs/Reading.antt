-- How the start reads a log.
use Rattle.std.specs.Prelude.{◌≡◌, ◌≢◌, ◌⊎◌, ◌+◌, ◌<◌, ◌≤◌, ℕ, List, [], ◌++◌, All, length, Some, None, Result, Ok, Err, ⊤}
use Rattle.s80_change.specs.declared.change.Change.{Change}
use Rattle.s80_form.specs.declared.refusal.Refusal.{Refusal}
use Rattle.s80_change.specs.Block.{block, blocks, log_limit, IsLawful, IsList}
use Rattle.s80_form.specs.Refusal.{refusal_number}
use Rattle.s80_disk.specs.Image.{Image}
use Rattle.s80_mark.specs.declared.mark.MarkState.{MarkState}
use Rattle.s80_mark.specs.declared.read.Found.{Found}
use Rattle.s80_mark.specs.declared.read.Found.TheVariants.{Fresh, Mark as Marked}
use Rattle.s80_mark.specs.Mark.{format_two}
use Rattle.s80_mark.specs.Found.{AreLogsEmpty}
use Rattle.s80_apply.specs.State.{State}
use Rattle.s80_apply.specs.System.{SystemState, HasPlaces, IsSystemOf}
use Rattle.s80_apply.specs.Placed.{placed_from, placed_of}
use Rattle.s80_apply.specs.List.{AreAccepted, IsBuilt, state_after, state_from, state_of, refusal_to}
use Rattle.s80_history.specs.History.{HistoryState, IsHistoryOf}
use Rattle.s80_log.specs.Log.{LogEnd, log_file}
use Rattle.s80_log.specs.Standing.{FilesStandFor as StandByMark}
use Rattle.s80_change.specs.Blocks.{BeginsWithNone}
use Rattle.s80_keeper.specs.declared.start.Damage.TheVariants.{LogShort, ImageShort, BadImage, BadBlock, Replay, CountDiffers}
use Rattle.s80_keeper.specs.declared.start.StartFault.{StartFault}
use Rattle.s80_keeper.specs.declared.start.StartFault.TheVariants as faults
use Rattle.s80_image.specs.Image.{ImageView, image_bytes}
use Rattle.s80_image.specs.Together.{IsLawfulImage}
use Rattle.s80_snapshot.specs.OfList.{IsImageOf}
use Rattle.s80_keeper.specs.declared.begin.Begun.{Begun}
use Rattle.s80_keeper.specs.Beginning.{Beginning, Begins, IsBadImage}
use Rattle.s80_keeper.specs.Imaged.{HasImage, NamesNoImage, image_file, image_part}
use Rattle.s80_keeper.specs.Start.{HasMark, IsDamage}

-- the logs are empty, or this is the valid mark, or what is wrong with it; it takes no memory to say so
abbrev pub IsFound : Image → Result Found StartFault → Type 0
IsFound files (Ok Fresh) = AreLogsEmpty files
IsFound files (Ok (Marked mark)) = HasMark files mark
IsFound files (Err (faults.Damaged damage)) = IsDamage files damage
IsFound files (Err faults.Memory) = ⊥
IsFound files (Err (faults.Disk failed)) = ⊤

-- whether a log's file is as long as what counts of it
abbrev pub IsLengthChecked : {T : Type 0} → Image → LogEnd → Result T StartFault → Type 0
IsLengthChecked files log (Ok done) = log.end ≤ length (files (log_file log.number))
IsLengthChecked files log (Err (faults.Damaged (LogShort marked found))) = (marked ≡ log.end) × (found ≡ length (files (log_file log.number))) × (found < marked)
IsLengthChecked files log (Err (faults.Damaged _)) = ⊥
IsLengthChecked files log (Err faults.Memory) = ⊥
IsLengthChecked files log (Err (faults.Disk failed)) = ⊤

-- whether a mark, if it counts the changes, counts as many as are found; neither memory nor the disk is asked
abbrev pub IsCountChecked : {T : Type 0} → MarkState → ℕ → Result T StartFault → Type 0
IsCountChecked mark count (Ok done) = mark.format ≡ format_two → mark.count ≡ count
IsCountChecked mark count (Err (faults.Damaged (CountDiffers marked found))) = (mark.format ≡ format_two) × (marked ≡ mark.count) × (found ≡ count) × (marked ≢ found)
IsCountChecked mark count (Err (faults.Damaged _)) = ⊥
IsCountChecked mark count (Err faults.Memory) = ⊥
IsCountChecked mark count (Err (faults.Disk failed)) = ⊥

-- what a start begins with, at work: it has the state and the places of its sources, and goes on at this place, behind so many changes
pub record HasBegun (begun : Beginning) (found : Begun) : Type 0 where
  pub system : IsSystemOf found.system begun.state
  pub places : HasPlaces found.system begun.placed
  pub at : found.at ≡ begun.position
  pub count : found.count ≡ begun.count

-- it has taken in these changes as well
pub record HasReached (begun : Beginning) (before : HistoryState) (changes : List Change) (found : Begun) : Type 0 where
  pub system : IsSystemOf found.system (state_from begun.state changes)
  pub places : HasPlaces found.system (placed_from begun.placed begun.position changes)
  pub count : found.count ≡ begun.count + length changes
  pub history : (front : List Change) → All IsLawful (front ++ changes) → begun.position ≡ length (blocks front) → IsHistoryOf before front → IsHistoryOf found.history (front ++ changes)

-- the bytes begin with the blocks of these changes, each of which is accepted, and which a log may have behind what is begun with
pub record AreBehind (begun : Beginning) (bytes : List ℕ) (changes : List Change) (rest : List ℕ) : Type 0 where
  pub lawful : All IsLawful changes
  pub accepted : AreAccepted begun.state changes
  pub within : changes ≢ [] → begun.position + length (blocks changes) ≤ log_limit
  pub bytes_are : bytes ≡ blocks changes ++ rest

-- what the changes whose blocks bytes are make of what is begun with, which has this history; or what is wrong with them
abbrev pub AreReplayed : Beginning → HistoryState → List ℕ → Result Begun StartFault → Type 0
AreReplayed begun history bytes (Ok found) = (changes : List Change) × AreBehind begun bytes changes [] × HasReached begun history changes found
AreReplayed begun history bytes (Err (faults.Damaged (BadBlock place))) =
    (changes : List Change) × (rest : List ℕ) × AreBehind begun bytes changes rest × (place ≡ begun.position + length (blocks changes)) × (rest ≢ []) × BeginsWithNone rest
AreReplayed begun history bytes (Err (faults.Damaged (Replay place number))) =
    (changes : List Change) × (change : Change) × (rest : List ℕ) × (refusal : Refusal) × AreBehind begun bytes changes (block change ++ rest) × (place ≡ begun.position + length (blocks changes)) × IsLawful change
    × (refusal_to (state_from begun.state changes) place change ≡ Some refusal) × (number ≡ refusal_number refusal)
AreReplayed begun history bytes (Err (faults.Damaged _)) = ⊥
AreReplayed begun history bytes (Err faults.Memory) = ⊤
AreReplayed begun history bytes (Err (faults.Disk failed)) = ⊤

-- the image that a mark names, where it names one, is that of this list; where it names none the list is empty
abbrev pub IsFront : Image → MarkState → List Change → Type 0
IsFront files mark front =
    (NamesNoImage mark × (front ≡ [])) ⊎ ((mark.image ≢ 255) × IsList front × ((image : ImageView) × (image_part mark files ≡ image_bytes image) × IsLawfulImage image × IsImageOf front image))

-- what a start begins with, where the log is as long as the mark says; the history is that of the list whose image the mark names
pub record BeginsSo (files : Image) (mark : MarkState) (found : Begun) : Type 0 where
  pub begun : Beginning
  pub begins : Begins files mark begun
  pub imaged : mark.image ≢ 255 → mark.image_length ≤ length (files (image_file mark.image))
  pub has : HasBegun begun found
  pub history : (front : List Change) → IsFront files mark front → IsHistoryOf found.history front

abbrev pub IsBegun : Image → MarkState → Result Begun StartFault → Type 0
IsBegun files mark (Ok found) = BeginsSo files mark found
IsBegun files mark (Err (faults.Damaged (ImageShort marked found))) = (mark.image ≢ 255) × (marked ≡ mark.image_length) × (found ≡ length (files (image_file mark.image))) × (found < marked)
IsBegun files mark (Err (faults.Damaged (BadImage place))) = (mark.image ≢ 255) × (mark.image_length ≤ length (files (image_file mark.image))) × IsBadImage files mark place
IsBegun files mark (Err (faults.Damaged _)) = ⊥
IsBegun files mark (Err faults.Memory) = ⊤
IsBegun files mark (Err (faults.Disk failed)) = ⊤

-- after the change of a block that begins at this place was to be accepted in this state
abbrev pub Accepts : {T : Type 0} → State → SystemState → ℕ → Change → Result T StartFault → Type 0
Accepts before now at change (Ok done) = (refusal_to before at change ≡ None) × IsSystemOf now (state_after change before)
Accepts before now at change (Err (faults.Damaged (Replay place number))) = (refusal : Refusal) × (refusal_to before at change ≡ Some refusal) × (place ≡ at) × (number ≡ refusal_number refusal)
Accepts before now at change (Err (faults.Damaged _)) = ⊥
Accepts before now at change (Err faults.Memory) = ⊤
Accepts before now at change (Err (faults.Disk failed)) = ⊥

-- what a list makes, as it is begun with
abbrev pub beginning_of : List Change → Beginning
beginning_of front = record { state = state_of front; placed = placed_of front; position = length (blocks front); count = length front }

-- the files begin with what a front of the list makes
pub record BeginsAsFront (files : Image) (mark : MarkState) (changes : List Change) : Type 0 where
  pub front : List Change
  pub behind : List Change
  pub parts : changes ≡ front ++ behind
  pub begins : Begins files mark (beginning_of front)
  pub is_front : IsFront files mark front

-- where files stand for a list by a mark, they begin so
abbrev pub ListsBegin : Type 0
ListsBegin = (files : Image) (mark : MarkState) (changes : List Change) → StandByMark files mark changes → HasImage files mark changes → IsBuilt changes → BeginsAsFront files mark changes
