-- A keeper that is made beside the one at work, in the other log, and then takes its place.
use Rattle.std.specs.Prelude.{◌≡◌, ◌≢◌, ◌+◌, ◌≤◌, ℕ, Bool, IsTrue, List, length, None, Result, Ok, Err, ⊤}
use Rattle.s80_change.specs.declared.change.Change.{Change}
use Rattle.s80_change.specs.Block.{block, blocks, log_limit, IsLawful, IsList}
use Rattle.s80_disk.specs.declared.disk.FileId.{FileId}
use Rattle.s80_disk.specs.declared.disk.FileId.TheVariants.{Mark}
use Rattle.s80_disk.specs.Image.{Image}
use Rattle.s80_disk.specs.Moments.{Beside, LeavesOnly}
use Rattle.s80_apply.specs.Accept.{accept}
use Rattle.s80_apply.specs.List.{IsAccepted, IsBuilt, state_of}
use Rattle.s80_apply.specs.Placed.{placed_of}
use Rattle.s80_apply.specs.System.{HasPlaces, IsSystemOf}
use Rattle.s80_history.specs.History.{IsHistoryOf}
use Rattle.s80_log.specs.Commit.{fresh_mark, HoldsBeside, LeavesBeside}
use Rattle.s80_log.specs.Log.{held_in}
use Rattle.s80_keeper.specs.declared.keep.KeepFault.{KeepFault}
use Rattle.s80_keeper.specs.declared.keep.KeepFault.TheVariants as faults
use Rattle.s80_keeper.specs.declared.start.StartFault.{StartFault}
use Rattle.s80_keeper.specs.declared.start.StartFault.TheVariants as start_faults
use Rattle.s80_keeper.specs.Keeper.{KeeperState}
use Rattle.s80_keeper.specs.Imaged.{KeepsImage}

-- The keeper has the classes and methods that these changes make, with the places of their sources, their change set and versions, and counts
-- them; each was accepted by those before it.
pub record HasMade (keeper : KeeperState) (changes : List Change) : Type 0 where
  pub built : IsBuilt changes
  pub system : IsSystemOf keeper.system (state_of changes)
  pub places : HasPlaces keeper.system (placed_of changes)
  pub history : IsHistoryOf keeper.history changes
  pub count : keeper.count ≡ length changes

-- The keeper has what these changes make, and up to its end its log has their blocks, where the disk tells what it reads. What a crash leaves
-- isn't said.
pub record HasWritten (tells : Bool) (reads : Image) (keeper : KeeperState) (done : List Change) : Type 0 where
  pub made : HasMade keeper done
  pub list : IsList done
  pub whole : keeper.log.end ≡ length (blocks done)
  pub bytes : IsTrue tells → held_in reads keeper.log ≡ blocks done

-- The disk stands for the list that is kept, by the mark that the keeper beside has yet, and that keeper has the blocks of these changes in the
-- other log, with what they make.
pub record IsBeside (tells : Bool) (reads : Image) (may_leave : Image → Type 0) (keeper : KeeperState) (kept done : List Change) : Type 0 where
  pub holds : HoldsBeside tells reads may_leave keeper.log keeper.mark kept done
  pub image : KeepsImage reads may_leave keeper.mark kept
  pub kept_built : IsBuilt kept
  pub made : HasMade keeper done
  pub faultless : keeper.fault ≡ None

-- the change may stand behind this list: it is lawful and accepted, and there is room for its block
pub record MayFollow (done : List Change) (change : Change) : Type 0 where
  pub lawful : IsLawful change
  pub accepted : IsAccepted (accept change (state_of done))
  pub within : length (blocks done) + length (block change) ≤ log_limit

-- But for the mark and one log each file reads as before, and a crash at any moment leaves the files of an image that one might have left
-- before; what is told and what is beside the files stay.
pub record IsElsewhere {D : Type 0} (tells : D → Bool) (reads : D → Image) (may_leave : D → Image → Type 0) (moment : D → ℕ) (left_since : D → ℕ → ℕ → Image → Type 0) (beside : D → Beside) (disk_faults : D → ℕ) (log : FileId) (old new : D) : Type 0 where
  pub telling : tells new ≡ tells old
  pub others : (other : FileId) → other ≢ Mark → other ≢ log → reads new other ≡ reads old other
  pub any_moment : LeavesOnly moment left_since old new (LeavesBeside (may_leave old) (beside old).told log (λ c. ⊤))
  pub rest : beside new ≡ beside old
  pub later : disk_faults old ≤ disk_faults new

-- a keeper that has taken in more changes: its mark stays
abbrev pub grown : KeeperState → KeeperState → KeeperState
grown before now = record before {
  log = record before.log { end = now.log.end };
  system = now.system;
  history = now.history;
  count = now.count;
}

-- its log counts alone
pub record CountsAlone (before now : KeeperState) : Type 0 where
  pub log : now.log.number ≡ before.log.number
  pub mark : now.mark ≡ fresh_mark before.mark now.log now.count
  pub fault : now.fault ≡ before.fault

-- This holds of what was made; or that, where memory was wanting; or that, where the disk failed. Nothing else is answered.
abbrev pub ByAnswer : {T : Type 0} → Result T KeepFault → (T → Type 0) → Type 0 → Type 0 → Type 0
ByAnswer (Ok value) done wanting broken = done value
ByAnswer (Err faults.Memory) done wanting broken = wanting
ByAnswer (Err (faults.Disk failed)) done wanting broken = broken
ByAnswer (Err (faults.Closed failed)) done wanting broken = ⊥
ByAnswer (Err (faults.Full count)) done wanting broken = ⊥
ByAnswer (Err (faults.Damaged damage)) done wanting broken = ⊥

-- what a fault of replaying is for a keeper at work
abbrev pub fault_of_start : StartFault → KeepFault
fault_of_start start_faults.Memory = faults.Memory
fault_of_start (start_faults.Disk failed) = faults.Disk failed
fault_of_start (start_faults.Damaged damage) = faults.Damaged damage
