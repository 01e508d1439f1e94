-- What condensing answers, and what it leaves.
use Rattle.std.specs.Prelude.{◌≡◌, ◌<◌, ◌≤◌, ◌-◌, ◌++◌, ℕ, Bool, List, [], length, map as list_map, take, None, Some, Result, Ok, Err, ⊤}
use Rattle.std.specs.FinMap as map
use Rattle.s80_change.specs.declared.change.Change.{Change}
use Rattle.s80_change.specs.Block.{blocks, log_limit}
use Rattle.s80_disk.specs.Image.{Image}
use Rattle.s80_history.specs.Lists.{MethodName, set_of, versions_of}
use Rattle.s80_apply.specs.List.{AreAccepted, state_of}
use Rattle.s80_apply.specs.State.{MethodRow, kernel_state}
use Rattle.s80_log.specs.Commit.{fresh_mark}
use Rattle.s80_keeper.specs.declared.keep.KeepFault.{KeepFault}
use Rattle.s80_keeper.specs.declared.keep.KeepFault.TheVariants as faults
use Rattle.s80_keeper.specs.Keeper.{KeeperState, Keeps}
use Rattle.s80_keeper.specs.Standing.{ReadsForEither}
use Rattle.s80_keeper.specs.Source.{after_reading}

-- the other log counts alone, by a mark that counts its changes and names no image
pub record HasMoved (before now : KeeperState) : Type 0 where
  pub log : now.log.number ≡ 1 - before.log.number
  pub mark : now.mark ≡ fresh_mark before.mark now.log now.count
  pub faultless : now.fault ≡ None

-- the keeper before and after its list was to be replaced: it is at work in the other log; or as before, but for the fault
abbrev pub AfterCondensing : Result (Unit {0}) KeepFault → KeeperState → KeeperState → Type 0
AfterCondensing (Ok done) before now = HasMoved before now
AfterCondensing (Err fault) before now = now ≡ after_reading {T = Unit {0}} (Err fault) before

-- the blocks of the list are together so long, and longer than a log may be
pub record IsTooLong (changes : List Change) (count : ℕ) : Type 0 where
  pub length_is : count ≡ length (blocks changes)
  pub over : log_limit < count

-- After a list was to be replaced by the condensed one: it is; or that is too long for a log, or memory was wanting, and all is as before; or the
-- disk failed, and has the one list or the other.
abbrev pub Condensed : Result (Unit {0}) KeepFault → Bool → Image → (Image → Type 0) → KeeperState → List Change → List Change → Type 0
Condensed (Ok done) tells reads may_leave keeper changes short = Keeps tells reads may_leave keeper short short
Condensed (Err faults.Memory) tells reads may_leave keeper changes short = Keeps tells reads may_leave keeper changes changes
Condensed (Err (faults.Disk failed)) tells reads may_leave keeper changes short = ReadsForEither tells reads may_leave changes short
Condensed (Err (faults.Closed failed)) tells reads may_leave keeper changes short = ⊥
Condensed (Err (faults.Full count)) tells reads may_leave keeper changes short = Keeps tells reads may_leave keeper changes changes × IsTooLong short count
Condensed (Err (faults.Damaged damage)) tells reads may_leave keeper changes short = ⊥

-- the new list is accepted change by change and makes the state of the old one, and its change set is empty
pub record MakesAgain (changes new : List Change) : Type 0 where
  pub accepted : AreAccepted kernel_state new
  pub state : state_of new ≡ state_of changes
  pub set : set_of new ≡ []

-- so it is, and of each method that there is it has the newest versions, at most so many
pub record FoldsBack (changes new : List Change) (count : ℕ) : Type 0 where
  pub again : MakesAgain changes new
  pub versions : (name : MethodName) (row : MethodRow) → map.get ((state_of changes).methods name.class_name name.side) name.selector ≡ Some row
      → list_map (λ p. p.1) (versions_of new name) ≡ take count (list_map (λ p. p.1) (versions_of changes name))

-- this holds where the list was replaced; no damage was met
abbrev pub IfReplaced : {T : Type 0} → Result T KeepFault → Type 0 → Type 0
IfReplaced (Ok value) P = P
IfReplaced (Err (faults.Full count)) P = ⊤
IfReplaced (Err (faults.Closed failed)) P = ⊤
IfReplaced (Err (faults.Disk failed)) P = ⊤
IfReplaced (Err faults.Memory) P = ⊤
IfReplaced (Err (faults.Damaged damage)) P = ⊥

-- this holds where the new list is too long
abbrev pub IfFull : {T : Type 0} → Result T KeepFault → (ℕ → Type 0) → Type 0
IfFull (Ok value) P = ⊤
IfFull (Err (faults.Full count)) P = P count
IfFull (Err (faults.Closed failed)) P = ⊤
IfFull (Err (faults.Disk failed)) P = ⊤
IfFull (Err faults.Memory) P = ⊤
IfFull (Err (faults.Damaged damage)) P = ⊤

-- neither is the disk told to be closed, nor the list to be too long
abbrev pub IsOpen : {T : Type 0} → Result T KeepFault → Type 0
IsOpen (Ok value) = ⊤
IsOpen (Err (faults.Full count)) = ⊥
IsOpen (Err (faults.Closed failed)) = ⊥
IsOpen (Err (faults.Disk failed)) = ⊤
IsOpen (Err faults.Memory) = ⊤
IsOpen (Err (faults.Damaged damage)) = ⊤

-- this list stands behind what there was; or it isn't known
abbrev pub IsAdded : {T : Type 0} → List Change → List Change → List Change → Result T KeepFault → Type 0
IsAdded before more now (Ok value) = now ≡ before ++ more
IsAdded before more now (Err faults.Memory) = ⊤
IsAdded before more now (Err (faults.Disk failed)) = ⊤
IsAdded before more now (Err (faults.Closed failed)) = ⊤
IsAdded before more now (Err (faults.Full count)) = ⊥
IsAdded before more now (Err (faults.Damaged damage)) = ⊥

-- the list is too long, or memory was wanting to measure it; or it is within a log's limit
abbrev pub IsMeasured : {T : Type 0} → List Change → Result T KeepFault → Type 0
IsMeasured changes (Ok done) = length (blocks changes) ≤ log_limit
IsMeasured changes (Err faults.Memory) = ⊤
IsMeasured changes (Err (faults.Full count)) = IsTooLong changes count
IsMeasured changes (Err (faults.Disk failed)) = ⊥
IsMeasured changes (Err (faults.Closed failed)) = ⊥
IsMeasured changes (Err (faults.Damaged damage)) = ⊥
