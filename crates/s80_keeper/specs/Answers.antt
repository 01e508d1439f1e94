-- What the calls of a keeper answer, and what they leave.
use Rattle.std.specs.Prelude.{◌≡◌, ◌⊎◌, ◌<◌, ◌≤◌, ◌+◌, ◌-◌, ◌^◌, min, ℕ, Bool, List, [], ◌∷◌, ◌++◌, length, Some, Result, Ok, Err, ⊤}
use Rattle.s80_base.specs.declared.outside.Failed.{Failed}
use Rattle.s80_change.specs.declared.change.Change.{Change}
use Rattle.s80_form.specs.declared.refusal.Refused.{Refused}
use Rattle.s80_form.specs.declared.refusal.Refused.TheVariants as refused
use Rattle.s80_change.specs.Block.{block, log_limit}
use Rattle.s80_disk.specs.Image.{Image}
use Rattle.s80_apply.specs.declared.step.Step.{Step}
use Rattle.s80_apply.specs.State.{State}
use Rattle.s80_apply.specs.Placed.{PlacedState}
use Rattle.s80_apply.specs.List.{refusal_to}
use Rattle.s80_apply.specs.System.{SystemState, IsReady, IsInstalled, Makes, MakesPlaces}
use Rattle.s80_history.specs.History.{IsReadyFor}
use Rattle.s80_log.specs.Log.{LogEnd}
use Rattle.s80_log.specs.Commit.{next_mark}
use Rattle.s80_keeper.specs.declared.keep.KeepFault.{KeepFault}
use Rattle.s80_keeper.specs.declared.keep.KeepFault.TheVariants as faults
use Rattle.s80_keeper.specs.Keeper.{KeeperState, Keeps, pending_of}
use Rattle.s80_keeper.specs.Standing.{ReadsForEither, StandsFor}

-- a change with what is needed to keep it
pub record PreparedChange : Type 0 where
  pub change : Change
  pub step : Step

-- the keeper has all memory that keeping it takes, and its step fits the classes and methods
pub record CanKeep (keeper : KeeperState) (prepared : PreparedChange) : Type 0 where
  pub step : IsReady keeper.system prepared.step
  pub noted : IsReadyFor keeper.history prepared.change

-- it was prepared in this state: the step makes of the system what accepting the change makes of the state
pub record IsFor (state : State) (system : SystemState) (prepared : PreparedChange) : Type 0 where
  pub ready : IsReady system prepared.step
  pub makes : Makes system prepared.step prepared.change state

-- and where sources stand so: the step makes of their places what the change's block does
abbrev pub PlacesFor : PlacedState → SystemState → PreparedChange → Type 0
PlacesFor placed system prepared = MakesPlaces system prepared.step prepared.change placed

-- what preparing a change answers, in this state and with a log of this length
abbrev pub Prepares : State → ℕ → Change → SystemState → Result PreparedChange Refused → Type 0
Prepares state end change now (Ok prepared) = (prepared.change ≡ change) × IsFor state now prepared × (end + length (block change) ≤ log_limit)
Prepares state end change now (Err refused.Memory) = ⊤
Prepares state end change now (Err (refused.Refusal refusal)) = refusal_to state end change ≡ Some refusal

-- a change that was prepared, by its block and its step
abbrev pub prepared_of : Change → Result (List ℕ × Step) Refused → Result PreparedChange Refused
prepared_of change (Ok p) = Ok (record { change = change; step = p.1 })
prepared_of change (Err refused) = Err refused

abbrev pub longer : LogEnd → ℕ → LogEnd
longer log size = record log { end = log.end + size }

-- a count of changes with one more; no list has so many that it stands still
abbrev pub one_more : ℕ → ℕ
one_more count = min (count + 1) (2 ^ 64 - 1)

-- The block of a change stands behind the keeper's log, and what it makes is installed; the mark is as before.
abbrev pub HasTakenIn : PreparedChange → KeeperState → KeeperState → Type 0
HasTakenIn prepared before now = IsInstalled before.system prepared.step before.log.end now.system × (now ≡ record before {
  log = longer before.log (length (block prepared.change));
  system = now.system;
  history = now.history;
  count = one_more before.count;
})

-- the keeper before and after a change was to be kept later
abbrev pub AfterKeepingLater : Result ℕ KeepFault → PreparedChange → KeeperState → KeeperState → Type 0
AfterKeepingLater (Ok place) prepared before now = HasTakenIn prepared before now
AfterKeepingLater (Err (faults.Disk failed)) prepared before now = now ≡ record before { fault = Some failed }
AfterKeepingLater (Err (faults.Closed failed)) prepared before now = now ≡ before
AfterKeepingLater (Err (faults.Full count)) prepared before now = now ≡ before
AfterKeepingLater (Err faults.Memory) prepared before now = ⊥
AfterKeepingLater (Err (faults.Damaged damage)) prepared before now = ⊥

-- after the log was committed: the next mark takes it to its end, and counts all changes
abbrev pub marked : KeeperState → KeeperState
marked keeper = record keeper { mark = next_mark keeper.mark keeper.log keeper.count }

-- what was pending is committed, with one mark: with nothing pending the keeper stays
abbrev pub HasCommitted : KeeperState → KeeperState → Type 0
HasCommitted before now = ((pending_of before ≡ 0) × (now ≡ before)) ⊎ ((0 < pending_of before) × (now ≡ marked before))

-- the keeper before and after what is pending was to be committed
abbrev pub AfterCommit : {T : Type 0} → Result T KeepFault → KeeperState → KeeperState → Type 0
AfterCommit (Ok done) before now = HasCommitted before now
AfterCommit (Err (faults.Disk failed)) before now = now ≡ record before { fault = Some failed }
AfterCommit (Err (faults.Closed failed)) before now = now ≡ before
AfterCommit (Err (faults.Full count)) before now = ⊥
AfterCommit (Err faults.Memory) before now = ⊥
AfterCommit (Err (faults.Damaged damage)) before now = ⊥

-- The keeper before and after a change was to be kept: it was taken in and committed. Where a call of the disk failed, it may have been taken in.
abbrev pub AfterKeeping : Result ℕ KeepFault → PreparedChange → KeeperState → KeeperState → Type 0
AfterKeeping (Ok place) prepared before now = (mid : KeeperState) × HasTakenIn prepared before mid × HasCommitted mid now
AfterKeeping (Err (faults.Disk failed)) prepared before now = (mid : KeeperState) × ((mid ≡ before) ⊎ HasTakenIn prepared before mid) × (now ≡ record mid { fault = Some failed })
AfterKeeping (Err (faults.Closed failed)) prepared before now = now ≡ before
AfterKeeping (Err (faults.Full count)) prepared before now = now ≡ before
AfterKeeping (Err faults.Memory) prepared before now = ⊥
AfterKeeping (Err (faults.Damaged damage)) prepared before now = ⊥

-- After a change was to be kept later behind a list of which a front is kept: it is pending; or the log is full, and all is as before; or the
-- disk failed, and goes on to stand for what is kept.
abbrev pub KeptLater : Result ℕ KeepFault → Bool → Image → (Image → Type 0) → KeeperState → List Change → List Change → Change → Type 0
KeptLater (Ok place) tells reads may_leave keeper kept all change = Keeps tells reads may_leave keeper kept (all ++ change ∷ [])
KeptLater (Err (faults.Disk failed)) tells reads may_leave keeper kept all change = StandsFor tells reads may_leave kept
KeptLater (Err (faults.Closed failed)) tells reads may_leave keeper kept all change = ⊥
KeptLater (Err (faults.Full count)) tells reads may_leave keeper kept all change = Keeps tells reads may_leave keeper kept all
KeptLater (Err faults.Memory) tells reads may_leave keeper kept all change = ⊥
KeptLater (Err (faults.Damaged damage)) tells reads may_leave keeper kept all change = ⊥

-- after what is pending was to be committed: all is kept; or the disk failed, and has what was kept or all
abbrev pub Committed : {T : Type 0} → Result T KeepFault → Bool → Image → (Image → Type 0) → KeeperState → List Change → List Change → Type 0
Committed (Ok done) tells reads may_leave keeper kept all = Keeps tells reads may_leave keeper all all
Committed (Err (faults.Disk failed)) tells reads may_leave keeper kept all = ReadsForEither tells reads may_leave kept all
Committed (Err (faults.Closed failed)) tells reads may_leave keeper kept all = ⊥
Committed (Err (faults.Full count)) tells reads may_leave keeper kept all = ⊥
Committed (Err faults.Memory) tells reads may_leave keeper kept all = ⊥
Committed (Err (faults.Damaged damage)) tells reads may_leave keeper kept all = ⊥

-- After a change was to be kept behind a list: it is kept; or its log is full, and the list is kept as before; or the disk failed, and has the
-- one list or the other.
abbrev pub Kept : Result ℕ KeepFault → Bool → Image → (Image → Type 0) → KeeperState → List Change → Change → Type 0
Kept (Ok place) tells reads may_leave keeper changes change = Keeps tells reads may_leave keeper (changes ++ change ∷ []) (changes ++ change ∷ [])
Kept (Err (faults.Disk failed)) tells reads may_leave keeper changes change = ReadsForEither tells reads may_leave changes (changes ++ change ∷ [])
Kept (Err (faults.Closed failed)) tells reads may_leave keeper changes change = ⊥
Kept (Err (faults.Full count)) tells reads may_leave keeper changes change = Keeps tells reads may_leave keeper changes changes
Kept (Err faults.Memory) tells reads may_leave keeper changes change = ⊥
Kept (Err (faults.Damaged damage)) tells reads may_leave keeper changes change = ⊥

-- this holds of a failed call on the disk
abbrev pub IfKeepDisk : {T : Type 0} → Result T KeepFault → (Failed → Type 0) → Type 0
IfKeepDisk (Ok value) P = ⊤
IfKeepDisk (Err (faults.Disk failed)) P = P failed
IfKeepDisk (Err (faults.Closed failed)) P = ⊤
IfKeepDisk (Err (faults.Full count)) P = ⊤
IfKeepDisk (Err faults.Memory) P = ⊤
IfKeepDisk (Err (faults.Damaged damage)) P = ⊤

-- this holds, but where a call on the disk failed
abbrev pub UnlessKeepDisk : {T : Type 0} → Result T KeepFault → Type 0 → Type 0
UnlessKeepDisk (Ok value) P = P
UnlessKeepDisk (Err (faults.Disk failed)) P = ⊤
UnlessKeepDisk (Err (faults.Closed failed)) P = P
UnlessKeepDisk (Err (faults.Full count)) P = P
UnlessKeepDisk (Err faults.Memory) P = P
UnlessKeepDisk (Err (faults.Damaged damage)) P = P
