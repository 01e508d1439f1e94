-- A change kept later, and a commit after it, as one.
use Rattle.std.proofs.Common.{◌≡◌, ◌↔◌, ◌<◌, ◌≤◌, ◌+◌, inl, inr, ℕ, Bool, List, [], ◌∷◌, ◌++◌, Option, Some, None, Result, Ok, Err, refl, sym, ap, ◌∙◌, subst}
use Rattle.std.specs.Prelude.{⊤}
use Rattle.s80_base.specs.declared.outside.Failed.{Failed}
use Rattle.s80_change.specs.declared.change.Change.{Change}
use Rattle.s80_change.specs.Block.{log_limit}
use Rattle.s80_disk.specs.declared.disk.FileId.{FileId}
use Rattle.s80_disk.specs.Image.{Image}
use Rattle.s80_disk.specs.Moments.{LeavesOnly}
use Rattle.s80_disk.proofs.lemmas.Run.{joined, weaker}
use Rattle.s80_log.specs.Log.{log_file}
use Rattle.s80_log.specs.Commit.{LeavesBeside}
use Rattle.s80_keeper.specs.declared.keep.KeepFault.{KeepFault}
use Rattle.s80_keeper.specs.declared.keep.KeepFault.TheVariants as faults
use Rattle.s80_keeper.specs.Keeper.{KeeperState}
use Rattle.s80_keeper.specs.Standing.{LeavesEither, LeavesFor}
use Rattle.s80_keeper.specs.Answers.{PreparedChange, AfterCommit, AfterKeeping, AfterKeepingLater, Committed, HasTakenIn, Kept, KeptLater}
use Rattle.s80_keeper.proofs.lemmas.Standing.{reads_so, stands_leaves}

abbrev pub IsClosed : (T : Type 0) → Result T KeepFault → Failed → Type 0
IsClosed T result failed = result ≡ Err (faults.Closed failed)

abbrev IsFull : (T : Type 0) → Result T KeepFault → ℕ → Type 0
IsFull T result n = result ≡ Err (faults.Full n)

-- ---- where the change wasn't taken in

pub after_failed : (fault : KeepFault) (prepared : PreparedChange) (before now : KeeperState) → AfterKeepingLater (Err fault) prepared before now → AfterKeeping (Err fault) prepared before now
after_failed faults.Memory prepared before now after = absurd after
after_failed (faults.Disk failed) prepared before now after = (before, inl refl, after)
after_failed (faults.Closed failed) prepared before now after = after
after_failed (faults.Full count) prepared before now after = after
after_failed (faults.Damaged damage) prepared before now after = absurd after

pub kept_failed : (fault : KeepFault) (tells : Bool) (reads : Image) (may_leave : Image → Type 0) (keeper : KeeperState) (changes : List Change) (change : Change) → KeptLater (Err fault) tells reads may_leave keeper changes changes change → Kept (Err fault) tells reads may_leave keeper changes change
kept_failed faults.Memory tells reads may_leave keeper changes change kept = absurd kept
kept_failed (faults.Disk failed) tells reads may_leave keeper changes change kept =
    record { stands = inl (reads_so tells reads may_leave changes kept); images = λ c left. inl (stands_leaves tells reads may_leave changes kept c left) }
kept_failed (faults.Closed failed) tells reads may_leave keeper changes change kept = absurd kept
kept_failed (faults.Full count) tells reads may_leave keeper changes change kept = kept
kept_failed (faults.Damaged damage) tells reads may_leave keeper changes change kept = absurd kept

-- ---- where it was taken in

-- the disk had met no fault
pub was_open : (fault : Option Failed) (place : ℕ) → ((failed : Failed) → IsClosed ℕ (Ok place) failed ↔ (fault ≡ Some failed)) → fault ≡ None
was_open None place closed = refl
was_open (Some failed) place closed = let same = (closed failed).1 refl in absurd cc

-- and the log had room
pub had_room : (fault : Option Failed) (place end size : ℕ) → fault ≡ None → ((n : ℕ) → IsFull ℕ (Ok place) n ↔ ((fault ≡ None) × (n ≡ end) × (log_limit < end + size))) → log_limit < end + size → ⊥
had_room fault place end size none full over = let same = (full end).1 (none, refl, over) in absurd cc

-- the log is the same, and longer
pub same_file : (prepared : PreparedChange) (before mid : KeeperState) → HasTakenIn prepared before mid → log_file mid.log.number ≡ log_file before.log.number
same_file prepared before mid taken = ap (λ (k : KeeperState). log_file k.log.number) taken.1

-- what the keeper is where the commit failed then
pub after_uncommitted : (T : Type 0) (fault : KeepFault) (prepared : PreparedChange) (before mid now : KeeperState) → before.fault ≡ None → HasTakenIn prepared before mid → ((failed : Failed) → IsClosed T (Err fault) failed ↔ (mid.fault ≡ Some failed)) → AfterCommit {T = T} (Err fault) mid now → AfterKeeping (Err fault) prepared before now
after_uncommitted T faults.Memory prepared before mid now none taken closed after = absurd after
after_uncommitted T (faults.Disk failed) prepared before mid now none taken closed after = (mid, inr taken, after)
after_uncommitted T (faults.Closed failed) prepared before mid now none taken closed after =
    let has : mid.fault ≡ Some failed = (closed failed).0 refl in
    let same : mid.fault ≡ before.fault = ap (λ (k : KeeperState). k.fault) taken.1 in
    absurd cc
after_uncommitted T (faults.Full count) prepared before mid now none taken closed after = absurd after
after_uncommitted T (faults.Damaged damage) prepared before mid now none taken closed after = absurd after

pub kept_uncommitted : (T : Type 0) (fault : KeepFault) (tells : Bool) (reads : Image) (may_leave : Image → Type 0) (keeper : KeeperState) (changes : List Change) (change : Change) → Committed {T = T} (Err fault) tells reads may_leave keeper changes (changes ++ change ∷ []) → Kept (Err fault) tells reads may_leave keeper changes change
kept_uncommitted T faults.Memory tells reads may_leave keeper changes change done = absurd done
kept_uncommitted T (faults.Disk failed) tells reads may_leave keeper changes change done = done
kept_uncommitted T (faults.Closed failed) tells reads may_leave keeper changes change done = absurd done
kept_uncommitted T (faults.Full count) tells reads may_leave keeper changes change done = absurd done
kept_uncommitted T (faults.Damaged damage) tells reads may_leave keeper changes change done = absurd done

-- nor was it closed, or full
pub closed_uncommitted : (T : Type 0) (fault : KeepFault) (prepared : PreparedChange) (before mid : KeeperState) → HasTakenIn prepared before mid → before.fault ≡ None → ((failed : Failed) → IsClosed T (Err fault) failed ↔ (mid.fault ≡ Some failed)) → (failed : Failed) → IsClosed ℕ (Err fault) failed ↔ (before.fault ≡ Some failed)
closed_uncommitted T fault prepared before mid taken none closed failed =
    let same : mid.fault ≡ before.fault = ap (λ (k : KeeperState). k.fault) taken.1 in (
      λ e. let is : fault ≡ faults.Closed failed = cc in sym same ∙ (closed failed).0 (ap (λ f. Err f) is),
      λ e. absurd cc,
    )

pub full_uncommitted : (T : Type 0) (fault : KeepFault) (mid now : KeeperState) (end size n : ℕ) (open_before : Type 0) → AfterCommit {T = T} (Err fault) mid now → (log_limit < end + size → ⊥) → IsFull ℕ (Err fault) n ↔ (open_before × (n ≡ end) × (log_limit < end + size))
full_uncommitted T fault mid now end size n open_before after room = (
  λ e. let is : fault ≡ faults.Full n = cc in absurd (subst (λ f. AfterCommit {T = T} (Err f) mid now) is after),
  λ over. absurd (room over.2),
)

-- ---- what a crash leaves

module _ {D : Type 0} (moment : D → ℕ) (left_since : D → ℕ → ℕ → Image → Type 0) where
  -- as long as the change is pending the list stands
  pub stands_either : (old mid : D) (told : ℕ) (changes other : List Change) → LeavesOnly moment left_since old mid (LeavesFor told changes) → LeavesOnly moment left_since old mid (LeavesEither told changes other)
  stands_either old mid told changes other run = weaker moment left_since old mid (LeavesFor told changes) (LeavesEither told changes other) run (λ n c left. record { told_is = left.told_is; files = inl left.files })

  module _ (old mid new : D) (told told_mid : ℕ) (same : told_mid ≡ told) where
    -- and then that or the list with the change
    pub either_stands : (changes other : List Change) → LeavesOnly moment left_since old mid (LeavesFor told changes) → LeavesOnly moment left_since mid new (LeavesEither told_mid changes other) → LeavesOnly moment left_since old new (LeavesEither told changes other)
    either_stands changes other first second =
        joined moment left_since old mid new (LeavesEither told changes other) (LeavesEither told_mid changes other) (stands_either old mid told changes other first) second (λ n c left. record { told_is = left.told_is ∙ same; files = left.files })

    -- the files that neither call writes are those of an image of before
    pub elsewhere_on : (before now : Image → Type 0) (log log_mid : FileId) → log_mid ≡ log → ((t : ℕ) (c : Image) → t ≤ moment mid → now c → left_since mid t told_mid c) → LeavesOnly moment left_since old mid (LeavesBeside before told log (λ e. ⊤)) → LeavesOnly moment left_since mid new (LeavesBeside now told_mid log_mid (λ e. ⊤)) → LeavesOnly moment left_since old new (LeavesBeside before told log (λ e. ⊤))
    elsewhere_on before now log log_mid same_log counts first second =
        let Run : FileId → Type 0 = λ file. LeavesOnly moment left_since mid new (LeavesBeside now told_mid file (λ e. ⊤)) in
        joined moment left_since old mid new (LeavesBeside before told log (λ e. ⊤)) (LeavesBeside now told_mid log (λ e. ⊤)) first (subst Run same_log second) (λ n c left.
        let h = first.each told_mid left.image (counts (moment old) left.image first.later left.was) in
        record { told_is = left.told_is ∙ same; here = tt; image = h.image; was = h.was; others = λ other no_mark no_log. left.others other no_mark no_log ∙ h.others other no_mark no_log })
