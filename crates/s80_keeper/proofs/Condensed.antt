-- A list that gives way to a shorter one.
use Rattle.std.proofs.Common.{◌≡◌, ◌↔◌, inl, inr, ℕ, ◌<◌, ◌≤◌, Bool, List, [], map as list_map, take, Option, Some, None, Result, Ok, Err, refl, sym, ◌∙◌, subst}
use Rattle.std.specs.FinMap as map
use Rattle.s80_base.specs.declared.outside.Failed.{Failed}
use Rattle.s80_change.specs.declared.change.Change.{Change}
use Rattle.s80_change.specs.Block.{log_limit}
use Rattle.s80_disk.specs.declared.disk.FileId.{FileId}
use Rattle.s80_disk.specs.Image.{Image}
use Rattle.s80_disk.specs.Moments.{LeavesOnly}
use Rattle.s80_disk.specs.Untouched.{StillLeft}
use Rattle.s80_disk.proofs.lemmas.Run.{joined, weaker}
use Rattle.s80_history.specs.Lists.{MethodName, set_of, versions_of}
use Rattle.s80_apply.specs.List.{AreAccepted, IsBuilt, state_of}
use Rattle.s80_apply.specs.State.{MethodRow, kernel_state}
use Rattle.s80_fileout.specs.Condensed.{kept}
use Rattle.s80_log.specs.Commit.{Holds}
use Rattle.s80_keeper.specs.declared.keep.KeepFault.{KeepFault}
use Rattle.s80_keeper.specs.declared.keep.KeepFault.TheVariants as faults
use Rattle.s80_keeper.specs.Answers.{IfKeepDisk}
use Rattle.s80_keeper.specs.ChangesAt.{ArePlaced}
use Rattle.s80_keeper.specs.Condensing.{AfterCondensing, Condensed, FoldsBack, IfFull, IsMeasured, IsOpen}
use Rattle.s80_keeper.specs.Keeper.{KeeperState, Keeps, Knows, pending_of, IsSettled}
use Rattle.s80_keeper.specs.Renewing.{ByAnswer}
use Rattle.s80_keeper.specs.Source.{IsThis, after_reading}
use Rattle.s80_keeper.specs.Standing.{LeavesEither, ReadsForEither}
use Rattle.s80_keeper.proofs.Keeping.{images_stand, stands_by_mark}
use Rattle.s80_keeper.proofs.Together.{IsClosed}
use Rattle.s80_keeper.proofs.lemmas.Images.{keeps_fewer}
use Rattle.s80_keeper.proofs.lemmas.Standing.{reads_so}

-- ---- a disk that is read alone

module _ (tells new_tells : Bool) (reads new_reads : Image) (may_leave new_leaves : Image → Type 0) (same_tells : new_tells ≡ tells) (same : (file : FileId) → new_reads file ≡ reads file) (still : (c : Image) → new_leaves c → may_leave c) where
  -- the keeper keeps its lists
  pub keeps_read : (keeper : KeeperState) (kept all : List Change) → Keeps tells reads may_leave keeper kept all → Keeps new_tells new_reads new_leaves keeper kept all
  keeps_read keeper kept all keeps =
      let stands = keeps.holds.stands in
      let holds : Holds tells reads new_leaves keeper.log keeper.mark kept all = record {
        stands = record { told = stands.told; files = stands.files; mark_stays = λ c left. stands.mark_stays c (still c left); log_stays = λ c left. stands.log_stays c (still c left) };
        named = keeps.holds.named;
        ahead = keeps.holds.ahead;
        list = keeps.holds.list;
        whole = keeps.holds.whole;
        bytes = keeps.holds.bytes;
      } in
      let left : Keeps tells reads new_leaves keeper kept all = record { holds = holds; front = keeps.front; image = keeps_fewer reads may_leave keeper.mark kept keeps.image new_leaves still; built = keeps.built; system = keeps.system; places = keeps.places; history = keeps.history; count = keeps.count; faultless = keeps.faultless } in
      let P : Bool → Image → Type 0 = λ t r. Keeps t r new_leaves keeper kept all in
      let same_reads : reads ≡ new_reads = λ i file. sym (same file) i in
      subst (P new_tells) same_reads (subst (λ t. P t reads) (sym same_tells) left)

-- a keeper that keeps a list knows it
pub knows_kept : (tells : Bool) (reads : Image) (may_leave : Image → Type 0) (keeper : KeeperState) (changes : List Change) → Keeps tells reads may_leave keeper changes changes → Knows reads keeper changes
knows_kept tells reads may_leave keeper changes keeps =
    record { log = keeps.holds.bytes; lawful = keeps.holds.list.lawful; system = keeps.system; places = keeps.places; history = keeps.history; count = keeps.count }

-- a disk of which a keeper keeps a list has that one, or another
pub keeps_either : (tells : Bool) (reads : Image) (may_leave : Image → Type 0) (keeper : KeeperState) (changes other : List Change) → Keeps tells reads may_leave keeper changes changes → ReadsForEither tells reads may_leave changes other
keeps_either tells reads may_leave keeper changes other keeps = record {
  stands = inl (reads_so tells reads may_leave changes (stands_by_mark tells reads may_leave keeper.mark changes keeps.image keeps.built keeps.holds.stands));
  images = λ c left. inl (images_stand tells reads may_leave keeper changes changes keeps c left);
}

-- nothing is pending where the disk never failed
pub none_pends : (keeper : KeeperState) → IsSettled keeper → keeper.fault ≡ None → pending_of keeper ≡ 0
none_pends keeper (inl none) open_yet = none
none_pends keeper (inr failed) open_yet = absurd (failed open_yet)

-- ---- what is answered

-- the new list isn't made
pub condensed_unread : (fault : KeepFault) (tells : Bool) (reads : Image) (may_leave : Image → Type 0) (before now : KeeperState) (changes short : List Change) → IsThis {T = List Change} short (Err fault) → IsOpen {T = List Change} (Err fault) → now ≡ after_reading {T = List Change} (Err fault) before → Keeps tells reads may_leave before changes changes → Condensed (Err fault) tells reads may_leave now changes short
condensed_unread faults.Memory tells reads may_leave before now changes short read is_open after keeps = subst (λ k. Keeps tells reads may_leave k changes changes) (sym after) keeps
condensed_unread (faults.Disk failed) tells reads may_leave before now changes short read is_open after keeps = keeps_either tells reads may_leave before changes short keeps
condensed_unread (faults.Closed failed) tells reads may_leave before now changes short read is_open after keeps = absurd is_open
condensed_unread (faults.Full count) tells reads may_leave before now changes short read is_open after keeps = absurd is_open
condensed_unread (faults.Damaged damage) tells reads may_leave before now changes short read is_open after keeps = absurd read

-- it is too long, or isn't measured
pub condensed_unfit : (fault : KeepFault) (tells : Bool) (reads : Image) (may_leave : Image → Type 0) (now : KeeperState) (changes short : List Change) → IsMeasured {T = Unit {0}} short (Err fault) → Keeps tells reads may_leave now changes changes → Condensed (Err fault) tells reads may_leave now changes short
condensed_unfit faults.Memory tells reads may_leave now changes short measured keeps = keeps
condensed_unfit (faults.Disk failed) tells reads may_leave now changes short measured keeps = absurd measured
condensed_unfit (faults.Closed failed) tells reads may_leave now changes short measured keeps = absurd measured
condensed_unfit (faults.Full count) tells reads may_leave now changes short measured keeps = (keeps, measured)
condensed_unfit (faults.Damaged damage) tells reads may_leave now changes short measured keeps = absurd measured

-- then nothing was changed
pub after_unfit : (fault : KeepFault) (short : List Change) (before now : KeeperState) → IsMeasured {T = Unit {0}} short (Err fault) → now ≡ before → AfterCondensing (Err fault) before now
after_unfit faults.Memory short before now measured same = same
after_unfit (faults.Disk failed) short before now measured same = absurd measured
after_unfit (faults.Closed failed) short before now measured same = absurd measured
after_unfit (faults.Full count) short before now measured same = same
after_unfit (faults.Damaged damage) short before now measured same = absurd measured

-- nor the disk closed
pub unfit_open : (fault : KeepFault) (short : List Change) (failed : Failed) → IsMeasured {T = Unit {0}} short (Err fault) → fault ≡ faults.Closed failed → ⊥
unfit_open fault short failed measured is = subst (λ f. IsMeasured {T = Unit {0}} short (Err f)) is measured

pub unfit_full : (fault : KeepFault) (short : List Change) (P : Type 0) → IsMeasured {T = Unit {0}} short (Err fault) → P → IfFull {T = Unit {0}} (Err fault) (λ count. (log_limit < count) × P)
unfit_full faults.Memory short P measured holds = tt
unfit_full (faults.Disk failed) short P measured holds = absurd measured
unfit_full (faults.Closed failed) short P measured holds = absurd measured
unfit_full (faults.Full count) short P measured holds = (measured.over, holds)
unfit_full (faults.Damaged damage) short P measured holds = absurd measured

pub unfit_offline : (fault : KeepFault) (short : List Change) (P : Failed → Type 0) → IsMeasured {T = Unit {0}} short (Err fault) → IfKeepDisk {T = Unit {0}} (Err fault) P
unfit_offline faults.Memory short P measured = tt
unfit_offline (faults.Disk failed) short P measured = absurd measured
unfit_offline (faults.Closed failed) short P measured = absurd measured
unfit_offline (faults.Full count) short P measured = tt
unfit_offline (faults.Damaged damage) short P measured = absurd measured

-- it isn't written
pub condensed_unmade : (fault : KeepFault) (tells : Bool) (reads : Image) (may_leave : Image → Type 0) (before now : KeeperState) (changes short : List Change) (made : KeeperState → Type 0) → now ≡ after_reading {T = Unit {0}} (Err fault) before → ByAnswer (Err fault) made (Keeps tells reads may_leave before changes changes) (ReadsForEither tells reads may_leave changes short) → Condensed (Err fault) tells reads may_leave now changes short
condensed_unmade faults.Memory tells reads may_leave before now changes short made after holds = subst (λ k. Keeps tells reads may_leave k changes changes) (sym after) holds
condensed_unmade (faults.Disk failed) tells reads may_leave before now changes short made after holds = holds
condensed_unmade (faults.Closed failed) tells reads may_leave before now changes short made after holds = absurd holds
condensed_unmade (faults.Full count) tells reads may_leave before now changes short made after holds = absurd holds
condensed_unmade (faults.Damaged damage) tells reads may_leave before now changes short made after holds = absurd holds

-- the list is told to be too long by nothing that is open
pub open_full : {T : Type 0} (result : Result T KeepFault) (P : ℕ → Type 0) → IsOpen result → IfFull result P
open_full (Ok value) P is = tt
open_full (Err faults.Memory) P is = tt
open_full (Err (faults.Disk failed)) P is = tt
open_full (Err (faults.Closed failed)) P is = tt
open_full (Err (faults.Full count)) P is = absurd is
open_full (Err (faults.Damaged damage)) P is = tt

-- nor is the disk told to be closed
pub open_closed : (T : Type 0) (result : Result T KeepFault) (failed : Failed) → IsOpen result → IsClosed T result failed → ⊥
open_closed T result failed is closed = subst IsOpen closed is

pub never_closed : (T : Type 0) (result : Result T KeepFault) (fault : Option Failed) (failed : Failed) → fault ≡ None → (IsClosed T result failed → ⊥) → IsClosed T result failed ↔ (fault ≡ Some failed)
never_closed T result fault failed none never = (λ closed. absurd (never closed), λ is. absurd cc)

-- what is read at places tells of no disk that was closed
pub open_placed : (T U : Type 0) (places : List ℕ) (fault : KeepFault) → ArePlaced {T = T} places (Err fault) → ((failed : Failed) → IsClosed T (Err fault) failed → ⊥) → IsOpen {T = U} (Err fault)
open_placed T U places faults.Memory placed never = tt
open_placed T U places (faults.Disk failed) placed never = tt
open_placed T U places (faults.Closed failed) placed never = absurd (never failed refl)
open_placed T U places (faults.Full count) placed never = absurd placed
open_placed T U places (faults.Damaged damage) placed never = tt

-- ---- at any moment

module _ {D : Type 0} (moment : D → ℕ) (left_since : D → ℕ → ℕ → Image → Type 0) (old mid : D) (before : Image → Type 0) (told : ℕ) (tells : Bool) (reads : Image) (keeper : KeeperState) (changes short : List Change) (keeps : Keeps tells reads before keeper changes changes) where
  -- as long as files are read alone the list stands
  pub read_either : LeavesOnly moment left_since old mid (StillLeft before told) → LeavesOnly moment left_since old mid (LeavesEither told changes short)
  read_either run = weaker moment left_since old mid (StillLeft before told) (LeavesEither told changes short) run (λ t c left. record { told_is = left.told_is; files = inl (images_stand tells reads before keeper changes changes keeps c left.was) })

  -- and then the one list or the other
  pub read_then_either : (new : D) (told_mid : ℕ) → told_mid ≡ told → LeavesOnly moment left_since old mid (StillLeft before told) → LeavesOnly moment left_since mid new (LeavesEither told_mid changes short) → LeavesOnly moment left_since old new (LeavesEither told changes short)
  read_then_either new told_mid same first second =
      joined moment left_since old mid new (LeavesEither told changes short) (LeavesEither told_mid changes short) (read_either first) second (λ t c left. record { told_is = left.told_is ∙ same; files = left.files })

-- ---- what a keeper knows

-- a keeper that is as before knows its list, as long as the files read the same
pub knows_on : (reads new_reads : Image) (before now : KeeperState) (changes : List Change) → now ≡ before → ((file : FileId) → new_reads file ≡ reads file) → Knows reads before changes → Knows new_reads now changes
knows_on reads new_reads before now changes same_keeper same knows =
    let same_reads : reads ≡ new_reads = λ i file. sym (same file) i in
    let P : Image → Type 0 = λ r. Knows r before changes in
    let Q : KeeperState → Type 0 = λ k. Knows new_reads k changes in
    subst Q (sym same_keeper) (subst P same_reads knows)

-- ---- the condensed list

-- what a law says of it, of each list and each number
pub folds_back : (changes : List Change) (count : ℕ) → 1 ≤ count → IsBuilt changes → ((n : ℕ) (l : List Change) → 1 ≤ n → IsBuilt l → AreAccepted kernel_state (kept l n)) → ((n : ℕ) (l : List Change) → 1 ≤ n → IsBuilt l → state_of (kept l n) ≡ state_of l)
    → ((n : ℕ) (l : List Change) → set_of (kept l n) ≡ []) → ((n : ℕ) (l : List Change) (name : MethodName) (row : MethodRow) → map.get ((state_of l).methods name.class_name name.side) name.selector ≡ Some row → list_map (λ p. p.1) (versions_of (kept l n) name) ≡ take n (list_map (λ p. p.1) (versions_of l name)))
    → FoldsBack changes (kept changes count) count
folds_back changes count some built accepted state set versions = record {
  again = record { accepted = accepted count changes some built; state = state count changes some built; set = set count changes };
  versions = versions count changes;
}
