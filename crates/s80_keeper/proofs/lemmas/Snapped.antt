-- What a snapshot answers, by what its calls answer.
use Rattle.std.proofs.Common.{◌≡◌, ◌≢◌, if◌then◌else◌, true, false, take, ◌↔◌, ◌<◌, ◌≤◌, ◌+◌, inl, inr, ⊎_elim, ℕ, Bool, List, [], ◌∷◌, ◌++◌, length, Option, Some, None, Result, Ok, Err, refl, sym, ap, ◌∙◌, subst, arith}
use Rattle.s80_base.specs.declared.outside.Failed.{Failed}
use Rattle.s80_change.specs.declared.change.Change.{Change}
use Rattle.s80_change.specs.Block.{block, log_limit}
use Rattle.s80_disk.specs.declared.disk.FileId.{FileId}
use Rattle.s80_disk.specs.declared.disk.FileId.TheVariants.{Mark, Log0, Log1}
use Rattle.s80_disk.specs.Image.{Image}
use Rattle.s80_apply.specs.List.{state_of}
use Rattle.s80_apply.specs.Placed.{PlacedState, placed_of}
use Rattle.s80_apply.specs.State.{State}
use Rattle.s80_apply.specs.System.{HasPlaces, IsSystemOf}
use Rattle.s80_history.specs.History.{IsHistoryOf}
use Rattle.s80_log.specs.Commit.{imaged_mark}
use Rattle.s80_log.specs.Log.{log_file}
use Rattle.s80_keeper.specs.declared.keep.KeepFault.{KeepFault}
use Rattle.s80_keeper.specs.declared.keep.KeepFault.TheVariants as faults
use Rattle.s80_keeper.specs.Answers.{AfterKeepingLater, HasTakenIn, KeptLater, PreparedChange, longer, one_more}
use Rattle.s80_keeper.specs.Condensing.{IsOpen}
use Rattle.s80_keeper.specs.Imaged.{image_file}
use Rattle.s80_keeper.specs.Keeper.{KeeperState, Keeps}
use Rattle.s80_keeper.specs.Renewing.{HasMade, HasWritten}
use Rattle.s80_keeper.specs.Snapshot.{AfterSnapshot, HasSnapped, Snapped, imaged, note, other_image}
use Rattle.s80_keeper.specs.Standing.{ReadsForEither, StandsFor}
use Rattle.s80_keeper.proofs.lemmas.Imaging.{has_left, image_is_no_log, stands_on}

-- a disk that stands for a list reads for it, and a crash leaves files that stand for it
stands_either : (tells : Bool) (reads : Image) (may_leave : Image → Type 0) (changes other : List Change) → StandsFor tells reads may_leave changes → ReadsForEither tells reads may_leave changes other
stands_either tells reads may_leave changes other h = record {
  stands = inl (record {
    told = h.told;
    stands = ⊎_elim (λ empty. inl (empty.0, empty.2)) (λ marked. inr (marked.0, marked.1.files, marked.2, marked.3, marked.1.log_stays)) h.stands;
  });
  images = λ c left. inl (⊎_elim
      (λ empty. inl ((empty.1.log0 c left, empty.1.log1 c left), empty.2))
      (λ marked.
      let stands = marked.1 in
      inr (
        marked.0,
        stands_on reads c marked.0 changes (stands.mark_stays c left) (stands.log_stays c left) stands.files,
        has_left reads may_leave marked.0 changes stands.files.numbers.image marked.2 c left,
        marked.3,
      ))
      h.stands);
}

abbrev IsClosed : (T : Type 0) → Result T KeepFault → Failed → Type 0
IsClosed T result failed = result ≡ Err (faults.Closed failed)

abbrev IsFull : (T : Type 0) → Result T KeepFault → ℕ → Type 0
IsFull T result n = result ≡ Err (faults.Full n)

-- ---- where the note isn't taken in

-- the disk was open, and the log had room
pub unkept_open : (fault : KeepFault) (before : KeeperState) (end size : ℕ) → before.fault ≡ None → end + size ≤ log_limit
    → ((failed : Failed) → IsClosed ℕ (Err fault) failed ↔ (before.fault ≡ Some failed))
    → ((n : ℕ) → IsFull ℕ (Err fault) n ↔ ((before.fault ≡ None) × (n ≡ end) × (log_limit < end + size)))
    → IsOpen {T = Unit {0}} (Err fault)
unkept_open faults.Memory before end size none room closed full = tt
unkept_open (faults.Disk failed) before end size none room closed full = tt
unkept_open (faults.Closed failed) before end size none room closed full =
    let has = (closed failed).0 refl in
    absurd cc
unkept_open (faults.Full n) before end size none room closed full =
    let over = ((full n).0 refl).2 in
    absurd (omega (arith, over, room))
unkept_open (faults.Damaged damage) before end size none room closed full = tt

pub unkept_after : (fault : KeepFault) (prepared : PreparedChange) (before now : KeeperState) → IsOpen {T = Unit {0}} (Err fault) → AfterKeepingLater (Err fault) prepared before now → AfterSnapshot (Err fault) before now
unkept_after faults.Memory prepared before now is_open after = absurd after
unkept_after (faults.Disk failed) prepared before now is_open after = ap (λ (k : KeeperState). k.fault) after
unkept_after (faults.Closed failed) prepared before now is_open after = absurd is_open
unkept_after (faults.Full count) prepared before now is_open after = absurd is_open
unkept_after (faults.Damaged damage) prepared before now is_open after = absurd after

pub unkept_snapped : (fault : KeepFault) (tells : Bool) (reads : Image) (may_leave : Image → Type 0) (now : KeeperState) (changes : List Change) (change : Change) → IsOpen {T = Unit {0}} (Err fault) → KeptLater (Err fault) tells reads may_leave now changes changes change → Snapped (Err fault) tells reads may_leave now changes
unkept_snapped faults.Memory tells reads may_leave now changes change is_open kept = absurd kept
unkept_snapped (faults.Disk failed) tells reads may_leave now changes change is_open kept = stands_either tells reads may_leave changes (changes ++ note ∷ []) kept
unkept_snapped (faults.Closed failed) tells reads may_leave now changes change is_open kept = absurd is_open
unkept_snapped (faults.Full count) tells reads may_leave now changes change is_open kept = absurd is_open
unkept_snapped (faults.Damaged damage) tells reads may_leave now changes change is_open kept = absurd kept

-- ---- where it is

pub same_file : (prepared : PreparedChange) (before mid : KeeperState) → HasTakenIn prepared before mid → (mid.log.number ≡ before.log.number) × (mid.mark ≡ before.mark)
same_file prepared before mid taken = (ap (λ (k : KeeperState). k.log.number) taken.1, ap (λ (k : KeeperState). k.mark) taken.1)

pub snapped_after : (prepared : PreparedChange) (before mid now : KeeperState) (size : ℕ) → prepared.change ≡ note → HasTakenIn prepared before mid → now ≡ imaged mid size → HasSnapped before now
snapped_after prepared before mid now size is taken after =
    let made = taken.1 in
    let log : now.log ≡ longer before.log (length (block note)) = ap (λ (k : KeeperState). k.log) after ∙ ap (λ (k : KeeperState). k.log) made ∙ ap (λ c. longer before.log (length (block c))) is in
    let log_mid : mid.log ≡ now.log = sym (ap (λ (k : KeeperState). k.log) after) in
    let count_mid : mid.count ≡ now.count = sym (ap (λ (k : KeeperState). k.count) after) in
    let mark_mid : mid.mark ≡ before.mark = ap (λ (k : KeeperState). k.mark) made in
    record {
      log = log;
      count = sym count_mid ∙ ap (λ (k : KeeperState). k.count) made;
      size = size;
      mark = ap (λ (k : KeeperState). k.mark) after ∙ (λ i. imaged_mark (mark_mid i) (log_mid i) (count_mid i) (other_image (mark_mid i).image) size);
      fault = ap (λ (k : KeeperState). k.fault) after ∙ ap (λ (k : KeeperState). k.fault) made;
    }

-- ---- from the keeper before the note was prepared

pub after_prepared : (result : Result (Unit {0}) KeepFault) (before mid now : KeeperState) → IsOpen result → mid ≡ record before { system = mid.system; history = mid.history } → AfterSnapshot result mid now → AfterSnapshot result before now
after_prepared (Ok done) before mid now is_open same after =
    let log : mid.log ≡ before.log = ap (λ (k : KeeperState). k.log) same in
    let mark : mid.mark ≡ before.mark = ap (λ (k : KeeperState). k.mark) same in
    let count : mid.count ≡ before.count = ap (λ (k : KeeperState). k.count) same in
    record {
      log = after.log ∙ ap (λ l. longer l (length (block note))) log;
      count = after.count ∙ ap one_more count;
      size = after.size;
      mark = after.mark ∙ ap (λ m. imaged_mark m now.log now.count (other_image m.image) after.size) mark;
      fault = after.fault ∙ ap (λ (k : KeeperState). k.fault) same;
    }
after_prepared (Err faults.Memory) before mid now is_open same after = after ∙ ap (λ (k : KeeperState). k.fault) same
after_prepared (Err (faults.Disk failed)) before mid now is_open same after = after
after_prepared (Err (faults.Closed failed)) before mid now is_open same after = absurd is_open
after_prepared (Err (faults.Full count)) before mid now is_open same after = absurd is_open
after_prepared (Err (faults.Damaged damage)) before mid now is_open same after = absurd after

pub keeps_prepared : (tells : Bool) (reads : Image) (may_leave : Image → Type 0) (before now : KeeperState) (changes : List Change) → now ≡ record before { system = now.system; history = now.history }
    → ((state : State) → IsSystemOf before.system state → IsSystemOf now.system state) → ((placed : PlacedState) → HasPlaces before.system placed → HasPlaces now.system placed) → ((list : List Change) → IsHistoryOf before.history list → IsHistoryOf now.history list)
    → Keeps tells reads may_leave before changes changes → Keeps tells reads may_leave now changes changes
keeps_prepared tells reads may_leave before now changes same system places history keeps =
    let made : KeeperState = record before { system = now.system; history = now.history } in
    let P : KeeperState → Type 0 = λ k. Keeps tells reads may_leave k changes changes in
    let kept : P made = record {
      holds = keeps.holds;
      front = keeps.front;
      image = keeps.image;
      built = keeps.built;
      system = system (state_of changes) keeps.system;
      places = places (placed_of changes) keeps.places;
      history = history changes keeps.history;
      count = keeps.count;
      faultless = keeps.faultless;
    } in
    subst P {x = made} (sym {a = now} {b = made} same) kept

pub made_of : (tells : Bool) (reads : Image) (may_leave : Image → Type 0) (keeper : KeeperState) (changes : List Change) → Keeps tells reads may_leave keeper changes changes → HasMade keeper changes
made_of tells reads may_leave keeper changes keeps = record { built = keeps.built; system = keeps.system; places = keeps.places; history = keeps.history; count = keeps.count }

-- ---- the disk was open, and the log had room

pub closed_open : (result : Result (Unit {0}) KeepFault) (fault : Option Failed) (failed : Failed) → fault ≡ None → IsOpen result → (result ≡ Err (faults.Closed failed)) ↔ (fault ≡ Some failed)
closed_open result fault failed none is_open = (λ e. absurd (subst IsOpen e is_open), λ e. absurd cc)

pub full_open : (result : Result (Unit {0}) KeepFault) (fault : Option Failed) (end size n : ℕ) → end + size ≤ log_limit → IsOpen result → (result ≡ Err (faults.Full n)) ↔ ((fault ≡ None) × (n ≡ end) × (log_limit < end + size))
full_open result fault end size n room is_open = (
  λ e. absurd (subst IsOpen e is_open),
  λ over.
      let above = over.2 in
      absurd (omega (arith, above, room)),
)

-- ---- whatever a crash may leave

-- the log is the same where the note isn't taken in
pub unkept_log : (fault : KeepFault) (prepared : PreparedChange) (before now : KeeperState) → AfterKeepingLater (Err fault) prepared before now → now.log.number ≡ before.log.number
unkept_log faults.Memory prepared before now after = absurd after
unkept_log (faults.Disk failed) prepared before now after = ap (λ (k : KeeperState). k.log.number) after
unkept_log (faults.Closed failed) prepared before now after = ap (λ (k : KeeperState). k.log.number) after
unkept_log (faults.Full count) prepared before now after = ap (λ (k : KeeperState). k.log.number) after
unkept_log (faults.Damaged damage) prepared before now after = absurd after

-- a keeper that has prepared the note has what it had
pub written_prepared : (tells : Bool) (reads : Image) (before now : KeeperState) (changes : List Change) → now ≡ record before { system = now.system; history = now.history }
    → ((state : State) → IsSystemOf before.system state → IsSystemOf now.system state) → ((placed : PlacedState) → HasPlaces before.system placed → HasPlaces now.system placed) → ((list : List Change) → IsHistoryOf before.history list → IsHistoryOf now.history list)
    → HasWritten tells reads before changes → HasWritten tells reads now changes
written_prepared tells reads before now changes same system places history h =
    let made : KeeperState = record before { system = now.system; history = now.history } in
    let P : KeeperState → Type 0 = λ k. HasWritten tells reads k changes in
    let kept : P made = record {
      made = record {
        built = h.made.built;
        system = system (state_of changes) h.made.system;
        places = places (placed_of changes) h.made.places;
        history = history changes h.made.history;
        count = h.made.count;
      };
      list = h.list;
      whole = h.whole;
      bytes = h.bytes;
    } in
    subst P {x = made} (sym {a = now} {b = made} same) kept

log_or_mark : (b : Bool) → (if b then Log0 else Log1) ≢ Mark
log_or_mark true e = cc
log_or_mark false e = cc

-- and so has one whose log is committed by a mark that names an image
pub written_imaged : (tells new_tells : Bool) (reads new_reads : Image) (before now : KeeperState) (size : ℕ) (changes : List Change) → now ≡ imaged before size → new_tells ≡ tells → ((other : FileId) → other ≢ Mark → other ≢ image_file (other_image before.mark.image) → new_reads other ≡ reads other) → HasWritten tells reads before changes → HasWritten new_tells new_reads now changes
written_imaged tells new_tells reads new_reads before now size changes same telling others h =
    let made : KeeperState = imaged before size in
    let P : KeeperState → Type 0 = λ k. HasWritten new_tells new_reads k changes in
    let log = log_file before.log.number in
    let still : new_reads log ≡ reads log = others log (log_or_mark _) (image_is_no_log before.log.number (other_image before.mark.image)) in
    let kept : P made = record {
      made = record { built = h.made.built; system = h.made.system; places = h.made.places; history = h.made.history; count = h.made.count };
      list = h.list;
      whole = h.whole;
      bytes = λ told. ap (take before.log.end) still ∙ h.bytes (sym telling ∙ told);
    } in
    subst P {x = made} (sym {a = now} {b = made} same) kept
