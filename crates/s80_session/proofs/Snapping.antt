-- A session makes a snapshot: behind a flush its list takes the note, for which the disk then stands, with its image.
use Rattle.std.proofs.Common.{◌≡◌, ◌≢◌, ◌++◌, ◌∷◌, ◌+◌, ◌<◌, ◌≤◌, inl, inr, ⊎_elim, ℕ, List, [], length, None, Some, Bool, true, false, if◌then◌else◌, Result, Ok, Err, refl, sym, ap, subst, ◌∙◌, arith, length-append}
use Rattle.std.proofs.lemmas.Bool.Decides.{leb_tells}
use Rattle.std.proofs.lemmas.List.{append-nil}
use Rattle.std.specs.Prelude.{IfErr, ◌↔◌, ◌==◌}
use Rattle.s80_apply.specs.List.{add, added, refusal_to, state_of, too_full}
use Rattle.s80_apply.proofs.lemmas.Lists.{blocks_more}
use Rattle.s80_base.specs.Causes.{Rose}
use Rattle.s80_base.specs.declared.outside.Failed.{Failed}
use Rattle.s80_change.specs.declared.change.Change.{Change}
use Rattle.s80_change.specs.declared.change.Change.TheVariants.{DoIt}
use Rattle.s80_change.specs.Block.{block, blocks, log_limit}
use Rattle.s80_form.specs.declared.refusal.Refusal.{Refusal}
use Rattle.s80_form.specs.declared.refusal.Refusal.TheVariants.{LogFull}
use Rattle.s80_disk.specs.declared.disk.FileId.{FileId}
use Rattle.s80_disk.specs.declared.disk.FileId.TheVariants.{Image0, Image1, Mark}
use Rattle.s80_disk.specs.Image.{Image}
use Rattle.s80_disk.specs.Moments.{LeavesOnly}
use Rattle.s80_disk.specs.Shown.{Faults, Shown}
use Rattle.s80_disk.proofs.lemmas.Run.{weaker}
use Rattle.s80_keeper.specs.declared.keep.KeepFault.{KeepFault}
use Rattle.s80_keeper.specs.declared.keep.KeepFault.TheVariants as faults
use Rattle.s80_keeper.specs.Answers.{IfKeepDisk, UnlessKeepDisk}
use Rattle.s80_keeper.specs.Imaged.{image_file}
use Rattle.s80_keeper.specs.Keeper.{KeeperState, Keeps}
use Rattle.s80_keeper.specs.Renewing.{HasWritten}
use Rattle.s80_keeper.specs.Snapshot.{AfterSnapshot, LeavesApart, Snapped, note}
use Rattle.s80_keeper.specs.Standing.{FilesStandFor, LeavesEither, ReadsFor}
use Rattle.s80_model.specs.declared.item.SessionItem.{SessionItem}
use Rattle.s80_model.specs.declared.reply.Reply.{Reply}
use Rattle.s80_model.specs.declared.reply.Reply.TheVariants.{Accepted, Refused}
use Rattle.s80_model.specs.Asked.{adds, snapshot_note}
use Rattle.s80_model.specs.Replies.{Work, list_or, reply_to_adding, work_after}
use Rattle.s80_session.specs.declared.session.Session.{Session}
use Rattle.s80_session.specs.Ending.{HasReason, OnOkOrMemory}
use Rattle.s80_session.specs.Ends.{refusal_at_fault}
use Rattle.s80_session.specs.Files.{AsksSnapshot, IsElsewhere, IsNoImage}
use Rattle.s80_session.specs.Known.{StaysKnowing}
use Rattle.s80_session.specs.Session.{keeper_of}
use Rattle.s80_session.specs.Working.{Ground, IsAt, IsPast, FlushLeaves, WorkedAlone, WorkLeaves, flushed}
use Rattle.s80_session.proofs.Adding.{not_both}
use Rattle.s80_session.proofs.Condensing.{at_list, reads_within, stands_within}
use Rattle.s80_session.proofs.Reading.{faults_same}
use Rattle.s80_session.proofs.lemmas.Grounds.{flushed_works}

-- ---- the list with the note

abbrev pub noted : List Change → List Change
noted changes = changes ++ note ∷ []

fits_is : (end size : ℕ) → end + size ≤ log_limit → too_full end size ≡ None
fits_is end size fits =
    elim (leb_tells (end + size) log_limit) [
      | inl h ↦ rw h.0 refl
      | inr h ↦ absurd (omega arith)
    ]

over_is : (end size : ℕ) → log_limit < end + size → too_full end size ≡ Some (LogFull end)
over_is end size over =
    elim (leb_tells (end + size) log_limit) [
      | inl h ↦ absurd (omega arith)
      | inr h ↦ rw h.0 refl
    ]

-- the model takes the note where it fits
takes : (changes : List Change) → length (blocks (noted changes)) ≤ log_limit → add changes (DoIt snapshot_note) ≡ Ok (noted changes)
takes changes within =
    let size : length (blocks (noted changes)) ≡ length (blocks changes) + length (block note) = ap length (blocks_more changes note) ∙ length-append (blocks changes) (block note) in
    let fits : length (blocks changes) + length (block note) ≤ log_limit = subst (λ n. n ≤ log_limit) size within in
    ap (λ r. added r (noted changes)) (fits_is (length (blocks changes)) (length (block note)) fits)

-- and else refuses it
refuses : (changes : List Change) → log_limit < length (blocks changes) + length (block note) → add changes (DoIt snapshot_note) ≡ Err (LogFull (length (blocks changes)))
refuses changes over = ap (λ r. added r (noted changes)) (over_is (length (blocks changes)) (length (block note)) over)

-- it stands behind what was asked
behind_is : (work : Work) → length (blocks (noted work.changes)) ≤ log_limit → (work_after work (adds (DoIt snapshot_note))).changes ≡ noted work.changes
behind_is work within = ap (λ r. list_or r work.changes) (takes work.changes within)

-- ---- what a session makes of it

module _ (was may_leave : Image → Type 0) (o now : Shown) (before session : Session) (work : Work) (basis : Ground) (item : SessionItem) (asks : AsksSnapshot item) (rest : session ≡ record before { keeper = keeper_of session }) (shown : now ≡ record o { files = now.files }) (at : IsAt was o before work (basis.put ++ basis.held)) where
  -- it is where it was
  stays_at : Keeps now.tells now.files may_leave (keeper_of session) work.changes work.changes → IsAt may_leave now session work (basis.put ++ basis.held)
  stays_at keeps = at_list was may_leave o now before session work (basis.put ++ basis.held) work.changes rest shown keeps at

  -- all is done
  pub snapped_ok : Snapped (Ok tt) now.tells now.files may_leave (keeper_of session) work.changes → WorkedAlone (Ok Accepted) may_leave now session work basis item (adds (DoIt snapshot_note))
  snapped_ok keeps =
      let within = keeps.holds.list.within in
      let P : List Change → Type 0 = λ l. IsAt may_leave now session (record work { changes = l }) (basis.put ++ basis.held) in
      (sym (ap reply_to_adding (takes work.changes within)), subst P (sym (behind_is work within)) (at_list was may_leave o now before session work (basis.put ++ basis.held) (noted work.changes) rest shown keeps at))

  -- the log is full: another fault refuses nothing
  pub snapped_refused : (fault : KeepFault) (refusal : Refusal) → refusal_at_fault fault ≡ Ok refusal → ((n : ℕ) → fault ≡ faults.Full n → (n ≡ (keeper_of before).log.end) × (log_limit < (keeper_of before).log.end + length (block note))) → Snapped (Err fault) now.tells now.files may_leave (keeper_of session) work.changes → WorkedAlone (Ok (Refused refusal)) may_leave now session work basis item (adds (DoIt snapshot_note))
  snapped_refused (faults.Full count) refusal gives full keeps =
      let whole : (keeper_of before).log.end ≡ length (blocks work.changes) = at.keeps.holds.whole in
      let long = full count refl in
      let is : add work.changes (DoIt snapshot_note) ≡ Err (LogFull (length (blocks work.changes))) = refuses work.changes (subst (λ n. log_limit < n + length (block note)) whole long.1) in
      let told : LogFull count ≡ refusal = cc in
      let P : List Change → Type 0 = λ l. IsAt may_leave now session (record work { changes = l }) (basis.put ++ basis.held) in (
        ap Refused (sym told ∙ ap LogFull (long.0 ∙ whole)) ∙ sym (ap reply_to_adding is),
        subst P (sym (ap (λ r. list_or r work.changes) is)) (stays_at keeps),
      )
  snapped_refused faults.Memory refusal gives full h = absurd (cc)
  snapped_refused (faults.Disk failed) refusal gives full h = absurd (cc)
  snapped_refused (faults.Closed failed) refusal gives full h = absurd (cc)
  snapped_refused (faults.Damaged damage) refusal gives full h = absurd (cc)

  -- memory was wanting, or the disk failed
  pub snapped_err : (fault : KeepFault) → Snapped (Err fault) now.tells now.files may_leave (keeper_of session) work.changes → IfErr (refusal_at_fault fault) (λ end. WorkedAlone (Err end) may_leave now session work basis item (adds (DoIt snapshot_note)))
  snapped_err faults.Memory h = inr (stays_at h)
  snapped_err (faults.Disk failed) h =
      let taken = ap (λ (s : Shown). s.taken) shown ∙ at.taken in
      let behind : ReadsFor now.tells now.files may_leave (noted work.changes) → IsPast work item (noted work.changes) = λ reads. inr (adds (DoIt snapshot_note), (asks, tt), sym (behind_is work (reads_within now.tells now.files may_leave (noted work.changes) reads))) in
      inr (⊎_elim (λ (reads : ReadsFor now.tells now.files may_leave work.changes). record { taken = taken; list = work.changes; is = inl refl; reads = reads }) (λ (reads : ReadsFor now.tells now.files may_leave (noted work.changes)). record { taken = taken; list = noted work.changes; is = behind reads; reads = reads }) h.stands)
  snapped_err (faults.Closed failed) h = absurd h
  snapped_err (faults.Full count) h = tt
  snapped_err (faults.Damaged damage) h = absurd h

-- ---- what a crash leaves

snapping_works : (work : Work) (basis : Ground) (item : SessionItem) (told_before told : ℕ) (c : Image) → told_before ≡ length (basis.put ++ basis.held) → AsksSnapshot item → LeavesEither told_before work.changes (noted work.changes) told c → WorkLeaves work (flushed work basis) item told c
snapping_works work basis item told_before told c is asks h =
    let size = ap length (append-nil (basis.put ++ basis.held)) in
    ⊎_elim (λ (files : FilesStandFor c work.changes). inl (inl (record { no_more = omega (arith, h.told_is, is); files = files })))
    (λ (files : FilesStandFor c (noted work.changes)). inr (adds (DoIt snapshot_note), (asks, tt), record { no_more = omega (arith, h.told_is, is, size); files = subst (FilesStandFor c) (sym (behind_is work (stands_within c (noted work.changes) files))) files })) h.files

module _ {D : Type 0} (moment : D → ℕ) (left_since : D → ℕ → ℕ → Image → Type 0) where
  pub snapping_lasts : (old mid new : D) (work : Work) (basis : Ground) (item : SessionItem) (told_before : ℕ) → told_before ≡ length (basis.put ++ basis.held) → AsksSnapshot item → LeavesOnly moment left_since old mid (FlushLeaves work basis) → LeavesOnly moment left_since mid new (LeavesEither told_before work.changes (noted work.changes)) → LeavesOnly moment left_since old new (WorkLeaves work basis item)
  snapping_lasts old mid new work basis item told_before is asks first second =
      flushed_works moment left_since old mid new work basis item first (weaker moment left_since mid new (LeavesEither told_before work.changes (noted work.changes)) (WorkLeaves work (flushed work basis) item) second (λ told c h. snapping_works work basis item told_before told c is asks h))

  -- the mark, one log and one image were to be written
  pub elsewhere_apart : (old new : D) (before : Image → Type 0) (told : ℕ) (log image : FileId) (Stays : FileId → Type 0) → ((other : FileId) → Stays other → (other ≢ Mark) × (other ≢ log) × (other ≢ image)) → LeavesOnly moment left_since old new (LeavesApart before told log image) → LeavesOnly moment left_since old new (IsElsewhere before Stays)
  elsewhere_apart old new before told log image Stays none run = weaker moment left_since old new (LeavesApart before told log image) (IsElsewhere before Stays) run (λ n c h. record {
    image = h.left;
    was = h.was;
    others = λ other stays. let p = none other stays in h.others other p.0 p.1 p.2;
  })

-- what is none of the image files is none by its number
no_image_by : (b : Bool) (file : FileId) → IsNoImage file → file ≢ (if b then Image0 else Image1)
no_image_by true file none = none.first
no_image_by false file none = none.second

pub no_image : (number : ℕ) (file : FileId) → IsNoImage file → file ≢ image_file number
no_image number = no_image_by (number == 0)

-- ---- what it leaves of the keeper

-- a keeper that refuses has met no fault
pub snapped_calm : (fault : KeepFault) (refusal : Refusal) (before now : KeeperState) → refusal_at_fault fault ≡ Ok refusal → AfterSnapshot (Err fault) before now → before.fault ≡ None → now.fault ≡ None
snapped_calm (faults.Full count) refusal before now gives after calm = after ∙ calm
snapped_calm faults.Memory refusal before now gives after calm = after ∙ calm
snapped_calm (faults.Disk failed) refusal before now gives after calm = absurd (cc)
snapped_calm (faults.Closed failed) refusal before now gives after calm = absurd (cc)
snapped_calm (faults.Damaged damage) refusal before now gives after calm = absurd after

pub snapped_ends : (fault : KeepFault) (before now : KeeperState) → AfterSnapshot (Err fault) before now → before.fault ≡ None → IfErr (refusal_at_fault fault) (λ end. OnOkOrMemory {T = Reply} (Err end) (now.fault ≡ None))
snapped_ends faults.Memory before now after calm = after ∙ calm
snapped_ends (faults.Disk failed) before now after calm = tt
snapped_ends (faults.Closed failed) before now after calm = tt
snapped_ends (faults.Full n) before now after calm = tt
snapped_ends (faults.Damaged damage) before now after calm = absurd after

-- why it ends
pub snapped_reason : (result : Result (Unit {0}) KeepFault) (before now : KeeperState) (fault : KeepFault) (a b : Faults) → result ≡ Err fault → AfterSnapshot (Err fault) before now → b ≡ record a { disk = b.disk } → IfKeepDisk result (λ failed. Rose a.disk b.disk) → UnlessKeepDisk result (b.disk ≡ a.disk) → ((failed : Failed) → (result ≡ Err (faults.Closed failed)) ↔ (before.fault ≡ Some failed)) → before.fault ≡ None → IfErr (refusal_at_fault fault) (HasReason a b)
snapped_reason result before now faults.Memory a b is after rest cause stay closed calm =
    let P : Result (Unit {0}) KeepFault → Type 0 = λ r. UnlessKeepDisk r (b.disk ≡ a.disk) in
    faults_same a b rest (subst P is stay)
snapped_reason result before now (faults.Disk failed) a b is after rest cause stay closed calm = let P : Result (Unit {0}) KeepFault → Type 0 = λ r. IfKeepDisk r (λ failed. Rose a.disk b.disk) in subst P is cause
snapped_reason result before now (faults.Closed failed) a b is after rest cause stay closed calm = absurd (not_both before.fault failed calm ((closed failed).0 is))
snapped_reason result before now (faults.Full n) a b is after rest cause stay closed calm = tt
snapped_reason result before now (faults.Damaged damage) a b is after rest cause stay closed calm = absurd after

-- a full log leaves all that is known
pub snapped_still : (fault : KeepFault) (refusal : Refusal) (mid now : Shown) (before after : KeeperState) (changes : List Change) → refusal_at_fault fault ≡ Ok refusal → ((n : ℕ) → fault ≡ faults.Full n → (now ≡ mid) × (after ≡ before)) → HasWritten mid.tells mid.files before changes → HasWritten now.tells now.files after changes
snapped_still (faults.Full count) refusal mid now before after changes gives same h =
    let p = same count refl in
    let P : Shown → Type 0 = λ o. HasWritten o.tells o.files before changes in
    let Q : KeeperState → Type 0 = λ k. HasWritten now.tells now.files k changes in
    subst Q (sym p.1) (subst P (sym p.0) h)
snapped_still faults.Memory refusal mid now before after changes gives same h = absurd (cc)
snapped_still (faults.Disk failed) refusal mid now before after changes gives same h = absurd (cc)
snapped_still (faults.Closed failed) refusal mid now before after changes gives same h = absurd (cc)
snapped_still (faults.Damaged damage) refusal mid now before after changes gives same h = absurd (cc)

-- no damage is met
pub snapped_known : (fault : KeepFault) (o : Shown) (session : Session) (before now : KeeperState) → AfterSnapshot (Err fault) before now → IfErr (refusal_at_fault fault) (λ end. StaysKnowing {T = Reply} (Err end) o session)
snapped_known (faults.Damaged damage) o session before now after = absurd after
snapped_known faults.Memory o session before now after = tt
snapped_known (faults.Disk failed) o session before now after = tt
snapped_known (faults.Closed failed) o session before now after = tt
snapped_known (faults.Full count) o session before now after = tt
