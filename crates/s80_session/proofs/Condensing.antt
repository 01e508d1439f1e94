-- A session condenses: behind a flush its list gives way to a shorter one, which the disk then stands for.
use Rattle.std.proofs.Common.{◌≡◌, ◌++◌, ◌⊎◌, ◌-◌, ◌<◌, ◌≤◌, inl, inr, ⊎_elim, ℕ, List, length, None, Result, Ok, Err, refl, sym, ap, subst, ◌∙◌, arith}
use Rattle.std.proofs.lemmas.Bool.Decides.{leb_tells}
use Rattle.std.proofs.lemmas.List.{append-nil}
use Rattle.std.specs.Prelude.{IfErr}
use Rattle.s80_change.specs.declared.change.Change.{Change}
use Rattle.s80_change.specs.Block.{blocks, log_limit}
use Rattle.s80_form.specs.declared.refusal.Refusal.{Refusal}
use Rattle.s80_form.specs.declared.refusal.Refusal.TheVariants.{LogFull}
use Rattle.s80_disk.specs.Image.{Image}
use Rattle.s80_disk.specs.Moments.{LeavesOnly}
use Rattle.s80_disk.specs.Shown.{Shown}
use Rattle.s80_disk.proofs.lemmas.Run.{weaker}
use Rattle.s80_fileout.specs.Condensed.{kept as with_versions}
use Rattle.s80_keeper.specs.declared.keep.KeepFault.{KeepFault}
use Rattle.s80_keeper.specs.declared.keep.KeepFault.TheVariants as faults
use Rattle.s80_keeper.specs.Answers.{UnlessKeepDisk}
use Rattle.s80_keeper.specs.Condensing.{AfterCondensing, Condensed, IfReplaced}
use Rattle.s80_keeper.specs.Keeper.{KeeperState, Keeps}
use Rattle.s80_keeper.specs.Standing.{FilesStandFor, LeavesEither, ReadsFor}
use Rattle.s80_model.specs.declared.item.SessionItem.{SessionItem}
use Rattle.s80_model.specs.declared.reply.Reply.{Reply}
use Rattle.s80_model.specs.declared.reply.Reply.TheVariants.{Accepted, Refused}
use Rattle.s80_model.specs.Asked.{condenses, Asks}
use Rattle.s80_model.specs.Replies.{Work, list_or, reply_to_adding, within_log, work_after}
use Rattle.s80_session.specs.declared.session.Session.{Session}
use Rattle.s80_session.specs.Ending.{MeetsNoDamage}
use Rattle.s80_session.specs.Ends.{refusal_at_fault}
use Rattle.s80_session.specs.Session.{budget_of, held_of, keeper_of, kept_versions_of, section_of}
use Rattle.s80_session.specs.Working.{Ground, IsAt, IsPast, FlushLeaves, WorkedAlone, WorkLeaves, flushed}
use Rattle.s80_session.proofs.Reading.{reading_log}
use Rattle.s80_session.proofs.lemmas.Grounds.{flushed_works}

-- ---- the shorter list

-- it takes the place of the old one within a log's limit
pub within_is : (short : List Change) → length (blocks short) ≤ log_limit → within_log short ≡ Ok short
within_is short within =
    elim (leb_tells (length (blocks short)) log_limit) [
      | inl h ↦ rw h.0 refl
      | inr h ↦ absurd (omega arith)
    ]

-- and else it is refused
over_is : (short : List Change) → log_limit < length (blocks short) → within_log short ≡ Err (LogFull (length (blocks short)))
over_is short over =
    elim (leb_tells (length (blocks short)) log_limit) [
      | inl h ↦ absurd (omega arith)
      | inr h ↦ rw h.0 refl
    ]

-- for a longer one no files stand
pub stands_within : (c : Image) (short : List Change) → FilesStandFor c short → length (blocks short) ≤ log_limit
stands_within c short (inl empty) = subst (λ l. length (blocks l) ≤ log_limit) (sym empty.1) (omega arith)
stands_within c short (inr marked) = marked.1.list.within

-- and no disk reads
pub reads_within : (tells : _) (reads : Image) (may_leave : Image → Type 0) (short : List Change) → ReadsFor tells reads may_leave short → length (blocks short) ≤ log_limit
reads_within tells reads may_leave short h = ⊎_elim (λ empty. stands_within reads short (inl empty)) (λ marked. marked.1.list.within) h.stands

-- ---- what a session makes of it

-- the shorter list of a work
abbrev pub shorter : Work → List Change
shorter work = with_versions work.changes work.settings.kept_versions

-- it stands behind what was asked
behind_is : (work : Work) → length (blocks (shorter work)) ≤ log_limit → (work_after work condenses).changes ≡ shorter work
behind_is work within = ap (λ r. list_or r work.changes) (within_is (shorter work) within)

-- a session whose keeper is at another list, for which the disk stands, is there
pub at_list : (was may_leave : Image → Type 0) (o now : Shown) (before session : Session) (work : Work) (put : List ℕ) (list : List Change) → session ≡ record before { keeper = keeper_of session } → now ≡ record o { files = now.files } → Keeps now.tells now.files may_leave (keeper_of session) list list → IsAt was o before work put → IsAt may_leave now session (record work { changes = list }) put
at_list was may_leave o now before session work put list rest shown keeps at = record {
  keeps = keeps;
  section = ap section_of rest ∙ at.section;
  brief = at.brief;
  budget = ap budget_of rest ∙ at.budget;
  kept_versions = ap kept_versions_of rest ∙ at.kept_versions;
  moment = at.moment ∙ sym (ap (λ (s : Shown). s.seconds) shown);
  taken = ap (λ (s : Shown). s.taken) shown ∙ at.taken;
  told = ap (λ (s : Shown). s.told) shown ∙ at.told;
  held = ap held_of rest ∙ at.held;
}

module _ (was may_leave : Image → Type 0) (o now : Shown) (before session : Session) (work : Work) (basis : Ground) (item : SessionItem) (asks : Asks item condenses) (rest : session ≡ record before { keeper = keeper_of session }) (shown : now ≡ record o { files = now.files }) (at : IsAt was o before work (basis.put ++ basis.held)) where
  -- it is where it was
  stays_at : Keeps now.tells now.files may_leave (keeper_of session) work.changes work.changes → IsAt may_leave now session work (basis.put ++ basis.held)
  stays_at keeps = at_list was may_leave o now before session work (basis.put ++ basis.held) work.changes rest shown keeps at

  -- all is done
  pub condensed_ok : Condensed (Ok tt) now.tells now.files may_leave (keeper_of session) work.changes (shorter work) → WorkedAlone (Ok Accepted) may_leave now session work basis item condenses
  condensed_ok keeps =
      let within = keeps.holds.list.within in
      let P : List Change → Type 0 = λ l. IsAt may_leave now session (record work { changes = l }) (basis.put ++ basis.held) in
      (sym (ap reply_to_adding (within_is (shorter work) within)), subst P (sym (behind_is work within)) (at_list was may_leave o now before session work (basis.put ++ basis.held) (shorter work) rest shown keeps at))

  -- the list is too long: another fault refuses nothing
  pub condensed_refused : (fault : KeepFault) (refusal : Refusal) → refusal_at_fault fault ≡ Ok refusal → Condensed (Err fault) now.tells now.files may_leave (keeper_of session) work.changes (shorter work) → WorkedAlone (Ok (Refused refusal)) may_leave now session work basis item condenses
  condensed_refused (faults.Full count) refusal gives (keeps, long) =
      let over : log_limit < length (blocks (shorter work)) = subst (λ n. log_limit < n) long.length_is long.over in
      let is : within_log (shorter work) ≡ Err (LogFull (length (blocks (shorter work)))) = over_is (shorter work) over in
      let told : LogFull count ≡ refusal = cc in
      let P : List Change → Type 0 = λ l. IsAt may_leave now session (record work { changes = l }) (basis.put ++ basis.held) in (
        ap Refused (sym told ∙ ap LogFull long.length_is) ∙ sym (ap reply_to_adding is),
        subst P (sym (ap (λ r. list_or r work.changes) is)) (stays_at keeps),
      )
  condensed_refused faults.Memory refusal gives h = absurd (cc)
  condensed_refused (faults.Disk failed) refusal gives h = absurd (cc)
  condensed_refused (faults.Closed failed) refusal gives h = absurd (cc)
  condensed_refused (faults.Damaged damage) refusal gives h = absurd (cc)

  -- memory was wanting, or the disk failed
  pub condensed_err : (fault : KeepFault) → Condensed (Err fault) now.tells now.files may_leave (keeper_of session) work.changes (shorter work) → IfErr (refusal_at_fault fault) (λ end. WorkedAlone (Err end) may_leave now session work basis item condenses)
  condensed_err faults.Memory h = inr (stays_at h)
  condensed_err (faults.Disk failed) h =
      let taken = ap (λ (s : Shown). s.taken) shown ∙ at.taken in
      let behind : ReadsFor now.tells now.files may_leave (shorter work) → IsPast work item (shorter work) = λ reads. inr (condenses, (asks, tt), sym (behind_is work (reads_within now.tells now.files may_leave (shorter work) reads))) in
      inr (⊎_elim (λ (reads : ReadsFor now.tells now.files may_leave work.changes). record { taken = taken; list = work.changes; is = inl refl; reads = reads }) (λ (reads : ReadsFor now.tells now.files may_leave (shorter work)). record { taken = taken; list = shorter work; is = behind reads; reads = reads }) h.stands)
  condensed_err (faults.Closed failed) h = absurd h
  condensed_err (faults.Full count) h = tt
  condensed_err (faults.Damaged damage) h = absurd h

-- ---- what a crash leaves

condensing_works : (work : Work) (basis : Ground) (item : SessionItem) (told_before told : ℕ) (c : Image) → told_before ≡ length (basis.put ++ basis.held) → Asks item condenses → LeavesEither told_before work.changes (shorter work) told c → WorkLeaves work (flushed work basis) item told c
condensing_works work basis item told_before told c is asks h =
    let size = ap length (append-nil (basis.put ++ basis.held)) in
    ⊎_elim (λ (files : FilesStandFor c work.changes). inl (inl (record { no_more = omega (arith, h.told_is, is); files = files })))
    (λ (files : FilesStandFor c (shorter work)). inr (condenses, (asks, tt), record { no_more = omega (arith, h.told_is, is, size); files = subst (FilesStandFor c) (sym (behind_is work (stands_within c (shorter work) files))) files })) h.files

module _ {D : Type 0} (moment : D → ℕ) (left_since : D → ℕ → ℕ → Image → Type 0) where
  pub condensing_lasts : (old mid new : D) (work : Work) (basis : Ground) (item : SessionItem) (told_before : ℕ) → told_before ≡ length (basis.put ++ basis.held) → Asks item condenses → LeavesOnly moment left_since old mid (FlushLeaves work basis) → LeavesOnly moment left_since mid new (LeavesEither told_before work.changes (shorter work)) → LeavesOnly moment left_since old new (WorkLeaves work basis item)
  condensing_lasts old mid new work basis item told_before is asks first second =
      flushed_works moment left_since old mid new work basis item first (weaker moment left_since mid new (LeavesEither told_before work.changes (shorter work)) (WorkLeaves work (flushed work basis) item) second (λ told c h. condensing_works work basis item told_before told c is asks h))

-- ---- what it leaves of the keeper

-- the log that counts is as before, or the other one
pub condensed_log : (result : Result (Unit {0}) KeepFault) (before now : KeeperState) → AfterCondensing result before now → (now.log.number ≡ before.log.number) ⊎ (now.log.number ≡ 1 - before.log.number)
condensed_log (Ok done) before now after = inr after.log
condensed_log (Err fault) before now after = inl (reading_log (Unit {0}) (Err fault) before now after)

-- a keeper that refuses is as before
pub condensed_calm : (fault : KeepFault) (refusal : Refusal) (before now : KeeperState) → refusal_at_fault fault ≡ Ok refusal → AfterCondensing (Err fault) before now → before.fault ≡ None → now.fault ≡ None
condensed_calm (faults.Full count) refusal before now gives after calm = ap (λ (k : KeeperState). k.fault) after ∙ calm
condensed_calm faults.Memory refusal before now gives after calm = absurd (cc)
condensed_calm (faults.Disk failed) refusal before now gives after calm = absurd (cc)
condensed_calm (faults.Closed failed) refusal before now gives after calm = absurd (cc)
condensed_calm (faults.Damaged damage) refusal before now gives after calm = absurd (cc)

-- no damage is met
pub condensed_whole : (P : Type 0) (fault : KeepFault) → IfReplaced {T = Unit {0}} (Err fault) P → IfErr (refusal_at_fault fault) (λ end. MeetsNoDamage {T = Reply} (Err end))
condensed_whole P faults.Memory h = tt
condensed_whole P (faults.Disk failed) h = tt
condensed_whole P (faults.Closed failed) h = tt
condensed_whole P (faults.Full count) h = tt
condensed_whole P (faults.Damaged damage) h = absurd h

-- without a fault no count rose
pub condensed_quiet : (fault : KeepFault) (refusal : Refusal) (P : Type 0) → refusal_at_fault fault ≡ Ok refusal → UnlessKeepDisk {T = Unit {0}} (Err fault) P → P
condensed_quiet (faults.Full count) refusal P gives h = h
condensed_quiet faults.Memory refusal P gives h = h
condensed_quiet (faults.Disk failed) refusal P gives h = absurd (cc)
condensed_quiet (faults.Closed failed) refusal P gives h = absurd (cc)
condensed_quiet (faults.Damaged damage) refusal P gives h = absurd (cc)
