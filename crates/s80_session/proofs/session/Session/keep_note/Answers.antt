use Rattle.std.proofs.Common.{◌≡◌, ◌++◌, ◌+◌, ◌<◌, inr, ℕ, List, length, None, Result, Ok, Err, refl, sym, ap, subst, ◌∙◌, arith}
use Rattle.std.specs.Prelude.{◌≢◌, IfErr, IsTrue, OnOk}
use Rattle.std.proofs.lemmas.Result.{err_from_is_err_and}
use Rattle.s80_change.specs.declared.change.Change.{Change}
use Rattle.s80_change.specs.declared.change.Change.TheVariants.{DoIt}
use Rattle.s80_change.specs.Block.{block, log_limit}
use Rattle.s80_disk.specs.declared.disk.FileId.{FileId}
use Rattle.s80_disk.specs.declared.disk.FileId.TheVariants.{Mark}
use Rattle.s80_disk.specs.Moments.{LeavesOnly}
use Rattle.s80_disk.specs.Shown.{Faults, Shown}
use Rattle.s80_form.specs.declared.refusal.Refusal.{Refusal}
use Rattle.s80_keeper.specs.declared.keep.KeepFault.{KeepFault}
use Rattle.s80_keeper.specs.declared.keep.KeepFault.TheVariants as faults
use Rattle.s80_keeper.specs.Answers.{UnlessKeepDisk}
use Rattle.s80_keeper.specs.Imaged.{image_file}
use Rattle.s80_keeper.specs.Renewing.{HasWritten}
use Rattle.s80_keeper.specs.Snapshot.{AfterSnapshot, Snapped, note, other_image}
use Rattle.s80_log.specs.Log.{LogEnd, log_file}
use Rattle.s80_model.specs.declared.item.SessionItem.{SessionItem}
use Rattle.s80_model.specs.declared.reply.Reply.{Reply}
use Rattle.s80_model.specs.declared.reply.Reply.TheVariants.{Accepted, Refused}
use Rattle.s80_model.specs.Asked.{adds, snapshot_note}
use Rattle.s80_model.specs.Replies.{Work}
use Rattle.s80_session.specs.declared.end.SessionEnd.{SessionEnd}
use Rattle.s80_session.specs.declared.session.Session.{Session}
use Rattle.s80_session.specs.Ending.{Counts, HasReason, IsKeepEnd, IsWorkEnd, NoFewer, OnOkOrMemory}
use Rattle.s80_session.specs.Ends.{refusal_at_fault}
use Rattle.s80_session.specs.Files.{AsksSnapshot, IsElsewhere, IsOther, IsUnwritten}
use Rattle.s80_session.specs.Known.{StaysKnowing}
use Rattle.s80_session.specs.Session.{keeper_of, IsResting}
use Rattle.s80_session.specs.Working.{Ground, IsAmid, IsAt, WorkedAlone, WorkLeaves}
use Rattle.s80_session.proofs.Breaking.{done_counts, err_counts, flush_end_calm, flush_end_works, keep_end_works}
use Rattle.s80_session.proofs.Condensing.{condensed_quiet}
use Rattle.s80_session.proofs.Knowing.{flush_ends}
use Rattle.s80_session.proofs.Reading.{fault_keep_end, faults_same}
use Rattle.s80_session.proofs.Snapping.{elsewhere_apart, no_image, noted, snapped_calm, snapped_ends, snapped_err, snapped_known, snapped_ok, snapped_reason, snapped_refused, snapped_still, snapping_lasts}
use Rattle.s80_session.proofs.Stepping.{flush_alone}
use Rattle.s80_session.proofs.lemmas.Elsewhere.{elsewhere_fewer, elsewhere_then}
use Rattle.s80_session.proofs.lemmas.Grounds.{flush_works}
use Rattle.s80_session.proofs.session.Session.keep_note.Goals as goal
use Rattle.s80_session.proofs.session.Session.keep_note.Goals.{After-snapshot}

-- ---- the flush before it broke off

pub returns-in_err-flush-clause-noted : goal.returns-in_err-flush-clause-noted
returns-in_err-flush-clause-noted g c = λ work basis item asks at.
    let p = err_from_is_err_and c.from_residual.result c.from_residual.ensures.1 in
    rw (p.1, p.2) (flush_alone c.in_err-flush.field-0.0 (g.O.Disk.may_leave c.flush.new.outside) (g.O.Outside.shown c.flush.new.outside) c.flush.new.self work basis item (adds (DoIt snapshot_note)) (c.in_err-flush.ensures.flushed work basis at))

pub returns-in_err-flush-clause-any_moment : goal.returns-in_err-flush-clause-any_moment
returns-in_err-flush-clause-any_moment g c = λ work basis item asks at. flush_works g.O.Disk.moment g.O.Disk.left_since c.args.outside.now c.flush.new.outside work basis item (c.flush.ensures.any_moment work basis at)

pub returns-in_err-flush-clause-others : goal.returns-in_err-flush-clause-others
returns-in_err-flush-clause-others g c = λ item other asks is. c.flush.ensures.others other is.other.no_mark

pub returns-in_err-flush-clause-elsewhere : goal.returns-in_err-flush-clause-elsewhere
returns-in_err-flush-clause-elsewhere g c = λ item asks.
    let o = c.args.outside.now in
    let number = (keeper_of c.args.self.now).log.number in
    elsewhere_fewer g.O.Disk.moment g.O.Disk.left_since o c.flush.new.outside (g.O.Disk.may_leave o) (IsOther number) (IsUnwritten item number) (λ other is. is.other) c.flush.ensures.elsewhere

pub returns-in_err-flush-clause-faultless : goal.returns-in_err-flush-clause-faultless
returns-in_err-flush-clause-faultless g c =
    let p = err_from_is_err_and c.from_residual.result c.from_residual.ensures.1 in
    rw (p.1, p.2) (flush_end_calm Reply _ c.in_err-flush.field-0.0 c.in_err-flush.ensures.ends)

pub returns-in_err-flush-clause-ends : goal.returns-in_err-flush-clause-ends
returns-in_err-flush-clause-ends g c =
    let p = err_from_is_err_and c.from_residual.result c.from_residual.ensures.1 in
    rw (p.1, p.2) (flush_end_works c.in_err-flush.field-0.0 c.in_err-flush.ensures.ends)

pub returns-in_err-flush-clause-ends_at_rest : goal.returns-in_err-flush-clause-ends_at_rest
returns-in_err-flush-clause-ends_at_rest g c = λ resting. let e = (c.in_err-flush.ensures.idle resting).1 in absurd (cc)

-- ---- what the paths behind the flush share

module _ (g : _) (c : After-snapshot g) where
  -- the log is the one from before the flush
  same_log : (keeper_of c.flush.new.self).log.number ≡ (keeper_of c.args.self.now).log.number
  same_log = ap (λ (l : LogEnd). l.number) c.flush.ensures.log

  -- the session with the keeper that the call leaves
  abbrev now : Session
  now = record c.flush.new.self { keeper = c.snapshot.new.keeper }

  -- a file that isn't written is neither the mark, the log nor the image
  none : (item : SessionItem) → AsksSnapshot item → (other : FileId) → IsUnwritten item (keeper_of c.args.self.now).log.number other → (other ≢ Mark) × (other ≢ log_file (keeper_of c.flush.new.self).log.number) × (other ≢ image_file (other_image (keeper_of c.flush.new.self).mark.image))
  none item asks other is =
      let P : ℕ → Type 0 = λ n. other ≢ log_file n in
      (is.other.no_mark, subst P (sym same_log) is.other.no_log, no_image (other_image (keeper_of c.flush.new.self).mark.image) other (is.snapping asks))

  others : (item : SessionItem) (other : FileId) → AsksSnapshot item → IsUnwritten item (keeper_of c.args.self.now).log.number other → (g.O.Outside.shown c.snapshot.new.outside).files other ≡ (g.O.Outside.shown c.args.outside.now).files other
  others item other asks is =
      let p = none item asks other is in
      c.snapshot.ensures.others other p.0 p.1 p.2 ∙ c.flush.ensures.others other is.other.no_mark

  elsewhere : (item : SessionItem) → AsksSnapshot item → LeavesOnly g.O.Disk.moment g.O.Disk.left_since c.args.outside.now c.snapshot.new.outside (IsElsewhere (g.O.Disk.may_leave c.args.outside.now) (IsUnwritten item (keeper_of c.args.self.now).log.number))
  elsewhere item asks =
      let D = g.O.Disk in
      let o = c.args.outside.now in
      let mid = c.flush.new.outside in
      let new = c.snapshot.new.outside in
      let number = (keeper_of c.args.self.now).log.number in
      let first = elsewhere_fewer D.moment D.left_since o mid (D.may_leave o) (IsOther number) (IsUnwritten item number) (λ other is. is.other) c.flush.ensures.elsewhere in
      let second = elsewhere_apart D.moment D.left_since mid new (D.may_leave mid) (g.O.Outside.shown mid).told (log_file (keeper_of c.flush.new.self).log.number) (image_file (other_image (keeper_of c.flush.new.self).mark.image)) (IsUnwritten item number) (none item asks) c.snapshot.ensures.elsewhere in
      elsewhere_then D.moment D.left_since o mid new (D.may_leave o) (D.may_leave mid) (D.beside mid).told (IsUnwritten item number) (g.met.O.Disk.counts_now mid) first second

  log : (keeper_of now).log.number ≡ (keeper_of c.args.self.now).log.number
  log = c.snapshot.ensures.log ∙ same_log

  -- at rest nothing is put
  unput : IsResting c.args.self.now → (g.O.Outside.shown c.snapshot.new.outside).taken ≡ (g.O.Outside.shown c.args.outside.now).taken
  unput resting = ap (λ (s : Shown). s.taken) c.snapshot.ensures.shown ∙ ap (λ o. (g.O.Outside.shown o).taken) (c.flush.ensures.idle resting).0

  calm : c.flush.new.self.keeper.fault ≡ None
  calm = c.in_ok-flush.ensures.resting.faultless

  -- no count falls
  later : NoFewer (g.O.Outside.faults c.flush.new.outside) (g.O.Outside.faults c.snapshot.new.outside)
  later = record {
    read = let e = ap (λ (f : Faults). f.read) c.snapshot.ensures.faults in omega (arith, e);
    write = let e = ap (λ (f : Faults). f.write) c.snapshot.ensures.faults in omega (arith, e);
    disk = c.snapshot.ensures.later;
  }

  -- where the log is full nothing was done
  full : (fault : KeepFault) → c.snapshot.result ≡ Err fault → (n : ℕ) → fault ≡ faults.Full n → (n ≡ (keeper_of c.flush.new.self).log.end) × (log_limit < (keeper_of c.flush.new.self).log.end + length (block note))
  full fault is n kind =
      let E : KeepFault → Result (Unit {0}) KeepFault = λ f. Err f in
      let h = (c.snapshot.ensures.full n).0 (is ∙ ap E kind) in
      (h.1, h.2)

  module _ (work : Work) (basis : Ground) (at : IsAmid (g.O.Disk.may_leave c.args.outside.now) (g.O.Outside.shown c.args.outside.now) c.args.self.now work basis) where
    -- the session is at rest behind the flush
    behind : IsAt (g.O.Disk.may_leave c.flush.new.outside) (g.O.Outside.shown c.flush.new.outside) c.flush.new.self work (basis.put ++ basis.held)
    behind = c.in_ok-flush.ensures.flushed work basis at

    -- the list has taken the note, or not
    done : Snapped c.snapshot.result (g.O.Outside.shown c.snapshot.new.outside).tells (g.O.Outside.shown c.snapshot.new.outside).files (g.O.Disk.may_leave c.snapshot.new.outside) c.snapshot.new.keeper work.changes
    done = c.snapshot.ensures.kept work.changes behind.keeps

    run : (item : SessionItem) → AsksSnapshot item → LeavesOnly g.O.Disk.moment g.O.Disk.left_since c.args.outside.now c.snapshot.new.outside (WorkLeaves work basis item)
    run item asks =
        let mid = c.flush.new.outside in
        snapping_lasts g.O.Disk.moment g.O.Disk.left_since c.args.outside.now mid c.snapshot.new.outside work basis item (g.O.Outside.shown mid).told behind.told asks (c.flush.ensures.any_moment work basis at) (c.snapshot.ensures.any_moment work.changes behind.keeps)

-- ---- the list has taken the note, or not

pub returns-in-Ok-clause-noted : goal.returns-in-Ok-clause-noted
returns-in-Ok-clause-noted g c = λ work basis item asks at.
    let after = (goal.at.returns-in-Ok-clause-noted g c).After-snapshot in
    let new = c.snapshot.new.outside in
    let P : Result (Unit {0}) KeepFault → Type 0 = λ r. Snapped r (g.O.Outside.shown new).tells (g.O.Outside.shown new).files (g.O.Disk.may_leave new) c.snapshot.new.keeper work.changes in
    snapped_ok (g.O.Disk.may_leave c.flush.new.outside) (g.O.Disk.may_leave new) (g.O.Outside.shown c.flush.new.outside) (g.O.Outside.shown new) c.flush.new.self (now g after) work basis item asks refl c.snapshot.ensures.shown (behind g after work basis at) (subst P c.in-Ok.is (done g after work basis at))

pub returns-in_ok-refusal_at_fault-in-Err-clause-noted : goal.returns-in_ok-refusal_at_fault-in-Err-clause-noted
returns-in_ok-refusal_at_fault-in-Err-clause-noted g c = λ work basis item asks at.
    let after = (goal.at.returns-in_ok-refusal_at_fault-in-Err-clause-noted g c).After-snapshot in
    let new = c.snapshot.new.outside in
    let P : Result (Unit {0}) KeepFault → Type 0 = λ r. Snapped r (g.O.Outside.shown new).tells (g.O.Outside.shown new).files (g.O.Disk.may_leave new) c.snapshot.new.keeper work.changes in
    snapped_refused (g.O.Disk.may_leave c.flush.new.outside) (g.O.Disk.may_leave new) (g.O.Outside.shown c.flush.new.outside) (g.O.Outside.shown new) c.flush.new.self (now g after) work basis item asks refl c.snapshot.ensures.shown (behind g after work basis at) c.in-Err.fault c.in_ok-refusal_at_fault-in-Err.field-0 (sym c.in_ok-refusal_at_fault-in-Err.ensures) (full g after c.in-Err.fault c.in-Err.is) (subst P c.in-Err.is (done g after work basis at))

pub returns-in_err-refusal_at_fault-in-Err-clause-noted : goal.returns-in_err-refusal_at_fault-in-Err-clause-noted
returns-in_err-refusal_at_fault-in-Err-clause-noted g c = λ work basis item asks at.
    let after = (goal.at.returns-in_err-refusal_at_fault-in-Err-clause-noted g c).After-snapshot in
    let new = c.snapshot.new.outside in
    let P : Result (Unit {0}) KeepFault → Type 0 = λ r. Snapped r (g.O.Outside.shown new).tells (g.O.Outside.shown new).files (g.O.Disk.may_leave new) c.snapshot.new.keeper work.changes in
    let Q : Result Refusal SessionEnd → Type 0 = λ r. IfErr r (λ end. WorkedAlone (Err end) (g.O.Disk.may_leave new) (g.O.Outside.shown new) (now g after) work basis item (adds (DoIt snapshot_note))) in
    let ends = subst Q (sym c.in_err-refusal_at_fault-in-Err.ensures) (snapped_err (g.O.Disk.may_leave c.flush.new.outside) (g.O.Disk.may_leave new) (g.O.Outside.shown c.flush.new.outside) (g.O.Outside.shown new) c.flush.new.self (now g after) work basis item asks refl c.snapshot.ensures.shown (behind g after work basis at) c.in-Err.fault (subst P c.in-Err.is (done g after work basis at))) in
    let p = err_from_is_err_and c.from_residual-in_err-refusal_at_fault-in-Err.result c.from_residual-in_err-refusal_at_fault-in-Err.ensures.1 in
    rw (p.1, p.2) ends

-- ---- what a crash leaves, and the other files

pub returns-in-Ok-clause-any_moment : goal.returns-in-Ok-clause-any_moment
returns-in-Ok-clause-any_moment g c = λ work basis item asks at. run g (goal.at.returns-in-Ok-clause-any_moment g c).After-snapshot work basis at item asks

pub returns-in-Ok-clause-others : goal.returns-in-Ok-clause-others
returns-in-Ok-clause-others g c = others g (goal.at.returns-in-Ok-clause-others g c).After-snapshot

pub returns-in-Ok-clause-elsewhere : goal.returns-in-Ok-clause-elsewhere
returns-in-Ok-clause-elsewhere g c = elsewhere g (goal.at.returns-in-Ok-clause-elsewhere g c).After-snapshot

pub returns-in_ok-refusal_at_fault-in-Err-clause-any_moment : goal.returns-in_ok-refusal_at_fault-in-Err-clause-any_moment
returns-in_ok-refusal_at_fault-in-Err-clause-any_moment g c = λ work basis item asks at. run g (goal.at.returns-in_ok-refusal_at_fault-in-Err-clause-any_moment g c).After-snapshot work basis at item asks

pub returns-in_ok-refusal_at_fault-in-Err-clause-others : goal.returns-in_ok-refusal_at_fault-in-Err-clause-others
returns-in_ok-refusal_at_fault-in-Err-clause-others g c = others g (goal.at.returns-in_ok-refusal_at_fault-in-Err-clause-others g c).After-snapshot

pub returns-in_ok-refusal_at_fault-in-Err-clause-elsewhere : goal.returns-in_ok-refusal_at_fault-in-Err-clause-elsewhere
returns-in_ok-refusal_at_fault-in-Err-clause-elsewhere g c = elsewhere g (goal.at.returns-in_ok-refusal_at_fault-in-Err-clause-elsewhere g c).After-snapshot

pub returns-in_err-refusal_at_fault-in-Err-clause-any_moment : goal.returns-in_err-refusal_at_fault-in-Err-clause-any_moment
returns-in_err-refusal_at_fault-in-Err-clause-any_moment g c = λ work basis item asks at. run g (goal.at.returns-in_err-refusal_at_fault-in-Err-clause-any_moment g c).After-snapshot work basis at item asks

pub returns-in_err-refusal_at_fault-in-Err-clause-others : goal.returns-in_err-refusal_at_fault-in-Err-clause-others
returns-in_err-refusal_at_fault-in-Err-clause-others g c = others g (goal.at.returns-in_err-refusal_at_fault-in-Err-clause-others g c).After-snapshot

pub returns-in_err-refusal_at_fault-in-Err-clause-elsewhere : goal.returns-in_err-refusal_at_fault-in-Err-clause-elsewhere
returns-in_err-refusal_at_fault-in-Err-clause-elsewhere g c = elsewhere g (goal.at.returns-in_err-refusal_at_fault-in-Err-clause-elsewhere g c).After-snapshot

-- ---- what is left of the session

pub returns-in-Ok-clause-log : goal.returns-in-Ok-clause-log
returns-in-Ok-clause-log g c = log g (goal.at.returns-in-Ok-clause-log g c).After-snapshot

pub returns-in-Ok-clause-unput : goal.returns-in-Ok-clause-unput
returns-in-Ok-clause-unput g c = unput g (goal.at.returns-in-Ok-clause-unput g c).After-snapshot

pub returns-in-Ok-clause-held : goal.returns-in-Ok-clause-held
returns-in-Ok-clause-held g c = inr c.in_ok-flush.ensures.resting.silent

pub returns-in_ok-refusal_at_fault-in-Err-clause-log : goal.returns-in_ok-refusal_at_fault-in-Err-clause-log
returns-in_ok-refusal_at_fault-in-Err-clause-log g c = log g (goal.at.returns-in_ok-refusal_at_fault-in-Err-clause-log g c).After-snapshot

pub returns-in_ok-refusal_at_fault-in-Err-clause-unput : goal.returns-in_ok-refusal_at_fault-in-Err-clause-unput
returns-in_ok-refusal_at_fault-in-Err-clause-unput g c = unput g (goal.at.returns-in_ok-refusal_at_fault-in-Err-clause-unput g c).After-snapshot

pub returns-in_ok-refusal_at_fault-in-Err-clause-held : goal.returns-in_ok-refusal_at_fault-in-Err-clause-held
returns-in_ok-refusal_at_fault-in-Err-clause-held g c = inr c.in_ok-flush.ensures.resting.silent

pub returns-in_err-refusal_at_fault-in-Err-clause-log : goal.returns-in_err-refusal_at_fault-in-Err-clause-log
returns-in_err-refusal_at_fault-in-Err-clause-log g c = log g (goal.at.returns-in_err-refusal_at_fault-in-Err-clause-log g c).After-snapshot

pub returns-in_err-refusal_at_fault-in-Err-clause-unput : goal.returns-in_err-refusal_at_fault-in-Err-clause-unput
returns-in_err-refusal_at_fault-in-Err-clause-unput g c = unput g (goal.at.returns-in_err-refusal_at_fault-in-Err-clause-unput g c).After-snapshot

pub returns-in_err-refusal_at_fault-in-Err-clause-held : goal.returns-in_err-refusal_at_fault-in-Err-clause-held
returns-in_err-refusal_at_fault-in-Err-clause-held g c = inr c.in_ok-flush.ensures.resting.silent

pub returns-in-Ok-clause-room : goal.returns-in-Ok-clause-room
returns-in-Ok-clause-room g c = λ enough. let flushed = c.flush.ensures.room in omega (arith, enough, flushed)

pub returns-in-Ok-clause-faultless : goal.returns-in-Ok-clause-faultless
returns-in-Ok-clause-faultless g c = c.in-Ok.ensures.after.fault ∙ calm g (goal.at.returns-in-Ok-clause-faultless g c).After-snapshot

pub returns-in_ok-refusal_at_fault-in-Err-clause-faultless : goal.returns-in_ok-refusal_at_fault-in-Err-clause-faultless
returns-in_ok-refusal_at_fault-in-Err-clause-faultless g c =
    let P : Result (Unit {0}) KeepFault → Type 0 = λ r. AfterSnapshot r (keeper_of c.flush.new.self) c.snapshot.new.keeper in
    snapped_calm c.in-Err.fault c.in_ok-refusal_at_fault-in-Err.field-0 (keeper_of c.flush.new.self) c.snapshot.new.keeper (sym c.in_ok-refusal_at_fault-in-Err.ensures) (subst P c.in-Err.is c.snapshot.ensures.after) (calm g (goal.at.returns-in_ok-refusal_at_fault-in-Err-clause-faultless g c).After-snapshot)

pub returns-in_err-refusal_at_fault-in-Err-clause-faultless : goal.returns-in_err-refusal_at_fault-in-Err-clause-faultless
returns-in_err-refusal_at_fault-in-Err-clause-faultless g c =
    let p = err_from_is_err_and c.from_residual-in_err-refusal_at_fault-in-Err.result c.from_residual-in_err-refusal_at_fault-in-Err.ensures.1 in
    let P : Result (Unit {0}) KeepFault → Type 0 = λ r. AfterSnapshot r (keeper_of c.flush.new.self) c.snapshot.new.keeper in
    let Q : Result Refusal SessionEnd → Type 0 = λ r. IfErr r (λ end. OnOkOrMemory {T = Reply} (Err end) (c.snapshot.new.keeper.fault ≡ None)) in
    rw (p.1, p.2) (subst Q (sym c.in_err-refusal_at_fault-in-Err.ensures) (snapped_ends c.in-Err.fault (keeper_of c.flush.new.self) c.snapshot.new.keeper (subst P c.in-Err.is c.snapshot.ensures.after) (calm g (goal.at.returns-in_err-refusal_at_fault-in-Err-clause-faultless g c).After-snapshot)))

-- ---- how it ends

pub returns-in_err-refusal_at_fault-in-Err-clause-ends : goal.returns-in_err-refusal_at_fault-in-Err-clause-ends
returns-in_err-refusal_at_fault-in-Err-clause-ends g c =
    let p = err_from_is_err_and c.from_residual-in_err-refusal_at_fault-in-Err.result c.from_residual-in_err-refusal_at_fault-in-Err.ensures.1 in
    let P : Result Refusal SessionEnd → Type 0 = λ r. IfErr r IsWorkEnd in
    rw (p.1, p.2) (subst P (sym c.in_err-refusal_at_fault-in-Err.ensures) (keep_end_works (refusal_at_fault c.in-Err.fault) (fault_keep_end c.in-Err.fault)))

pub returns-in_err-refusal_at_fault-in-Err-clause-ends_at_rest : goal.returns-in_err-refusal_at_fault-in-Err-clause-ends_at_rest
returns-in_err-refusal_at_fault-in-Err-clause-ends_at_rest g c = λ resting.
    let p = err_from_is_err_and c.from_residual-in_err-refusal_at_fault-in-Err.result c.from_residual-in_err-refusal_at_fault-in-Err.ensures.1 in
    let P : Result Refusal SessionEnd → Type 0 = λ r. IfErr r IsKeepEnd in
    rw (p.1, p.2) (subst P (sym c.in_err-refusal_at_fault-in-Err.ensures) (fault_keep_end c.in-Err.fault))

-- ---- the counts of faults

pub returns-in-Ok-clause-counts : goal.returns-in-Ok-clause-counts
returns-in-Ok-clause-counts g c =
    let old = g.O.Outside.faults c.flush.new.outside in
    let new = g.O.Outside.faults c.snapshot.new.outside in
    done_counts (g.O.Outside.faults c.args.outside.now) new Accepted (faults_same old new c.snapshot.ensures.faults c.in-Ok.ensures.faults_stay ∙ c.in_ok-flush.ensures.counts.reason)

pub returns-in_ok-refusal_at_fault-in-Err-clause-counts : goal.returns-in_ok-refusal_at_fault-in-Err-clause-counts
returns-in_ok-refusal_at_fault-in-Err-clause-counts g c =
    let old = g.O.Outside.faults c.flush.new.outside in
    let new = g.O.Outside.faults c.snapshot.new.outside in
    let Q : Result (Unit {0}) KeepFault → Type 0 = λ r. UnlessKeepDisk r (new.disk ≡ old.disk) in
    let still = condensed_quiet c.in-Err.fault c.in_ok-refusal_at_fault-in-Err.field-0 (new.disk ≡ old.disk) (sym c.in_ok-refusal_at_fault-in-Err.ensures) (subst Q c.in-Err.is c.snapshot.ensures.faults_stay) in
    done_counts (g.O.Outside.faults c.args.outside.now) new (Refused c.in_ok-refusal_at_fault-in-Err.field-0) (faults_same old new c.snapshot.ensures.faults still ∙ c.in_ok-flush.ensures.counts.reason)

pub returns-in_err-refusal_at_fault-in-Err-clause-counts : goal.returns-in_err-refusal_at_fault-in-Err-clause-counts
returns-in_err-refusal_at_fault-in-Err-clause-counts g c =
    let after = (goal.at.returns-in_err-refusal_at_fault-in-Err-clause-counts g c).After-snapshot in
    let old = g.O.Outside.faults c.flush.new.outside in
    let new = g.O.Outside.faults c.snapshot.new.outside in
    let P : Faults → Type 0 = λ f. Counts {T = Reply} f new (Err c.in_err-refusal_at_fault-in-Err.field-0.0) in
    let R : Result (Unit {0}) KeepFault → Type 0 = λ r. AfterSnapshot r (keeper_of c.flush.new.self) c.snapshot.new.keeper in
    let Q : Result Refusal SessionEnd → Type 0 = λ r. IfErr r (HasReason old new) in
    let reason = subst Q (sym c.in_err-refusal_at_fault-in-Err.ensures) (snapped_reason c.snapshot.result (keeper_of c.flush.new.self) c.snapshot.new.keeper c.in-Err.fault old new c.in-Err.is (subst R c.in-Err.is c.snapshot.ensures.after) c.snapshot.ensures.faults c.snapshot.ensures.cause c.snapshot.ensures.faults_stay c.snapshot.ensures.closed (calm g after)) in
    let p = err_from_is_err_and c.from_residual-in_err-refusal_at_fault-in-Err.result c.from_residual-in_err-refusal_at_fault-in-Err.ensures.1 in
    rw (p.1, p.2) (subst P c.in_ok-flush.ensures.counts.reason (record { later = later g after; reason = reason }))

-- ---- what is known stays known

pub returns-in_err-flush-clause-known : goal.returns-in_err-flush-clause-known
returns-in_err-flush-clause-known g c = λ knows.
    let p = err_from_is_err_and c.from_residual.result c.from_residual.ensures.1 in
    rw (p.1, p.2) (flush_ends c.in_err-flush.field-0.0 (g.O.Outside.shown c.flush.new.outside) c.flush.new.self (c.in_err-flush.ensures.known knows))

-- what the paths behind the flush share
module _ (g : _) (c : After-snapshot g) where
  told_before : IsTrue (g.O.Outside.shown c.snapshot.new.outside).tells → IsTrue (g.O.Outside.shown c.flush.new.outside).tells
  told_before told = subst IsTrue (ap (λ (o : Shown). o.tells) c.snapshot.ensures.shown) told

  -- a full log leaves all
  unfit : (fault : KeepFault) → c.snapshot.result ≡ Err fault → (n : ℕ) → fault ≡ faults.Full n → (g.O.Outside.shown c.snapshot.new.outside ≡ g.O.Outside.shown c.flush.new.outside) × (c.snapshot.new.keeper ≡ keeper_of c.flush.new.self)
  unfit fault is n kind =
      let over = (full g c fault is n kind).1 in
      (ap g.O.Outside.shown (c.snapshot.ensures.unfit over), c.snapshot.ensures.stays over)

pub returns-in-Ok-clause-known : goal.returns-in-Ok-clause-known
returns-in-Ok-clause-known g c = λ knows told.
    let after = (goal.at.returns-in-Ok-clause-known g c).After-snapshot in
    let new = g.O.Outside.shown c.snapshot.new.outside in
    let was = c.in_ok-flush.ensures.known knows (told_before g after told) in
    let P : Result (Unit {0}) KeepFault → Type 0 = λ r. OnOk r (HasWritten new.tells new.files c.snapshot.new.keeper (noted was.1)) in
    (was.0, noted was.1, subst P c.in-Ok.is (c.snapshot.ensures.written was.1 was.2))

pub returns-in_ok-refusal_at_fault-in-Err-clause-known : goal.returns-in_ok-refusal_at_fault-in-Err-clause-known
returns-in_ok-refusal_at_fault-in-Err-clause-known g c = λ knows told.
    let after = (goal.at.returns-in_ok-refusal_at_fault-in-Err-clause-known g c).After-snapshot in
    let mid = g.O.Outside.shown c.flush.new.outside in
    let new = g.O.Outside.shown c.snapshot.new.outside in
    let was = c.in_ok-flush.ensures.known knows (told_before g after told) in
    (was.0, was.1, snapped_still c.in-Err.fault c.in_ok-refusal_at_fault-in-Err.field-0 mid new (keeper_of c.flush.new.self) c.snapshot.new.keeper was.1 (sym c.in_ok-refusal_at_fault-in-Err.ensures) (unfit g after c.in-Err.fault c.in-Err.is) was.2)

pub returns-in_err-refusal_at_fault-in-Err-clause-known : goal.returns-in_err-refusal_at_fault-in-Err-clause-known
returns-in_err-refusal_at_fault-in-Err-clause-known g c = λ knows.
    let after = (goal.at.returns-in_err-refusal_at_fault-in-Err-clause-known g c).After-snapshot in
    let new = g.O.Outside.shown c.snapshot.new.outside in
    let P : Result (Unit {0}) KeepFault → Type 0 = λ r. AfterSnapshot r (keeper_of c.flush.new.self) c.snapshot.new.keeper in
    let Q : Result Refusal SessionEnd → Type 0 = λ r. IfErr r (λ end. StaysKnowing {T = Reply} (Err end) new (now g after)) in
    let p = err_from_is_err_and c.from_residual-in_err-refusal_at_fault-in-Err.result c.from_residual-in_err-refusal_at_fault-in-Err.ensures.1 in
    rw (p.1, p.2) (subst Q (sym c.in_err-refusal_at_fault-in-Err.ensures) (snapped_known c.in-Err.fault new (now g after) (keeper_of c.flush.new.self) c.snapshot.new.keeper (subst P c.in-Err.is c.snapshot.ensures.after)))
