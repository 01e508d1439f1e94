use Rattle.std.proofs.Common.{◌≡◌, ◌⊎◌, ◌-◌, ◌++◌, inl, inr, ℕ, List, None, Result, Ok, Err, refl, sym, ap, subst, ◌∙◌, arith}
use Rattle.std.specs.Prelude.{◌≢◌, IfErr, IsTrue, ⊤}
use Rattle.std.proofs.lemmas.Result.{err_from_is_err_and}
use Rattle.s80_change.specs.declared.change.Change.{Change}
use Rattle.s80_disk.specs.declared.disk.FileId.{FileId}
use Rattle.s80_disk.specs.declared.disk.FileId.TheVariants.{Mark}
use Rattle.s80_disk.specs.Moments.{LeavesOnly}
use Rattle.s80_disk.specs.Shown.{Faults, Shown}
use Rattle.s80_fileout.specs.Condensed.{kept}
use Rattle.s80_form.specs.declared.refusal.Refusal.{Refusal}
use Rattle.s80_keeper.specs.declared.keep.KeepFault.{KeepFault}
use Rattle.s80_keeper.specs.Answers.{UnlessKeepDisk}
use Rattle.s80_keeper.specs.Condensing.{AfterCondensing, Condensed, IfReplaced}
use Rattle.s80_keeper.specs.Keeper.{Knows}
use Rattle.s80_keeper.specs.Renewing.{HasWritten}
use Rattle.s80_keeper.specs.Standing.{LeavesEither}
use Rattle.s80_log.specs.Log.{LogEnd, log_file}
use Rattle.s80_keeper.proofs.lemmas.Standing.{knows_written}
use Rattle.s80_model.specs.declared.item.SessionItem.{SessionItem}
use Rattle.s80_model.specs.declared.reply.Reply.{Reply}
use Rattle.s80_model.specs.declared.reply.Reply.TheVariants.{Accepted, Refused}
use Rattle.s80_model.specs.Asked.{condenses, Asks}
use Rattle.s80_model.specs.Replies.{Work}
use Rattle.s80_session.specs.declared.end.SessionEnd.{SessionEnd}
use Rattle.s80_session.specs.declared.session.Session.{Session}
use Rattle.s80_session.specs.Ending.{EndsForReasonOrDamage, IsKeepEnd, IsWorkEnd, MeetsNoDamage, NoFewer, OnOkOrMemory, SourceCounts}
use Rattle.s80_session.specs.Ends.{refusal_at_fault}
use Rattle.s80_session.specs.Files.{IsElsewhere, IsOther, IsUnwritten}
use Rattle.s80_session.specs.Known.{StaysKnowing}
use Rattle.s80_session.specs.Session.{keeper_of, kept_versions_of, IsResting}
use Rattle.s80_session.specs.Working.{Ground, IsAmid, IsAt, WorkedAlone, WorkLeaves}
use Rattle.s80_session.proofs.Breaking.{counts_whole, err_counts, flush_end_calm, flush_end_works, keep_end_works}
use Rattle.s80_session.proofs.Condensing.{condensed_calm, condensed_err, condensed_log, condensed_ok, condensed_quiet, condensed_refused, condensed_whole, condensing_lasts, shorter}
use Rattle.s80_session.proofs.Flushing.{knows_committed}
use Rattle.s80_session.proofs.Holding.{source_counts}
use Rattle.s80_session.proofs.Knowing.{condensed_known, condensed_still, flush_ends}
use Rattle.s80_session.proofs.Reading.{fault_keep_end, faults_same, read_reason, reading_calm}
use Rattle.s80_session.proofs.Stepping.{flush_alone}
use Rattle.s80_session.proofs.lemmas.Elsewhere.{elsewhere_beside, elsewhere_fewer, elsewhere_then}
use Rattle.s80_session.proofs.lemmas.Grounds.{flush_works}
use Rattle.s80_session.proofs.session.Session.condense.Goals as goal
use Rattle.s80_session.proofs.session.Session.condense.Goals.{After-condense}

-- ---- the flush before it broke off

pub returns-in_err-flush-clause-condensed : goal.returns-in_err-flush-clause-condensed
returns-in_err-flush-clause-condensed g c = λ work basis item asks at.
    let p = err_from_is_err_and c.from_residual.result c.from_residual.ensures.1 in
    rw (p.1, p.2) (flush_alone c.in_err-flush.field-0.0 (g.O.Disk.may_leave c.flush.new.outside) (g.O.Outside.shown c.flush.new.outside) c.flush.new.self work basis item condenses (c.in_err-flush.ensures.flushed work basis at))

pub returns-in_err-flush-clause-any_moment : goal.returns-in_err-flush-clause-any_moment
returns-in_err-flush-clause-any_moment g c = λ work basis item asks at. flush_works g.O.Disk.moment g.O.Disk.left_since c.args.outside.now c.flush.new.outside work basis item (c.flush.ensures.any_moment work basis at)

pub returns-in_err-flush-clause-others : goal.returns-in_err-flush-clause-others
returns-in_err-flush-clause-others g c = λ item other asks is. c.flush.ensures.others other is.other.no_mark

pub returns-in_err-flush-clause-elsewhere : goal.returns-in_err-flush-clause-elsewhere
returns-in_err-flush-clause-elsewhere g c = λ item asks.
    let o = c.args.outside.now in
    let number = (keeper_of c.args.self.now).log.number in
    elsewhere_fewer g.O.Disk.moment g.O.Disk.left_since o c.flush.new.outside (g.O.Disk.may_leave o) (IsOther number) (IsUnwritten item number) (λ other is. is.other) c.flush.ensures.elsewhere

pub returns-in_err-flush-clause-sound : goal.returns-in_err-flush-clause-sound
returns-in_err-flush-clause-sound g c = λ tells changes knows built.
    let p = err_from_is_err_and c.from_residual.result c.from_residual.ensures.1 in
    rw (p.1, p.2) (counts_whole (Unit {0}) Reply (g.O.Outside.faults c.args.outside.now) (g.O.Outside.faults c.flush.new.outside) c.in_err-flush.field-0.0 c.in_err-flush.ensures.counts)

pub returns-in_err-flush-clause-log : goal.returns-in_err-flush-clause-log
returns-in_err-flush-clause-log g c = inl (ap (λ (l : LogEnd). l.number) c.flush.ensures.log)

pub returns-in_err-flush-clause-faultless : goal.returns-in_err-flush-clause-faultless
returns-in_err-flush-clause-faultless g c =
    let p = err_from_is_err_and c.from_residual.result c.from_residual.ensures.1 in
    rw (p.1, p.2) (flush_end_calm Reply _ c.in_err-flush.field-0.0 c.in_err-flush.ensures.ends)

pub returns-in_err-flush-clause-ends : goal.returns-in_err-flush-clause-ends
returns-in_err-flush-clause-ends g c =
    let p = err_from_is_err_and c.from_residual.result c.from_residual.ensures.1 in
    rw (p.1, p.2) (flush_end_works c.in_err-flush.field-0.0 c.in_err-flush.ensures.ends)

pub returns-in_err-flush-clause-ends_at_rest : goal.returns-in_err-flush-clause-ends_at_rest
returns-in_err-flush-clause-ends_at_rest g c = λ resting. let e = (c.in_err-flush.ensures.idle resting).1 in absurd (cc)

pub returns-in_err-flush-clause-counts : goal.returns-in_err-flush-clause-counts
returns-in_err-flush-clause-counts g c =
    let p = err_from_is_err_and c.from_residual.result c.from_residual.ensures.1 in
    let a = g.O.Outside.faults c.args.outside.now in
    let b = g.O.Outside.faults c.flush.new.outside in
    rw (p.1, p.2) (source_counts {U = Reply} a b (Err c.in_err-flush.field-0.0) (err_counts (Unit {0}) Reply a b c.in_err-flush.field-0.0 c.in_err-flush.ensures.counts))

-- ---- what the paths behind the flush share

module _ (g : _) (c : After-condense g) where
  -- the log is the one from before the flush
  same_log : (keeper_of c.flush.new.self).log.number ≡ (keeper_of c.args.self.now).log.number
  same_log = ap (λ (l : LogEnd). l.number) c.flush.ensures.log

  -- the session with the keeper that the call leaves
  abbrev now : Session
  now = record c.flush.new.self { keeper = c.condense.new.keeper }

  -- a file that isn't written is neither the mark nor the log that is
  neither : (item : SessionItem) → Asks item condenses → (other : FileId) → IsUnwritten item (keeper_of c.args.self.now).log.number other → (other ≢ Mark) × (other ≢ log_file (1 - (keeper_of c.flush.new.self).log.number))
  neither item asks other is =
      let P : ℕ → Type 0 = λ n. other ≢ log_file (1 - n) in
      (is.other.no_mark, subst P (sym same_log) (is.condensing asks))

  others : (item : SessionItem) (other : FileId) → Asks item condenses → IsUnwritten item (keeper_of c.args.self.now).log.number other → (g.O.Outside.shown c.condense.new.outside).files other ≡ (g.O.Outside.shown c.args.outside.now).files other
  others item other asks is =
      let p = neither item asks other is in
      c.condense.ensures.others other p.0 p.1 ∙ c.flush.ensures.others other is.other.no_mark

  elsewhere : (item : SessionItem) → Asks item condenses → LeavesOnly g.O.Disk.moment g.O.Disk.left_since c.args.outside.now c.condense.new.outside (IsElsewhere (g.O.Disk.may_leave c.args.outside.now) (IsUnwritten item (keeper_of c.args.self.now).log.number))
  elsewhere item asks =
      let D = g.O.Disk in
      let o = c.args.outside.now in
      let mid = c.flush.new.outside in
      let new = c.condense.new.outside in
      let number = (keeper_of c.args.self.now).log.number in
      let first = elsewhere_fewer D.moment D.left_since o mid (D.may_leave o) (IsOther number) (IsUnwritten item number) (λ other is. is.other) c.flush.ensures.elsewhere in
      let second = elsewhere_beside D.moment D.left_since mid new (D.may_leave mid) (g.O.Outside.shown mid).told (log_file (1 - (keeper_of c.flush.new.self).log.number)) (λ image. ⊤) (IsUnwritten item number) (neither item asks) c.condense.ensures.elsewhere in
      elsewhere_then D.moment D.left_since o mid new (D.may_leave o) (D.may_leave mid) (D.beside mid).told (IsUnwritten item number) (g.met.O.Disk.counts_now mid) first second

  log : ((keeper_of now).log.number ≡ (keeper_of c.args.self.now).log.number) ⊎ ((keeper_of now).log.number ≡ 1 - (keeper_of c.args.self.now).log.number)
  log =
      let P : ℕ → Type 0 = λ n. ((keeper_of now).log.number ≡ n) ⊎ ((keeper_of now).log.number ≡ 1 - n) in
      subst P same_log (condensed_log c.condense.result (keeper_of c.flush.new.self) c.condense.new.keeper c.condense.ensures.after)

  -- at rest nothing is put
  unput : IsResting c.args.self.now → (g.O.Outside.shown c.condense.new.outside).taken ≡ (g.O.Outside.shown c.args.outside.now).taken
  unput resting = ap (λ (s : Shown). s.taken) c.condense.ensures.shown ∙ ap (λ o. (g.O.Outside.shown o).taken) (c.flush.ensures.idle resting).0

  calm : c.flush.new.self.keeper.fault ≡ None
  calm = c.in_ok-flush.ensures.resting.faultless

  -- no count falls
  later : NoFewer (g.O.Outside.faults c.flush.new.outside) (g.O.Outside.faults c.condense.new.outside)
  later = record {
    read = let e = ap (λ (f : Faults). f.read) c.condense.ensures.faults in omega (arith, e);
    write = let e = ap (λ (f : Faults). f.write) c.condense.ensures.faults in omega (arith, e);
    disk = c.condense.ensures.later;
  }

  -- what the keeper knows before the call
  known : (changes : List Change) → Knows (g.O.Outside.shown c.args.outside.now).files (keeper_of c.args.self.now) changes → Knows (g.O.Outside.shown c.flush.new.outside).files (keeper_of c.flush.new.self) changes
  known changes knows = knows_committed (g.O.Outside.shown c.args.outside.now).files (g.O.Outside.shown c.flush.new.outside).files (keeper_of c.args.self.now) (keeper_of c.flush.new.self) changes c.in_ok-flush.ensures.one_mark c.flush.ensures.others knows

  module _ (work : Work) (basis : Ground) (at : IsAmid (g.O.Disk.may_leave c.args.outside.now) (g.O.Outside.shown c.args.outside.now) c.args.self.now work basis) where
    -- the session is at rest behind the flush
    behind : IsAt (g.O.Disk.may_leave c.flush.new.outside) (g.O.Outside.shown c.flush.new.outside) c.flush.new.self work (basis.put ++ basis.held)
    behind = c.in_ok-flush.ensures.flushed work basis at

    -- the list has given way, or not
    done : Condensed c.condense.result (g.O.Outside.shown c.condense.new.outside).tells (g.O.Outside.shown c.condense.new.outside).files (g.O.Disk.may_leave c.condense.new.outside) c.condense.new.keeper work.changes (shorter work)
    done =
        let new = c.condense.new.outside in
        let P : ℕ → Type 0 = λ n. Condensed c.condense.result (g.O.Outside.shown new).tells (g.O.Outside.shown new).files (g.O.Disk.may_leave new) c.condense.new.keeper work.changes (kept work.changes n) in
        subst P behind.kept_versions (c.condense.ensures.condensed work.changes behind.keeps)

    run : (item : SessionItem) → Asks item condenses → LeavesOnly g.O.Disk.moment g.O.Disk.left_since c.args.outside.now c.condense.new.outside (WorkLeaves work basis item)
    run item asks =
        let D = g.O.Disk in
        let mid = c.flush.new.outside in
        let new = c.condense.new.outside in
        let told = (g.O.Outside.shown mid).told in
        let P : ℕ → Type 0 = λ n. LeavesOnly D.moment D.left_since mid new (LeavesEither told work.changes (kept work.changes n)) in
        condensing_lasts D.moment D.left_since c.args.outside.now mid new work basis item told behind.told asks (c.flush.ensures.any_moment work basis at) (subst P behind.kept_versions (c.condense.ensures.any_moment work.changes behind.keeps))

-- ---- the list has given way, or not

pub returns-in-Ok-clause-condensed : goal.returns-in-Ok-clause-condensed
returns-in-Ok-clause-condensed g c = λ work basis item asks at.
    let after = (goal.at.returns-in-Ok-clause-condensed g c).After-condense in
    let new = c.condense.new.outside in
    let P : Result (Unit {0}) KeepFault → Type 0 = λ r. Condensed r (g.O.Outside.shown new).tells (g.O.Outside.shown new).files (g.O.Disk.may_leave new) c.condense.new.keeper work.changes (shorter work) in
    condensed_ok (g.O.Disk.may_leave c.flush.new.outside) (g.O.Disk.may_leave c.condense.new.outside) (g.O.Outside.shown c.flush.new.outside) (g.O.Outside.shown c.condense.new.outside) c.flush.new.self (now g after) work basis item asks refl c.condense.ensures.shown (behind g after work basis at) (subst P c.in-Ok.is (done g after work basis at))

pub returns-in_ok-refusal_at_fault-in-Err-clause-condensed : goal.returns-in_ok-refusal_at_fault-in-Err-clause-condensed
returns-in_ok-refusal_at_fault-in-Err-clause-condensed g c = λ work basis item asks at.
    let after = (goal.at.returns-in_ok-refusal_at_fault-in-Err-clause-condensed g c).After-condense in
    let new = c.condense.new.outside in
    let P : Result (Unit {0}) KeepFault → Type 0 = λ r. Condensed r (g.O.Outside.shown new).tells (g.O.Outside.shown new).files (g.O.Disk.may_leave new) c.condense.new.keeper work.changes (shorter work) in
    condensed_refused (g.O.Disk.may_leave c.flush.new.outside) (g.O.Disk.may_leave c.condense.new.outside) (g.O.Outside.shown c.flush.new.outside) (g.O.Outside.shown c.condense.new.outside) c.flush.new.self (now g after) work basis item asks refl c.condense.ensures.shown (behind g after work basis at) c.in-Err.fault c.in_ok-refusal_at_fault-in-Err.field-0 (sym c.in_ok-refusal_at_fault-in-Err.ensures) (subst P c.in-Err.is (done g after work basis at))

pub returns-in_err-refusal_at_fault-in-Err-clause-condensed : goal.returns-in_err-refusal_at_fault-in-Err-clause-condensed
returns-in_err-refusal_at_fault-in-Err-clause-condensed g c = λ work basis item asks at.
    let after = (goal.at.returns-in_err-refusal_at_fault-in-Err-clause-condensed g c).After-condense in
    let new = c.condense.new.outside in
    let P : Result (Unit {0}) KeepFault → Type 0 = λ r. Condensed r (g.O.Outside.shown new).tells (g.O.Outside.shown new).files (g.O.Disk.may_leave new) c.condense.new.keeper work.changes (shorter work) in
    let Q : Result Refusal SessionEnd → Type 0 = λ r. IfErr r (λ end. WorkedAlone (Err end) (g.O.Disk.may_leave new) (g.O.Outside.shown new) (now g after) work basis item condenses) in
    let ends = subst Q (sym c.in_err-refusal_at_fault-in-Err.ensures) (condensed_err (g.O.Disk.may_leave c.flush.new.outside) (g.O.Disk.may_leave c.condense.new.outside) (g.O.Outside.shown c.flush.new.outside) (g.O.Outside.shown c.condense.new.outside) c.flush.new.self (now g after) work basis item asks refl c.condense.ensures.shown (behind g after work basis at) c.in-Err.fault (subst P c.in-Err.is (done g after work basis at))) in
    let p = err_from_is_err_and c.from_residual-in_err-refusal_at_fault-in-Err.result c.from_residual-in_err-refusal_at_fault-in-Err.ensures.1 in
    rw (p.1, p.2) ends

-- ---- what a crash leaves, and the other files

pub returns-in-Ok-clause-any_moment : goal.returns-in-Ok-clause-any_moment
returns-in-Ok-clause-any_moment g c = λ work basis item asks at. run g (goal.at.returns-in-Ok-clause-any_moment g c).After-condense work basis at item asks

pub returns-in-Ok-clause-others : goal.returns-in-Ok-clause-others
returns-in-Ok-clause-others g c = others g (goal.at.returns-in-Ok-clause-others g c).After-condense

pub returns-in-Ok-clause-elsewhere : goal.returns-in-Ok-clause-elsewhere
returns-in-Ok-clause-elsewhere g c = elsewhere g (goal.at.returns-in-Ok-clause-elsewhere g c).After-condense

pub returns-in_ok-refusal_at_fault-in-Err-clause-any_moment : goal.returns-in_ok-refusal_at_fault-in-Err-clause-any_moment
returns-in_ok-refusal_at_fault-in-Err-clause-any_moment g c = λ work basis item asks at. run g (goal.at.returns-in_ok-refusal_at_fault-in-Err-clause-any_moment g c).After-condense work basis at item asks

pub returns-in_ok-refusal_at_fault-in-Err-clause-others : goal.returns-in_ok-refusal_at_fault-in-Err-clause-others
returns-in_ok-refusal_at_fault-in-Err-clause-others g c = others g (goal.at.returns-in_ok-refusal_at_fault-in-Err-clause-others g c).After-condense

pub returns-in_ok-refusal_at_fault-in-Err-clause-elsewhere : goal.returns-in_ok-refusal_at_fault-in-Err-clause-elsewhere
returns-in_ok-refusal_at_fault-in-Err-clause-elsewhere g c = elsewhere g (goal.at.returns-in_ok-refusal_at_fault-in-Err-clause-elsewhere g c).After-condense

pub returns-in_err-refusal_at_fault-in-Err-clause-any_moment : goal.returns-in_err-refusal_at_fault-in-Err-clause-any_moment
returns-in_err-refusal_at_fault-in-Err-clause-any_moment g c = λ work basis item asks at. run g (goal.at.returns-in_err-refusal_at_fault-in-Err-clause-any_moment g c).After-condense work basis at item asks

pub returns-in_err-refusal_at_fault-in-Err-clause-others : goal.returns-in_err-refusal_at_fault-in-Err-clause-others
returns-in_err-refusal_at_fault-in-Err-clause-others g c = others g (goal.at.returns-in_err-refusal_at_fault-in-Err-clause-others g c).After-condense

pub returns-in_err-refusal_at_fault-in-Err-clause-elsewhere : goal.returns-in_err-refusal_at_fault-in-Err-clause-elsewhere
returns-in_err-refusal_at_fault-in-Err-clause-elsewhere g c = elsewhere g (goal.at.returns-in_err-refusal_at_fault-in-Err-clause-elsewhere g c).After-condense

-- ---- what is left of the session

pub returns-in-Ok-clause-log : goal.returns-in-Ok-clause-log
returns-in-Ok-clause-log g c = log g (goal.at.returns-in-Ok-clause-log g c).After-condense

pub returns-in-Ok-clause-unput : goal.returns-in-Ok-clause-unput
returns-in-Ok-clause-unput g c = unput g (goal.at.returns-in-Ok-clause-unput g c).After-condense

pub returns-in-Ok-clause-held : goal.returns-in-Ok-clause-held
returns-in-Ok-clause-held g c = inr c.in_ok-flush.ensures.resting.silent

pub returns-in_ok-refusal_at_fault-in-Err-clause-log : goal.returns-in_ok-refusal_at_fault-in-Err-clause-log
returns-in_ok-refusal_at_fault-in-Err-clause-log g c = log g (goal.at.returns-in_ok-refusal_at_fault-in-Err-clause-log g c).After-condense

pub returns-in_ok-refusal_at_fault-in-Err-clause-unput : goal.returns-in_ok-refusal_at_fault-in-Err-clause-unput
returns-in_ok-refusal_at_fault-in-Err-clause-unput g c = unput g (goal.at.returns-in_ok-refusal_at_fault-in-Err-clause-unput g c).After-condense

pub returns-in_ok-refusal_at_fault-in-Err-clause-held : goal.returns-in_ok-refusal_at_fault-in-Err-clause-held
returns-in_ok-refusal_at_fault-in-Err-clause-held g c = inr c.in_ok-flush.ensures.resting.silent

pub returns-in_err-refusal_at_fault-in-Err-clause-log : goal.returns-in_err-refusal_at_fault-in-Err-clause-log
returns-in_err-refusal_at_fault-in-Err-clause-log g c = log g (goal.at.returns-in_err-refusal_at_fault-in-Err-clause-log g c).After-condense

pub returns-in_err-refusal_at_fault-in-Err-clause-unput : goal.returns-in_err-refusal_at_fault-in-Err-clause-unput
returns-in_err-refusal_at_fault-in-Err-clause-unput g c = unput g (goal.at.returns-in_err-refusal_at_fault-in-Err-clause-unput g c).After-condense

pub returns-in_err-refusal_at_fault-in-Err-clause-held : goal.returns-in_err-refusal_at_fault-in-Err-clause-held
returns-in_err-refusal_at_fault-in-Err-clause-held g c = inr c.in_ok-flush.ensures.resting.silent

pub returns-in-Ok-clause-room : goal.returns-in-Ok-clause-room
returns-in-Ok-clause-room g c = λ enough. let flushed = c.flush.ensures.room in omega (arith, enough, flushed)

pub returns-in-Ok-clause-faultless : goal.returns-in-Ok-clause-faultless
returns-in-Ok-clause-faultless g c = c.in-Ok.ensures.after.faultless

pub returns-in_ok-refusal_at_fault-in-Err-clause-faultless : goal.returns-in_ok-refusal_at_fault-in-Err-clause-faultless
returns-in_ok-refusal_at_fault-in-Err-clause-faultless g c =
    let P : Result (Unit {0}) KeepFault → Type 0 = λ r. AfterCondensing r (keeper_of c.flush.new.self) c.condense.new.keeper in
    condensed_calm c.in-Err.fault c.in_ok-refusal_at_fault-in-Err.field-0 (keeper_of c.flush.new.self) c.condense.new.keeper (sym c.in_ok-refusal_at_fault-in-Err.ensures) (subst P c.in-Err.is c.condense.ensures.after) (calm g (goal.at.returns-in_ok-refusal_at_fault-in-Err-clause-faultless g c).After-condense)

pub returns-in_err-refusal_at_fault-in-Err-clause-faultless : goal.returns-in_err-refusal_at_fault-in-Err-clause-faultless
returns-in_err-refusal_at_fault-in-Err-clause-faultless g c =
    let p = err_from_is_err_and c.from_residual-in_err-refusal_at_fault-in-Err.result c.from_residual-in_err-refusal_at_fault-in-Err.ensures.1 in
    let P : Result (Unit {0}) KeepFault → Type 0 = λ r. AfterCondensing r (keeper_of c.flush.new.self) c.condense.new.keeper in
    let Q : Result Refusal SessionEnd → Type 0 = λ r. IfErr r (λ end. OnOkOrMemory {T = Reply} (Err end) (c.condense.new.keeper.fault ≡ None)) in
    rw (p.1, p.2) (subst Q (sym c.in_err-refusal_at_fault-in-Err.ensures) (reading_calm (Unit {0}) Reply c.in-Err.fault (keeper_of c.flush.new.self) c.condense.new.keeper (subst P c.in-Err.is c.condense.ensures.after) (calm g (goal.at.returns-in_err-refusal_at_fault-in-Err-clause-faultless g c).After-condense)))

-- ---- how it ends

pub returns-in_err-refusal_at_fault-in-Err-clause-ends : goal.returns-in_err-refusal_at_fault-in-Err-clause-ends
returns-in_err-refusal_at_fault-in-Err-clause-ends g c =
    let p = err_from_is_err_and c.from_residual-in_err-refusal_at_fault-in-Err.result c.from_residual-in_err-refusal_at_fault-in-Err.ensures.1 in
    let P : Result Refusal SessionEnd → Type 0 = λ r. IfErr r IsWorkEnd in
    rw (p.1, p.2) (subst P (sym c.in_err-refusal_at_fault-in-Err.ensures) (keep_end_works (refusal_at_fault c.in-Err.fault) (fault_keep_end c.in-Err.fault)))

pub returns-in_err-refusal_at_fault-in-Err-clause-ends_at_rest : goal.returns-in_err-refusal_at_fault-in-Err-clause-ends_at_rest
returns-in_err-refusal_at_fault-in-Err-clause-ends_at_rest g c = λ resting.
    let p = err_from_is_err_and c.from_residual-in_err-refusal_at_fault-in-Err.result c.from_residual-in_err-refusal_at_fault-in-Err.ensures.1 in
    let P : Result Refusal SessionEnd → Type 0 = λ r. IfErr r IsKeepEnd in
    rw (p.1, p.2) (subst P (sym c.in_err-refusal_at_fault-in-Err.ensures) (fault_keep_end c.in-Err.fault))

pub returns-in_err-refusal_at_fault-in-Err-clause-sound : goal.returns-in_err-refusal_at_fault-in-Err-clause-sound
returns-in_err-refusal_at_fault-in-Err-clause-sound g c = λ tells changes knows built.
    let after = (goal.at.returns-in_err-refusal_at_fault-in-Err-clause-sound g c).After-condense in
    let new = c.condense.new.outside in
    let written : Type 0 = HasWritten (g.O.Outside.shown new).tells (g.O.Outside.shown new).files c.condense.new.keeper (kept changes (kept_versions_of c.flush.new.self)) in
    let P : Result (Unit {0}) KeepFault → Type 0 = λ r. IfReplaced r written in
    let Q : Result Refusal SessionEnd → Type 0 = λ r. IfErr r (λ end. MeetsNoDamage {T = Reply} (Err end)) in
    let telling = subst IsTrue (sym (ap (λ (o : Shown). o.tells) c.flush.ensures.shown)) tells in
    let replaced = subst P c.in-Err.is (c.condense.ensures.known telling changes built (known g after changes knows)) in
    let p = err_from_is_err_and c.from_residual-in_err-refusal_at_fault-in-Err.result c.from_residual-in_err-refusal_at_fault-in-Err.ensures.1 in
    rw (p.1, p.2) (subst Q (sym c.in_err-refusal_at_fault-in-Err.ensures) (condensed_whole written c.in-Err.fault replaced))

-- ---- the counts of faults

pub returns-in-Ok-clause-counts : goal.returns-in-Ok-clause-counts
returns-in-Ok-clause-counts g c =
    let after = (goal.at.returns-in-Ok-clause-counts g c).After-condense in
    let old = g.O.Outside.faults c.flush.new.outside in
    let new = g.O.Outside.faults c.condense.new.outside in
    let P : Faults → Type 0 = λ f. SourceCounts {T = Reply} f new (Ok Accepted) in
    subst P c.in_ok-flush.ensures.counts.reason (record { later = later g after; reason = faults_same old new c.condense.ensures.faults c.in-Ok.ensures.faults_stay })

pub returns-in_ok-refusal_at_fault-in-Err-clause-counts : goal.returns-in_ok-refusal_at_fault-in-Err-clause-counts
returns-in_ok-refusal_at_fault-in-Err-clause-counts g c =
    let after = (goal.at.returns-in_ok-refusal_at_fault-in-Err-clause-counts g c).After-condense in
    let old = g.O.Outside.faults c.flush.new.outside in
    let new = g.O.Outside.faults c.condense.new.outside in
    let P : Faults → Type 0 = λ f. SourceCounts {T = Reply} f new (Ok (Refused c.in_ok-refusal_at_fault-in-Err.field-0)) in
    let Q : Result (Unit {0}) KeepFault → Type 0 = λ r. UnlessKeepDisk r (new.disk ≡ old.disk) in
    let still = condensed_quiet c.in-Err.fault c.in_ok-refusal_at_fault-in-Err.field-0 (new.disk ≡ old.disk) (sym c.in_ok-refusal_at_fault-in-Err.ensures) (subst Q c.in-Err.is c.condense.ensures.faults_stay) in
    subst P c.in_ok-flush.ensures.counts.reason (record { later = later g after; reason = faults_same old new c.condense.ensures.faults still })

pub returns-in_err-refusal_at_fault-in-Err-clause-counts : goal.returns-in_err-refusal_at_fault-in-Err-clause-counts
returns-in_err-refusal_at_fault-in-Err-clause-counts g c =
    let after = (goal.at.returns-in_err-refusal_at_fault-in-Err-clause-counts g c).After-condense in
    let old = g.O.Outside.faults c.flush.new.outside in
    let new = g.O.Outside.faults c.condense.new.outside in
    let P : Faults → Type 0 = λ f. SourceCounts {T = Reply} f new (Err c.in_err-refusal_at_fault-in-Err.field-0.0) in
    let Q : Result Refusal SessionEnd → Type 0 = λ r. IfErr r (λ end. EndsForReasonOrDamage {T = Reply} old new (Err end)) in
    let reason = subst Q (sym c.in_err-refusal_at_fault-in-Err.ensures) (read_reason Reply (Unit {0}) c.condense.result (keeper_of c.flush.new.self) c.in-Err.fault old new c.in-Err.is c.condense.ensures.faults c.condense.ensures.cause c.condense.ensures.faults_stay c.condense.ensures.closed (calm g after)) in
    let p = err_from_is_err_and c.from_residual-in_err-refusal_at_fault-in-Err.result c.from_residual-in_err-refusal_at_fault-in-Err.ensures.1 in
    rw (p.1, p.2) (subst P c.in_ok-flush.ensures.counts.reason (record { later = later g after; reason = reason }))

-- ---- what is known stays known

pub returns-in_err-flush-clause-known : goal.returns-in_err-flush-clause-known
returns-in_err-flush-clause-known g c = λ knows.
    let p = err_from_is_err_and c.from_residual.result c.from_residual.ensures.1 in
    rw (p.1, p.2) (flush_ends c.in_err-flush.field-0.0 (g.O.Outside.shown c.flush.new.outside) c.flush.new.self (c.in_err-flush.ensures.known knows))

-- what the paths behind the flush share
module _ (g : _) (c : After-condense g) where
  told_before : IsTrue (g.O.Outside.shown c.condense.new.outside).tells → IsTrue (g.O.Outside.shown c.flush.new.outside).tells
  told_before told = subst IsTrue (ap (λ (o : Shown). o.tells) c.condense.ensures.shown) told

  -- what the call makes of the list that was there
  replaced : (changes : List Change) → IsTrue (g.O.Outside.shown c.flush.new.outside).tells → HasWritten (g.O.Outside.shown c.flush.new.outside).tells (g.O.Outside.shown c.flush.new.outside).files (keeper_of c.flush.new.self) changes
      → IfReplaced c.condense.result (HasWritten (g.O.Outside.shown c.condense.new.outside).tells (g.O.Outside.shown c.condense.new.outside).files c.condense.new.keeper (kept changes (kept_versions_of c.flush.new.self)))
  replaced changes told written =
      let mid = g.O.Outside.shown c.flush.new.outside in
      c.condense.ensures.known told changes written.made.built (knows_written mid.tells mid.files (keeper_of c.flush.new.self) changes told written)

pub returns-in-Ok-clause-known : goal.returns-in-Ok-clause-known
returns-in-Ok-clause-known g c = λ knows told.
    let after = (goal.at.returns-in-Ok-clause-known g c).After-condense in
    let new = g.O.Outside.shown c.condense.new.outside in
    let before = told_before g after told in
    let was = c.in_ok-flush.ensures.known knows before in
    let short = kept was.1 (kept_versions_of c.flush.new.self) in
    let P : Result (Unit {0}) KeepFault → Type 0 = λ r. IfReplaced r (HasWritten new.tells new.files c.condense.new.keeper short) in
    (was.0, short, subst P c.in-Ok.is (replaced g after was.1 before was.2))

pub returns-in_ok-refusal_at_fault-in-Err-clause-known : goal.returns-in_ok-refusal_at_fault-in-Err-clause-known
returns-in_ok-refusal_at_fault-in-Err-clause-known g c = λ knows told.
    let after = (goal.at.returns-in_ok-refusal_at_fault-in-Err-clause-known g c).After-condense in
    let mid = g.O.Outside.shown c.flush.new.outside in
    let new = g.O.Outside.shown c.condense.new.outside in
    let was = c.in_ok-flush.ensures.known knows (told_before g after told) in
    let P : Result (Unit {0}) KeepFault → Type 0 = λ r. AfterCondensing r (keeper_of c.flush.new.self) c.condense.new.keeper in
    (was.0, was.1, condensed_still c.in-Err.fault c.in_ok-refusal_at_fault-in-Err.field-0 mid new (keeper_of c.flush.new.self) c.condense.new.keeper was.1 (sym c.in_ok-refusal_at_fault-in-Err.ensures) (subst P c.in-Err.is c.condense.ensures.after) (ap (λ (o : Shown). o.tells) c.condense.ensures.shown) c.condense.ensures.others was.2)

pub returns-in_err-refusal_at_fault-in-Err-clause-known : goal.returns-in_err-refusal_at_fault-in-Err-clause-known
returns-in_err-refusal_at_fault-in-Err-clause-known g c = λ knows.
    let after = (goal.at.returns-in_err-refusal_at_fault-in-Err-clause-known g c).After-condense in
    let new = g.O.Outside.shown c.condense.new.outside in
    let Now : List Change → Type 0 = λ changes. HasWritten new.tells new.files c.condense.new.keeper (kept changes (kept_versions_of c.flush.new.self)) in
    let Q : Result Refusal SessionEnd → Type 0 = λ r. IfErr r (λ end. StaysKnowing {T = Reply} (Err end) new (now g after)) in
    let p = err_from_is_err_and c.from_residual-in_err-refusal_at_fault-in-Err.result c.from_residual-in_err-refusal_at_fault-in-Err.ensures.1 in
    rw (p.1, p.2) (subst Q (sym c.in_err-refusal_at_fault-in-Err.ensures) (condensed_known Now c.in-Err.fault new (now g after) (λ told.
    let before = told_before g after told in
    let was = c.in_ok-flush.ensures.known knows before in
    let P : Result (Unit {0}) KeepFault → Type 0 = λ r. IfReplaced r (Now was.1) in
    (was.1, subst P c.in-Err.is (replaced g after was.1 before was.2)))))
