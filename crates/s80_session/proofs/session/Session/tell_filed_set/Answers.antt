use Rattle.std.specs.Prelude.{IfErr, IfSome}
use Rattle.std.proofs.Common.{◌≡◌, ℕ, List, None, Result, Ok, Err, length, map as list_map, refl, ap, sym, subst, ◌∙◌, arith}
use Rattle.std.proofs.lemmas.Result.{err_from_is_err_and}
use Rattle.s80_form.specs.declared.refusal.Refusal.{Refusal}
use Rattle.s80_change.specs.declared.change.Change.{Change}
use Rattle.s80_disk.specs.Moments.{LeavesOnly}
use Rattle.s80_disk.specs.Shown.{Faults}
use Rattle.s80_fileout.specs.FileText.{IsFile}
use Rattle.s80_history.specs.Lists.{set_of}
use Rattle.s80_keeper.specs.declared.keep.KeepFault.{KeepFault}
use Rattle.s80_keeper.specs.Source.{IsThis, after_reading}
use Rattle.s80_model.specs.declared.item.Filed.TheVariants.{Set}
use Rattle.s80_model.specs.declared.item.Query.TheVariants.{FileOut}
use Rattle.s80_model.specs.declared.item.SessionItem.{SessionItem}
use Rattle.s80_model.specs.declared.item.SessionItem.TheVariants.{Query}
use Rattle.s80_model.specs.declared.reply.Reply.{Reply}
use Rattle.s80_model.specs.declared.reply.Reply.TheVariants.{Told}
use Rattle.s80_model.specs.Replies.{Work}
use Rattle.s80_session.specs.declared.end.SessionEnd.{SessionEnd}
use Rattle.s80_session.specs.declared.session.Session.{Session}
use Rattle.s80_session.specs.Ending.{EndsForReasonOrDamage, NoFewer, OnOkOrMemory}
use Rattle.s80_session.specs.Files.{IsAsLeft}
use Rattle.s80_session.specs.Run.{HasKept}
use Rattle.s80_session.specs.Session.{was_of}
use Rattle.s80_session.specs.Working.{IsAt, QueryWorked, at_rest}
use Rattle.s80_session.proofs.lemmas.Elsewhere.{left_as_before}
use Rattle.s80_session.proofs.lemmas.Keeping.{keeps_knows}
use Rattle.s80_session.proofs.lemmas.Grounds.{quiet_last}
use Rattle.s80_session.proofs.Reading.{at_read, fault_unread, read_reason, reading_calm, reading_log, reading_pending, unread_ends}
use Rattle.s80_session.proofs.Stepping.{replied_file, told_second}
use Rattle.s80_session.proofs.Telling.{file_is_told}
use Rattle.s80_session.proofs.session.Session.tell_filed_set.Goals as goal
use Rattle.s80_session.proofs.session.Session.tell_filed_set.Goals.{After-read_set}

-- what the paths behind the reading share
module _ (g : _) (c : After-read_set g) where
  no_more : LeavesOnly g.O.Disk.moment g.O.Disk.left_since c.args.outside.now c.read_set.new.outside (IsAsLeft (g.O.Disk.may_leave c.args.outside.now))
  no_more = left_as_before g.O.Disk.moment g.O.Disk.left_since c.args.outside.now c.read_set.new.outside (g.O.Disk.may_leave c.args.outside.now) (g.O.Outside.shown c.args.outside.now).told 0 c.read_set.ensures.any_moment

module _ (g : _) (c : After-read_set g) (work : Work) (put : List ℕ) (at : IsAt (g.O.Disk.may_leave c.args.outside.now) (g.O.Outside.shown c.args.outside.now) c.args.self.now work put) where
  -- the change set that the list has
  abbrev wanted : List Change
  wanted = list_map (λ p. p.1) (set_of work.changes)

  this : IsThis wanted c.read_set.result
  this = c.read_set.ensures.set at.keeps.holds.stands.told work.changes (keeps_knows (g.O.Outside.shown c.args.outside.now).tells (g.O.Outside.shown c.args.outside.now).files (g.O.Disk.may_leave c.args.outside.now) c.args.self.now.keeper work.changes at.keeps)

  run : LeavesOnly g.O.Disk.moment g.O.Disk.left_since c.args.outside.now c.read_set.new.outside (HasKept work.changes (length put))
  run = quiet_last g.O.Disk.moment g.O.Disk.left_since (g.O.Disk.may_leave c.args.outside.now) (g.O.Outside.shown c.args.outside.now) c.args.self.now c.args.outside.now c.read_set.new.outside work (at_rest work put) at c.read_set.ensures.any_moment

  -- where it was read, the session is where it was
  still : (found : List Change) → c.read_set.result ≡ Ok found → IsAt (g.O.Disk.may_leave c.read_set.new.outside) (g.O.Outside.shown c.read_set.new.outside) (record c.args.self.now { keeper = c.read_set.new.keeper }) work put
  still found is =
      let same : c.read_set.new.keeper ≡ c.args.self.now.keeper = c.read_set.ensures.after ∙ ap (λ r. after_reading r c.args.self.now.keeper) is in
      at_read (g.O.Disk.may_leave c.args.outside.now) (g.O.Disk.may_leave c.read_set.new.outside) (g.O.Outside.shown c.args.outside.now) (g.O.Outside.shown c.read_set.new.outside) c.args.self.now (record c.args.self.now { keeper = c.read_set.new.keeper }) work put same refl c.read_set.ensures.images c.read_set.ensures.shown at

  -- and the reply is a file of it
  is_told : (found : List Change) (text : List ℕ) → IfSome (g.O.Outside.shown c.args.outside.now).seconds (λ told. c.args.seconds ≡ told) → c.read_set.result ≡ Ok found → IsFile found c.args.seconds text → QueryWorked (Ok (Told text)) (g.O.Disk.may_leave c.read_set.new.outside) (g.O.Outside.shown c.read_set.new.outside) (record c.args.self.now { keeper = c.read_set.new.keeper }) (was_of c.args.self.now) work put (Query (FileOut Set))
  is_told found text clock is file =
      let P : Result (List Change) KeepFault → Type 0 = λ r. IsThis wanted r in
      let told = file_is_told found wanted c.args.seconds text (subst P is this) file in
      replied_file (g.O.Disk.may_leave c.read_set.new.outside) (g.O.Outside.shown c.read_set.new.outside) (record c.args.self.now { keeper = c.read_set.new.keeper }) (was_of c.args.self.now) work put Set Set c.args.seconds (Told text) refl refl (told_second (g.O.Outside.shown c.args.outside.now) (g.O.Outside.shown c.read_set.new.outside) c.args.seconds c.read_set.ensures.shown clock) told (still found is)

pub returns-in_err-render-in-Ok-clause-any_moment : goal.returns-in_err-render-in-Ok-clause-any_moment
returns-in_err-render-in-Ok-clause-any_moment g c = run g (goal.at.returns-in_err-render-in-Ok-clause-any_moment g c).After-read_set

pub returns-in_ok-render-in-Ok-clause-any_moment : goal.returns-in_ok-render-in-Ok-clause-any_moment
returns-in_ok-render-in-Ok-clause-any_moment g c = run g (goal.at.returns-in_ok-render-in-Ok-clause-any_moment g c).After-read_set

pub returns-in_ok-refusal_at_fault-in-Err-clause-any_moment : goal.returns-in_ok-refusal_at_fault-in-Err-clause-any_moment
returns-in_ok-refusal_at_fault-in-Err-clause-any_moment g c = run g (goal.at.returns-in_ok-refusal_at_fault-in-Err-clause-any_moment g c).After-read_set

pub returns-in_ok-render-in-Ok-clause-replied : goal.returns-in_ok-render-in-Ok-clause-replied
returns-in_ok-render-in-Ok-clause-replied g c = λ work put clock at.
    let after = (goal.at.returns-in_ok-render-in-Ok-clause-replied g c).After-read_set in
    is_told g after work put at c.in-Ok.set c.in_ok-render-in-Ok.field-0 clock c.in-Ok.is c.in_ok-render-in-Ok.ensures

pub returns-in_err-render-in-Ok-clause-replied : goal.returns-in_err-render-in-Ok-clause-replied
returns-in_err-render-in-Ok-clause-replied g c = λ work put clock at.
    let after = (goal.at.returns-in_err-render-in-Ok-clause-replied g c).After-read_set in
    let p = err_from_is_err_and c.from_residual.result c.from_residual.ensures.1 in
    rw (p.1, p.2) (still g after work put at c.in-Ok.set c.in-Ok.is)

-- no fault is answered
pub returns-in_ok-refusal_at_fault-in-Err-clause-replied : goal.returns-in_ok-refusal_at_fault-in-Err-clause-replied
returns-in_ok-refusal_at_fault-in-Err-clause-replied g c = λ work put clock at.
    let after = (goal.at.returns-in_ok-refusal_at_fault-in-Err-clause-replied g c).After-read_set in
    let Q : Result (List Change) KeepFault → Type 0 = λ r. IsThis (wanted g after work put at) r in
    absurd (unread_ends (List Change) c.in-Err.fault (wanted g after work put at) c.in_ok-refusal_at_fault-in-Err.field-0 (subst Q c.in-Err.is (this g after work put at)) (sym c.in_ok-refusal_at_fault-in-Err.ensures))

pub returns-in_err-refusal_at_fault-in-Err-clause-replied : goal.returns-in_err-refusal_at_fault-in-Err-clause-replied
returns-in_err-refusal_at_fault-in-Err-clause-replied g c = λ work put clock at.
    let after = (goal.at.returns-in_err-refusal_at_fault-in-Err-clause-replied g c).After-read_set in
    let new = c.read_set.new.outside in
    let now : Session = record c.args.self.now { keeper = c.read_set.new.keeper } in
    let item : SessionItem = Query (FileOut Set) in
    let P : Result Refusal SessionEnd → Type 0 = λ r. IfErr r (λ end. QueryWorked (Err end) (g.O.Disk.may_leave new) (g.O.Outside.shown new) now (was_of c.args.self.now) work put item) in
    let Q : Result (List Change) KeepFault → Type 0 = λ r. IsThis (wanted g after work put at) r in
    let ends = subst P (sym c.in_err-refusal_at_fault-in-Err.ensures) (fault_unread (List Change) c.in-Err.fault (wanted g after work put at) (was_of c.args.self.now) (g.O.Disk.may_leave c.args.outside.now) (g.O.Disk.may_leave new) (g.O.Outside.shown c.args.outside.now) (g.O.Outside.shown new) c.args.self.now now work put item (subst Q c.in-Err.is (this g after work put at)) (c.read_set.ensures.after ∙ ap (λ r. after_reading r c.args.self.now.keeper) c.in-Err.is) refl c.read_set.ensures.images c.read_set.ensures.shown at) in
    let p = err_from_is_err_and c.from_residual-in_err-refusal_at_fault-in-Err.result c.from_residual-in_err-refusal_at_fault-in-Err.ensures.1 in
    rw (p.1, p.2) ends

pub returns-in_err-refusal_at_fault-in-Err-clause-any_moment : goal.returns-in_err-refusal_at_fault-in-Err-clause-any_moment
returns-in_err-refusal_at_fault-in-Err-clause-any_moment g c = run g (goal.at.returns-in_err-refusal_at_fault-in-Err-clause-any_moment g c).After-read_set

pub returns-in_err-refusal_at_fault-in-Err-clause-counts : goal.returns-in_err-refusal_at_fault-in-Err-clause-counts
returns-in_err-refusal_at_fault-in-Err-clause-counts g c =
    let counts = c.read_set.ensures.faults in
    let old = g.O.Outside.faults c.args.outside.now in
    let new = g.O.Outside.faults c.read_set.new.outside in
    let later : NoFewer old new = record {
      read = let e = ap (λ (f : Faults). f.read) counts in omega (arith, e);
      write = let e = ap (λ (f : Faults). f.write) counts in omega (arith, e);
      disk = c.read_set.ensures.later;
    } in
    let P : Result Refusal SessionEnd → Type 0 = λ r. IfErr r (λ end. EndsForReasonOrDamage {T = Reply} old new (Err end)) in
    let reason = subst P (sym c.in_err-refusal_at_fault-in-Err.ensures) (read_reason Reply (List Change) c.read_set.result c.args.self.now.keeper c.in-Err.fault old new c.in-Err.is counts c.read_set.ensures.cause c.read_set.ensures.faults_stay c.read_set.ensures.closed c.requires.resting.faultless) in
    let p = err_from_is_err_and c.from_residual-in_err-refusal_at_fault-in-Err.result c.from_residual-in_err-refusal_at_fault-in-Err.ensures.1 in
    rw (p.1, p.2) (record { later = later; reason = reason })

-- ---- no image is added

pub returns-in_err-render-in-Ok-clause-no_more : goal.returns-in_err-render-in-Ok-clause-no_more
returns-in_err-render-in-Ok-clause-no_more g c = no_more g (goal.at.returns-in_err-render-in-Ok-clause-no_more g c).After-read_set

pub returns-in_ok-render-in-Ok-clause-no_more : goal.returns-in_ok-render-in-Ok-clause-no_more
returns-in_ok-render-in-Ok-clause-no_more g c = no_more g (goal.at.returns-in_ok-render-in-Ok-clause-no_more g c).After-read_set

pub returns-in_err-refusal_at_fault-in-Err-clause-no_more : goal.returns-in_err-refusal_at_fault-in-Err-clause-no_more
returns-in_err-refusal_at_fault-in-Err-clause-no_more g c = no_more g (goal.at.returns-in_err-refusal_at_fault-in-Err-clause-no_more g c).After-read_set

pub returns-in_ok-refusal_at_fault-in-Err-clause-no_more : goal.returns-in_ok-refusal_at_fault-in-Err-clause-no_more
returns-in_ok-refusal_at_fault-in-Err-clause-no_more g c = no_more g (goal.at.returns-in_ok-refusal_at_fault-in-Err-clause-no_more g c).After-read_set

-- ---- what is left of the keeper

pub returns-in_err-refusal_at_fault-in-Err-clause-pending : goal.returns-in_err-refusal_at_fault-in-Err-clause-pending
returns-in_err-refusal_at_fault-in-Err-clause-pending g c = reading_pending (List Change) c.read_set.result c.args.self.now.keeper c.read_set.new.keeper c.read_set.ensures.after

pub returns-in_err-refusal_at_fault-in-Err-clause-log : goal.returns-in_err-refusal_at_fault-in-Err-clause-log
returns-in_err-refusal_at_fault-in-Err-clause-log g c = reading_log (List Change) c.read_set.result c.args.self.now.keeper c.read_set.new.keeper c.read_set.ensures.after

pub returns-in_err-refusal_at_fault-in-Err-clause-faultless : goal.returns-in_err-refusal_at_fault-in-Err-clause-faultless
returns-in_err-refusal_at_fault-in-Err-clause-faultless g c =
    let p = err_from_is_err_and c.from_residual-in_err-refusal_at_fault-in-Err.result c.from_residual-in_err-refusal_at_fault-in-Err.ensures.1 in
    let P : Result Refusal SessionEnd → Type 0 = λ r. IfErr r (λ end. OnOkOrMemory {T = Reply} (Err end) (c.read_set.new.keeper.fault ≡ None)) in
    rw (p.1, p.2) (subst P (sym c.in_err-refusal_at_fault-in-Err.ensures) (reading_calm (List Change) Reply c.in-Err.fault c.args.self.now.keeper c.read_set.new.keeper (c.read_set.ensures.after ∙ ap (λ r. after_reading r c.args.self.now.keeper) c.in-Err.is) c.requires.resting.faultless))

pub returns-in_ok-render-in-Ok-clause-pending : goal.returns-in_ok-render-in-Ok-clause-pending
returns-in_ok-render-in-Ok-clause-pending g c = reading_pending (List Change) c.read_set.result c.args.self.now.keeper c.read_set.new.keeper c.read_set.ensures.after

pub returns-in_ok-render-in-Ok-clause-log : goal.returns-in_ok-render-in-Ok-clause-log
returns-in_ok-render-in-Ok-clause-log g c = reading_log (List Change) c.read_set.result c.args.self.now.keeper c.read_set.new.keeper c.read_set.ensures.after

pub returns-in_err-render-in-Ok-clause-pending : goal.returns-in_err-render-in-Ok-clause-pending
returns-in_err-render-in-Ok-clause-pending g c = reading_pending (List Change) c.read_set.result c.args.self.now.keeper c.read_set.new.keeper c.read_set.ensures.after

pub returns-in_err-render-in-Ok-clause-log : goal.returns-in_err-render-in-Ok-clause-log
returns-in_err-render-in-Ok-clause-log g c = reading_log (List Change) c.read_set.result c.args.self.now.keeper c.read_set.new.keeper c.read_set.ensures.after

pub returns-in_ok-refusal_at_fault-in-Err-clause-pending : goal.returns-in_ok-refusal_at_fault-in-Err-clause-pending
returns-in_ok-refusal_at_fault-in-Err-clause-pending g c = reading_pending (List Change) c.read_set.result c.args.self.now.keeper c.read_set.new.keeper c.read_set.ensures.after

pub returns-in_ok-refusal_at_fault-in-Err-clause-log : goal.returns-in_ok-refusal_at_fault-in-Err-clause-log
returns-in_ok-refusal_at_fault-in-Err-clause-log g c = reading_log (List Change) c.read_set.result c.args.self.now.keeper c.read_set.new.keeper c.read_set.ensures.after
