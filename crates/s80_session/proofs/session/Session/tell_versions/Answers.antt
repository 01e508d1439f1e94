use Rattle.std.specs.Prelude.{IfErr}
use Rattle.std.proofs.Common.{◌≡◌, ℕ, List, None, Result, Ok, Err, length, map as list_map, refl, ap, sym, subst, ◌∙◌, arith}
use Rattle.std.proofs.lemmas.Result.{err_from_is_err_and}
use Rattle.std.specs.FinMap as map
use Rattle.s80_form.specs.declared.refusal.Refusal.{Refusal}
use Rattle.s80_change.specs.declared.change.Change.{Change}
use Rattle.s80_class.specs.Classes.{Classes}
use Rattle.s80_disk.specs.Moments.{LeavesOnly}
use Rattle.s80_disk.specs.Shown.{Faults}
use Rattle.s80_disk.proofs.lemmas.Showing.{told_beside}
use Rattle.s80_history.specs.Lists.{versions_of}
use Rattle.s80_keeper.specs.declared.keep.KeepFault.{KeepFault}
use Rattle.s80_keeper.specs.Source.{IsThis, after_reading}
use Rattle.s80_model.specs.declared.item.Query.TheVariants.{Versions}
use Rattle.s80_model.specs.declared.item.SessionItem.{SessionItem}
use Rattle.s80_model.specs.declared.item.SessionItem.TheVariants.{Query}
use Rattle.s80_model.specs.declared.reply.Reply.{Reply}
use Rattle.s80_model.specs.Replies.{Work}
use Rattle.s80_model.specs.Told.{versions_told}
use Rattle.s80_apply.specs.List.{state_of}
use Rattle.s80_apply.specs.System.{IsSystemOf, SystemState}
use Rattle.s80_session.specs.declared.end.SessionEnd.{SessionEnd}
use Rattle.s80_session.specs.declared.session.Session.{Session}
use Rattle.s80_session.specs.Ending.{EndsForReasonOrDamage, NoFewer, OnOkOrMemory}
use Rattle.s80_session.specs.Files.{IsAsLeft}
use Rattle.s80_session.specs.Run.{HasKept}
use Rattle.s80_session.specs.Session.{was_of}
use Rattle.s80_session.specs.Working.{IsAt, QueryWorked, at_rest}
use Rattle.s80_session.proofs.lemmas.Elsewhere.{left_as_before}
use Rattle.s80_session.proofs.lemmas.Keeping.{keeps_knows}
use Rattle.s80_session.proofs.lemmas.Grounds.{nothing_happens, quiet_last}
use Rattle.s80_session.proofs.Reading.{at_read, fault_unread, read_reason, reading_calm, reading_log, reading_pending, unread_ends}
use Rattle.s80_session.proofs.Stepping.{replied_told}
use Rattle.s80_session.proofs.Telling.{versions_are_told}
use Rattle.s80_session.proofs.session.Session.tell_versions.Goals as goal
use Rattle.s80_session.proofs.session.Session.tell_versions.Goals.{After-read_versions}

-- what the paths behind the reading share
module _ (g : _) (c : After-read_versions g) where
  no_more : LeavesOnly g.O.Disk.moment g.O.Disk.left_since c.args.outside.now c.read_versions.new.outside (IsAsLeft (g.O.Disk.may_leave c.args.outside.now))
  no_more = left_as_before g.O.Disk.moment g.O.Disk.left_since c.args.outside.now c.read_versions.new.outside (g.O.Disk.may_leave c.args.outside.now) (g.O.Outside.shown c.args.outside.now).told 0 c.read_versions.ensures.any_moment

module _ (g : _) (c : After-read_versions g) (work : Work) (put : List ℕ) (at : IsAt (g.O.Disk.may_leave c.args.outside.now) (g.O.Outside.shown c.args.outside.now) c.args.self.now work put) where
  -- the versions that the list has
  abbrev wanted : List Change
  wanted = list_map (λ p. p.1) (versions_of work.changes (record { class_name = c.in-Some.name; side = c.in-Some.side; selector = c.args.selector }))

  this : IsThis wanted c.read_versions.result
  this = c.read_versions.ensures.versions at.keeps.holds.stands.told work.changes (keeps_knows (g.O.Outside.shown c.args.outside.now).tells (g.O.Outside.shown c.args.outside.now).files (g.O.Disk.may_leave c.args.outside.now) c.args.self.now.keeper work.changes at.keeps)

  run : LeavesOnly g.O.Disk.moment g.O.Disk.left_since c.args.outside.now c.read_versions.new.outside (HasKept work.changes (length put))
  run = quiet_last g.O.Disk.moment g.O.Disk.left_since (g.O.Disk.may_leave c.args.outside.now) (g.O.Outside.shown c.args.outside.now) c.args.self.now c.args.outside.now c.read_versions.new.outside work (at_rest work put) at c.read_versions.ensures.any_moment

  -- where they were read, the session is where it was
  still : (found : List Change) → c.read_versions.result ≡ Ok found → IsAt (g.O.Disk.may_leave c.read_versions.new.outside) (g.O.Outside.shown c.read_versions.new.outside) (record c.args.self.now { keeper = c.read_versions.new.keeper }) work put
  still found is =
      let same : c.read_versions.new.keeper ≡ c.args.self.now.keeper = c.read_versions.ensures.after ∙ ap (λ r. after_reading r c.args.self.now.keeper) is in
      at_read (g.O.Disk.may_leave c.args.outside.now) (g.O.Disk.may_leave c.read_versions.new.outside) (g.O.Outside.shown c.args.outside.now) (g.O.Outside.shown c.read_versions.new.outside) c.args.self.now (record c.args.self.now { keeper = c.read_versions.new.keeper }) work put same refl c.read_versions.ensures.images c.read_versions.ensures.shown at

  -- and the reply tells them
  is_told : (found : List Change) (reply : Reply) → c.read_versions.result ≡ Ok found → reply ≡ versions_told c.in-Some.name c.in-Some.side c.args.selector c.has_method-is_there.result found
      → QueryWorked (Ok reply) (g.O.Disk.may_leave c.read_versions.new.outside) (g.O.Outside.shown c.read_versions.new.outside) (record c.args.self.now { keeper = c.read_versions.new.keeper }) (was_of c.args.self.now) work put (Query (Versions c.args.spec c.args.selector))
  is_told found reply is reply_is =
      let P : Result (List Change) KeepFault → Type 0 = λ r. IsThis wanted r in
      let Q : SystemState → Type 0 = λ s. IsSystemOf s (state_of work.changes) in
      let row = c.in-Some-find.ensures.there in
      let there = c.has_method-is_there.ensures (state_of work.changes) c.in-Some.name (subst Q (sym c.system-system.ensures) at.keeps.system) c.in-Some-find.ensures.named in
      let text = versions_are_told work.changes c.args.spec c.args.selector c.in_ok-name.field-0 (c.in-Some.name, c.in-Some.side) c.in_ok-name.ensures c.in-Some.is row.0 (sym (ap (λ (s : SystemState). map.get s.table.classes c.in-Some.name) c.system-system.ensures ∙ ap (λ (m : Classes). map.get m c.in-Some.name) at.keeps.system.classes) ∙ row.1) reply c.has_method-is_there.result found there (subst P is this) reply_is in
      replied_told (g.O.Disk.may_leave c.read_versions.new.outside) (g.O.Outside.shown c.read_versions.new.outside) (record c.args.self.now { keeper = c.read_versions.new.keeper }) (was_of c.args.self.now) work put (Versions c.args.spec c.args.selector) (Versions c.args.spec c.args.selector) reply refl refl refl text (still found is)

pub returns-in_err-name-clause-any_moment : goal.returns-in_err-name-clause-any_moment
returns-in_err-name-clause-any_moment g c = λ work put at.
    nothing_happens g.O.Disk.moment g.O.Disk.left_since _ (g.O.Outside.shown c.args.outside.now) _ c.args.outside.now work (at_rest work put) (λ told image left. let x = g.met.O.Disk.only_now c.args.outside.now told image left in (x.0, x.1 ∙ told_beside g.met.O.Outside.beside_is g.met.O.Outside.shown_is c.args.outside.now)) at

pub returns-in_default-clause-any_moment : goal.returns-in_default-clause-any_moment
returns-in_default-clause-any_moment g c = λ work put at.
    nothing_happens g.O.Disk.moment g.O.Disk.left_since _ (g.O.Outside.shown c.args.outside.now) _ c.args.outside.now work (at_rest work put) (λ told image left. let x = g.met.O.Disk.only_now c.args.outside.now told image left in (x.0, x.1 ∙ told_beside g.met.O.Outside.beside_is g.met.O.Outside.shown_is c.args.outside.now)) at

pub returns-in_default-find-clause-any_moment : goal.returns-in_default-find-clause-any_moment
returns-in_default-find-clause-any_moment g c = λ work put at.
    nothing_happens g.O.Disk.moment g.O.Disk.left_since _ (g.O.Outside.shown c.args.outside.now) _ c.args.outside.now work (at_rest work put) (λ told image left. let x = g.met.O.Disk.only_now c.args.outside.now told image left in (x.0, x.1 ∙ told_beside g.met.O.Outside.beside_is g.met.O.Outside.shown_is c.args.outside.now)) at

pub returns-in_err-tell_versions-in-Ok-clause-any_moment : goal.returns-in_err-tell_versions-in-Ok-clause-any_moment
returns-in_err-tell_versions-in-Ok-clause-any_moment g c = run g (goal.at.returns-in_err-tell_versions-in-Ok-clause-any_moment g c).After-read_versions

pub returns-in-Ok-clause-any_moment : goal.returns-in-Ok-clause-any_moment
returns-in-Ok-clause-any_moment g c = run g (goal.at.returns-in-Ok-clause-any_moment g c).After-read_versions

pub returns-clause-any_moment : goal.returns-clause-any_moment
returns-clause-any_moment g c = run g (goal.at.returns-clause-any_moment g c).After-read_versions

pub returns-in-Ok-clause-replied : goal.returns-in-Ok-clause-replied
returns-in-Ok-clause-replied g c = λ work put at.
    let after = (goal.at.returns-in-Ok-clause-replied g c).After-read_versions in
    is_told g after work put at c.in-Ok.versions c.in_ok-tell_versions-in-Ok.field-0 c.in-Ok.is c.in_ok-tell_versions-in-Ok.ensures.answer

pub returns-in_err-tell_versions-in-Ok-clause-replied : goal.returns-in_err-tell_versions-in-Ok-clause-replied
returns-in_err-tell_versions-in-Ok-clause-replied g c = λ work put at.
    let after = (goal.at.returns-in_err-tell_versions-in-Ok-clause-replied g c).After-read_versions in
    let p = err_from_is_err_and c.from_residual-in_err-tell_versions-in-Ok.result c.from_residual-in_err-tell_versions-in-Ok.ensures.1 in
    rw (p.1, p.2) (still g after work put at c.in-Ok.versions c.in-Ok.is)

-- no fault is answered
pub returns-clause-replied : goal.returns-clause-replied
returns-clause-replied g c = λ work put at.
    let after = (goal.at.returns-clause-replied g c).After-read_versions in
    let Q : Result (List Change) KeepFault → Type 0 = λ r. IsThis (wanted g after work put at) r in
    absurd (unread_ends (List Change) c.in-Err.fault (wanted g after work put at) c.in_ok-refusal_at_fault-in-Err.field-0 (subst Q c.in-Err.is (this g after work put at)) (sym c.in_ok-refusal_at_fault-in-Err.ensures))

pub returns-in_err-refusal_at_fault-in-Err-clause-replied : goal.returns-in_err-refusal_at_fault-in-Err-clause-replied
returns-in_err-refusal_at_fault-in-Err-clause-replied g c = λ work put at.
    let after = (goal.at.returns-in_err-refusal_at_fault-in-Err-clause-replied g c).After-read_versions in
    let new = c.read_versions.new.outside in
    let now : Session = record c.args.self.now { keeper = c.read_versions.new.keeper } in
    let item : SessionItem = Query (Versions c.args.spec c.args.selector) in
    let P : Result Refusal SessionEnd → Type 0 = λ r. IfErr r (λ end. QueryWorked (Err end) (g.O.Disk.may_leave new) (g.O.Outside.shown new) now (was_of c.args.self.now) work put item) in
    let Q : Result (List Change) KeepFault → Type 0 = λ r. IsThis (wanted g after work put at) r in
    let ends = subst P (sym c.in_err-refusal_at_fault-in-Err.ensures) (fault_unread (List Change) c.in-Err.fault (wanted g after work put at) (was_of c.args.self.now) (g.O.Disk.may_leave c.args.outside.now) (g.O.Disk.may_leave new) (g.O.Outside.shown c.args.outside.now) (g.O.Outside.shown new) c.args.self.now now work put item (subst Q c.in-Err.is (this g after work put at)) (c.read_versions.ensures.after ∙ ap (λ r. after_reading r c.args.self.now.keeper) c.in-Err.is) refl c.read_versions.ensures.images c.read_versions.ensures.shown at) in
    let p = err_from_is_err_and c.from_residual-in_err-refusal_at_fault-in-Err.result c.from_residual-in_err-refusal_at_fault-in-Err.ensures.1 in
    rw (p.1, p.2) ends

pub returns-in_err-refusal_at_fault-in-Err-clause-any_moment : goal.returns-in_err-refusal_at_fault-in-Err-clause-any_moment
returns-in_err-refusal_at_fault-in-Err-clause-any_moment g c = run g (goal.at.returns-in_err-refusal_at_fault-in-Err-clause-any_moment g c).After-read_versions

pub returns-in_err-refusal_at_fault-in-Err-clause-counts : goal.returns-in_err-refusal_at_fault-in-Err-clause-counts
returns-in_err-refusal_at_fault-in-Err-clause-counts g c =
    let counts = c.read_versions.ensures.faults in
    let old = g.O.Outside.faults c.args.outside.now in
    let new = g.O.Outside.faults c.read_versions.new.outside in
    let later : NoFewer old new = record {
      read = let e = ap (λ (f : Faults). f.read) counts in omega (arith, e);
      write = let e = ap (λ (f : Faults). f.write) counts in omega (arith, e);
      disk = c.read_versions.ensures.later;
    } in
    let P : Result Refusal SessionEnd → Type 0 = λ r. IfErr r (λ end. EndsForReasonOrDamage {T = Reply} old new (Err end)) in
    let reason = subst P (sym c.in_err-refusal_at_fault-in-Err.ensures) (read_reason Reply (List Change) c.read_versions.result c.args.self.now.keeper c.in-Err.fault old new c.in-Err.is counts c.read_versions.ensures.cause c.read_versions.ensures.faults_stay c.read_versions.ensures.closed c.requires.resting.faultless) in
    let p = err_from_is_err_and c.from_residual-in_err-refusal_at_fault-in-Err.result c.from_residual-in_err-refusal_at_fault-in-Err.ensures.1 in
    rw (p.1, p.2) (record { later = later; reason = reason })

-- ---- no image is added

pub returns-in_err-tell_versions-in-Ok-clause-no_more : goal.returns-in_err-tell_versions-in-Ok-clause-no_more
returns-in_err-tell_versions-in-Ok-clause-no_more g c = no_more g (goal.at.returns-in_err-tell_versions-in-Ok-clause-no_more g c).After-read_versions

pub returns-in-Ok-clause-no_more : goal.returns-in-Ok-clause-no_more
returns-in-Ok-clause-no_more g c = no_more g (goal.at.returns-in-Ok-clause-no_more g c).After-read_versions

pub returns-in_err-refusal_at_fault-in-Err-clause-no_more : goal.returns-in_err-refusal_at_fault-in-Err-clause-no_more
returns-in_err-refusal_at_fault-in-Err-clause-no_more g c = no_more g (goal.at.returns-in_err-refusal_at_fault-in-Err-clause-no_more g c).After-read_versions

pub returns-clause-no_more : goal.returns-clause-no_more
returns-clause-no_more g c = no_more g (goal.at.returns-clause-no_more g c).After-read_versions

-- ---- what is left of the keeper

pub returns-in_err-refusal_at_fault-in-Err-clause-pending : goal.returns-in_err-refusal_at_fault-in-Err-clause-pending
returns-in_err-refusal_at_fault-in-Err-clause-pending g c = reading_pending (List Change) c.read_versions.result c.args.self.now.keeper c.read_versions.new.keeper c.read_versions.ensures.after

pub returns-in_err-refusal_at_fault-in-Err-clause-log : goal.returns-in_err-refusal_at_fault-in-Err-clause-log
returns-in_err-refusal_at_fault-in-Err-clause-log g c = reading_log (List Change) c.read_versions.result c.args.self.now.keeper c.read_versions.new.keeper c.read_versions.ensures.after

pub returns-in_err-refusal_at_fault-in-Err-clause-faultless : goal.returns-in_err-refusal_at_fault-in-Err-clause-faultless
returns-in_err-refusal_at_fault-in-Err-clause-faultless g c =
    let p = err_from_is_err_and c.from_residual-in_err-refusal_at_fault-in-Err.result c.from_residual-in_err-refusal_at_fault-in-Err.ensures.1 in
    let P : Result Refusal SessionEnd → Type 0 = λ r. IfErr r (λ end. OnOkOrMemory {T = Reply} (Err end) (c.read_versions.new.keeper.fault ≡ None)) in
    rw (p.1, p.2) (subst P (sym c.in_err-refusal_at_fault-in-Err.ensures) (reading_calm (List Change) Reply c.in-Err.fault c.args.self.now.keeper c.read_versions.new.keeper (c.read_versions.ensures.after ∙ ap (λ r. after_reading r c.args.self.now.keeper) c.in-Err.is) c.requires.resting.faultless))

pub returns-clause-pending : goal.returns-clause-pending
returns-clause-pending g c = reading_pending (List Change) c.read_versions.result c.args.self.now.keeper c.read_versions.new.keeper c.read_versions.ensures.after

pub returns-clause-log : goal.returns-clause-log
returns-clause-log g c = reading_log (List Change) c.read_versions.result c.args.self.now.keeper c.read_versions.new.keeper c.read_versions.ensures.after
