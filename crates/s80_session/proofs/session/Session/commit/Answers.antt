use Rattle.std.proofs.Common.{refl, ◌≡◌, Result, Err, sym, ap, subst, ◌∙◌, arith}
use Rattle.std.specs.Prelude.{IfErr, IsTrue, ⊤}
use Rattle.std.proofs.lemmas.Result.{err_from_is_err_and}
use Rattle.s80_base.specs.declared.outside.Failed.{Failed}
use Rattle.s80_form.specs.declared.refusal.Refusal.{Refusal}
use Rattle.s80_disk.specs.Shown.{Faults, Shown}
use Rattle.s80_log.specs.Log.{log_file}
use Rattle.s80_keeper.specs.declared.keep.KeepFault.TheVariants as faults
use Rattle.s80_session.specs.declared.end.SessionEnd.{SessionEnd}
use Rattle.s80_session.specs.Ending.{HasReason, NoFewer}
use Rattle.s80_session.specs.Files.{IsOther}
use Rattle.s80_session.specs.Known.{StaysKnowing}
use Rattle.s80_session.specs.Session.{HasMarked, keeper_of}
use Rattle.s80_session.specs.Working.{Committed}
use Rattle.s80_session.proofs.Adding.{stands_on}
use Rattle.s80_session.proofs.Flushing.{commit_fault, commit_lasts, commit_lost, commit_marks, commit_reason, not_refused}
use Rattle.s80_session.proofs.Knowing.{commit_whole}
use Rattle.s80_session.proofs.lemmas.Elsewhere.{elsewhere_beside}
use Rattle.s80_session.proofs.session.Session.commit.Goals as goal
use Rattle.s80_session.proofs.session.Session.commit.Goals.{In-Err}

-- what the paths behind a fault share
module _ (g : _) (c : In-Err g) where
  fault : (failed : Failed) × (c.in-Err.fault ≡ faults.Disk failed)
  fault = commit_fault c.commit.result (keeper_of c.args.self.now) c.commit.new.keeper c.in-Err.fault c.in-Err.is c.commit.ensures.after c.commit.ensures.closed c.requires.faultless

pub returns-in_err-refusal_at_fault-clause-committed : goal.returns-in_err-refusal_at_fault-clause-committed
returns-in_err-refusal_at_fault-clause-committed g c = λ work basis at.
    let is = fault g (goal.at.returns-in_err-refusal_at_fault-clause-committed g c).In-Err in
    let p = err_from_is_err_and c.from_residual.result c.from_residual.ensures.1 in
    let now = record c.args.self.now { keeper = c.commit.new.keeper } in
    let P : Result Refusal SessionEnd → Type 0 = λ r. IfErr r (λ end. Committed {T = Unit {0}} (Err end) (g.O.Disk.may_leave c.commit.new.outside) (g.O.Outside.shown c.commit.new.outside) now work basis) in
    rw (p.1, p.2) (subst P (sym c.in_err-refusal_at_fault.ensures) (commit_lost c.in-Err.fault is.0 (g.O.Disk.may_leave c.args.outside.now) (g.O.Disk.may_leave c.commit.new.outside) (g.O.Outside.shown c.args.outside.now) (g.O.Outside.shown c.commit.new.outside) c.args.self.now now work basis is.1 (c.in-Err.ensures.committed basis.kept work.changes at.keeps) c.commit.ensures.shown at))

pub returns-in_err-refusal_at_fault-clause-any_moment : goal.returns-in_err-refusal_at_fault-clause-any_moment
returns-in_err-refusal_at_fault-clause-any_moment g c = λ work basis at.
    commit_lasts g.O.Disk.moment g.O.Disk.left_since c.args.outside.now c.commit.new.outside work basis (g.O.Outside.shown c.args.outside.now).told at.told (c.commit.ensures.any_moment basis.kept work.changes at.keeps)

pub returns-in_err-refusal_at_fault-clause-idle : goal.returns-in_err-refusal_at_fault-clause-idle
returns-in_err-refusal_at_fault-clause-idle g c = λ none. let ok = sym c.in-Err.is ∙ c.commit.ensures.idle c.requires.faultless none in absurd (cc)

pub returns-in_err-refusal_at_fault-clause-counts : goal.returns-in_err-refusal_at_fault-clause-counts
returns-in_err-refusal_at_fault-clause-counts g c =
    let is = fault g (goal.at.returns-in_err-refusal_at_fault-clause-counts g c).In-Err in
    let counts = c.commit.ensures.faults in
    let old = g.O.Outside.faults c.args.outside.now in
    let new = g.O.Outside.faults c.commit.new.outside in
    let later : NoFewer old new = record {
      read = let e = ap (λ (f : Faults). f.read) counts in omega (arith, e);
      write = let e = ap (λ (f : Faults). f.write) counts in omega (arith, e);
      disk = c.commit.ensures.later;
    } in
    let P : Result Refusal SessionEnd → Type 0 = λ r. IfErr r (HasReason old new) in
    let p = err_from_is_err_and c.from_residual.result c.from_residual.ensures.1 in
    rw (p.1, p.2) (record { later = later; reason = subst P (sym c.in_err-refusal_at_fault.ensures) (commit_reason c.commit.result c.in-Err.fault is.0 old new c.in-Err.is is.1 c.commit.ensures.cause) })

pub returns-in_err-refusal_at_fault-clause-one_mark : goal.returns-in_err-refusal_at_fault-clause-one_mark
returns-in_err-refusal_at_fault-clause-one_mark g c =
    let is = fault g (goal.at.returns-in_err-refusal_at_fault-clause-one_mark g c).In-Err in
    let P : Result Refusal SessionEnd → Type 0 = λ r. IfErr r (λ end. HasMarked {T = Unit {0}} (Err end) (keeper_of c.args.self.now) c.commit.new.keeper) in
    let p = err_from_is_err_and c.from_residual.result c.from_residual.ensures.1 in
    rw (p.1, p.2) (subst P (sym c.in_err-refusal_at_fault.ensures) (commit_marks c.commit.result (keeper_of c.args.self.now) c.commit.new.keeper c.in-Err.fault is.0 c.in-Err.is is.1 c.commit.ensures.after))

-- no fault is answered
pub returns-in_ok-refusal_at_fault-clause-committed : goal.returns-in_ok-refusal_at_fault-clause-committed
returns-in_ok-refusal_at_fault-clause-committed g c = λ work basis at.
    let is = fault g (goal.at.returns-in_ok-refusal_at_fault-clause-committed g c).In-Err in
    absurd (not_refused is.0 c.in-Err.fault c.in_ok-refusal_at_fault.field-0 is.1 (sym c.in_ok-refusal_at_fault.ensures))

pub returns-in_ok-refusal_at_fault-clause-any_moment : goal.returns-in_ok-refusal_at_fault-clause-any_moment
returns-in_ok-refusal_at_fault-clause-any_moment g c = λ work basis at.
    commit_lasts g.O.Disk.moment g.O.Disk.left_since c.args.outside.now c.commit.new.outside work basis (g.O.Outside.shown c.args.outside.now).told at.told (c.commit.ensures.any_moment basis.kept work.changes at.keeps)

pub returns-in_ok-refusal_at_fault-clause-one_mark : goal.returns-in_ok-refusal_at_fault-clause-one_mark
returns-in_ok-refusal_at_fault-clause-one_mark g c =
    let is = fault g (goal.at.returns-in_ok-refusal_at_fault-clause-one_mark g c).In-Err in
    absurd (not_refused is.0 c.in-Err.fault c.in_ok-refusal_at_fault.field-0 is.1 (sym c.in_ok-refusal_at_fault.ensures))

pub returns-in_default-clause-committed : goal.returns-in_default-clause-committed
returns-in_default-clause-committed g c = λ work basis at.
    stands_on (g.O.Disk.may_leave c.args.outside.now) (g.O.Disk.may_leave c.commit.new.outside) (g.O.Outside.shown c.args.outside.now) (g.O.Outside.shown c.commit.new.outside) c.args.self.now (record c.args.self.now { keeper = c.commit.new.keeper }) work basis work.changes work.changes (c.in_default.ensures.committed basis.kept work.changes at.keeps) refl c.commit.ensures.shown at

pub returns-in_default-clause-any_moment : goal.returns-in_default-clause-any_moment
returns-in_default-clause-any_moment g c = λ work basis at.
    commit_lasts g.O.Disk.moment g.O.Disk.left_since c.args.outside.now c.commit.new.outside work basis (g.O.Outside.shown c.args.outside.now).told at.told (c.commit.ensures.any_moment basis.kept work.changes at.keeps)

-- but for the mark the files stay
pub returns-in_ok-refusal_at_fault-clause-elsewhere : goal.returns-in_ok-refusal_at_fault-clause-elsewhere
returns-in_ok-refusal_at_fault-clause-elsewhere g c =
    let o = c.args.outside.now in
    let number = (keeper_of c.args.self.now).log.number in
    elsewhere_beside g.O.Disk.moment g.O.Disk.left_since o c.commit.new.outside (g.O.Disk.may_leave o) (g.O.Outside.shown o).told (log_file number) (λ image. ⊤) (IsOther number) (λ other is. (is.no_mark, is.no_log)) c.commit.ensures.elsewhere

-- ---- what is known stays known

pub returns-in_err-refusal_at_fault-clause-known : goal.returns-in_err-refusal_at_fault-clause-known
returns-in_err-refusal_at_fault-clause-known g c = λ knows.
    let new = g.O.Outside.shown c.commit.new.outside in
    let now = record c.args.self.now { keeper = c.commit.new.keeper } in
    let P : Result Refusal SessionEnd → Type 0 = λ r. IfErr r (λ end. StaysKnowing {T = Unit {0}} (Err end) new now) in
    let p = err_from_is_err_and c.from_residual.result c.from_residual.ensures.1 in
    rw (p.1, p.2) (subst P (sym c.in_err-refusal_at_fault.ensures) (commit_whole c.commit.result (keeper_of c.args.self.now) c.commit.new.keeper c.in-Err.fault new now c.in-Err.is c.commit.ensures.after))

pub returns-in_ok-refusal_at_fault-clause-known : goal.returns-in_ok-refusal_at_fault-clause-known
returns-in_ok-refusal_at_fault-clause-known g c = λ knows.
    let is = fault g (goal.at.returns-in_ok-refusal_at_fault-clause-known g c).In-Err in
    absurd (not_refused is.0 c.in-Err.fault c.in_ok-refusal_at_fault.field-0 is.1 (sym c.in_ok-refusal_at_fault.ensures))

pub returns-in_default-clause-known : goal.returns-in_default-clause-known
returns-in_default-clause-known g c = λ knows told.
    let was = knows (subst IsTrue (ap (λ (o : Shown). o.tells) c.commit.ensures.shown) told) in
    (was.0, was.1, c.in_default.ensures.written was.1 was.2)
