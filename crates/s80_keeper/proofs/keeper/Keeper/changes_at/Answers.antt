use Rattle.std.proofs.Common.{◌++◌, List, ap, sym, subst, ◌∙◌}
use Rattle.std.proofs.lemmas.Result.{err_from_is_err_and}
use Rattle.s80_change.specs.declared.change.Change.{Change}
use Rattle.s80_log.specs.Log.{held_in}
use Rattle.s80_keeper.specs.ChangesAt.{BeginAt}
use Rattle.s80_keeper.proofs.ChangesRead.{placed_so}
use Rattle.s80_keeper.proofs.keeper.Keeper.changes_at.Goals as goal

pub returns-in_err-add_changes_at-clause-read : goal.returns-in_err-add_changes_at-clause-read
returns-in_err-add_changes_at-clause-read g c = λ told.
    let p = err_from_is_err_and c.from_residual.result c.from_residual.ensures.1 in
    rw (p.1, p.2) (c.in_err-add_changes_at.ensures.read told)

pub returns-in_err-add_changes_at-clause-placed : goal.returns-in_err-add_changes_at-clause-placed
returns-in_err-add_changes_at-clause-placed g c =
    let p = err_from_is_err_and c.from_residual.result c.from_residual.ensures.1 in
    rw (p.1, p.2) (placed_so (Unit {0}) (List Change) c.args.places.now c.in_err-add_changes_at.field-0.0 c.in_err-add_changes_at.ensures.placed)

pub returns-clause-read : goal.returns-clause-read
returns-clause-read g c = λ told.
    let read = c.in_ok-add_changes_at.ensures.read told in
    let log = held_in (g.D.Disk.reads c.args.disk.now) c.args.self.now.log in
    let P : List Change → Type 0 = λ l. BeginAt log c.args.places.now l in
    subst P (sym (read.1 ∙ ap (λ (l : List Change). l ++ read.0) c.empty-changes.ensures)) read.2
