use Rattle.std.proofs.Common.{◌∙◌, refl, sym}
use Rattle.std.proofs.lemmas.Result.{err_from_is_err_and}
use Rattle.s80_joining.specs.declared.theirs.Theirs.{Theirs}
use Rattle.s80_joining.proofs.Taking.{passed, refused_change, worked_on}
use Rattle.s80_joining.proofs.theirs.Theirs.work_change.Goals as goal

pub returns-then-is_passed_over : goal.returns-then-is_passed_over
returns-then-is_passed_over c = λ worked at. passed worked c.args.change c.args.self.now (sym c.if-is_passed_over.true ∙ c.is_passed_over.ensures) at

pub returns-in_err-work : goal.returns-in_err-work
returns-in_err-work c = λ worked at.
    let p = err_from_is_err_and c.from_residual.result c.from_residual.ensures.1 in
    rw (p.1, p.2)
    (refused_change worked c.args.change c.work.new.system (record { system = c.work.new.system; section = c.args.self.now.section; changes = c.args.self.now.changes }) c.in_err-work.field-0.0 (sym c.is_passed_over.ensures ∙ c.if-is_passed_over.false) (c.in_err-work.ensures worked.state at.made))

pub returns : goal.returns
returns c = λ worked at.
    let now : Theirs = record { system = c.work.new.system; section = c.args.self.now.section; changes = c.push.new.self } in
    worked_on worked c.args.change c.args.self.now now (sym c.is_passed_over.ensures ∙ c.if-is_passed_over.false) at (c.in_ok-work.ensures worked.state at.made) refl c.in_ok-push.ensures.ok
