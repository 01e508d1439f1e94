use Rattle.std.proofs.Common.{subst, sym, Ok}
use Rattle.s80_change.specs.declared.change.Change.TheVariants as changes
use Rattle.s80_form.specs.declared.form.Form.TheVariants as forms
use Rattle.s80_apply.specs.declared.step.Step.TheVariants as steps
use Rattle.s80_apply.specs.System.{IsPrepared}
use Rattle.s80_apply.proofs.Preparing.{comment_prepared}
use Rattle.s80_apply.proofs.system.System.prepare_comment.Goals as goal

pub returns : goal.returns
returns c =
    let name = c.args.class_name.now in
    subst (λ text. IsPrepared c.args.self.now (changes.Form (forms.Comment name c.args.text.now)) c.args.self.now (Ok (steps.Comment c.in_ok-number.number text))) (sym c.in_ok-copy.ensures)
    (comment_prepared c.args.self.now name c.args.text.now c.in_ok-number.number c.in_ok-number.ensures)
