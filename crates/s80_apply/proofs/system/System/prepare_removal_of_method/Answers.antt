use Rattle.std.proofs.Common.{refl, subst, sym, Ok}
use Rattle.std.proofs.lemmas.Result.{err_from_is_err_and}
use Rattle.s80_change.specs.declared.change.Change.TheVariants as changes
use Rattle.s80_form.specs.declared.form.Form.TheVariants as forms
use Rattle.s80_apply.specs.State.{take_method}
use Rattle.s80_apply.specs.declared.step.Step.TheVariants as steps
use Rattle.s80_apply.specs.System.{IsPrepared}
use Rattle.s80_apply.proofs.Preparing.{method_removal_prepared, method_unknown}
use Rattle.s80_apply.proofs.system.System.prepare_removal_of_method.Goals as goal

pub returns-in_err-number : goal.returns-in_err-number
returns-in_err-number c =
    let name = c.args.class_name.now in
    let selector = c.args.selector.now in
    let p = err_from_is_err_and c.from_residual.result c.from_residual.ensures.1 in
    rw (p.1, p.2) (method_unknown c.args.self.now name c.args.side selector (changes.Form (forms.RemoveMethod name c.args.side selector)) (λ state. take_method name c.args.side selector state) (λ state. refl) c.in_err-number.field-0.0 c.in_err-number.ensures)

pub returns : goal.returns
returns c =
    let name = c.args.class_name.now in
    let selector = c.args.selector.now in
    let number = c.in_ok-number.number in
    subst (λ word. IsPrepared c.args.self.now (changes.Form (forms.RemoveMethod name c.args.side selector)) c.args.self.now (Ok (steps.RemoveMethod number c.args.side word))) (sym c.in_ok-copy.ensures)
    (method_removal_prepared c.args.self.now name c.args.side selector number c.in_ok-number.ensures.0 c.in_ok-number.ensures.1)
