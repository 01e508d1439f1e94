use Rattle.std.proofs.Common.{refl, subst, sym, Ok, Err}
use Rattle.std.proofs.lemmas.Result.{err_from_is_err_and}
use Rattle.s80_change.specs.declared.change.Change.TheVariants as changes
use Rattle.s80_form.specs.declared.form.Form.TheVariants as forms
use Rattle.s80_class.specs.Classes.{change_row, with_class_side_vars}
use Rattle.s80_apply.specs.Accept.{define, refusal_of, refusal_of_class_vars}
use Rattle.s80_apply.specs.declared.step.Step.TheVariants as steps
use Rattle.s80_apply.specs.System.{IsPrepared}
use Rattle.s80_apply.proofs.Preparing.{class_prepared, class_refused, nothing_prepared}
use Rattle.s80_apply.proofs.lemmas.Lists.{of_list_given_vars, of_list_more}
use Rattle.s80_apply.proofs.system.System.prepare_form.Goals as goal

pub returns-in_ok-place-in-Define-clause-prepared : goal.returns-in_ok-place-in-Define-clause-prepared
returns-in_ok-place-in-Define-clause-prepared c =
    let d = c.in-Define.definition in
    let place = c.in_ok-place-in-Define in
    subst (λ form. IsPrepared c.args.self.now (changes.Form form) c.place.new.self (Ok (steps.Class place.field-0))) (sym c.in-Define.is)
    (class_prepared (forms.Define d) (λ classes. refusal_of d classes) (define d) (λ state. refl) (λ at state. refl) c.args.self.now c.place.new.self place.field-0 place.ensures.stays place.ensures.sound (λ classes of none. of_list_more classes d of none)
    place.ensures.answer)

pub returns-in_err-place_class_vars-in-ClassVars-clause-prepared : goal.returns-in_err-place_class_vars-in-ClassVars-clause-prepared
returns-in_err-place_class_vars-in-ClassVars-clause-prepared c =
    let name = c.in-ClassVars.class_name in
    let vars = c.in-ClassVars.names in
    let place = c.in_err-place_class_vars-in-ClassVars in
    let p = err_from_is_err_and c.from_residual-in_err-place_class_vars-in-ClassVars.result c.from_residual-in_err-place_class_vars-in-ClassVars.ensures.1 in
    rw (p.1, p.2)
    (subst (λ form. IsPrepared c.args.self.now (changes.Form form) c.place_class_vars.new.self (Err place.field-0.0)) (sym c.in-ClassVars.is)
    (class_refused (forms.ClassVars name vars) (λ classes. refusal_of_class_vars name vars classes) (change_row (with_class_side_vars vars) name) (λ state. refl) (λ at state. refl) c.args.self.now c.place_class_vars.new.self place.field-0.0 place.ensures.answer))

pub returns-in_ok-place_class_vars-in-ClassVars-clause-prepared : goal.returns-in_ok-place_class_vars-in-ClassVars-clause-prepared
returns-in_ok-place_class_vars-in-ClassVars-clause-prepared c =
    let name = c.in-ClassVars.class_name in
    let vars = c.in-ClassVars.names in
    let place = c.in_ok-place_class_vars-in-ClassVars in
    subst (λ form. IsPrepared c.args.self.now (changes.Form form) c.place_class_vars.new.self (Ok (steps.Class place.field-0))) (sym c.in-ClassVars.is)
    (class_prepared (forms.ClassVars name vars) (λ classes. refusal_of_class_vars name vars classes) (change_row (with_class_side_vars vars) name) (λ state. refl) (λ at state. refl) c.args.self.now c.place_class_vars.new.self place.field-0 place.ensures.stays
    place.ensures.sound (λ classes of none. of_list_given_vars classes name vars of none) place.ensures.answer)

pub returns-in-NoChanges-clause-prepared : goal.returns-in-NoChanges-clause-prepared
returns-in-NoChanges-clause-prepared c =
    subst (λ form. IsPrepared c.args.self.now (changes.Form form) c.args.self.now (Ok steps.Nothing)) (sym c.in-NoChanges.is)
    (nothing_prepared c.args.self.now (changes.Form forms.NoChanges) (λ state. refl) (λ at state. refl))
