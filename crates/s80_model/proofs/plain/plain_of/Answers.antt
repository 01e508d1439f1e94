use Rattle.std.proofs.Common.{inl, refl, subst}
use Rattle.s80_tree.specs.Tree.{doit_of}
use Rattle.s80_form.specs.declared.form.Recognised.{Recognised}
use Rattle.s80_form.specs.Form.{Recognises}
use Rattle.s80_model.proofs.Fitting.{condensing_fits, doit_fits}
use Rattle.s80_model.proofs.plain.plain_of.Goals as goal

pub returns-in-Err : goal.returns-in-Err
returns-in-Err c = inl (c.in_ok-syntax_refusal-in-Err.ensures.doit c.args.text c.in-Err.ensures.fault)

pub returns-in-Condense : goal.returns-in-Condense
returns-in-Condense c =
    let P : Recognised → Type 0 = λ r. Recognises (doit_of c.in-Ok.tree) r in
    condensing_fits c.args.text (doit_of c.in-Ok.tree) c.in_ok-method.method c.in-Ok.ensures.tree c.in_ok-method.ensures (subst P c.in-Condense.is c.in_ok-recognised.ensures)

pub returns-in-Evaluate : goal.returns-in-Evaluate
returns-in-Evaluate c =
    let P : Recognised → Type 0 = λ r. Recognises (doit_of c.in-Ok.tree) r in
    let is = doit_fits c.args.text (doit_of c.in-Ok.tree) c.in_ok-method.method c.in-Ok.ensures.tree c.in_ok-method.ensures (subst P c.in-Evaluate.is c.in_ok-recognised.ensures) in
    (refl, is.0, is.1)
