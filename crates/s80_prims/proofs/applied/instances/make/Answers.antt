use Rattle.std.proofs.Common.{◌≡◌, ℕ, ◌<◌, arith, subst, ◌∙◌}
use Rattle.std.proofs.lemmas.Result.{IfOk-weaker, on_err_weaker}
use Rattle.s80_class.specs.Counted.{counted}
use Rattle.s80_object.specs.Body.{blank}
use Rattle.s80_prims.specs.Primitives.{makes}
use Rattle.s80_prims.specs.Rows.{Applies}
use Rattle.s80_prims.proofs.applied.instances.make.Goals as goal

-- a count below its end is exact
same : (n named : ℕ) → named < 4294967296 → named ≡ counted n → named ≡ n
same n named l e = omega arith

pub returns-in-Ok-clause-ok : goal.returns-in-Ok-clause-ok
returns-in-Ok-clause-ok c =
    let is = c.in-Ok.ensures in
    IfOk-weaker c.made.result _ _
    (λ applied made n e. subst (λ m. Applies c.args.objects.now c.make.new.self applied (λ w. makes w (blank c.args.class c.args.kind m c.args.indexed)))
    (is.1 ∙ same n c.args.named is.0 e) (made _ _ _ c.make.ensures))
    c.made.ensures.ok

pub returns-in-Ok-clause-err : goal.returns-in-Ok-clause-err
returns-in-Ok-clause-err c = on_err_weaker c.made.result (λ same. same _ _ _ c.make.ensures) c.made.ensures.err
