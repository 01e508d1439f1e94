use Rattle.std.proofs.lemmas.Result.{IfOk-weaker, on_err_weaker}
use Rattle.s80_prims.proofs.ApplyLemmas.{print_is}
use Rattle.s80_prims.proofs.applied.strings.print_string.Goals as goal

pub returns-clause-ok : goal.returns-clause-ok
returns-clause-ok c =
    IfOk-weaker c.made.result _ _
    (λ applied made. print_is c.args.classes.now c.args.objects.now c.make_bytes.new.self c.args.r c.in_ok-text.text c.args.kernel.now.string applied
    c.in_ok-text.ensures c.requires.numbers.string (made _ _ _ c.make_bytes.ensures))
    c.made.ensures.ok

pub returns-clause-err : goal.returns-clause-err
returns-clause-err c = on_err_weaker c.made.result (λ same. same _ _ _ c.make_bytes.ensures) c.made.ensures.err
