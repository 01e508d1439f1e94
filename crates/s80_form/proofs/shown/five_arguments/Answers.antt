use Rattle.std.proofs.Common.{arith}
use Rattle.s80_tree.specs.Tree.{expr_of, exprs_of}
use Rattle.s80_form.proofs.Trees.{exprs_five}
use Rattle.s80_form.proofs.shown.five_arguments.Goals as goal

pub returns : goal.returns
returns c =
    exprs_five (exprs_of c.args.exprs.now) (expr_of c.at.result.now) (expr_of c.at-2.result.now) (expr_of c.at-3.result.now) (expr_of c.at-4.result.now) (expr_of c.at-5.result.now)
    _ _ _ _ _ (omega arith) c.at.ensures c.at-2.ensures c.at-3.ensures c.at-4.ensures c.at-5.ensures
    c.in_ok-symbol.ensures c.in_ok-string.ensures c.in_ok-string-2.ensures c.in_ok-string-3.ensures c.in_ok-string-4.ensures
