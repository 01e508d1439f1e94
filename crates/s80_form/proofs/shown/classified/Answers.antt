use Rattle.std.proofs.Common.{arith, refl, rules}
use Rattle.s80_tree.specs.Tree.{exprs_of, expr_of}
use Rattle.s80_form.proofs.Shapes.{classifying_is}
use Rattle.s80_form.proofs.Trees.{exprs_two}
use Rattle.s80_form.proofs.shown.classified.Goals as goal

pub returns : goal.returns
returns c = (
  c.in_ok-symbol.field-0.now,
  c.in_ok-string.field-0.now,
  classifying_is c.args.sending.message.now _ _ (search rules) (exprs_two (exprs_of _) (expr_of c.at.result.now) (expr_of c.at-2.result.now) _ _ (omega arith) c.at.ensures c.at-2.ensures c.in_ok-symbol.ensures c.in_ok-string.ensures),
  refl,
)
