use Rattle.std.proofs.Common.{arith}
use Rattle.s80_form.proofs.Trees.{literal_alone, no_argument}
use Rattle.s80_form.proofs.tree_parts.literal.Goals as goal

pub returns-in-Literal : goal.returns-in-Literal
returns-in-Literal c = literal_alone c.args.expr.now c.in-Literal.value (omega arith) (omega arith) (omega arith) c.in-Literal.is

pub returns-in_default : goal.returns-in_default
returns-in_default c = λ v. no_argument c.args.expr.now v c.in_default.not-Literal
