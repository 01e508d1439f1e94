use Rattle.std.proofs.Common.{◌≡◌, ◌++◌}
use Rattle.s80_base.specs.Literal.{literals_of}
use Rattle.s80_scope.specs.FitLiterals.{literals_key}
use Rattle.s80_base.proofs.lemmas.LiteralLists.{literals_left}
use Rattle.s80_scope.proofs.fit.key.+keys.Given as goal

abbrev pub invariant-add_literals-loop-literal : goal.invariant-add_literals-loop-literal
invariant-add_literals-loop-literal l = l.key.items ++ literals_key (literals_left l.literal-items l.literal-index) ≡ l.fn.key.items ++ literals_key (literals_of l.literals)
