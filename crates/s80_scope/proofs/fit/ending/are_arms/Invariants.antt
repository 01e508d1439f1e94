use Rattle.std.proofs.Common.{◌≡◌}
use Rattle.s80_tree.specs.Tree.{exprs_of}
use Rattle.s80_scope.specs.Inlined.{are_arms}
use Rattle.s80_scope.proofs.lemmas.Opens.{exprs_left}
use Rattle.s80_scope.proofs.fit.ending.are_arms.Given as goal

-- all are arms where those that are left are
abbrev pub invariant-loop-argument : goal.invariant-loop-argument
invariant-loop-argument l = are_arms (exprs_left l.argument-items l.argument-index) ≡ are_arms (exprs_of l.arguments)
