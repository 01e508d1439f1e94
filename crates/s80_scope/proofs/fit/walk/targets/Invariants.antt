use Rattle.std.proofs.Common.{◌≡◌, ◌-◌, take}
use Rattle.s80_scope.specs.FitLiterals.{target_entries}
use Rattle.s80_scope.specs.Scope.{declared_in}
use Rattle.s80_scope.specs.Walk.{with_entries}
use Rattle.s80_scope.proofs.fit.walk.targets.Given as goal

-- those that are left stand before those that are passed
abbrev pub invariant-loop-passed : goal.invariant-loop-passed
invariant-loop-passed l = with_entries l.entries (target_entries (declared_in l.scope) (take (l.count - l.passed) l.targets)) ≡ with_entries l.fn.entries (target_entries (declared_in l.scope) l.targets)
