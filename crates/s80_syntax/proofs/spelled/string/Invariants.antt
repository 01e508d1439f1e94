use Rattle.std.proofs.Common.{◌≡◌, ◌++◌, length}
use Rattle.s80_syntax.specs.Literals.{unquoted}
use Rattle.s80_syntax.proofs.spelled.string.Given as goal

abbrev pub invariant-loop-byte : goal.invariant-loop-byte
invariant-loop-byte l = unquoted l.inner ≡ l.text ++ unquoted l.rest

abbrev pub decreases-loop-byte : goal.decreases-loop-byte
decreases-loop-byte l = length l.rest
