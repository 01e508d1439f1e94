use Rattle.std.proofs.Common.{◌≡◌, ◌++◌, drop}
use Rattle.s80_scope.specs.FitLiterals.{ended}
use Rattle.s80_scope.proofs.fit.key.add_bytes.Given as goal

abbrev pub invariant-loop-byte : goal.invariant-loop-byte
invariant-loop-byte l = l.key.items ++ ended (drop l.byte-index l.bytes) ≡ l.fn.key.items ++ ended l.bytes
