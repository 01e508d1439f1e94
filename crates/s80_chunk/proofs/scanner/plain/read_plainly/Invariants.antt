use Rattle.std.proofs.Common.{◌≤◌}
use Rattle.s80_chunk.proofs.scanner.plain.read_plainly.Given as goal

abbrev pub invariant-loop-i : goal.invariant-loop-i
invariant-loop-i l = l.scanner.text_length ≤ l.i
