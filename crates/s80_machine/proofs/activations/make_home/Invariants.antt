-- So many of the arguments were set.
use Rattle.std.proofs.Common.{◌≡◌, ◌≤◌, length}
use Rattle.s80_machine.proofs.CameHomes.{with_filled}
use Rattle.s80_machine.proofs.activations.make_home.Given as goal

abbrev pub invariant-loop-i : goal.invariant-loop-i
invariant-loop-i l = length l.arguments ≤ l.count → l.objects ≡ with_filled l.fn.objects l.method l.fn.receiver l.arguments l.count l.i
