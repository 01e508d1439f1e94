use Rattle.std.proofs.Common.{take}
use Rattle.s80_class.specs.Totalled.{IsSettled}
use Rattle.s80_class.proofs.table.settle.Given as goal

abbrev pub invariant-loop-number : goal.invariant-loop-number
invariant-loop-number l = IsSettled (take l.number-index l.fn.found) l.fn.totals l.totals
