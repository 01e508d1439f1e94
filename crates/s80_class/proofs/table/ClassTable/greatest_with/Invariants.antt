use Rattle.std.proofs.Common.{◌≡◌, take}
use Rattle.s80_class.proofs.Extents.{raised_by}
use Rattle.s80_class.proofs.table.ClassTable.greatest_with.Given as goal

abbrev pub invariant-loop-totals : goal.invariant-loop-totals
invariant-loop-totals l = l.greatest ≡ raised_by (take l.totals-index l.totals-items)
