use Rattle.std.proofs.Common.{◌≡◌, take}
use Rattle.s80_class.proofs.Members.{numbers_of}
use Rattle.s80_class.proofs.table.ClassTable.family.Given as goal

abbrev pub invariant-loop-number : goal.invariant-loop-number
invariant-loop-number l = l.family.items ≡ numbers_of (take l.number-index l.number-items)
