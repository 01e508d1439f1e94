-- So many classes were passed, and the others stand from here on.
use Rattle.s80_class.specs.Table.{IsSuperclass}
use Rattle.s80_fileout.proofs.Depths.{IsPassed}
use Rattle.s80_fileout.proofs.order.depth.Given as goal

abbrev pub invariant-loop-depth : goal.invariant-loop-depth
invariant-loop-depth l = record {
  live : IsSuperclass l.classes.names l.next;
  rest : IsPassed l.classes l.class_name l.count l.depth l.next;
}
