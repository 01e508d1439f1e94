use Rattle.std.proofs.Common.{length, ◌-◌}
use Rattle.s80_image.specs.Classes.{classes_of}
use Rattle.s80_image.proofs.Linked.{EndsAs}
use Rattle.s80_image.proofs.chains.has_end.Given as goal

abbrev pub invariant-loop : goal.invariant-loop
invariant-loop l = EndsAs (classes_of l.classes) l.class (length l.classes - l.counter) l.next
