use Rattle.std.proofs.Common.{◌-◌, []}
use Rattle.s80_image.specs.Format.{members}
use Rattle.s80_image.specs.Classes.{class_behind, classes_of}
use Rattle.s80_image.specs.Answers.{class_met_behind, members_met}
use Rattle.s80_image.proofs.Verifying.{SoFar}
use Rattle.s80_image.proofs.decode.classes_from.Given as goal

abbrev pub invariant-loop : goal.invariant-loop
invariant-loop l = SoFar class_behind class_met_behind (classes_of l.classes.items) (l.count - l.counter) l.rest (members class_behind [] l.count l.bytes) (members_met class_behind class_met_behind [] l.count l.bytes)
