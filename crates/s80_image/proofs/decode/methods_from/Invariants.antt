use Rattle.std.proofs.Common.{◌-◌, []}
use Rattle.s80_image.specs.Format.{members}
use Rattle.s80_image.specs.Methods.{method_behind, methods_of}
use Rattle.s80_image.specs.Answers.{members_met, method_met_behind}
use Rattle.s80_image.proofs.Verifying.{SoFar}
use Rattle.s80_image.proofs.decode.methods_from.Given as goal

abbrev pub invariant-loop : goal.invariant-loop
invariant-loop l = SoFar method_behind (method_met_behind l.class) (methods_of l.methods.items) (l.count - l.counter) l.rest (members method_behind [] l.count l.bytes) (members_met method_behind (method_met_behind l.class) [] l.count l.bytes)
