-- The elements before were written.
use Rattle.std.proofs.Common.{[], ◌∷◌, flat_map, take, unwrap_or}
use Rattle.s80_object.specs.Objects.{items_at}
use Rattle.s80_prims.specs.Front.{Writes}
use Rattle.s80_prims.specs.Printed.{element}
use Rattle.s80_prims.proofs.print.write_array.Given as goal

abbrev pub invariant-loop-i : goal.invariant-loop-i
invariant-loop-i l = Writes l.fn.front l.front (40 ∷ flat_map (element l.classes l.objects) (take l.i (unwrap_or (items_at l.objects l.v) [])))
