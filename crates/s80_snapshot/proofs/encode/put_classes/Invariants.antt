-- The classes so far.
use Rattle.std.specs.FinMap as map
use Rattle.s80_apply.specs.System.{IsSystemBy}
use Rattle.s80_snapshot.specs.Pictured.{CodedState, coded_row}
use Rattle.s80_snapshot.specs.Put.{class_put}
use Rattle.s80_snapshot.proofs.Pieces.{SoFar}
use Rattle.s80_snapshot.proofs.encode.put_classes.Given as goal

abbrev pub invariant-loop-i : goal.invariant-loop-i
invariant-loop-i l = (state : CodedState) → IsSystemBy coded_row l.system state
    → SoFar (λ k. class_put state k (map.get state.classes k)) (map.keys state.classes) l.fn.out.items (map.len state.classes) l.i l.out.items
