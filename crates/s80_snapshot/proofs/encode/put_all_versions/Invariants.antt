-- The versions of the methods so far.
use Rattle.std.proofs.Common.{◌-◌, ◌<◌, ◌^◌, List, length, take}
use Rattle.std.specs.Prelude.{None}
use Rattle.std.specs.List.{All}
use Rattle.s80_history.specs.Lists.{MethodName}
use Rattle.s80_history.specs.Order.{AreMethodsOf}
use Rattle.s80_image.specs.History.{versions}
use Rattle.s80_snapshot.specs.Pictured.{versions_view}
use Rattle.s80_snapshot.proofs.Pieces.{SoFar}
use Rattle.s80_snapshot.proofs.encode.put_all_versions.Given as goal

abbrev pub invariant-loop-class_name : goal.invariant-loop-class_name
invariant-loop-class_name l = (names : List MethodName) → AreMethodsOf l.history names
    → SoFar (λ name. (versions None).spell (versions_view l.history name)) names l.fn.out.items l.count l.i l.out.items × All (λ name. length (versions_view l.history name).places < 2 ^ 32) (take l.i names)

abbrev pub decreases-loop-class_name : goal.decreases-loop-class_name
decreases-loop-class_name l = l.count - l.i
