-- The methods so far.
use Rattle.std.proofs.Common.{length}
use Rattle.std.specs.FinMap as map
use Rattle.s80_snapshot.specs.Put.{method_put}
use Rattle.s80_snapshot.proofs.Pieces.{SoFar}
use Rattle.s80_snapshot.proofs.encode.put_methods.Given as goal

abbrev pub invariant-loop-i : goal.invariant-loop-i
invariant-loop-i l =
    let keys = map.keys l.methods.methods in
    SoFar (λ k. method_put k (map.get l.methods.methods k)) keys l.fn.out.items (length keys) l.i l.out.items
