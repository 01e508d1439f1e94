-- The methods so far have their sources, and the others are left.
use Rattle.std.specs.Vec.Iter.{into_iter_items, into_iter_len}
use Rattle.s80_image.specs.Classes.{classes_of}
use Rattle.s80_snapshot.specs.Resuming.{IsOnWay, with_sources}
use Rattle.s80_snapshot.specs.Sources.{imaged_methods}
use Rattle.s80_snapshot.proofs.TakingSources.{AreLeft}
use Rattle.s80_snapshot.proofs.resuming.resume_methods.Given as goal

abbrev pub invariant-loop-method : goal.invariant-loop-method
invariant-loop-method l = record {
  left : AreLeft l.fn.sources.items (into_iter_items l.rest) (into_iter_len l.rest) l.method-index;
  on : IsOnWay (classes_of l.classes) (with_sources (imaged_methods (classes_of l.classes)) l.fn.sources.items) l.method-index l.system;
}
