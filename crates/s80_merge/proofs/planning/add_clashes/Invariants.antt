-- The keys so far are there, if the other set writes or uses them.
use Rattle.std.proofs.Common.{◌≡◌, ◌++◌, ◌||◌, ◌&&◌, length}
use Rattle.std.specs.Vec.Iter.{into_iter_items, into_iter_len}
use Rattle.s80_merge.specs.declared.key.Key.{Key}
use Rattle.s80_merge.specs.Order.{has}
use Rattle.s80_merge.specs.Work.{is_touched}
use Rattle.s80_merge.proofs.planning.add_clashes.Given as goal

abbrev pub invariant-loop-key : goal.invariant-loop-key
invariant-loop-key l = record {
  items : l.yielded ++ into_iter_items l.key-iterator ≡ into_iter_items l.initial.key-iterator;
  left : into_iter_len l.key-iterator ≡ length (into_iter_items l.key-iterator);
  shared : (key : Key) → has key l.found ≡ (has key l.fn.found || (has key l.yielded && is_touched key l.other));
}
