-- What makes the methods so far.
use Rattle.std.proofs.Common.{◌≡◌, ◌++◌, length}
use Rattle.std.specs.List.{flat_map}
use Rattle.std.specs.Vec.Iter.{into_iter_items, into_iter_len}
use Rattle.s80_fileout.specs.Order.{made_by}
use Rattle.s80_fileout.proofs.methods.add_each.Given as goal

abbrev pub invariant-loop-listed : goal.invariant-loop-listed
invariant-loop-listed l = record {
  items : l.yielded ++ into_iter_items l.listed-iterator ≡ into_iter_items l.initial.listed-iterator;
  left : into_iter_len l.listed-iterator ≡ length (into_iter_items l.listed-iterator);
  made : l.changes ≡ l.fn.changes ++ flat_map made_by l.yielded;
}
