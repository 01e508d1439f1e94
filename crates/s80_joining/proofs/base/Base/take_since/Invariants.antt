-- The changes so far stand behind the base, and none waits.
use Rattle.std.proofs.Common.{◌≡◌, ◌++◌, [], length}
use Rattle.std.specs.Vec.Iter.{into_iter_items, into_iter_len}
use Rattle.s80_joining.proofs.base.Base.take_since.Given as goal

abbrev pub invariant-loop-change : goal.invariant-loop-change
invariant-loop-change l = record {
  items : l.yielded ++ into_iter_items l.change-iterator ≡ into_iter_items l.initial.change-iterator;
  left : into_iter_len l.change-iterator ≡ length (into_iter_items l.change-iterator);
  base : l.self.base ≡ l.fn.self.base ++ l.yielded;
  since : l.self.since ≡ [];
}
