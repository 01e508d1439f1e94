-- The methods so far, of those that are to be put.
use Rattle.std.proofs.Common.{◌≡◌, ◌++◌, ℕ, length}
use Rattle.std.specs.Vec.Iter.{into_iter_items, into_iter_len}
use Rattle.s80_base.specs.declared.names.Side.{Side}
use Rattle.s80_dict.specs.Table.{methods_at, room_at}
use Rattle.s80_apply.specs.System.{put_all}
use Rattle.s80_apply.proofs.system.put_all.Given as goal

abbrev pub invariant-loop-method : goal.invariant-loop-method
invariant-loop-method l = record {
  items : l.yielded ++ into_iter_items l.method-iterator ≡ into_iter_items l.initial.method-iterator;
  left : into_iter_len l.method-iterator ≡ length (into_iter_items l.method-iterator);
  methods : (n : ℕ) (s : Side) → methods_at l.methods n s ≡ put_all l.yielded (methods_at l.fn.methods) n s;
  room : (n : ℕ) (s : Side) → room_at l.methods n s ≡ room_at l.fn.methods n s;
  count : length l.methods.sides ≡ length l.fn.methods.sides;
}
