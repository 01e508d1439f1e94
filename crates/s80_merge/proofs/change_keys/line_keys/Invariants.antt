-- The keys so far, and those of the classes that are left.
use Rattle.std.proofs.Common.{◌≡◌, ◌++◌}
use Rattle.s80_class.specs.Table.{IsSuperclass}
use Rattle.s80_class.proofs.lemmas.Walks.{left}
use Rattle.s80_merge.specs.Touched.{line_keys}
use Rattle.s80_merge.proofs.LineKeys.{keys_of}
use Rattle.s80_merge.proofs.change_keys.line_keys.Given as goal

abbrev pub invariant-loop : goal.invariant-loop
invariant-loop l = record {
  live : IsSuperclass l.classes.names l.next;
  all : l.keys ++ keys_of (left l.classes l.end l.counter l.next) ≡ line_keys l.name l.classes.classes;
}
