-- What is found from the next class on is what is found at all.
use Rattle.std.proofs.Common.{◌≡◌}
use Rattle.std.specs.FinMap as map_of
use Rattle.s80_class.specs.Table.{IsSuperclass}
use Rattle.s80_class.proofs.lemmas.Walks.{left}
use Rattle.s80_class.specs.Lookup.{first_found, numbers_from, on_side}
use Rattle.s80_class.proofs.lemmas.Lookups.{numbers_of}
use Rattle.s80_class.proofs.found.find_up.Given as goal

abbrev pub invariant-loop : goal.invariant-loop
invariant-loop g l = record {
  size : l.end ≡ map_of.len l.classes.classes;
  live : IsSuperclass l.classes.names l.next;
  same : first_found l.methods l.selector (on_side l.side (numbers_of l.classes (left l.classes l.end l.counter l.next)))
      ≡ first_found l.methods l.selector (on_side l.side (numbers_from l.classes l.fn.from));
}
