use Rattle.std.proofs.Common.{◌≡◌, All, Some, map as list_map}
use Rattle.std.specs.FinMap as map
use Rattle.s80_class.specs.Classes.{Name, lineage}
use Rattle.s80_class.specs.Table.{IsClass, IsNumberOf, IsSuperclass}
use Rattle.s80_class.proofs.lemmas.Walks.{left}
use Rattle.s80_method.proofs.Numbered.{told}
use Rattle.s80_method.proofs.shape.line.Given as goal

abbrev pub invariant-loop : goal.invariant-loop
invariant-loop l = record {
  size : l.end ≡ map.len l.classes.classes;
  live : IsSuperclass l.classes.names l.next;
  classes : All (IsClass l.classes.names) l.line.items;
  line : (name : Name) → IsNumberOf l.classes.names l.c name → told l.classes l.line.items (left l.classes l.end l.counter l.next) ≡ list_map Some (lineage l.classes.classes name);
}
