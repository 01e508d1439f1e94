use Rattle.std.proofs.Common.{◌≡◌, List, ℕ}
use Rattle.s80_class.specs.Classes.{descends}
use Rattle.s80_class.specs.Table.{IsNumberOf, IsSuperclass}
use Rattle.s80_class.proofs.lemmas.Lines.{passes}
use Rattle.s80_class.proofs.lemmas.Walks.{IsWalked, left}
use Rattle.s80_class.proofs.tree.ClassTree.is_descendant.Given as goal

abbrev pub invariant-loop : goal.invariant-loop
invariant-loop l = record {
  walk : IsWalked l.self l.end;
  live : IsSuperclass l.self.names l.next;
  rest : (name other : List ℕ) → IsNumberOf l.self.names l.c name → IsNumberOf l.self.names l.of other
      → descends l.self.classes name other ≡ passes other (left l.self l.end l.counter l.next);
}
