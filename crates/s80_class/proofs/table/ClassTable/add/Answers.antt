use Rattle.std.proofs.Common.{◌≡◌, ◌∙◌, None, sym, ap, subst, arith}
use Rattle.std.specs.FinMap as map
use Rattle.s80_class.specs.Table.{Table, IsSuperclass}
use Rattle.s80_class.specs.Totalled.{AreTotals}
use Rattle.s80_class.proofs.Settled.{IsTop, totals_added, one_more}
use Rattle.s80_class.proofs.table.ClassTable.add.Goals as goal

pub invariant_of-self : goal.invariant_of-self
invariant_of-self c =
    let tree = c.self.inside.tree in
    let e = c.args.entry in
    let none = subst (λ (t : Table). map.get t.classes e.class_name ≡ None) (sym c.self.view_is) c.requires.new in
    let super = subst (λ (t : Table). IsSuperclass t.names e.superclass) (sym c.self.view_is) c.requires.superclass in
    let sums = totals_added tree c.self.invariant.known c.self.inside.totals.items c.self.invariant.totals e c.totals_with-top.result (subst (λ t. IsTop t e c.totals_with-top.result) (sym c.self.view_is) c.totals_with-top.ensures) super none c.add.new.self c.add.ensures.classes c.add.ensures.names in
    record {
      known = c.add.ensures.known;
      totals = subst (AreTotals c.add.new.self) (sym c.push_reserved.ensures.items) sums;
      none_found = c.self.invariant.none_found;
      room = omega (arith, c.self.invariant.room, c.push_reserved.ensures.len, c.push_reserved.ensures.capacity, c.add.ensures.spare);
      found_room = omega (arith, c.self.invariant.found_room, ap map.len c.add.ensures.classes ∙ one_more tree.classes e.class_name _ none, c.add.ensures.spare);
    }
