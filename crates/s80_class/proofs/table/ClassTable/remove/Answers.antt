use Rattle.std.proofs.Common.{◌≡◌, ◌≢◌, Some, ap, subst, arith}
use Rattle.std.specs.FinMap as map
use Rattle.s80_class.specs.Classes.{Name, ClassRow}
use Rattle.s80_class.specs.Table.{Table, IsNumberOf}
use Rattle.s80_class.proofs.Settled.{totals_removed, not_more}
use Rattle.s80_class.proofs.table.ClassTable.remove.Goals as goal

pub remove-requires-clause-alone : goal.remove-requires-clause-alone
remove-requires-clause-alone c = λ name other row named is.
    c.requires.alone name other row (subst (λ (t : Table). IsNumberOf t.names c.args.c name) c.self.view_is named) (subst (λ (t : Table). map.get t.classes other ≡ Some row) c.self.view_is is)

pub invariant_of-self : goal.invariant_of-self
invariant_of-self c =
    let tree = c.self.inside.tree in
    let old = c.remove.result in
    let named : IsNumberOf tree.names c.args.c old.class_name = c.remove.ensures.old.named in
    let alone : (q : Name) (row : ClassRow) → map.get tree.classes q ≡ Some row → row.superclass ≢ Some old.class_name = λ q row is.
    c.requires.alone old.class_name q row (subst (λ (t : Table). IsNumberOf t.names c.args.c old.class_name) c.self.view_is named) (subst (λ (t : Table). map.get t.classes q ≡ Some row) c.self.view_is is) in
    record {
      known = c.remove.ensures.known;
      totals = totals_removed tree c.self.invariant.known c.self.inside.totals.items c.self.invariant.totals c.args.c old.class_name named alone c.remove.new.self c.remove.ensures.classes c.remove.ensures.names;
      none_found = c.self.invariant.none_found;
      room = omega (arith, c.self.invariant.room, c.remove.ensures.spare);
      found_room = omega (arith, c.self.invariant.found_room, ap map.len c.remove.ensures.classes, not_more tree.classes old.class_name, c.remove.ensures.spare);
    }
