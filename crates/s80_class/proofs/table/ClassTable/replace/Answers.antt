use Rattle.std.proofs.Common.{◌∙◌, List, Some, sym, ap, subst, length, slice_get, arith}
use Rattle.std.specs.FinMap as map
use Rattle.std.proofs.lemmas.List.{with_items_is}
use Rattle.std.proofs.lemmas.Option.{slice_get_within}
use Rattle.s80_class.specs.Table.{Table, IsNumberOf, IsAbove, row_of}
use Rattle.s80_class.specs.Family.{Found, IsFamily}
use Rattle.s80_class.specs.Totalled.{AreTotals, IsSettled}
use Rattle.s80_class.proofs.Settled.{IsTop, top_other, valid_other, totals_replaced, as_many}
use Rattle.s80_class.proofs.table.ClassTable.replace.Goals.{After-family}
use Rattle.s80_class.proofs.table.ClassTable.replace.Goals as goal

module _ (c : After-family) where
  named : IsNumberOf c.self.inside.tree.names c.args.c c.args.entry.class_name
  named = subst (λ (t : Table). IsNumberOf t.names c.args.c c.args.entry.class_name) (sym c.self.view_is) c.requires.named

  above : IsAbove c.self.inside.tree c.args.entry.superclass c.args.entry.class_name
  above = subst (λ t. IsAbove t c.args.entry.superclass c.args.entry.class_name) (sym c.self.view_is) c.requires.superclass

  -- the class and its descendants were found
  family : IsFamily c.self.inside.tree.names (map.insert c.self.inside.tree.classes c.args.entry.class_name (row_of c.self.inside.tree.names c.args.entry)) c.args.entry.class_name c.family.new.found.items
  family =
      let tree = c.self.inside.tree in
      let e = c.args.entry in
      c.family.ensures.family e.class_name (row_of tree.names e) named (valid_other tree c.self.invariant.known e above) (top_other tree c.self.invariant.known e c.totals_with-top.result (subst (λ t. IsTop t e c.totals_with-top.result) (sym c.self.view_is) c.totals_with-top.ensures) above)

pub settle-requires : goal.settle-requires
settle-requires c = λ k p at.
    let tree = c.self.inside.tree in
    let f = (family (goal.at.settle-requires c).After-family).each k p (ap (λ (xs : List Found). slice_get xs k) (sym c.deref.ensures.value) ∙ at) in
    omega (arith, slice_get_within tree.names p.0 (Some f.0) f.1, c.self.invariant.totals.size, ap length c.deref_mut.ensures.value)

pub invariant_of-self : goal.invariant_of-self
invariant_of-self c =
    let tree = c.self.inside.tree in
    let e = c.args.entry in
    let o = (goal.at.invariant_of-self c).After-family in
    let row = c.self.invariant.known.known c.args.c e.class_name (named o) in
    let settles : IsSettled c.family.new.found.items c.self.inside.totals.items c.settle.new.totals =
    subst (λ xs. IsSettled xs c.self.inside.totals.items c.settle.new.totals) c.deref.ensures.value
    (subst (λ ys. IsSettled c.deref.result.now ys c.settle.new.totals) c.deref_mut.ensures.value c.settle.ensures) in
    record {
      known = c.replace.ensures.known;
      totals = subst (AreTotals c.replace.new.self) (sym (with_items_is c.self.inside.totals c.settle.new.totals (settles.size ∙ sym c.self.inside.totals.ok.0)))
          (totals_replaced tree c.self.invariant.known c.self.inside.totals.items c.self.invariant.totals e c.family.new.found.items (family o) c.settle.new.totals settles
          c.replace.new.self c.replace.ensures.known c.replace.ensures.classes c.replace.ensures.names);
      none_found = c.clear.ensures.items;
      room = omega (arith, c.self.invariant.room, c.replace.ensures.spare);
      found_room = omega (
        arith,
        c.self.invariant.found_room,
        c.clear.ensures.capacity,
        c.family.ensures.capacity,
        c.replace.ensures.spare,
        ap map.len c.replace.ensures.classes ∙ as_many tree.classes e.class_name row.0 (row_of tree.names e) row.1,
      );
    }
