use Rattle.std.proofs.Common.{sym, subst, arith}
use Rattle.s80_class.specs.Table.{Table, IsNumberOf}
use Rattle.s80_class.proofs.lemmas.Commented.{AreCommented, are_commented, commented_len}
use Rattle.s80_class.proofs.Settled.{totals_commented}
use Rattle.s80_class.proofs.table.ClassTable.set_comment.Goals as goal

pub invariant_of-self : goal.invariant_of-self
invariant_of-self c =
    let tree = c.self.inside.tree in
    let name = c.requires.0 in
    let named = subst (λ (t : Table). IsNumberOf t.names c.args.c name) (sym c.self.view_is) c.requires.1 in
    let alike = subst (AreCommented tree.classes) (sym (c.set_comment.ensures.classes name named)) (are_commented c.args.comment name tree.classes) in
    record {
      known = c.set_comment.ensures.known;
      totals = totals_commented tree c.self.invariant.known c.self.inside.totals.items c.self.invariant.totals c.set_comment.new.self alike c.set_comment.ensures.names;
      none_found = c.self.invariant.none_found;
      room = omega (arith, c.self.invariant.room, c.set_comment.ensures.spare);
      found_room = omega (arith, c.self.invariant.found_room, commented_len tree.classes c.set_comment.new.self.classes alike, c.set_comment.ensures.spare);
    }
