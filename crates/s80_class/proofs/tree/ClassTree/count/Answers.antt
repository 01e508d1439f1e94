use Rattle.std.proofs.Common.{◌≡◌, ◌∙◌, ap, length, vec_len, arith}
use Rattle.std.specs.FinMap as map
use Rattle.s80_class.specs.Table.{Table}
use Rattle.s80_class.proofs.Keeping.{ordered_length}
use Rattle.s80_class.proofs.tree.ClassTree.count.Goals as goal

pub returns : goal.returns
returns c =
    let same : vec_len c.self.inside.order ≡ length c.self.inside.order.items = omega arith in
    c.len.ensures ∙ same ∙ ordered_length c.self.inside.entries.items c.self.inside.order.items c.self.invariant.kept ∙ ap (λ (t : Table). map.len t.classes) c.self.view_is
