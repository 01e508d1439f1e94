use Rattle.std.proofs.Common.{ap, arith}
use Rattle.s80_tree.specs.Tree.{method_of}
use Rattle.s80_scope.specs.declared.fit.Measures.{Measures}
use Rattle.text_rows.proofs.texts.core_line.Goals as goal

pub elaborate-requires-clause-declarations : goal.elaborate-requires-clause-declarations
elaborate-requires-clause-declarations c =
    let counted = c.temporaries_are_declarations.ensures (method_of c.in_ok-tree.tree) in
    let cut = ap (λ (m : Measures). m.temporaries) c.in_ok-found.ensures in
    omega (arith, counted, cut)
