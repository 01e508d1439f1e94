use Rattle.std.proofs.Common.{◌+◌, length, refl, ap, ◌∙◌}
use Rattle.std.specs.Option.{option_or}
use Rattle.s80_tree.specs.Tree.{method_of}
use Rattle.s80_scope.specs.Names.{number_among}
use Rattle.s80_scope.proofs.Whole.{method_found}
use Rattle.s80_scope.proofs.names.in_method.Goals as goal

pub returns-in-Break : goal.returns-in-Break
returns-in-Break c =
    let ps = c.as_slice-parameters.ensures.value in
    let ts = c.as_slice-temporaries.ensures.value in
    method_found c.args.at (length c.as_slice-parameters.result.now + length c.as_slice-temporaries.result.now) (method_of c.args.tree.now) c.number_in.result c.number_in-in-Break.result c.in-Break.found
    (record { name = c.in-Break.found.name; number = c.or-number.result })
    (ap (λ l. length l + length c.as_slice-temporaries.result.now) ps ∙ ap (λ l. length c.args.tree.now.parameters.items.items + length l) ts)
    c.in-Break.ensures
    (c.number_in.ensures ∙ ap (λ l. number_among l (length c.as_slice-parameters.result.now) c.bytes-word.result.now) ts
    ∙ ap (λ l. number_among c.args.tree.now.temporaries.items.items (length l) c.bytes-word.result.now) ps
    ∙ ap (number_among c.args.tree.now.temporaries.items.items (length c.args.tree.now.parameters.items.items)) c.bytes-word.ensures)
    (c.number_in-in-Break.ensures ∙ ap (λ l. number_among l 0 c.bytes-word.result.now) ps ∙ ap (number_among c.args.tree.now.parameters.items.items 0) c.bytes-word.ensures)
    refl
    (c.or-number.ensures ∙ ap (λ r. option_or r c.number_in-in-Break.result) c.or.ensures)
