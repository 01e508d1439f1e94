use Rattle.std.proofs.Common.{◌≡◌, ◌∙◌, ◌++◌, [], ap, append-nil, sym}
use Rattle.std.specs.List.{flat_map}
use Rattle.std.specs.Vec.Iter.{into_iter_items}
use Rattle.s80_fileout.specs.Order.{made_by}
use Rattle.s80_fileout.proofs.Pieces.{nothing_left}
use Rattle.s80_fileout.proofs.methods.add_each.Goals as goal

pub returns : goal.returns
returns c =
    let at = c.loop-listed in
    let none = c.in-None.ensures.steps in
    let empty : into_iter_items at.listed-iterator ≡ [] = nothing_left _ (sym at.invariant.left ∙ none.0) in
    let all = sym (append-nil at.yielded) ∙ ap (λ rest. at.yielded ++ rest) (sym empty) ∙ at.invariant.items ∙ c.into_iter-listed-iterator.ensures.into_iter_gives.0 in
    at.invariant.made ∙ ap (λ ms. c.args.changes.now ++ flat_map made_by ms) all
