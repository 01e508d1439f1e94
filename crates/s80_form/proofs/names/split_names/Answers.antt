use Rattle.std.proofs.Common.{ap, ◌∙◌, not, rules, tests}
use Rattle.std.specs.List.{filter}
use Rattle.std.specs.Slice.Iter.{split_rest, split_done, split_callee}
use Rattle.std.proofs.lemmas.Iterator.Consumers.{YieldsList-end}
use Rattle.std.proofs.lemmas.Iterator.Splits.{YieldsList-from_slice_split}
use Rattle.s80_base.specs.Byte.{is_separator}
use Rattle.s80_form.specs.Definition.{is_empty}
use Rattle.s80_form.proofs.Splits.{pieces_are}
use Rattle.s80_form.proofs.names.split_names.Goals as goal

pub returns : goal.returns
returns c =
    let i = c.into_iter-piece-iterator.ensures.into_iter_gives in
    let e = c.split-piece-items.ensures in
    c.loop-piece.invariant ∙ ap (filter (λ piece. not (is_empty piece))) (
    (YieldsList-end (YieldsList-from_slice_split {s = c.into_iter-piece-iterator.result} _ is_separator c.args.string.now (ap split_rest i ∙ e.rest) (ap split_done i ∙ e.done) (ap split_callee i ∙ e.closure) (λ x b q k. (search rules, search (rules, tests))))
    c.loop-piece.yielded _ c.loop-piece.yielded_by _ _ c.in-None.is c.next.ensures.steps).0
    ∙ pieces_are c.args.string.now)
