use Rattle.std.proofs.Common.{◌∙◌, ap, cond}
use Rattle.std.specs.Result.{is_ok}
use Rattle.std.specs.List.{insert}
use Rattle.s80_class.proofs.Pairs.{with_more}
use Rattle.s80_class.proofs.below.put_below.Goals as goal

pub returns-clause-with : goal.returns-clause-with
returns-clause-with c =
    let pairs = c.args.pairs.now.items in
    let at = c.place_below-at.result in
    let place = rw c.deref.ensures.value at c.place_below-at.ensures in
    with_more pairs c.args.pair at c.requires.ordered place c.requires.new c.insert.new.self.items
    (c.insert.ensures.items ∙ ap (λ r. cond (is_ok r) (insert pairs at c.args.pair) pairs) c.unwrap.ensures)
