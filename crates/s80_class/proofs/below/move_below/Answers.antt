use Rattle.std.proofs.Common.{◌≡◌, rules}
use Rattle.s80_class.proofs.Pairs.{not_there_anew, moved_away, moved_nowhere}
use Rattle.s80_class.proofs.below.move_below.Goals as goal

pub put_below-requires-clause-new : goal.put_below-requires-clause-new
put_below-requires-clause-new c =
    not_there_anew c.args.pairs.now.items c.take_below.new.pairs.items c.args.number c.args.from c.args.to c.take_below.ensures.without c.requires.one

pub returns-then-ne-clause-moved : goal.returns-then-ne-clause-moved
returns-then-ne-clause-moved c =
    moved_away c.args.pairs.now.items c.take_below.new.pairs.items c.put_below.new.pairs.items c.args.number c.args.from c.args.to c.take_below.ensures.without c.put_below.ensures.with c.requires.one

pub returns-else-ne-clause-moved : goal.returns-else-ne-clause-moved
returns-else-ne-clause-moved c =
    let same : c.args.from ≡ c.args.to = search rules in
    moved_nowhere c.args.pairs.now.items c.args.number c.args.from c.args.to c.requires.ordered c.requires.there same c.requires.one
