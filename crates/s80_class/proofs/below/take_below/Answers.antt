use Rattle.std.proofs.Common.{arith}
use Rattle.s80_class.proofs.Pairs.{place_within, without_it}
use Rattle.s80_class.proofs.below.take_below.Goals as goal

pub remove-requires : goal.remove-requires
remove-requires c =
    let place = rw c.deref.ensures.value at c.place_below-at.ensures in
    omega (arith, place_within c.args.pairs.now.items c.args.pair c.place_below-at.result c.requires.ordered place c.requires.there)

pub returns-clause-without : goal.returns-clause-without
returns-clause-without c =
    let place = rw c.deref.ensures.value at c.place_below-at.ensures in
    without_it c.args.pairs.now.items c.args.pair c.place_below-at.result c.requires.ordered place c.requires.there c.remove.new.self.items c.remove.ensures.items
