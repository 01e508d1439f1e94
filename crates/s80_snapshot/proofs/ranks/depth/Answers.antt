use Rattle.std.proofs.Common.{length}
use Rattle.s80_snapshot.proofs.ClassPlaces.{all_passed, most_passed, none_passed, one_passed}
use Rattle.s80_snapshot.proofs.ranks.depth.Goals as goal

pub loop-depth-init : goal.loop-depth-init
loop-depth-init c = none_passed c.args.above.now c.args.place (length c.args.above.now)

pub loop-depth-preserved : goal.loop-depth-preserved
loop-depth-preserved c =
    one_passed c.args.above.now c.args.place (length c.args.above.now) c.loop-depth.depth c.in-Some.place c.loop-depth.next c.place_above-next.result c.loop-depth-test.true c.in-Some.is c.place_above-next.ensures c.loop-depth.invariant

pub returns-in_default : goal.returns-in_default
returns-in_default c = all_passed c.args.above.now c.args.place (length c.args.above.now) c.loop-depth.depth c.loop-depth.next c.in_default.is c.loop-depth.invariant

pub returns : goal.returns
returns c = most_passed c.args.above.now c.args.place (length c.args.above.now) c.loop-depth.depth c.loop-depth.next c.loop-depth-test.false c.loop-depth.auto.depth-end c.loop-depth.invariant
