use Rattle.std.proofs.Common.{subst}
use Rattle.std.specs.Prelude.{ℕ, Option}
use Rattle.s80_fileout.proofs.Depths.{IsPassed, one_passed}
use Rattle.s80_fileout.proofs.order.depth.Goals as goal

pub loop-depth-preserved : goal.loop-depth-preserved
loop-depth-preserved c =
    let at = c.loop-depth in
    let P : Option ℕ → Type 0 = λ next. IsPassed c.args.classes.now c.args.class_name.now c.count-count.result at.depth next in
    record {
      live = c.at.ensures.superclass;
      rest = one_passed c.args.classes.now c.args.class_name.now c.count-count.result at.depth c.in-Some.number c.at.result.now c.loop-depth-test.true c.at.ensures (subst P c.in-Some.is at.invariant.rest);
    }
