use Rattle.s80_scope.specs.Scope.{declared_in}
use Rattle.std.proofs.Common.{length, refl}
use Rattle.s80_scope.proofs.Steps.{target_step}
use Rattle.s80_scope.proofs.fit.walk.targets.Goals as goal

pub loop-passed-preserved : goal.loop-passed-preserved
loop-passed-preserved c =
    target_step (declared_in c.args.scope.now) c.args.entries.now c.loop-passed.entries c.add_name.new.self c.args.targets.now c.index-targets-count.result c.bytes.result.now
    (length c.args.targets.now) c.loop-passed.passed refl c.loop-passed-test.true c.index-targets-count.is c.bytes.ensures c.loop-passed.invariant c.in_ok-add_name.ensures
