use Rattle.std.proofs.Common.{◌≡◌, rules}
use Rattle.s80_core.specs.Core.{assign, core_of, variable_of}
use Rattle.s80_core.specs.Walk.{meaning_in}
use Rattle.s80_core.proofs.ElaborateLists.{target_step}
use Rattle.s80_core.proofs.elaboration.names.assigned.Goals as goal

pub loop-passed-preserved : goal.loop-passed-preserved
loop-passed-preserved c =
    let made : core_of c.assign-made.result ≡ assign (variable_of c.in_ok-variable.variable) (core_of c.loop-passed.made) = search rules in
    record {
      done = target_step c.args.targets.now c.loop-passed.passed c.index-targets-count.result c.loop-passed-test.true c.index-targets-count.is (meaning_in c.args.home.now)
          (variable_of c.in_ok-variable.variable) (core_of c.loop-passed.made) (core_of c.assign-made.result) (core_of c.args.value) c.loop-passed.invariant.done c.in_ok-variable.ensures made;
    }
