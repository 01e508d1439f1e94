use Rattle.std.proofs.Common.{◌≡◌, rules}
use Rattle.s80_core.specs.Core.{before, core_of}
use Rattle.s80_core.proofs.ElaborateLists.{joined_step}
use Rattle.s80_core.proofs.elaboration.ends.joined.Goals as goal

pub loop-core-preserved : goal.loop-core-preserved
loop-core-preserved c =
    let then : core_of c.then-made.result ≡ before (core_of c.in-Some.core) (core_of c.loop-core.made) = search rules in
    record { done = joined_step c.loop-core.before.items c.pop.new.self.items c.in-Some.core c.loop-core.made c.then-made.result _ c.loop-core.invariant.done c.in-Some.ensures.items then }
