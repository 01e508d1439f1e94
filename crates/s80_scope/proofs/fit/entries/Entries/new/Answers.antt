use Rattle.s80_scope.proofs.KeySets.{empty_counted}
use Rattle.s80_scope.proofs.fit.entries.Entries.new.Goals as goal

pub invariant_of-result : goal.invariant_of-result
invariant_of-result c = empty_counted c.new.result c.new.ensures.empty
