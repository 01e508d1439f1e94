use Rattle.std.proofs.Common.{rules}
use Rattle.s80_history.proofs.Kept.{kept_empty}
use Rattle.s80_history.proofs.history.History.empty.Goals as goal

pub invariant_of-result : goal.invariant_of-result
invariant_of-result c = (search rules, kept_empty c.new-2.result.entries c.new-3.result c.new-2.ensures.empty c.new-3.ensures.items)
