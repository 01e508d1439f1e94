use Rattle.std.proofs.Common.{◌∙◌, ap, get_or}
use Rattle.s80_machine.proofs.CountedBlocks.{active_counted}
use Rattle.s80_machine.proofs.contexts.Contexts.is_active.Goals as goal

pub returns : goal.returns
returns c = active_counted c.self.inside.counts.items c.self.inside.contexts.items c.self.invariant c.args.self.now c.args.block c.count_at.result c.self.view_is (c.count_at.ensures ∙ ap (λ counts. get_or counts c.args.block 0) c.deref.ensures.value)
