use Rattle.s80_machine.specs.Seen.{moved}
use Rattle.s80_machine.proofs.SeenContexts.{active_does}
use Rattle.s80_machine.proofs.CountedBlocks.{changed_counted}
use Rattle.s80_machine.proofs.contexts.Contexts.move_to.Goals as goal

pub returns : goal.returns
returns c =
    active_does (λ done. done) (moved c.args.place) c.self.inside.contexts.items c.args.self.now c.self.view_is c.in-Some.active.now c.move_to.new.self c.move_to.result
    _ c.self.inside.contexts.ok.0 c.in-Some.ensures.item.3.0 c.in-Some.ensures.value c.move_to.ensures.does

pub invariant_of-self-2 : goal.invariant_of-self-2
invariant_of-self-2 c =
    changed_counted c.self.inside.counts.items c.self.inside.contexts.items c.self.invariant _ c.in-Some.active.now c.move_to.new.self c.self.inside.contexts.ok.0 c.in-Some.ensures.item.3.0 c.in-Some.ensures.value c.move_to.ensures.stays
