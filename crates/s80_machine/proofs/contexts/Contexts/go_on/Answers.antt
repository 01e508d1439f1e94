use Rattle.std.proofs.Common.{ℕ, subst}
use Rattle.s80_machine.specs.Stretch.{LeadsFar, local}
use Rattle.s80_machine.proofs.SeenContexts.{becomes_active, is_active_one}
use Rattle.s80_machine.proofs.CountedBlocks.{changed_counted}
use Rattle.s80_machine.proofs.contexts.Contexts.go_on.Goals as goal

pub returns : goal.returns
returns c = λ on code d rest same listed is.
    let xs = c.self.inside.contexts.items in
    let size = c.self.inside.contexts.ok.0 in
    let new = c.go_on.new.self in (
      new,
      becomes_active xs c.args.self.now c.self.view_is c.in-Some.active.now _ size c.in-Some.ensures.item.3.0 c.in-Some.ensures.value d rest is new,
      subst (λ a. (n : ℕ) × LeadsFar on code n (local a c.args.objects.now c.args.ticks.now) (local new c.go_on.new.objects c.go_on.new.ticks))
          (is_active_one xs c.args.self.now c.self.view_is c.in-Some.active.now _ size c.in-Some.ensures.item.3.0 c.in-Some.ensures.value d rest is)
          (c.go_on.ensures.goes on code same listed),
    )

pub invariant_of-self-2 : goal.invariant_of-self-2
invariant_of-self-2 c =
    changed_counted c.self.inside.counts.items c.self.inside.contexts.items c.self.invariant _ c.in-Some.active.now c.go_on.new.self c.self.inside.contexts.ok.0 c.in-Some.ensures.item.3.0 c.in-Some.ensures.value c.go_on.ensures.stays
