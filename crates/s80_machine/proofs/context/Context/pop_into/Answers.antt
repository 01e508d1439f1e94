use Rattle.std.proofs.Common.{◌-◌, ◌∙◌, ap, length, refl, slice_get, take}
use Rattle.s80_machine.specs.Seen.{activation_of}
use Rattle.s80_machine.proofs.CameStretch.{top_moved}
use Rattle.s80_machine.proofs.context.Context.pop_into.Goals as goal

pub returns-clause-tries : goal.returns-clause-tries
returns-clause-tries c = λ on code ticks.
    let xs = c.self.inside.stack.items in
    top_moved on code c.args.next ticks _ c.args.self.now c.self.view_is xs refl c.in-Some.value
    (c.in-Some.ensures ∙ c.last.ensures.value ∙ ap (λ l. slice_get l (length l - 1)) c.deref.ensures.value)
    c.args.i (activation_of c.store.new.self) c.args.objects.now c.store.new.objects c.if-not-store.ensures.stores
    c.pop.new.self.items (c.pop.ensures.rest ∙ ap (λ n. take (n - 1) xs) c.self.inside.stack.ok.0)
