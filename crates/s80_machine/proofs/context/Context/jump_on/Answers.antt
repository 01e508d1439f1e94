use Rattle.std.proofs.Common.{◌≡◌, ◌-◌, ◌+ℤ◌, ◌∙◌, ap, length, pos, refl, Some, slice_get, subst, take, w32, if◌then◌else◌}
use Rattle.std.specs.Bool.{beq}
use Rattle.std.proofs.lemmas.Int.{to_z-of_z}
use Rattle.s80_machine.specs.Turn.{place_at}
use Rattle.s80_machine.proofs.CameStretch.{decided_leads}
use Rattle.s80_machine.proofs.context.Context.jump_on.Goals as goal

pub returns-clause-tries : goal.returns-clause-tries
returns-clause-tries c = λ on code objects ticks.
    let xs = c.self.inside.stack.items in
    let to = c.in-Some-target.place in
    let next = c.args.next in
    let jumps = beq c.in-Some-as_bool.is_true c.args.wanted in
    decided_leads on code next ticks _ c.args.self.now c.self.view_is xs refl c.in-Some.value
    (c.in-Some.ensures ∙ c.last.ensures.value ∙ ap (λ l. slice_get l (length l - 1)) c.deref.ensures.value)
    objects c.args.distance c.in-Some-as_bool.is_true c.in-Some-as_bool.ensures to c.args.wanted
    c.pop.new.self.items
    (subst (λ z. Some to ≡ (if jumps then place_at (pos next +ℤ z) else Some next)) (to_z-of_z w32 c.args.distance c.ranges.distance) c.in-Some-target.ensures)
    (c.pop.ensures.rest ∙ ap (λ n. take (n - 1) xs) c.self.inside.stack.ok.0)
