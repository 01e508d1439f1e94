use Rattle.std.proofs.Common.{◌≡◌, ◌∙◌, Ok, ap, false, length, option_and_then, subst, sym}
use Rattle.s80_object.specs.Objects.{body_at, home_parts_of}
use Rattle.s80_machine.specs.World.{World, one_tick}
use Rattle.s80_machine.specs.Turn.{is_active}
use Rattle.s80_machine.specs.Seen.{block_of}
use Rattle.s80_machine.specs.Came.{ChecksDepth, given_of}
use Rattle.s80_machine.proofs.CameActivations.{block_begun, if_idle, in_its_home, not_active}
use Rattle.s80_machine.proofs.CameParts.{not_deep, ticked_contexts, ticked_on, ticked_world}
use Rattle.s80_machine.proofs.machine.Machine.activate_block.Goals as goal

pub returns : goal.returns
returns c = λ s shows.
    let on = given_of c.args.on.now in
    let m = c.tick.new.self in
    let w : World = one_tick s.world in
    let b = block_of c.args.block (length c.args.arguments.items) in
    let arguments = c.args.arguments.items in
    let below = s.contexts in
    let alive : m.contexts ≡ below = ticked_contexts on on.budget c.args.self.now m s.world shows.world c.in_ok-tick.ensures ∙ shows.contexts in
    let world = ticked_world on on.budget c.args.self.now m s.world shows.world c.in_ok-tick.ensures in
    let idle : is_active b.object below ≡ false = sym (ap (is_active b.object) alive) ∙ sym c.if-is_active.ensures in
    let parts = ap (λ o. option_and_then home_parts_of (body_at o b.home)) (sym world.objects) ∙ sym c.home_parts.ensures ∙ c.in_ok-method.ensures.ok_part in
    ticked_on on on.budget c.args.self.now m s.world shows.world c.in_ok-tick.ensures (if_idle on b arguments below) c.begin.new.self c.begin.result
    (not_active on b arguments below w idle c.begin.new.self c.begin.result
    (not_deep on below w (in_its_home on b arguments below w) c.begin.new.self c.begin.result (subst (λ cs. ChecksDepth cs (Ok tt)) alive c.in_ok-check_depth.ensures)
    (block_begun on b arguments below w c.in-Object.home c.in_ok-method.method c.in_ok-method.receiver c.in-Object.is parts c.begin.new.self c.begin.result
    (c.begin.ensures on (record { contexts = below; world = w }) (record { contexts = alive; world = world })))))
