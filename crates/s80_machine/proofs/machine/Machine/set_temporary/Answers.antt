use Rattle.std.proofs.Common.{◌∙◌, ap, option_copied, sym}
use Rattle.s80_machine.proofs.CameStores.{active_is, home_comes}
use Rattle.s80_machine.specs.World.{home_in}
use Rattle.s80_machine.specs.Turn.{waiting}
use Rattle.s80_machine.proofs.machine.Machine.set_temporary.Goals as goal

pub returns-in-Some : goal.returns-in-Some
returns-in-Some c = λ on d rest w next stack shows.
    let is = active_is c.args.self.now.contexts rest (waiting d next stack) c.in_ok-active.active.now shows.contexts (ap option_copied (sym c.in_ok-active.ensures.ok_part) ∙ c.active.ensures) in
    home_comes on d next stack rest c.args.self.now c.set_field.new.self shows.contexts w c.in-Some.home c.args.i c.args.value c.set_field.result
    (sym (ap (λ a. home_in a.activation) (c.active-2.view_is ∙ is)) ∙ sym c.home.ensures ∙ c.in-Some.is) (c.set_field.ensures on w shows.world)
