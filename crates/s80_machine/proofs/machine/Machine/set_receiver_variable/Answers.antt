use Rattle.std.proofs.Common.{◌∙◌, ap, option_copied, sym}
use Rattle.s80_machine.proofs.CameStores.{active_is, field_comes}
use Rattle.s80_machine.specs.Turn.{waiting}
use Rattle.s80_machine.proofs.machine.Machine.set_receiver_variable.Goals as goal

pub returns-in-Object : goal.returns-in-Object
returns-in-Object c = λ on d rest w next stack shows.
    let is = active_is c.args.self.now.contexts rest (waiting d next stack) c.in_ok-active.active.now shows.contexts (ap option_copied (sym c.in_ok-active.ensures.ok_part) ∙ c.active.ensures) in
    field_comes on d next stack rest c.args.self.now c.set_field.new.self shows.contexts w c.in-Object.n c.args.i c.args.value c.set_field.result
    (sym (ap (λ a. a.receiver) (c.active-2.view_is ∙ is)) ∙ c.in-Object.is) (c.set_field.ensures on w shows.world)
