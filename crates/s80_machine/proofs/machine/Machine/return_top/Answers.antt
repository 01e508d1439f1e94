use Rattle.s80_machine.specs.Seen.{with_stack}
use Rattle.s80_machine.specs.Turn.{return_from}
use Rattle.s80_machine.proofs.CameSteps.{popped_goes}
use Rattle.s80_machine.proofs.machine.Machine.return_top.Goals as goal

pub returns : goal.returns
returns c = λ on code next d rest w shows.
    popped_goes on c.args.self.now (record d { place = next }) rest w shows c.in_ok-value.value c.pop.new.self (λ v stack. return_from d.activation v rest w)
    c.return_from_method.new.self c.return_from_method.result c.in_ok-value.ensures
    (λ stack there. c.return_from_method.ensures on (with_stack (record d { place = next }) stack) rest w there)
