use Rattle.s80_machine.specs.Seen.{with_stack}
use Rattle.s80_machine.specs.Turn.{deliver}
use Rattle.s80_machine.proofs.CameSteps.{ended_goes, popped_goes, with_contexts}
use Rattle.s80_machine.proofs.machine.Machine.return_to_caller.Goals as goal

pub returns : goal.returns
returns c = λ on code next d rest w shows.
    let m = c.args.self.now in
    popped_goes on m (record d { place = next }) rest w shows c.in_ok-value.value c.pop.new.self (λ v stack. deliver v rest w) c.deliver.new.self c.deliver.result c.in_ok-value.ensures
    (λ stack there.
    c.deliver.ensures on rest w (ended_goes on (with_contexts m c.pop.new.self) (with_stack (record d { place = next }) stack) rest w there c.end.new.self c.in_ok-end.ensures))
