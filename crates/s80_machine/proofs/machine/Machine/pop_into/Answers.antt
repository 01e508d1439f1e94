use Rattle.s80_machine.specs.Step.{store}
use Rattle.s80_machine.specs.Came.{given_of}
use Rattle.s80_machine.proofs.CameSteps.{popped_goes}
use Rattle.s80_machine.proofs.machine.Machine.pop_into.Goals as goal

pub returns : goal.returns
returns c = λ next d rest w shows.
    let on = given_of c.args.on.now in
    popped_goes on c.args.self.now (record d { place = next }) rest w shows c.in_ok-value.value c.pop.new.self
    (store on.table on.methods on.code on.budget c.args.code.now d next rest w c.args.storage) c.store.new.self c.store.result c.in_ok-value.ensures
    (λ stack there. c.store.ensures d rest w next stack there)
