use Rattle.std.proofs.Common.{◌∷◌}
use Rattle.s80_machine.specs.Step.{store}
use Rattle.s80_machine.specs.Came.{given_of}
use Rattle.s80_machine.proofs.CameSteps.{topped_goes}
use Rattle.s80_machine.proofs.machine.Machine.store_top.Goals as goal

pub returns : goal.returns
returns c = λ next d rest w shows.
    let on = given_of c.args.on.now in
    topped_goes on c.args.self.now (record d { place = next }) rest w shows c.in_ok-value.value c.args.self.now.contexts
    (λ v stack. store on.table on.methods on.code on.budget c.args.code.now d next rest w c.args.storage v (v ∷ stack)) c.store.new.self c.store.result c.in_ok-value.ensures
    (λ stack there. c.store.ensures d rest w next (c.in_ok-value.value ∷ stack) there)
