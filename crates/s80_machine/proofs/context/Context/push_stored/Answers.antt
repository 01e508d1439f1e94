use Rattle.s80_machine.proofs.CameStretch.{stored_pushes}
use Rattle.s80_machine.proofs.context.Context.push_stored.Goals as goal

pub returns-clause-tries : goal.returns-clause-tries
returns-clause-tries c = λ on code ticks.
    stored_pushes on code c.args.next ticks c.args.self.now c.push_and_go.new.self c.args.objects.now c.args.storage c.in-Some.value c.push_and_go.result c.in-Some.ensures c.push_and_go.ensures.goes
