use Rattle.std.proofs.lemmas.Result.{err_from_is_err_and}
use Rattle.s80_machine.proofs.CameSteps.{none_unwound, unwound_goes}
use Rattle.s80_machine.proofs.machine.Machine.return_from_method.Goals as goal

pub returns-in_err-end_method : goal.returns-in_err-end_method
returns-in_err-end_method c = λ on d rest w shows.
    let p = err_from_is_err_and c.from_residual.result c.from_residual.ensures.1 in
    rw (p.1, p.2) (none_unwound on c.args.self.now d rest w shows c.args.value c.end_method.new.contexts c.in_err-end_method.field-0.0 (c.in_err-end_method.ensures d rest shows.contexts))

pub returns : goal.returns
returns c = λ on d rest w shows.
    unwound_goes on c.args.self.now d rest w shows c.args.value c.end_method.new.contexts c.deliver.new.self c.deliver.result (c.in_ok-end_method.ensures d rest shows.contexts)
    (λ left there. c.deliver.ensures on left w there)
