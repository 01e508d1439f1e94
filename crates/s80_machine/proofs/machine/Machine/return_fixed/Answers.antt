use Rattle.std.proofs.Common.{◌∙◌, slice_get, sym}
use Rattle.std.proofs.lemmas.Result.{err_from_is_err_and}
use Rattle.s80_machine.specs.Shared.{fixed}
use Rattle.s80_machine.specs.Turn.{return_from}
use Rattle.s80_machine.proofs.CameSteps.{given_goes, none_there}
use Rattle.s80_machine.proofs.machine.Machine.return_fixed.Goals as goal

pub returns-in_err-value : goal.returns-in_err-value
returns-in_err-value c = λ on code next d rest w shows.
    let p = err_from_is_err_and c.from_residual.result c.from_residual.ensures.1 in
    rw (p.1, p.2)
    (none_there on (λ v. return_from d.activation v rest w) c.args.self.now c.fixed.result (slice_get (fixed d.receiver) c.args.number) c.in_err-value.field-0.0 c.in_err-value.ensures.value
    c.in_err-value.ensures.ok_part (c.fixed.ensures (record d { place = next }) rest shows.contexts))

pub returns : goal.returns
returns c = λ on code next d rest w shows.
    given_goes on (λ v. return_from d.activation v rest w) c.return_from_method.new.self (slice_get (fixed d.receiver) c.args.number) c.in_ok-value.value c.return_from_method.result
    (sym (c.fixed.ensures (record d { place = next }) rest shows.contexts) ∙ c.in_ok-value.ensures.ok_part)
    (c.return_from_method.ensures on (record d { place = next }) rest w shows)
