use Rattle.std.proofs.Common.{◌∙◌, ◌∷◌, refl, slice_get, sym}
use Rattle.std.proofs.lemmas.Result.{err_from_is_err_and}
use Rattle.s80_machine.specs.Seen.{pushed, with_stack}
use Rattle.s80_machine.specs.Shared.{fixed}
use Rattle.s80_machine.specs.Turn.{goes_on}
use Rattle.s80_machine.proofs.CameSteps.{becomes, given_goes, none_there, with_contexts}
use Rattle.s80_machine.proofs.machine.Machine.push_fixed.Goals as goal

pub returns-in_err-value : goal.returns-in_err-value
returns-in_err-value c = λ on code next d rest w shows.
    let p = err_from_is_err_and c.from_residual.result c.from_residual.ensures.1 in
    rw (p.1, p.2)
    (none_there on (λ v. goes_on d next (v ∷ d.stack) rest w) c.args.self.now c.fixed.result (slice_get (fixed d.receiver) c.args.number) c.in_err-value.field-0.0 c.in_err-value.ensures.value
    c.in_err-value.ensures.ok_part (c.fixed.ensures (record d { place = next }) rest shows.contexts))

pub returns : goal.returns
returns c = λ on code next d rest w shows.
    let v = c.in_ok-value.value in
    given_goes on (λ v. goes_on d next (v ∷ d.stack) rest w) (with_contexts c.args.self.now c.push.new.self) (slice_get (fixed d.receiver) c.args.number) v c.push.result
    (sym (c.fixed.ensures (record d { place = next }) rest shows.contexts) ∙ c.in_ok-value.ensures.ok_part)
    (becomes on c.args.self.now (record d { place = next }) rest w shows (with_stack (record d { place = next }) (v ∷ d.stack)) (pushed v) c.push.new.self c.push.result c.push.ensures refl)
