use Rattle.std.proofs.Common.{◌∙◌, IfOk, ap, subst, sym}
use Rattle.s80_machine.specs.World.{method}
use Rattle.s80_machine.specs.Seen.{Numbers, key_in, place_in}
use Rattle.s80_machine.proofs.KeptMethods.{key_own, key_read}
use Rattle.s80_machine.proofs.methods.Methods.number.Goals as goal

pub number_of_key-number-requires-clause-key : goal.number_of_key-number-requires-clause-key
number_of_key-number-requires-clause-key c = key_own c.args.class c.args.side c.args.selector.now c.deref.result.now c.ranges.class.fits (c.deref.ensures.value ∙ c.in_ok-write_key.ensures)

pub number_of_key-number-requires-clause-place : goal.number_of_key-number-requires-clause-place
number_of_key-number-requires-clause-place c = sym (ap place_in (key_read c.args.class c.args.side c.args.selector.now c.deref.result.now c.ranges.class.fits (c.deref.ensures.value ∙ c.in_ok-write_key.ensures)))

pub returns : goal.returns
returns c =
    subst (λ new. IfOk c.number_of_key-number.result (Numbers (method c.args.class c.args.side c.args.selector.now) c.args.code.now c.args.self.now new)) (sym c.self-2.view_is)
    (subst (λ k. IfOk c.number_of_key-number.result (Numbers k c.args.code.now c.args.self.now c.number_of_key-number.new.self))
    (key_read c.args.class c.args.side c.args.selector.now c.deref.result.now c.ranges.class.fits (c.deref.ensures.value ∙ c.in_ok-write_key.ensures))
    (subst (λ old. IfOk c.number_of_key-number.result (Numbers (key_in c.deref.result.now) c.args.code.now old c.number_of_key-number.new.self)) c.self.view_is c.number_of_key-number.ensures))
