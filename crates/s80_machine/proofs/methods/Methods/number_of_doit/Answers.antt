use Rattle.std.proofs.Common.{◌≡◌, ◌∙◌, IfOk, ap, refl, subst, sym}
use Rattle.s80_machine.specs.Seen.{Numbers, key_bytes, key_in, place_in}
use Rattle.s80_machine.proofs.methods.Methods.number_of_doit.Goals as goal

pub number_of_key-requires-clause-key : goal.number_of_key-requires-clause-key
number_of_key-requires-clause-key c = subst (λ k. key_bytes (key_in k) ≡ k) (sym (c.deref.ensures.value ∙ c.new-key.ensures.items)) refl

pub number_of_key-requires-clause-place : goal.number_of_key-requires-clause-place
number_of_key-requires-clause-place c = sym (ap (λ k. place_in (key_in k)) (c.deref.ensures.value ∙ c.new-key.ensures.items))

pub returns : goal.returns
returns c = subst (λ k. IfOk c.number_of_key.result (Numbers (key_in k) c.args.code.now c.args.self.now c.number_of_key.new.self)) (c.deref.ensures.value ∙ c.new-key.ensures.items) c.number_of_key.ensures
