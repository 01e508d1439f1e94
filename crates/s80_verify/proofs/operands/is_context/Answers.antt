use Rattle.std.proofs.Common.{sym, ◌∙◌, ap, refl, Some}
use Rattle.s80_code.specs.declared.instruction.Instruction.TheVariants.{PushContext}
use Rattle.s80_verify.proofs.PlacesLemmas.{stands_at}
use Rattle.s80_verify.proofs.operands.is_context.Goals as goal

pub returns-in-Some-PushContext-default : goal.returns-in-Some-PushContext-default
returns-in-Some-PushContext-default c = (
  λ r. (_, stands_at c.args.code.now.bytes c.args.at c.in-Some-PushContext-default.field-0-1 PushContext (sym c.in-Some-PushContext-default.ensures ∙ ap (λ i. Some (i, c.in-Some-PushContext-default.field-0-1)) c.in-Some-PushContext-default.field-0-0-is)),
  λ x. refl,
)
