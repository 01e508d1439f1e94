use Rattle.std.proofs.Common.{◌≡◌, IfOk, subst}
use Rattle.s80_form.specs.declared.definition.Definition.{Definition}
use Rattle.s80_form.specs.Definition.{definition_text}
use Rattle.s80_make.proofs.items.define_text.Goals as goal

pub returns-clause-text : goal.returns-clause-text
returns-clause-text c = let P : Definition → Type 0 = λ d. IfOk c.definition_text.result (λ text. text ≡ definition_text d) in subst P c.in_ok-definition.ensures c.definition_text.ensures
