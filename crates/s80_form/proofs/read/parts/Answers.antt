use Rattle.std.proofs.Common.{ap, ◌∙◌}
use Rattle.std.proofs.lemmas.Result.{IfOk-weaker}
use Rattle.s80_form.specs.Keyword.{keyword_text}
use Rattle.s80_form.specs.Read.{FindsWord, FindsForm}
use Rattle.s80_form.proofs.Reading.{by_word_found, definition_found, none_found}
use Rattle.s80_form.proofs.read.parts.Goals as goal

pub returns-in_ok-definition-in-Some-Defines : goal.returns-in_ok-definition-in-Some-Defines
returns-in_ok-definition-in-Some-Defines c =
    definition_found c.args.text.now c.beginning-front.result c.in-Some-Defines.kind c.in_ok-definition-in-Some-Defines.definition c.beginning-front.ensures
    (c.in-Some-Defines.ensures ∙ ap keyword_text c.in-Some-Defines.field-0-is) c.in_ok-definition-in-Some-Defines.ensures

pub returns-in-Some-Plain : goal.returns-in-Some-Plain
returns-in-Some-Plain c =
    IfOk-weaker c.by_word.result (FindsWord c.in-Some-Plain.word c.beginning-front.result.name.now c.beginning-front.result.side c.beginning-front.result.rest.now) (FindsForm c.args.text.now)
    (λ r h. by_word_found c.args.text.now c.beginning-front.result c.in-Some-Plain.word r c.beginning-front.ensures (c.in-Some-Plain.ensures ∙ ap keyword_text c.in-Some-Plain.field-0-is) h) c.by_word.ensures

pub returns-in-None : goal.returns-in-None
returns-in-None c = none_found c.args.text.now c.beginning-front.result c.beginning-front.ensures c.in-None.ensures
