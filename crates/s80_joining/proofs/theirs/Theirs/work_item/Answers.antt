use Rattle.std.proofs.Common.{◌∙◌, ap, refl, subst, sym}
use Rattle.s80_form.specs.declared.refusal.Refusal.TheVariants.{Unended as NotEnded}
use Rattle.s80_model.specs.Asked.{Asks, ask_of_too_long, closes, refuses}
use Rattle.s80_model.specs.declared.item.SessionItem.TheVariants.{Chunk}
use Rattle.s80_model.specs.declared.section.Section.TheVariants.{Top}
use Rattle.s80_joining.specs.Theirs.{ComesBy, IsGiven}
use Rattle.s80_joining.proofs.Taking.{by_ask}
use Rattle.s80_joining.proofs.theirs.Theirs.work_item.Goals as goal

pub returns-in-Chunk-Plain : goal.returns-in-Chunk-Plain
returns-in-Chunk-Plain c = λ worked at given.
    let is = c.in-Chunk-Plain.is ∙ ap Chunk c.in-Chunk-Plain.field-0-is in
    subst (λ i. ComesBy (Asks i) worked c.work_text.new.self c.work_text.result) (sym is) (c.work_text.ensures worked at (subst IsGiven is given).2)

pub returns-in-Chunk-Head : goal.returns-in-Chunk-Head
returns-in-Chunk-Head c = λ worked at given.
    let is = c.in-Chunk-Head.is ∙ ap Chunk c.in-Chunk-Head.field-0-is in
    subst (λ i. ComesBy (Asks i) worked c.work_head.new.self c.work_head.result) (sym is) (c.work_head.ensures worked at (subst IsGiven is given).1)

pub returns-in-Chunk-Method : goal.returns-in-Chunk-Method
returns-in-Chunk-Method c = λ worked at given.
    let is = c.in-Chunk-Method.is ∙ ap Chunk c.in-Chunk-Method.field-0-is in
    subst (λ i. ComesBy (Asks i) worked c.work_method.new.self c.work_method.result) (sym is) (c.work_method.ensures worked at (subst IsGiven is given).1)

pub returns-in-Chunk-SectionEnd : goal.returns-in-Chunk-SectionEnd
returns-in-Chunk-SectionEnd c = λ worked at given.
    let is = c.in-Chunk-SectionEnd.is ∙ ap Chunk c.in-Chunk-SectionEnd.field-0-is in
    (closes, subst (λ i. Asks i closes) (sym is) refl, (record worked { section = Top }, refl, record { made = at.made; section = refl; changes = at.changes }))

pub returns-in-Chunk-TooLong : goal.returns-in-Chunk-TooLong
returns-in-Chunk-TooLong c = λ worked at given.
    let is = c.in-Chunk-TooLong.is ∙ ap Chunk c.in-Chunk-TooLong.field-0-is in
    let ask = ask_of_too_long c.in-Chunk-TooLong.role c.in-Chunk-TooLong.length in
    by_ask (Asks c.args.item) worked ask c.args.self.now c.work_too_long.result (subst (λ i. Asks i ask) (sym is) refl) (c.work_too_long.ensures worked at)

pub returns-in-Unended : goal.returns-in-Unended
returns-in-Unended c = λ worked at given. (refuses NotEnded, subst (λ i. Asks i (refuses NotEnded)) (sym c.in-Unended.is) refl, refl)
