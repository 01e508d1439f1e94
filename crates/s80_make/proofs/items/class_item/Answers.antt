use Rattle.std.proofs.Common.{◌∙◌, refl, ap, arith}
use Rattle.s80_chunk.specs.declared.item.Item.TheVariants.{SectionEnd}
use Rattle.s80_chunk.specs.declared.item.Role.TheVariants.{Plain, Head, Method}
use Rattle.s80_chunk.specs.Chunks.{item_of}
use Rattle.s80_form.specs.Definition.{definition_text}
use Rattle.s80_make.specs.Items.{definition, doit_text, head_text}
use Rattle.s80_make.proofs.lemmas.Made.{at_method, at_place}
use Rattle.s80_make.proofs.items.class_item.Goals as goal

pub returns-then-place-eq0-clause-item : goal.returns-then-place-eq0-clause-item
returns-then-place-eq0-clause-item c =
    at_place c.args.class c.args.place 0 c.text_item.result (item_of Plain (definition_text (definition c.args.class))) c.if-place-eq0.true (c.text_item.ensures.item ∙ ap (item_of Plain) c.in_ok-define_text.ensures.text) refl

pub returns-then-place-eq1-clause-item : goal.returns-then-place-eq1-clause-item
returns-then-place-eq1-clause-item c =
    at_place c.args.class c.args.place 1 c.text_item-then-place-eq1.result (item_of Head (head_text c.args.class)) c.if-place-eq1.true (c.text_item-then-place-eq1.ensures.item ∙ ap (item_of Head) c.in_ok-head_text.ensures.text) refl

pub returns-then-place-eq12-clause-item : goal.returns-then-place-eq12-clause-item
returns-then-place-eq12-clause-item c = at_place c.args.class c.args.place 12 SectionEnd SectionEnd c.if-place-eq12.true refl refl

pub returns-then-place-eq13-clause-item : goal.returns-then-place-eq13-clause-item
returns-then-place-eq13-clause-item c =
    at_place c.args.class c.args.place 13 c.text_item-then-place-eq13.result (item_of Plain (doit_text c.args.class)) c.if-place-eq13.true (c.text_item-then-place-eq13.ensures.item ∙ ap (item_of Plain) c.in_ok-doit_text.ensures.text) refl

pub returns-clause-item : goal.returns-clause-item
returns-clause-item c =
    at_method c.args.class c.args.place c.saturating_sub.result c.text_item-2.result (omega (arith, c.saturating_sub.ensures, c.if-place-eq0.false, c.if-place-eq1.false))
    (omega (arith, c.saturating_sub.ensures, c.requires.place, c.if-place-eq12.false, c.if-place-eq13.false)) (c.text_item-2.ensures.item ∙ ap (item_of Method) c.in_ok-method_text.ensures.text)
