use Rattle.std.proofs.Common.{◌++◌, ap, ◌∙◌}
use Rattle.s80_lex.specs.Spelling.{quoted}
use Rattle.s80_form.specs.Form.{side_text}
use Rattle.s80_form.proofs.Spelled.{category_text}
use Rattle.s80_form.proofs.spelling.category_text.Goals as goal

pub returns : goal.returns
returns c =
    category_text c.args.class_name.now (side_text c.args.side) c.args.selector.now c.args.category.now c.in_ok-text.text c.append.new.self c.append-2.new.self c.append-3.new.self c.append-4.new.self c.add_quoted.new.text c.in_ok-text.ensures
    (c.in_ok-append.ensures.ok ∙ ap (λ l. c.in_ok-text.text ++ l) c.side_text.ensures) c.in_ok-append-2.ensures.ok (c.in_ok-append-3.ensures.ok ∙ ap (λ l. c.append-2.new.self ++ l) c.bytes.ensures) c.in_ok-append-4.ensures.ok
    (c.in_ok-add_quoted.ensures.ok ∙ ap (λ l. c.append-4.new.self ++ quoted 39 l) c.bytes-2.ensures)
