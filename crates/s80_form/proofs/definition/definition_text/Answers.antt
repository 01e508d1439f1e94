use Rattle.std.proofs.Common.{ap, ◌∙◌, ◌++◌, codes}
use Rattle.s80_form.specs.Definition.{next_line}
use Rattle.s80_form.proofs.Spelled.{lines_text}
use Rattle.s80_form.proofs.definition.definition_text.Goals as goal

pub returns : goal.returns
returns c =
    lines_text c.args.definition.now c.in_ok-text.text c.add_line.new.text c.add_line-2.new.text c.add_line-3.new.text c.add_line-4.new.text c.bytes.result.now c.bytes-2.result.now c.bytes-3.result.now
    c.in_ok-text.ensures (c.bytes.ensures ∙ c.in_ok-inst_vars.ensures) (c.bytes-2.ensures ∙ c.in_ok-class_vars.ensures) (c.bytes-3.ensures ∙ c.in_ok-pools.ensures)
    c.in_ok-add_line.ensures c.in_ok-add_line-2.ensures c.in_ok-add_line-3.ensures (c.in_ok-add_line-4.ensures ∙ ap (λ l. c.add_line-3.new.text ++ next_line (codes "category:") l) c.bytes-4.ensures)
