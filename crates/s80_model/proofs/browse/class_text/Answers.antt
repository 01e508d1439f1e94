use Rattle.std.proofs.Common.{◌∙◌}
use Rattle.s80_class.specs.Table.{row_of}
use Rattle.s80_model.proofs.Telling.{is_class_text}
use Rattle.s80_model.proofs.browse.class_text.Goals as goal

pub returns : goal.returns
returns c = is_class_text c.args.entry.now.class_name (row_of c.args.classes.now.names c.args.entry.now) c.in_ok-definition.definition
    c.in_ok-text.text c.append.new.self c.add_string_line.new.text c.add_string_line-2.new.text c.bytes.result.now c.bytes-2.result.now
    c.in_ok-definition.ensures c.in_ok-text.ensures c.in_ok-append.ensures.ok c.bytes.ensures c.in_ok-add_string_line.ensures
    (c.bytes-2.ensures ∙ c.in_ok-joined.ensures) c.in_ok-add_string_line-2.ensures
