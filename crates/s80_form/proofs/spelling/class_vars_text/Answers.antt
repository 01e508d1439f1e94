use Rattle.std.proofs.Common.{◌∙◌}
use Rattle.s80_form.specs.Definition.{joined}
use Rattle.s80_form.proofs.Spelled.{named_text}
use Rattle.s80_form.proofs.spelling.class_vars_text.Goals as goal

pub returns : goal.returns
returns c =
    named_text c.args.class_name.now c.in_ok-text.text c.append.new.self (joined c.args.names.now) c.bytes.result.now c.add_quoted.new.text c.in_ok-text.ensures c.in_ok-append.ensures.ok
    (c.bytes.ensures ∙ c.in_ok-names.ensures) c.in_ok-add_quoted.ensures.ok
