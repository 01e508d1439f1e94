use Rattle.std.proofs.Common.{◌∙◌}
use Rattle.s80_image.proofs.Selectors.{tests_selector}
use Rattle.s80_image.proofs.parts.is_selector.Goals as goal

pub returns : goal.returns
returns c = c.is_some.ensures ∙ tests_selector c.parameters_of.result c.args.word.now c.parameters_of.ensures
