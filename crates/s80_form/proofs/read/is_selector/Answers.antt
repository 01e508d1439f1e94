use Rattle.s80_form.proofs.Reading.{selector_is}
use Rattle.s80_form.proofs.read.is_selector.Goals as goal

pub returns : goal.returns
returns c = selector_is c.args.word.now c.bytes.result.now c.parameters_of.result c.is_some.result c.is_some.ensures c.bytes.ensures c.parameters_of.ensures
