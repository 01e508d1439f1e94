use Rattle.s80_change.proofs.Selecting.{source_selects}
use Rattle.s80_change.proofs.check.sources_have_selectors.Goals as goal

pub returns : goal.returns
returns c = source_selects
