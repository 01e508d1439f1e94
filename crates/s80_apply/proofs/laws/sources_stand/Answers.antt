use Rattle.s80_apply.proofs.Sources.{list_stands}
use Rattle.s80_apply.proofs.laws.sources_stand.Goals as goal

pub returns : goal.returns
returns c = list_stands c.kernel_sources_stand_in_the_text.ensures c.kernel_sources_are_plain.ensures
