use Rattle.s80_change.proofs.lemmas.BlockLaws.{block_unique}
use Rattle.s80_change.proofs.block.blocks_part_in_one_way.Goals as goal

pub returns : goal.returns
returns c = block_unique
