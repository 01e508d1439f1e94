use Rattle.s80_fileout.proofs.Made.{kept_in_order}
use Rattle.s80_fileout.proofs.laws.the_list_with_versions_is_made_in_order.Goals as goal

pub returns : goal.returns
returns c = kept_in_order
