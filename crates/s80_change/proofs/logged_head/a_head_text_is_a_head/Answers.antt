use Rattle.s80_change.proofs.HeadBeginning.{text_begins}
use Rattle.s80_change.proofs.logged_head.a_head_text_is_a_head.Goals as goal

pub returns : goal.returns
returns c = text_begins
