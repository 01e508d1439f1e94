use Rattle.s80_change.proofs.HeadBeginning.{head_text_same}
use Rattle.s80_change.proofs.logged_head.one_head_text.Goals as goal

pub returns : goal.returns
returns c = head_text_same
