use Rattle.s80_scope.proofs.KeyLaws.{entry_same}
use Rattle.s80_scope.proofs.fit.keys_tell_entries_apart.Goals as goal

pub returns : goal.returns
returns c = entry_same
