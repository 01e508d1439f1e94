use Rattle.s80_code.proofs.lemmas.TableLemmas.{unused_is_not}
use Rattle.s80_code.proofs.laws.unused_bytes_stand_for_nothing.Goals as goal

pub returns : goal.returns
returns c = λ b more e. unused_is_not b more e
