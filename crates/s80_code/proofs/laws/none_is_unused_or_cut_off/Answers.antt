use Rattle.s80_code.proofs.lemmas.TableLemmas.{none_law}
use Rattle.s80_code.proofs.laws.none_is_unused_or_cut_off.Goals as goal

pub returns : goal.returns
returns c = λ b behind h. none_law b behind h
