use Rattle.s80_code.proofs.lemmas.TableLemmas.{used_is_decoded}
use Rattle.s80_code.proofs.laws.used_bytes_stand_for_instructions.Goals as goal

pub returns : goal.returns
returns c = λ b c' d more h e. used_is_decoded b c' d more h e
