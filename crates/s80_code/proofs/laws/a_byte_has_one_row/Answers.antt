use Rattle.s80_code.proofs.lemmas.TableLemmas.{row_law}
use Rattle.s80_code.proofs.laws.a_byte_has_one_row.Goals as goal

pub returns : goal.returns
returns c = λ k b r behind e low high. row_law k b r behind e low high
