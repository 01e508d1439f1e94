use Rattle.s80_code.proofs.lemmas.TableLemmas.{place_law}
use Rattle.s80_code.proofs.laws.a_place_and_the_next.Goals as goal

pub returns : goal.returns
returns c = λ bytes at next instruction s. place_law bytes at next instruction s
