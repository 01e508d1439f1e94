use Rattle.s80_code.proofs.lemmas.SpellingLemmas.{spelled_tells}
use Rattle.s80_code.proofs.laws.what_is_spelled_is_decoded.Goals as goal

pub returns : goal.returns
returns c = λ instruction rest h. spelled_tells instruction h rest
