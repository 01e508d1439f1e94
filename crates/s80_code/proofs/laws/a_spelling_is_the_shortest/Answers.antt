use Rattle.s80_code.proofs.lemmas.SpellingLemmas.{decoded_spells}
use Rattle.s80_code.proofs.laws.a_spelling_is_the_shortest.Goals as goal

pub returns : goal.returns
returns c = λ bytes instruction width all e. let s = decoded_spells bytes instruction width all e in (s.spellable, s.short)
