use Rattle.std.proofs.Common.{◌≡◌, map, take}
use Rattle.s80_line.proofs.line.owned_words.Given as goal

abbrev pub invariant-loop-word : goal.invariant-loop-word
invariant-loop-word l = l.owned.items ≡ map (λ s. s.now) (take l.word-index l.words)
