use Rattle.std.proofs.Common.{◌≡◌, All, IsUtf8, map, take}
use Rattle.s80_line.proofs.words.texts.Given as goal

abbrev pub invariant-loop-word : goal.invariant-loop-word
invariant-loop-word l = (map (λ s. s.now) l.texts.items ≡ take l.word-index l.words) × All IsUtf8 (take l.word-index l.words)
