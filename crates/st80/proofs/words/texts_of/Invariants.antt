use Rattle.std.proofs.Common.{◌≡◌, ◌++◌, map}
use Rattle.std.specs.Prelude.{string_bytes}
use Rattle.std.specs.Vec.Iter.{into_iter_items}
use Rattle.st80.proofs.words.texts_of.Given as goal

-- the texts so far, and then those of the words that are left
abbrev pub invariant-loop-word : goal.invariant-loop-word
invariant-loop-word l = l.texts.items ++ map string_bytes (into_iter_items l.word-iterator) ≡ map string_bytes (into_iter_items l.initial.word-iterator)
