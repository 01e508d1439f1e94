-- The words so far.
use Rattle.std.proofs.Common.{◌≡◌, map, Vec, Global, ℕ}
use Rattle.std.specs.Map.Iter.{deref}
use Rattle.s80_xref.proofs.word_set.WordSet.listed.Given as goal

abbrev pub invariant-loop-word : goal.invariant-loop-word
invariant-loop-word l = l.names ≡ map (λ (w : Vec ℕ Global). w.items) (map deref l.yielded)
