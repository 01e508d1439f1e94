-- The words so far are there.
use Rattle.std.proofs.Common.{◌≡◌, ◌||◌, ℕ, List, take}
use Rattle.std.specs.List.{list_any}
use Rattle.std.specs.Str.{bytes_eq}
use Rattle.s80_xref.proofs.word_set.WordSet.add.Given as goal

abbrev pub invariant-loop-i : goal.invariant-loop-i
invariant-loop-i l = (other : List ℕ) → list_any (bytes_eq other) l.self ≡ (list_any (bytes_eq other) l.fn.self || list_any (bytes_eq other) (take l.i l.words))
