-- Those of the selectors so far are there.
use Rattle.std.proofs.Common.{◌≡◌, ◌||◌, ℕ, List, take}
use Rattle.std.specs.FinMap as map
use Rattle.std.specs.List.{list_any}
use Rattle.std.specs.Str.{bytes_eq}
use Rattle.s80_xref.specs.Links.{is_linked}
use Rattle.s80_xref.proofs.words.add_linked.Given as goal

abbrev pub invariant-loop-i : goal.invariant-loop-i
invariant-loop-i l = (word : List ℕ) → list_any (bytes_eq word) l.words ≡ (list_any (bytes_eq word) l.fn.words || list_any (is_linked l.methods.methods l.link word) (take l.i (map.keys l.methods.methods)))
