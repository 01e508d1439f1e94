use Rattle.std.proofs.Common.{◌≡◌, take, map as list_map}
use Rattle.s80_class.specs.Kept.{names_of, name_at}
use Rattle.s80_class.proofs.tree.ClassTree.names_sorted.Given as goal

abbrev pub invariant-loop-number : goal.invariant-loop-number
invariant-loop-number l = l.names ≡ list_map (name_at (names_of l.self-inside.entries.items)) (take l.number-index l.number-items)
