-- The lines of the categories seen were added.
use Rattle.std.proofs.Common.{◌≡◌, ◌++◌, map}
use Rattle.std.specs.Map.Iter.{deref_pair}
use Rattle.s80_model.specs.Entries.{shown}
use Rattle.s80_model.proofs.Categories.{added}
use Rattle.s80_model.proofs.browse.add_category_lines.Given as goal

abbrev pub invariant-loop-category : goal.invariant-loop-category
invariant-loop-category l = l.text ≡ l.initial.text ++ added l.word (shown (map deref_pair l.yielded))
