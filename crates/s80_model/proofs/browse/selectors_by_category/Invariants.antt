-- The lines are those of the selectors seen.
use Rattle.std.proofs.Common.{take}
use Rattle.s80_model.specs.Entries.{category_in}
use Rattle.s80_model.proofs.Categories.{HasLines}
use Rattle.s80_model.proofs.browse.selectors_by_category.Given as goal

abbrev pub invariant-loop-i : goal.invariant-loop-i
invariant-loop-i l = HasLines (category_in l.methods.methods) (take l.i l.selectors-inside.names.items) l.lines.entries
