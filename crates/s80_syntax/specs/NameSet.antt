-- Which words a set of names has.
use Rattle.std.specs.Prelude.{ℕ, List, Bool}
use Rattle.std.specs.BTreeSet.{contains_by}
use Rattle.std.specs.Cmp.Lexicographic.{slice_cmp}
use Rattle.std.specs.Ordering.{nat_cmp}
use Rattle.s80_syntax.specs.declared.name_set.NameSet.{NameSet}

abbrev pub has_word : NameSet → List ℕ → Bool
has_word set word = contains_by (λ key. slice_cmp nat_cmp word key.items) set.words
