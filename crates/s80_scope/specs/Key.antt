-- Sets of keys, as they are kept.
use Rattle.std.specs.Prelude.{◌≡◌, ℕ, map, Vec}
use Rattle.std.specs.Global.{Global}
use Rattle.std.specs.BTreeSet.{BTreeSet, btree_set_len}
use Rattle.std.specs.FinSet as set
use Rattle.s80_scope.specs.FitLiterals.{Keys}

abbrev pub keys_of : BTreeSet (Vec ℕ Global) → Keys
keys_of s = set.from_list (map (λ k. k.items) s.keys)

-- it has no key twice
abbrev pub IsCounted : BTreeSet (Vec ℕ Global) → Type 0
IsCounted s = btree_set_len s ≡ set.len (keys_of s)
