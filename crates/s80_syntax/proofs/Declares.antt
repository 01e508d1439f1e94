-- Names with their places.
use Rattle.std.proofs.Common.{◌≡◌, ℕ, List, [], ◌∷◌, ◌||◌, refl, ap}
use Rattle.std.specs.List.{list_any}
use Rattle.std.specs.Str.{bytes_eq}
use Rattle.s80_tree.specs.declared.name.NameAt.{NameAt}
use Rattle.s80_syntax.specs.Word.{has_name, names_in}

-- a name is among others where it is that of one of them
pub any_name : (names : List NameAt) (word : List ℕ) → has_name (names_in names) word ≡ list_any (λ n. bytes_eq word n.name) names
any_name [] word = refl
any_name (n ∷ names) word = ap (λ x. bytes_eq word n.name || x) (any_name names word)
