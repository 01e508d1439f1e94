-- Names that are declared at a place.
use Rattle.std.proofs.Common.{◌≡◌, ℕ, Bool, ◌||◌, List, [], ◌∷◌, ◌++◌, ap, sym, ◌∙◌}
use Rattle.std.proofs.lemmas.List.{append-nil, append_assoc}
use Rattle.s80_tree.specs.declared.name.NameAt.{NameAt}
use Rattle.s80_syntax.specs.Word.{has_name, names_in}
use Rattle.s80_scope.specs.FitLiterals.{declares, name_entries, target_entries}
use Rattle.s80_scope.specs.Scope.{has_either}

-- names in a set, and those around them
pub declares_more : (declared inner outer : List ℕ → Bool) (names : List NameAt) (around : List ℕ → Bool) → declared ≡ has_either inner outer → inner ≡ has_name (names_in names) → outer ≡ around → declared ≡ declares names around
declares_more declared inner outer names around e p q = e ∙ (λ i word. p i word || q i word)

-- targets are passed from the right
pub target_last : (declared : List ℕ → Bool) (ns : List NameAt) (n : NameAt) → target_entries declared (ns ++ n ∷ []) ≡ name_entries declared n.name ++ target_entries declared ns
target_last declared [] n = sym (append-nil (name_entries declared n.name))
target_last declared (m ∷ ns) n =
    ap (λ es. es ++ name_entries declared m.name) (target_last declared ns n)
    ∙ append_assoc (name_entries declared n.name) (target_entries declared ns) (name_entries declared m.name)
