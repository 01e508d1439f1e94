-- Selectors, as a test.
use Rattle.std.proofs.Common.{◌≡◌, ℕ, ◌⊎◌, inl, inr, Bool, true, false, ◌||◌, Option, Some, None, refl}
use Rattle.std.specs.Prelude.{List, ◌↔◌}
use Rattle.std.specs.Option.{is_some}
use Rattle.s80_lex.specs.Selector.{IsSelectorOf, is_name, is_binary, keywords_of}
use Rattle.s80_lex.proofs.lemmas.SelectorLemmas.{name_is, is_name_when, binary_is, is_binary_when, keywords_then, keywords_when}
use Rattle.s80_image.specs.Parts.{is_selector}

some_test : (a b : Bool) (k : Option ℕ) (n : ℕ) → (a ≡ true) ⊎ ((b ≡ true) ⊎ (k ≡ Some n)) → true ≡ (a || b || is_some k)
some_test true b k n h = refl
some_test false true k n h = refl
some_test false false (Some m) n h = refl
some_test false false None n (inl e) = absurd cc
some_test false false None n (inr (inl e)) = absurd cc
some_test false false None n (inr (inr e)) = absurd cc

none_test : (a b : Bool) (k : Option ℕ) → (a ≡ true → ⊥) → (b ≡ true → ⊥) → ((n : ℕ) → k ≡ Some n → ⊥) → false ≡ (a || b || is_some k)
none_test true b k p q r = absurd (p refl)
none_test false true k p q r = absurd (q refl)
none_test false false (Some n) p q r = absurd (r n refl)
none_test false false None p q r = refl

pub tests_selector : (found : Option ℕ) (word : List ℕ) → ((n : ℕ) → (found ≡ Some n) ↔ IsSelectorOf n word) → is_some found ≡ is_selector word
tests_selector (Some n) word h = some_test (is_name word) (is_binary word) (keywords_of word) n (which ((h n).0 refl))
  where
    which : IsSelectorOf n word → (is_name word ≡ true) ⊎ ((is_binary word ≡ true) ⊎ (keywords_of word ≡ Some n))
    which (inl (p, e)) = inl (is_name_when word p)
    which (inr (inl (p, e))) = inr (inl (is_binary_when word p))
    which (inr (inr p)) = inr (inr (keywords_when n word p))
tests_selector None word h = none_test (is_name word) (is_binary word) (keywords_of word)
    (λ e. no 0 ((h 0).1 (inl (name_is word e, refl))))
    (λ e. no 1 ((h 1).1 (inr (inl (binary_is word e, refl)))))
    (λ n e. no n ((h n).1 (inr (inr (keywords_then n word e)))))
  where
    no : (n : ℕ) → None ≡ Some n → ⊥
    no n e = cc
