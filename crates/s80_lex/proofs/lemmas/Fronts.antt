-- Fronts of a text.
use Rattle.std.proofs.Common.{◌≡◌, ℕ, ◌-◌, ◌≤◌, List, ◌++◌, take, drop, length, refl, ap, sym, ◌∙◌, subst, arith, length-append, take-append-drop}
use Rattle.std.proofs.lemmas.List.{take_rest, take_at, drop_at, length-take-le}
use Rattle.s80_lex.specs.Front.{IsMost, Lacks}

-- fronts of one length are one
pub split_same : (a b c d : List ℕ) → length a ≡ length c → a ++ b ≡ c ++ d → (a ≡ c) × (b ≡ d)
split_same a b c d e h = (
  sym (take_at a b (length a) refl) ∙ ap (take (length a)) h ∙ take_at c d (length a) (sym e),
  sym (drop_at a b (length a) refl) ∙ ap (drop (length a)) h ∙ drop_at c d (length a) (sym e),
)

-- what was found at &bytes[i..]
pub at_rest : {X : Type 0} (f : List ℕ → X) (bytes : List ℕ) (i : ℕ) (x : X) → x ≡ f (take (length bytes - i) (drop i bytes)) → f (drop i bytes) ≡ x
at_rest f bytes i x e = ap f (sym (take_rest bytes i)) ∙ sym e

module _ (P : List ℕ → List ℕ → Type 0) where
  -- a form by its words
  pub most_from : (word rest : List ℕ) → P word rest → ((w r : List ℕ) → w ++ r ≡ word ++ rest → P w r → length w ≤ length word) → (text : List ℕ) (n : ℕ) → text ≡ word ++ rest → n ≡ length word → IsMost P n text
  most_from word rest here longest text n t e =
      let most : IsMost P (length word) (word ++ rest) = record {
        fits = omega (arith, length-append word rest);
        here = subst (λ w. P w (drop (length word) (word ++ rest))) (sym (take_at word rest (length word) refl)) (subst (P word) (sym (drop_at word rest (length word) refl)) here);
        longest = longest;
      } in
      subst (λ m. IsMost P m text) (sym e) (subst (IsMost P (length word)) (sym t) most)

  -- the longest has one length
  most_least : (n m : ℕ) (text : List ℕ) → IsMost P n text → IsMost P m text → n ≤ m
  most_least n m text a b =
      let short : length (take n text) ≤ m = b.longest (take n text) (drop n text) (take-append-drop n text) a.here in
      omega (arith, length-take-le n text a.fits)

  pub most_unique : (n m : ℕ) (text : List ℕ) → IsMost P n text → IsMost P m text → n ≡ m
  most_unique n m text a b = omega (arith, most_least n m text a b, most_least m n text b a)

  pub most_none : (n : ℕ) (text : List ℕ) → IsMost P n text → Lacks P text → ⊥
  most_none n text a b = b (take n text) (drop n text) (take-append-drop n text) a.here
