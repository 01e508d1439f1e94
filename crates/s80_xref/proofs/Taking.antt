-- Lists of those that pass a test, one more at a time.
use Rattle.std.proofs.Common.{◌≡◌, ◌∙◌, ◌+◌, ◌≤◌, ◌++◌, cond, ℕ, suc, zero, Bool, true, false, refl, sym, ap, List, [], ◌∷◌, Some, length, take, map, append_assoc, append-nil, arith}
use Rattle.std.specs.Prelude.{slice_get}
use Rattle.std.specs.List.{filter}
use Rattle.std.proofs.lemmas.List.{take_all}

taken_further : {X : Type 0} (xs : List X) (i : ℕ) (x : X) → slice_get xs i ≡ Some x → take (suc i) xs ≡ take i xs ++ x ∷ []
taken_further [] i x at = absurd (cc)
taken_further (y ∷ ys) zero x at = let same : y ≡ x = cc in ap (λ z. z ∷ []) same
taken_further (y ∷ ys) (suc i) x at = ap (λ l. y ∷ l) (taken_further ys i x at)

pub take_next : {X : Type 0} (xs : List X) (i : ℕ) (x : X) → slice_get xs i ≡ Some x → take (i + 1) xs ≡ take i xs ++ x ∷ []
take_next xs i x at = let on : i + 1 ≡ suc i = omega arith in ap (λ n. take n xs) on ∙ taken_further xs i x at

module _ {X Y : Type 0} (test : X → Bool) (f : X → Y) where
  passing : (xs ys : List X) → map f (filter test (xs ++ ys)) ≡ map f (filter test xs) ++ map f (filter test ys)
  passing [] ys = refl
  passing (x ∷ xs) ys =
      elim (test x) as (λ b. map f (cond b (x ∷ filter test (xs ++ ys)) (filter test (xs ++ ys))) ≡ map f (cond b (x ∷ filter test xs) (filter test xs)) ++ map f (filter test ys)) [
        | true ↦ ap (λ l. f x ∷ l) (passing xs ys)
        | false ↦ passing xs ys
      ]

  module _ (xs : List X) (i : ℕ) (x : X) (before now new : List Y) (at : slice_get xs i ≡ Some x) (so : now ≡ before ++ map f (filter test (take i xs))) where
    one_more : new ≡ now ++ map f (cond (test x) (x ∷ []) []) → new ≡ before ++ map f (filter test (take (i + 1) xs))
    one_more more =
        more ∙ ap (λ l. l ++ map f (cond (test x) (x ∷ []) [])) so ∙ append_assoc before (map f (filter test (take i xs))) (map f (cond (test x) (x ∷ []) []))
        ∙ ap (λ l. before ++ l) (sym (passing (take i xs) (x ∷ [])) ∙ ap (λ l. map f (filter test l)) (sym (take_next xs i x at)))

    pub one_passes : test x ≡ true → new ≡ now ++ f x ∷ [] → new ≡ before ++ map f (filter test (take (i + 1) xs))
    one_passes is more = one_more (more ∙ ap (λ b. now ++ map f (cond b (x ∷ []) [])) (sym is))

    pub none_passes : test x ≡ false → new ≡ now → new ≡ before ++ map f (filter test (take (i + 1) xs))
    none_passes is same = one_more (same ∙ sym (append-nil now) ∙ ap (λ b. now ++ map f (cond b (x ∷ []) [])) (sym is))

  pub all_passed : (xs : List X) (i : ℕ) (before now : List Y) → length xs ≤ i → now ≡ before ++ map f (filter test (take i xs)) → now ≡ before ++ map f (filter test xs)
  all_passed xs i before now past so = so ∙ ap (λ l. before ++ map f (filter test l)) (take_all i xs past)
