-- The first name of a list that fails a test, as a loop looks for it.
use Rattle.std.proofs.Common.{◌≡◌, ◌+◌, ◌∙◌, ℕ, Bool, cond, true, false, sym, ap, List, ◌∷◌, drop, ◌++◌, Option, Some, None, add-one}
use Rattle.std.specs.List.{find, slice_get}
use Rattle.std.specs.Option.{option_or}
use Rattle.std.proofs.Math.Seq.{drop-cons}
use Rattle.std.proofs.lemmas.List.Folds.{find-append}
use Rattle.std.proofs.lemmas.Option.{slice_get_within, get_or_from_slice_get}

pub rest_at : {X : Type 0} (xs : List X) (i : ℕ) (x : X) → slice_get xs i ≡ Some x → drop i xs ≡ x ∷ drop (i + 1) xs
rest_at xs i x is = drop-cons xs i x (slice_get_within xs i x is) ∙ (λ j. get_or_from_slice_get xs i x x is j ∷ drop (sym (add-one i) j) xs)

pub find_here : {X : Type 0} (p : X → Bool) (xs : List X) (i : ℕ) (x : X) → slice_get xs i ≡ Some x → p x ≡ true → find p (drop i xs) ≡ find p xs → Some x ≡ find p xs
find_here p xs i x is passes so_far = ap (λ b. cond b (Some x) (find p (drop (i + 1) xs))) (sym passes) ∙ ap (find p) (sym (rest_at xs i x is)) ∙ so_far

pub find_later : {X : Type 0} (p : X → Bool) (xs : List X) (i : ℕ) (x : X) → slice_get xs i ≡ Some x → p x ≡ false → find p (drop i xs) ≡ find p xs → find p (drop (i + 1) xs) ≡ find p xs
find_later p xs i x is fails so_far = ap (λ b. cond b (Some x) (find p (drop (i + 1) xs))) (sym fails) ∙ ap (find p) (sym (rest_at xs i x is)) ∙ so_far

-- ---- the first in one of three lists

pub in_first : {X : Type 0} (p : X → Bool) (xs ys zs : List X) (x : X) → find p xs ≡ Some x → Some x ≡ find p (xs ++ (ys ++ zs))
in_first p xs ys zs x is = ap (λ o. option_or o (find p (ys ++ zs))) (sym is) ∙ sym (find-append p xs (ys ++ zs))

pub in_second : {X : Type 0} (p : X → Bool) (xs ys zs : List X) (x : X) → find p xs ≡ None → find p ys ≡ Some x → Some x ≡ find p (xs ++ (ys ++ zs))
in_second p xs ys zs x none is =
    ap (λ o. option_or o (find p zs)) (sym is) ∙ sym (find-append p ys zs) ∙ ap (λ o. option_or o (find p (ys ++ zs))) (sym none) ∙ sym (find-append p xs (ys ++ zs))

pub in_third : {X : Type 0} (p : X → Bool) (xs ys zs : List X) (o : Option X) → find p xs ≡ None → find p ys ≡ None → o ≡ find p zs → o ≡ find p (xs ++ (ys ++ zs))
in_third p xs ys zs o none nor is =
    is ∙ ap (λ o. option_or o (find p zs)) (sym nor) ∙ sym (find-append p ys zs) ∙ ap (λ o. option_or o (find p (ys ++ zs))) (sym none) ∙ sym (find-append p xs (ys ++ zs))
