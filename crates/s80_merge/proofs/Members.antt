-- Which elements lists have.
use Rattle.std.proofs.Common.{◌≡◌, ◌⊎◌, inl, inr, refl, List, [], ◌∷◌, arith}
use Rattle.std.specs.List.{Contains}
use Rattle.std.proofs.lemmas.List.Elements.{Contains-append_cases, Contains-append_right, Contains-push_cases}

module _ {X : Type 0} where
  pub in_none : (y : X) → Contains [] y → ⊥
  in_none y (k, less, at) = absurd (omega (arith, less))

  pub here : (x : X) (xs : List X) → Contains (x ∷ xs) x
  here x xs = (0, omega arith, refl)

  pub later : (x : X) (xs : List X) (y : X) → Contains xs y → Contains (x ∷ xs) y
  later x xs y has = Contains-append_right (x ∷ []) xs y has

  pub one_of : (x : X) (xs : List X) (y : X) → Contains (x ∷ xs) y → (x ≡ y) ⊎ Contains xs y
  one_of x xs y has = by_case (Contains-append_cases (x ∷ []) xs y has)
    where
      only : Contains [] y ⊎ (x ≡ y) → (x ≡ y) ⊎ Contains xs y
      only (inl none) = absurd (in_none y none)
      only (inr same) = inl same

      by_case : Contains (x ∷ []) y ⊎ Contains xs y → (x ≡ y) ⊎ Contains xs y
      by_case (inl first) = only (Contains-push_cases [] x y first)
      by_case (inr rest) = inr rest
