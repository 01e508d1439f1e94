-- Elements of lists: which stand there, and that none stands there twice.
use Rattle.std.proofs.Common.{◌≡◌, ◌≢◌, ◌⊎◌, inl, inr, ◌∙◌, ◌++◌, Bool, cond, true, false, refl, sym, ap, subst, List, [], ◌∷◌, map as list_map, filter}
use Rattle.std.specs.List.{flat_map}

abbrev pub IsIn : {X : Type 0} → X → List X → Type 0
IsIn x [] = ⊥
IsIn x (y ∷ ys) = (x ≡ y) ⊎ IsIn x ys

-- no two have the same key
abbrev pub AreApart : {X K : Type 0} → (X → K) → List X → Type 0
AreApart key [] = Unit {0}
AreApart {X} key (x ∷ xs) = ((y : X) → IsIn y xs → key y ≢ key x) × AreApart key xs

module _ {X : Type 0} where
  pub in_front : (x : X) (xs ys : List X) → IsIn x xs → IsIn x (xs ++ ys)
  in_front x [] ys at = absurd at
  in_front x (y ∷ xs) ys (inl same) = inl same
  in_front x (y ∷ xs) ys (inr more) = inr (in_front x xs ys more)

  pub in_back : (x : X) (xs ys : List X) → IsIn x ys → IsIn x (xs ++ ys)
  in_back x [] ys at = at
  in_back x (y ∷ xs) ys at = inr (in_back x xs ys at)

  pub in_either : (x : X) (xs ys : List X) → IsIn x (xs ++ ys) → IsIn x xs ⊎ IsIn x ys
  in_either x [] ys at = inr at
  in_either x (y ∷ xs) ys (inl same) = inl (inl same)
  in_either x (y ∷ xs) ys (inr more) = elim (in_either x xs ys more) as (λ _. IsIn x (y ∷ xs) ⊎ IsIn x ys) [
    | inl first ↦ inl (inr first)
    | inr second ↦ inr second
  ]

  -- ---- those that pass a test

  kept : (x y : X) (xs : List X) (b : Bool) → IsIn x (cond b (y ∷ xs) xs) → (x ≡ y) ⊎ IsIn x xs
  kept x y xs true at = at
  kept x y xs false at = inr at

  pub filtered_in : (p : X → Bool) (x : X) (xs : List X) → IsIn x (filter p xs) → IsIn x xs
  filtered_in p x [] at = at
  filtered_in p x (y ∷ xs) at = elim (kept x y (filter p xs) (p y) at) as (λ _. (x ≡ y) ⊎ IsIn x xs) [
    | inl same ↦ inl same
    | inr more ↦ inr (filtered_in p x xs more)
  ]

  keeps : (x y : X) (xs : List X) (b : Bool) → IsIn x xs → IsIn x (cond b (y ∷ xs) xs)
  keeps x y xs true at = inr at
  keeps x y xs false at = at

  pub in_filtered : (p : X → Bool) (x : X) (xs : List X) → p x ≡ true → IsIn x xs → IsIn x (filter p xs)
  in_filtered p x [] passes at = at
  in_filtered p x (y ∷ xs) passes (inl same) = subst (λ b. IsIn x (cond b (y ∷ filter p xs) (filter p xs))) (sym (ap p (sym same) ∙ passes)) (inl same)
  in_filtered p x (y ∷ xs) passes (inr more) = keeps x y (filter p xs) (p y) (in_filtered p x xs passes more)

  passed : (p : X → Bool) (x y : X) (xs : List X) → (IsIn x xs → p x ≡ true) → p y ≡ true → (x ≡ y) ⊎ IsIn x xs → p x ≡ true
  passed p x y xs rest passes (inl same) = ap p same ∙ passes
  passed p x y xs rest passes (inr more) = rest more

  pub filter_passed : (p : X → Bool) (x : X) (xs : List X) → IsIn x (filter p xs) → p x ≡ true
  filter_passed p x [] at = absurd at
  filter_passed p x (y ∷ xs) at = elim (p y) as (λ b. p y ≡ b → IsIn x (cond b (y ∷ filter p xs) (filter p xs)) → p x ≡ true) [
    | true ↦ λ passes at. passed p x y (filter p xs) (filter_passed p x xs) passes at
    | false ↦ λ _ at. filter_passed p x xs at
  ] refl at

  pub filter_apart : {K : Type 0} (key : X → K) (p : X → Bool) (xs : List X) → AreApart key xs → AreApart key (filter p xs)
  filter_apart key p [] all = tt
  filter_apart key p (x ∷ xs) all = elim (p x) as (λ b. AreApart key (cond b (x ∷ filter p xs) (filter p xs))) [
    | true ↦ (λ y at. all.0 y (filtered_in p y xs at), filter_apart key p xs all.1)
    | false ↦ filter_apart key p xs all.1
  ]

  pub apart_append : {K : Type 0} (key : X → K) (xs ys : List X) → AreApart key xs → AreApart key ys → ((x y : X) → IsIn x xs → IsIn y ys → key y ≢ key x) → AreApart key (xs ++ ys)
  apart_append key [] ys first second across = second
  apart_append key (x ∷ xs) ys first second across = (
    λ y at. elim (in_either y xs ys at) as (λ _. key y ≢ key x) [
      | inl here ↦ first.0 y here
      | inr there ↦ across x y (inl refl) there
    ],
    apart_append key xs ys first.1 second (λ u v at there. across u v (inr at) there),
  )

-- ---- those that a function gives

module _ {X Y : Type 0} (f : X → Y) where
  pub in_mapped : (x : X) (xs : List X) → IsIn x xs → IsIn (f x) (list_map f xs)
  in_mapped x [] at = absurd at
  in_mapped x (y ∷ xs) (inl same) = inl (ap f same)
  in_mapped x (y ∷ xs) (inr more) = inr (in_mapped x xs more)

  pub mapped_in : (y : Y) (xs : List X) → IsIn y (list_map f xs) → (x : X) × IsIn x xs × (y ≡ f x)
  mapped_in y [] at = absurd at
  mapped_in y (x ∷ xs) (inl same) = (x, inl refl, same)
  mapped_in y (x ∷ xs) (inr more) = let rest = mapped_in y xs more in (rest.0, inr rest.1, rest.2)

  pub apart_mapped : {K : Type 0} (key : Y → K) (xs : List X) → AreApart (λ x. key (f x)) xs → AreApart key (list_map f xs)
  apart_mapped key [] all = tt
  apart_mapped key (x ∷ xs) all = (λ y at same. let z = mapped_in y xs at in all.0 z.0 z.1 (ap key (sym z.2) ∙ same), apart_mapped key xs all.1)

module _ {X Y : Type 0} (f : X → List Y) where
  pub in_flat : (x : X) (y : Y) (xs : List X) → IsIn x xs → IsIn y (f x) → IsIn y (flat_map f xs)
  in_flat x y [] at here = absurd at
  in_flat x y (z ∷ xs) (inl same) here = in_front y (f z) (flat_map f xs) (subst (λ k. IsIn y (f k)) same here)
  in_flat x y (z ∷ xs) (inr more) here = in_back y (f z) (flat_map f xs) (in_flat x y xs more here)

  pub flat_in : (y : Y) (xs : List X) → IsIn y (flat_map f xs) → (x : X) × IsIn x xs × IsIn y (f x)
  flat_in y [] at = absurd at
  flat_in y (x ∷ xs) at = elim (in_either y (f x) (flat_map f xs) at) as (λ _. (z : X) × IsIn z (x ∷ xs) × IsIn y (f z)) [
    | inl first ↦ (x, inl refl, first)
    | inr second ↦ let rest = flat_in y xs second in (rest.0, inr rest.1, rest.2)
  ]

  -- where lists of different elements share no key
  pub apart_flat : {J K : Type 0} (of : X → J) (key : Y → K) (xs : List X) → AreApart of xs → ((x : X) → IsIn x xs → AreApart key (f x))
      → ((x z : X) (y w : Y) → IsIn x xs → IsIn z xs → of z ≢ of x → IsIn y (f x) → IsIn w (f z) → key w ≢ key y) → AreApart key (flat_map f xs)
  apart_flat of key [] all each across = tt
  apart_flat of key (x ∷ xs) all each across =
      apart_append key (f x) (flat_map f xs) (each x (inl refl)) (apart_flat of key xs all.1 (λ z at. each z (inr at)) (λ u z y w at there. across u z y w (inr at) (inr there)))
      (λ y w at there. let z = flat_in w xs there in across x z.0 y w (inl refl) (inr z.1) (all.0 z.0 z.1) at z.2)

  -- where but one gives anything
  pub flat_none : (xs : List X) → ((x : X) → IsIn x xs → f x ≡ []) → flat_map f xs ≡ []
  flat_none [] none = refl
  flat_none (x ∷ xs) none = ap (λ ys. ys ++ flat_map f xs) (none x (inl refl)) ∙ flat_none xs (λ y at. none y (inr at))
