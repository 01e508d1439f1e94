-- Which elements lists have.
use Rattle.std.proofs.Common.{◌≡◌, ◌⊎◌, ◌∙◌, ◌++◌, ◌↔◌, ◌||◌, ◌+◌, inl, inr, cond, ℕ, Bool, true, false, true≢false, refl, sym, ap, subst, List, [], ◌∷◌, Some, take, map, arith}
use Rattle.std.specs.Prelude.{slice_get}
use Rattle.std.specs.List.{Contains, filter, flat_map, list_any}
use Rattle.std.proofs.lemmas.List.Elements.{Contains-append_cases, Contains-append_left, Contains-append_right, Contains-push_cases}
use Rattle.std.proofs.lemmas.List.Folds.{list_any-append}
use Rattle.s80_xref.proofs.Taking.{take_next}

-- ---- one after the other

module _ {X : Type 0} where
  pub in_none : (y : X) → Contains [] y → ⊥
  in_none y (k, less, at) = absurd (omega (arith, less))

  pub only : (x y : X) → Contains (x ∷ []) y ↔ (x ≡ y)
  only x y = (λ has. by_case (Contains-push_cases [] x y has), λ same. (0, omega arith, same))
    where
      by_case : Contains [] y ⊎ (x ≡ y) → x ≡ y
      by_case (inl none) = absurd (in_none y none)
      by_case (inr same) = same

  pub here : (x : X) (xs : List X) → Contains (x ∷ xs) x
  here x xs = (0, omega arith, refl)

  pub later : (x : X) (xs : List X) (y : X) → Contains xs y → Contains (x ∷ xs) y
  later x xs y has = Contains-append_right (x ∷ []) xs y has

  pub one_of : (x : X) (xs : List X) (y : X) → Contains (x ∷ xs) y → (x ≡ y) ⊎ Contains xs y
  one_of x xs y has = by_case (Contains-append_cases (x ∷ []) xs y has)
    where
      by_case : Contains (x ∷ []) y ⊎ Contains xs y → (x ≡ y) ⊎ Contains xs y
      by_case (inl first) = inl ((only x y).0 first)
      by_case (inr rest) = inr rest

-- ---- those that pass a test

pub or_case : (b r : Bool) → (b || r) ≡ true → (b ≡ true) ⊎ (r ≡ true)
or_case true r is = inl refl
or_case false r is = inr is

pub or_true : (b : Bool) → (b || true) ≡ true
or_true true = refl
or_true false = refl

module _ {X : Type 0} (p : X → Bool) where
  pub any_found : (xs : List X) → list_any p xs ≡ true → (x : X) × Contains xs x × (p x ≡ true)
  any_found [] none = absurd (true≢false (sym none))
  any_found (x ∷ xs) is = by_case (or_case (p x) (list_any p xs) is) (any_found xs)
    where
      by_case : (p x ≡ true) ⊎ (list_any p xs ≡ true) → (list_any p xs ≡ true → (y : X) × Contains xs y × (p y ≡ true)) → (y : X) × Contains (x ∷ xs) y × (p y ≡ true)
      by_case (inl first) found = (x, here x xs, first)
      by_case (inr rest) found = let f = found rest in (f.0, later x xs f.0 f.1, f.2)

  pub any_there : (xs : List X) (y : X) → Contains xs y → p y ≡ true → list_any p xs ≡ true
  any_there [] y has is = absurd (in_none y has)
  any_there (x ∷ xs) y has is = by_case (one_of x xs y has) (any_there xs y)
    where
      by_case : (x ≡ y) ⊎ Contains xs y → (Contains xs y → p y ≡ true → list_any p xs ≡ true) → (p x || list_any p xs) ≡ true
      by_case (inl same) found = ap (λ z. p z || list_any p xs) same ∙ ap (λ b. b || list_any p xs) is
      by_case (inr rest) found = ap (λ b. p x || b) (found rest is) ∙ or_true (p x)

  or_false : (b : Bool) → (b || false) ≡ b
  or_false true = refl
  or_false false = refl

  pub any_next : (xs : List X) (i : ℕ) (x : X) → slice_get xs i ≡ Some x → list_any p (take (i + 1) xs) ≡ (list_any p (take i xs) || p x)
  any_next xs i x at = ap (list_any p) (take_next xs i x at) ∙ list_any-append p (take i xs) (x ∷ []) ∙ ap (λ b. list_any p (take i xs) || b) (or_false (p x))

  pub passes : (xs : List X) (y : X) → Contains (filter p xs) y → Contains xs y × (p y ≡ true)
  passes [] y has = absurd (in_none y has)
  passes (x ∷ xs) y has = by_test (p x) refl has (passes xs y)
    where
      by_test : (b : Bool) → p x ≡ b → Contains (cond b (x ∷ filter p xs) (filter p xs)) y → (Contains (filter p xs) y → Contains xs y × (p y ≡ true)) → Contains (x ∷ xs) y × (p y ≡ true)
      by_test true is among found = by_case (one_of x (filter p xs) y among)
        where
          by_case : (x ≡ y) ⊎ Contains (filter p xs) y → Contains (x ∷ xs) y × (p y ≡ true)
          by_case (inl same) = (subst (Contains (x ∷ xs)) same (here x xs), ap p (sym same) ∙ is)
          by_case (inr rest) = (later x xs y (found rest).0, (found rest).1)
      by_test false is among found = (later x xs y (found among).0, (found among).1)

  pub is_kept : (xs : List X) (y : X) → Contains xs y → p y ≡ true → Contains (filter p xs) y
  is_kept [] y has is = absurd (in_none y has)
  is_kept (x ∷ xs) y has is = by_test (p x) refl (one_of x xs y has) (is_kept xs y)
    where
      by_test : (b : Bool) → p x ≡ b → (x ≡ y) ⊎ Contains xs y → (Contains xs y → p y ≡ true → Contains (filter p xs) y) → Contains (cond b (x ∷ filter p xs) (filter p xs)) y
      by_test true test (inl same) found = subst (Contains (x ∷ filter p xs)) same (here x (filter p xs))
      by_test true test (inr rest) found = later x (filter p xs) y (found rest is)
      by_test false test (inl same) found = absurd (true≢false (sym is ∙ ap p (sym same) ∙ test))
      by_test false test (inr rest) found = found rest is

-- ---- what is made of each

module _ {X Y : Type 0} where
  pub of_each : (f : X → Y) (xs : List X) (x : X) → Contains xs x → Contains (map f xs) (f x)
  of_each f [] x has = absurd (in_none x has)
  of_each f (y ∷ ys) x has = by_case (one_of y ys x has) (of_each f ys x)
    where
      by_case : (y ≡ x) ⊎ Contains ys x → (Contains ys x → Contains (map f ys) (f x)) → Contains (f y ∷ map f ys) (f x)
      by_case (inl same) found = subst (λ z. Contains (f y ∷ map f ys) (f z)) same (here (f y) (map f ys))
      by_case (inr rest) found = later (f y) (map f ys) (f x) (found rest)

  pub made_of : (f : X → Y) (xs : List X) (y : Y) → Contains (map f xs) y → (x : X) × Contains xs x × (f x ≡ y)
  made_of f [] y has = absurd (in_none y has)
  made_of f (x ∷ xs) y has = by_case (one_of (f x) (map f xs) y has) (made_of f xs y)
    where
      by_case : (f x ≡ y) ⊎ Contains (map f xs) y → (Contains (map f xs) y → (z : X) × Contains xs z × (f z ≡ y)) → (z : X) × Contains (x ∷ xs) z × (f z ≡ y)
      by_case (inl same) found = (x, here x xs, same)
      by_case (inr rest) found = let m = found rest in (m.0, later x xs m.0 m.1, m.2)

  pub in_piece : (f : X → List Y) (xs : List X) (x : X) (y : Y) → Contains xs x → Contains (f x) y → Contains (flat_map f xs) y
  in_piece f [] x y has among = absurd (in_none x has)
  in_piece f (z ∷ zs) x y has among = by_case (one_of z zs x has) (in_piece f zs x y)
    where
      by_case : (z ≡ x) ⊎ Contains zs x → (Contains zs x → Contains (f x) y → Contains (flat_map f zs) y) → Contains (f z ++ flat_map f zs) y
      by_case (inl same) found = Contains-append_left (f z) (flat_map f zs) y (subst (λ w. Contains (f w) y) (sym same) among)
      by_case (inr rest) found = Contains-append_right (f z) (flat_map f zs) y (found rest among)
