-- Those of a list of which something holds.
use Rattle.std.proofs.Common.{◌≡◌, ◌∙◌, ◌+◌, ◌≤◌, ◌++◌, inl, inr, cond, ℕ, Bool, true, false, true≢false, refl, sym, ap, subst, List, [], ◌∷◌, Some, length, take, map, append_assoc, append-nil, arith}
use Rattle.std.specs.Prelude.{slice_get}
use Rattle.std.specs.List.{Contains, filter, flat_map}
use Rattle.std.proofs.lemmas.List.{take_all}
use Rattle.std.proofs.lemmas.List.Concat.{flat_map-append}
use Rattle.std.proofs.lemmas.List.Elements.{Contains-append_right}
use Rattle.s80_xref.specs.Found.{Finds}
use Rattle.s80_xref.specs.Places.{AreThose}
use Rattle.s80_xref.proofs.Taking.{take_next}

pub those_append : {X : Type 0} (P : X → Type 0) (xs ys found more : List X) → AreThose P xs found → AreThose P ys more → AreThose P (xs ++ ys) (found ++ more)
those_append P [] ys found more none rest = subst (λ l. AreThose P ys (l ++ more)) (sym none) rest
those_append P (x ∷ xs) ys found more (inl (holds, (later, is, those))) rest = inl (holds, (later ++ more, ap (λ l. l ++ more) is, those_append P xs ys later more those rest))
those_append P (x ∷ xs) ys found more (inr (fails, those)) rest = inr (fails, those_append P xs ys found more those rest)

-- a test tells whether it holds
abbrev pub Decides : Bool → Type 0 → Type 0
Decides true P = P
Decides false P = P → ⊥

pub decided : (b : Bool) (P : Type 0) → Decides b P → P → b ≡ true
decided true P holds p = refl
decided false P fails p = absurd (fails p)

pub decides_true : (b : Bool) (P : Type 0) → b ≡ true → Decides b P → P
decides_true true P is holds = holds
decides_true false P is fails = absurd (true≢false (sym is))

pub those_passing : {X Y : Type 0} (P : Y → Type 0) (test : X → Bool) (f : X → Y) (xs : List X) → ((x : X) → Contains xs x → Decides (test x) (P (f x))) → AreThose P (map f xs) (map f (filter test xs))
those_passing P test f [] tells = refl
those_passing {X} {Y} P test f (x ∷ xs) tells = by_test (test x) (tells x (0, omega arith, refl)) (those_passing P test f xs (λ y among. tells y (Contains-append_right (x ∷ []) xs y among)))
  where
    by_test : (b : Bool) → Decides b (P (f x)) → AreThose P (map f xs) (map f (filter test xs)) → AreThose P (map f (x ∷ xs)) (map f (cond b (x ∷ filter test xs) (filter test xs)))
    by_test true holds those = inl (holds, (map f (filter test xs), refl, those))
    by_test false fails those = inr (fails, those)

-- ---- a loop

module _ {X Y : Type 0} (P : Y → Type 0) (f : X → List Y) (xs : List X) where
  pub those_next : (i : ℕ) (x : X) (one other now then_now new : List Y) → slice_get xs i ≡ Some x → f x ≡ one ++ (other ++ []) → AreThose P (flat_map f (take i xs)) now → Finds P one now then_now → Finds P other then_now new → AreThose P (flat_map f (take (i + 1) xs)) new
  those_next i x one other now then_now new at is those (more, more_is, are_more) (most, most_is, are_most) =
      let both : new ≡ now ++ (more ++ most) = most_is ∙ ap (λ l. l ++ most) more_is ∙ append_assoc now more most in
      let all : flat_map f (take i xs) ++ (one ++ other) ≡ flat_map f (take (i + 1) xs) =
      ap (λ l. flat_map f (take i xs) ++ l) (ap (λ l. one ++ l) (sym (append-nil other)) ∙ sym is ∙ sym (append-nil (f x))) ∙ sym (flat_map-append f (take i xs) (x ∷ [])) ∙ ap (flat_map f) (sym (take_next xs i x at))
      in
      subst (λ l. AreThose P l new) all (subst (AreThose P (flat_map f (take i xs) ++ (one ++ other))) (sym both) (those_append P (flat_map f (take i xs)) (one ++ other) now (more ++ most) those (those_append P one other more most are_more are_most)))

  pub those_all : (i : ℕ) (now : List Y) → length xs ≤ i → AreThose P (flat_map f (take i xs)) now → AreThose P (flat_map f xs) now
  those_all i now past those = subst (λ l. AreThose P (flat_map f l) now) (take_all i xs past) those
