-- Pairs of a superclass and a class in their order: one more, and one less.
use Rattle.std.proofs.Common.{◌≡◌, ◌≢◌, ◌≤◌, ◌<◌, ◌∙◌, ◌⊎◌, inl, inr, ℕ, suc, zero, Bool, true, false, refl, sym, ap, subst, List, [], ◌∷◌, length, get_or, Option, Some, None, true≢false, arith, slice_get}
use Rattle.std.specs.List.{insert, remove}
use Rattle.std.specs.List.Sorted.{IsPartitionedBy, IsPartitionPoint}
use Rattle.std.specs.Option.{option_cmp}
use Rattle.std.specs.Ordering.{nat_cmp, is_lt, ordering_then, ordering_reverse}
use Rattle.std.specs.declared.cmp.Ordering.{Ordering}
use Rattle.std.specs.declared.cmp.Ordering.TheVariants.{Less, Equal, Greater}
use Rattle.std.specs.Cmp.{IsTotalOrder, tied_itself}
use Rattle.std.specs.Cmp.Lexicographic.{options_total}
use Rattle.std.specs.FinMap as map
use Rattle.std.proofs.lemmas.Bool.{cases_lt}
use Rattle.std.proofs.lemmas.Cmp.{then_total, on_total, nat_cmp_total}
use Rattle.std.proofs.lemmas.Option.{slice_get_within, slice_get-get_or, get_or_from_slice_get}
use Rattle.s80_class.specs.Below.{Pair, compared, comes_before, Has, IsOrdered, IsPlaceOf, IsWith, IsWithout, IsMoved}

-- ---- the order

compared_total : IsTotalOrder compared
compared_total = then_total (on_total (λ (p : Pair). p.0) (options_total nat_cmp_total)) (on_total (λ (p : Pair). p.1) nat_cmp_total)

then_equal : (r s : Ordering) → ordering_then r s ≡ Equal → (r ≡ Equal) × (s ≡ Equal)
then_equal Equal s h = (refl, h)
then_equal Less s h = absurd (let bad : Less ≡ Equal = h in cc)
then_equal Greater s h = absurd (let bad : Greater ≡ Equal = h in cc)

same_option : (a b : Option ℕ) → option_cmp nat_cmp a b ≡ Equal → a ≡ b
same_option None None h = refl
same_option None (Some b) h = absurd (let bad : Less ≡ Equal = h in cc)
same_option (Some a) None h = absurd (let bad : Greater ≡ Equal = h in cc)
same_option (Some a) (Some b) h = ap Some (map.nat_cmp-IsAntisymmetric a b h)

same_pair : (p q : Pair) → compared p q ≡ Equal → p ≡ q
same_pair p q h =
    let both = then_equal (option_cmp nat_cmp p.0 q.0) (nat_cmp p.1 q.1) h in
    let a = same_option p.0 q.0 both.0 in
    let b = map.nat_cmp-IsAntisymmetric p.1 q.1 both.1 in
    λ i. (a i, b i)

is_less : (r : Ordering) → is_lt r ≡ true → r ≡ Less
is_less Less e = refl
is_less Equal e = absurd (true≢false (sym e))
is_less Greater e = absurd (true≢false (sym e))

pub before_itself : (p : Pair) → comes_before p p ≡ false
before_itself p = ap is_lt (tied_itself compared_total p)

pub before_trans : (p q r : Pair) → comes_before p q ≡ true → comes_before q r ≡ true → comes_before p r ≡ true
before_trans p q r h g = ap is_lt (compared_total.trans p q r (is_less _ h) (is_less _ g))

pub other_side : (p q : Pair) → comes_before p q ≡ false → p ≢ q → comes_before q p ≡ true
other_side p q h ne = go (compared p q) refl
  where
    go : (r : Ordering) → compared p q ≡ r → comes_before q p ≡ true
    go Less e = absurd (true≢false (sym (ap is_lt e) ∙ h))
    go Equal e = absurd (ne (same_pair p q e))
    go Greater e = ap is_lt (compared_total.antisymm q p ∙ ap ordering_reverse e)

-- ---- a search

module _ (pairs : List Pair) (pair : Pair) where
  abbrev pub sought : Pair → Bool
  sought p = comes_before p pair

  pub parted : IsOrdered pairs → IsPartitionedBy sought pairs
  parted ordered i j d le within found =
      elim (cases_lt i j) as (λ _. sought (get_or pairs i d) ≡ true) [
        | inl lt ↦
            let here : slice_get pairs i ≡ Some (get_or pairs i d) = slice_get-get_or pairs i d (omega arith) in
            let there : slice_get pairs j ≡ Some (get_or pairs j d) = slice_get-get_or pairs j d within in
            before_trans (get_or pairs i d) (get_or pairs j d) pair (ordered i j (get_or pairs i d) (get_or pairs j d) lt here there) found
        | inr ge ↦ let same : i ≡ j = omega arith in ap (λ k. sought (get_or pairs k d)) same ∙ found
      ]

  pub placed : (place : ℕ) → place ≤ length pairs → IsPartitionPoint (λ y. sought y ≡ true) (λ y. sought y ≡ false) pairs place → IsPlaceOf pairs pair place
  placed place le both = record {
    within = le;
    before = λ k p lt is. ap sought (sym (get_or_from_slice_get pairs k p pair is)) ∙ both.0 k pair (omega arith) lt;
    behind = λ k p ge is. ap sought (sym (get_or_from_slice_get pairs k p pair is)) ∙ both.1 k pair ge (slice_get_within pairs k p is);
  }

-- a pair that is there stands at its place
pub place_there : (pairs : List Pair) (pair : Pair) (at k : ℕ) → IsOrdered pairs → IsPlaceOf pairs pair at → slice_get pairs k ≡ Some pair → at ≡ k
place_there pairs pair at k ordered place is =
    elim (cases_lt k at) as (λ _. at ≡ k) [
      | inl before ↦ absurd (true≢false (sym (place.before k pair before is) ∙ before_itself pair))
      | inr after ↦ elim (cases_lt at k) as (λ _. at ≡ k) [
        | inl lower ↦ lost lower
        | inr same ↦ omega arith
      ]
    ]
  where
    lost : at < k → at ≡ k
    lost lower = go (slice_get pairs at) refl
      where
        go : (o : Option Pair) → slice_get pairs at ≡ o → at ≡ k
        go None none = absurd (past pairs at k pair none lower is)
          where
            past : (xs : List Pair) (i j : ℕ) (p : Pair) → slice_get xs i ≡ None → i < j → slice_get xs j ≡ Some p → ⊥
            past [] i j p a lt b = cc
            past (x ∷ xs) zero j p a lt b = cc
            past (x ∷ xs) (suc i) zero p a lt b = absurd (omega arith)
            past (x ∷ xs) (suc i) (suc j) p a lt b = past xs i j p a (omega arith) b
        go (Some p) here = absurd (true≢false (sym (ordered at k p pair lower here is) ∙ place.behind at p (omega arith) here))

-- ---- an element more, or less

module _ {A : Type 0} where
  pub get_inserted : (xs : List A) (at : ℕ) (x : A) (k : ℕ) (y : A) → at ≤ length xs → slice_get (insert xs at x) k ≡ Some y
      → ((k < at) × (slice_get xs k ≡ Some y)) ⊎ (((k ≡ at) × (x ≡ y)) ⊎ ((j : ℕ) × (k ≡ suc j) × (at ≤ j) × (slice_get xs j ≡ Some y)))
  get_inserted xs zero x zero y le is = inr (inl (refl, cc))
  get_inserted xs zero x (suc k) y le is = inr (inr (k, refl, omega arith, is))
  get_inserted [] (suc at) x k y le is = absurd (omega arith)
  get_inserted (z ∷ xs) (suc at) x zero y le is = inl (omega arith, is)
  get_inserted (z ∷ xs) (suc at) x (suc k) y le is = elim (get_inserted xs at x k y (omega arith) is) [
    | inl h ↦ inl (omega (arith, h.0), h.1)
    | inr h ↦ elim h [
      | inl here ↦ inr (inl (omega (arith, here.0), here.1))
      | inr later ↦ inr (inr (suc later.0, omega (arith, later.1), omega (arith, later.2), later.3))
    ]
  ]

  pub inserted_there : (xs : List A) (at : ℕ) (x : A) → at ≤ length xs → slice_get (insert xs at x) at ≡ Some x
  inserted_there xs zero x le = refl
  inserted_there [] (suc at) x le = absurd (omega arith)
  inserted_there (z ∷ xs) (suc at) x le = inserted_there xs at x (omega arith)

  pub inserted_kept : (xs : List A) (at : ℕ) (x : A) (k : ℕ) (y : A) → slice_get xs k ≡ Some y → (j : ℕ) × (slice_get (insert xs at x) j ≡ Some y)
  inserted_kept xs zero x k y is = (suc k, is)
  inserted_kept [] (suc at) x k y is = absurd (let bad : None ≡ Some y = is in cc)
  inserted_kept (z ∷ xs) (suc at) x zero y is = (zero, is)
  inserted_kept (z ∷ xs) (suc at) x (suc k) y is = let r = inserted_kept xs at x k y is in (suc r.0, r.1)

  pub get_removed_at : (xs : List A) (at k : ℕ) (y : A) → slice_get (remove xs at) k ≡ Some y → ((k < at) × (slice_get xs k ≡ Some y)) ⊎ ((at ≤ k) × (slice_get xs (suc k) ≡ Some y))
  get_removed_at [] zero k y is = absurd (let bad : None ≡ Some y = is in cc)
  get_removed_at [] (suc at) k y is = absurd (let bad : None ≡ Some y = is in cc)
  get_removed_at (z ∷ xs) zero k y is = inr (omega arith, is)
  get_removed_at (z ∷ xs) (suc at) zero y is = inl (omega arith, is)
  get_removed_at (z ∷ xs) (suc at) (suc k) y is = elim (get_removed_at xs at k y is) [
    | inl h ↦ inl (omega (arith, h.0), h.1)
    | inr h ↦ inr (omega (arith, h.0), h.1)
  ]

  pub removed_others : (xs : List A) (at k : ℕ) (y : A) → slice_get xs k ≡ Some y → k ≢ at → (j : ℕ) × (slice_get (remove xs at) j ≡ Some y)
  removed_others [] at k y is ne = absurd (let bad : None ≡ Some y = is in cc)
  removed_others (z ∷ xs) zero zero y is ne = absurd (ne refl)
  removed_others (z ∷ xs) zero (suc k) y is ne = (k, is)
  removed_others (z ∷ xs) (suc at) zero y is ne = (zero, is)
  removed_others (z ∷ xs) (suc at) (suc k) y is ne = let r = removed_others xs at k y is (λ e. ne (ap suc e)) in (suc r.0, r.1)

-- ---- a pair more

module _ (pairs : List Pair) (pair : Pair) (at : ℕ) (ordered : IsOrdered pairs) (place : IsPlaceOf pairs pair at) where
  module _ (new : Has pairs pair → ⊥) where
    abbrev more : List Pair
    more = insert pairs at pair

    behind_new : (k : ℕ) (q : Pair) → at ≤ k → slice_get pairs k ≡ Some q → comes_before pair q ≡ true
    behind_new k q le is = other_side q pair (place.behind k q le is) (λ same. new (k, is ∙ ap Some same))

    ordered_more : IsOrdered more
    ordered_more i j p q lt is_p is_q =
        elim (get_inserted pairs at pair i p place.within is_p) as (λ _. comes_before p q ≡ true) [
          | inl a ↦ elim (get_inserted pairs at pair j q place.within is_q) as (λ _. comes_before p q ≡ true) [
            | inl b ↦ ordered i j p q lt a.1 b.1
            | inr h ↦ elim h as (λ _. comes_before p q ≡ true) [
              | inl b ↦ subst (λ x. comes_before p x ≡ true) b.1 (place.before i p a.0 a.1)
              | inr b ↦ ordered i b.0 p q (omega (arith, a.0, b.2)) a.1 b.3
            ]
          ]
          | inr g ↦ elim g as (λ _. comes_before p q ≡ true) [
            | inl a ↦ elim (get_inserted pairs at pair j q place.within is_q) as (λ _. comes_before p q ≡ true) [
              | inl b ↦ absurd (omega (arith, a.0, b.0, lt))
              | inr h ↦ elim h as (λ _. comes_before p q ≡ true) [
                | inl b ↦ absurd (omega (arith, a.0, b.0, lt))
                | inr b ↦ subst (λ x. comes_before x q ≡ true) a.1 (behind_new b.0 q b.2 b.3)
              ]
            ]
            | inr a ↦ elim (get_inserted pairs at pair j q place.within is_q) as (λ _. comes_before p q ≡ true) [
              | inl b ↦ absurd (omega (arith, a.1, a.2, b.0, lt))
              | inr h ↦ elim h as (λ _. comes_before p q ≡ true) [
                | inl b ↦ absurd (omega (arith, a.1, a.2, b.0, lt))
                | inr b ↦ ordered a.0 b.0 p q (omega (arith, a.1, b.1, lt)) a.3 b.3
              ]
            ]
          ]
        ]

    only_more : (q : Pair) → Has more q → Has pairs q ⊎ (q ≡ pair)
    only_more q has = elim (get_inserted pairs at pair has.0 q place.within has.1) [
      | inl a ↦ inl (has.0, a.1)
      | inr h ↦ elim h [
        | inl a ↦ inr (sym a.1)
        | inr a ↦ inl (a.0, a.3)
      ]
    ]

    pub with_more : (after : List Pair) → after ≡ more → IsWith pairs pair after
    with_more after is = subst (IsWith pairs pair) (sym is) (record {
      ordered = ordered_more;
      there = (at, inserted_there pairs at pair place.within);
      kept = λ q has. inserted_kept pairs at pair has.0 q has.1;
      only = only_more;
    })

  module _ (there : Has pairs pair) where
    abbrev less : List Pair
    less = remove pairs at

    stands : slice_get pairs at ≡ Some pair
    stands = subst (λ k. slice_get pairs k ≡ Some pair) (sym (place_there pairs pair at there.0 ordered place there.1)) there.1

    pub place_within : at < length pairs
    place_within = slice_get_within pairs at pair stands

    apart : (k : ℕ) (q : Pair) → slice_get pairs k ≡ Some q → k ≢ at → q ≢ pair
    apart k q is ne same = ne (sym (place_there pairs pair at k ordered place (is ∙ ap Some same)))

    ordered_less : IsOrdered less
    ordered_less i j p q lt is_p is_q =
        elim (get_removed_at pairs at i p is_p) as (λ _. comes_before p q ≡ true) [
          | inl a ↦ elim (get_removed_at pairs at j q is_q) as (λ _. comes_before p q ≡ true) [
            | inl b ↦ ordered i j p q lt a.1 b.1
            | inr b ↦ ordered i (suc j) p q (omega arith) a.1 b.1
          ]
          | inr a ↦ elim (get_removed_at pairs at j q is_q) as (λ _. comes_before p q ≡ true) [
            | inl b ↦ absurd (omega (arith, a.0, b.0, lt))
            | inr b ↦ ordered (suc i) (suc j) p q (omega arith) a.1 b.1
          ]
        ]

    only_less : (q : Pair) → Has less q → Has pairs q × (q ≢ pair)
    only_less q has = elim (get_removed_at pairs at has.0 q has.1) [
      | inl a ↦ ((has.0, a.1), apart has.0 q a.1 (λ e. omega (arith, e, a.0)))
      | inr a ↦ ((suc has.0, a.1), apart (suc has.0) q a.1 (λ e. omega (arith, e, a.0)))
    ]

    pub without_it : (after : List Pair) → after ≡ less → IsWithout pairs pair after
    without_it after is = subst (IsWithout pairs pair) (sym is) (record {
      ordered = ordered_less;
      kept = λ q has ne. removed_others pairs at has.0 q has.1 (λ e. ne (let here : Some q ≡ Some pair = sym has.1 ∙ ap (slice_get pairs) e ∙ stands in cc));
      only = only_less;
    })

-- ---- another superclass

pub moved_away : (old between new : List Pair) (number : ℕ) (from to : Option ℕ) → IsWithout old (from, number) between → IsWith between (to, number) new
    → ((other : Option ℕ) → Has old (other, number) → other ≡ from) → IsMoved old number to new
moved_away old between new number from to without with one = record {
  ordered = with.ordered;
  there = with.there;
  kept = λ q has ne. with.kept q (without.kept q has (λ same. ne (ap (λ (p : Pair). p.1) same)));
  only = λ q has. elim (with.only q has) [
    | inl h ↦ let before = without.only q h in inl (before.0, other q before.0 before.1)
    | inr is ↦ inr is
  ];
}
  where
    other : (q : Pair) → Has old q → q ≢ (from, number) → q.1 ≢ number
    other q has ne same =
        let here : Has old (q.0, number) = subst (λ n. Has old (q.0, n)) same has in
        let above = one q.0 here in
        ne (λ i. (above i, same i))

pub moved_nowhere : (pairs : List Pair) (number : ℕ) (from to : Option ℕ) → IsOrdered pairs → Has pairs (from, number) → from ≡ to → ((other : Option ℕ) → Has pairs (other, number) → other ≡ from) → IsMoved pairs number to pairs
moved_nowhere pairs number from to ordered there same one = record {
  ordered = ordered;
  there = subst (λ s. Has pairs (s, number)) same there;
  kept = λ q has ne. has;
  only = λ q has. elim (decided q.1) [
    | inl is ↦ let above = one q.0 (subst (λ n. Has pairs (q.0, n)) is has) ∙ same in inr (λ i. (above i, is i))
    | inr ne ↦ inl (has, ne)
  ];
}
  where
    decided : (n : ℕ) → (n ≡ number) ⊎ (n ≢ number)
    decided n = elim (cases_lt n number) [
      | inl lt ↦ inr (λ e. omega arith)
      | inr ge ↦ elim (cases_lt number n) [
        | inl gt ↦ inr (λ e. omega arith)
        | inr le ↦ inl (omega arith)
      ]
    ]

-- a class whose pair was taken away is under no superclass
pub not_there_anew : (old between : List Pair) (number : ℕ) (from to : Option ℕ) → IsWithout old (from, number) between → ((other : Option ℕ) → Has old (other, number) → other ≡ from) → Has between (to, number) → ⊥
not_there_anew old between number from to without one has =
    let before = without.only (to, number) has in
    let above : to ≡ from = one to before.0 in
    before.1 (ap (λ (s : Option ℕ). (s, number)) above)
