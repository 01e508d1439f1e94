-- The counts of the blocks, as activations begin, change and end.
use Rattle.std.proofs.Common.{◌≡◌, ◌∙◌, ap, sym, subst, refl, ℕ, ◌+◌, ◌-◌, ◌<◌, ◌≤◌, ◌==◌, ◌||◌, Bool, true, false, cond, List, [], ◌∷◌, ◌++◌, length, get_or, set, reverse, take, drop, Option, Some, None, inl, inr, arith, rules, tests, nat_lt}
use Rattle.std.specs.List.{sum_by, list_any}
use Rattle.std.proofs.lemmas.Bool.{eq-eqb, ne_eqb, cases_lt, cases_eq}
use Rattle.std.proofs.lemmas.List.{get_or-set_same, get_or-set_other, get_or_past}
use Rattle.std.proofs.lemmas.List.Sums.{sum_by-cons, sum_by_push, sum_by-take-drop, sum_by-set}
use Rattle.s80_machine.specs.Turn.{Context, is_active}
use Rattle.s80_machine.specs.World.{Activation, own, home, block, is_activation_of_block}
use Rattle.s80_machine.specs.Counted.{AreCounted, block_in, count_of, one_of}
use Rattle.s80_machine.proofs.SeenContexts.{any_reversed}

-- ---- activations of a block

abbrev is_of : ℕ → Option ℕ → Bool
is_of b None = false
is_of b (Some d) = b == d

told_by_block : (b : ℕ) (f : Activation) → is_activation_of_block b f ≡ is_of b (block_in f)
told_by_block b (own temporaries) = refl
told_by_block b (home h) = refl
told_by_block b (block d h) = refl

ones : (b : ℕ) (c : Context) (o : Option ℕ) → block_in c.activation ≡ o → one_of b c ≡ cond (is_of b o) 1 0
ones b c o is = ap (λ t. cond t 1 0) (told_by_block b c.activation ∙ ap (is_of b) is)

same_ones : (b : ℕ) (x y : Context) → block_in y.activation ≡ block_in x.activation → one_of b y ≡ one_of b x
same_ones b x y same = ones b y (block_in x.activation) same ∙ sym (ones b x (block_in x.activation) refl)

-- one of its own block, and of no other
pub one_here : (d : ℕ) (c : Context) → block_in c.activation ≡ Some d → one_of d c ≡ 1
one_here d c is = ones d c (Some d) is ∙ ap (λ t. cond t 1 0) (eq-eqb d d refl)

none_there : (b d : ℕ) (c : Context) → block_in c.activation ≡ Some d → (b ≡ d → ⊥) → one_of b c ≡ 0
none_there b d c is other = ones b c (Some d) is ∙ ap (λ t. cond t 1 0) (ne_eqb b d other)

-- ---- one count, more or less

-- where there is one, there is a place for it
pub has_place : (counts : List ℕ) (d : ℕ) → 1 ≤ get_or counts d 0 → d < length counts
has_place counts d some = elim (cases_lt d (length counts)) [ inl within ↦ within | inr past ↦ absurd (omega (arith, get_or_past counts d 0 past)) ]

-- one more at its place
pub one_more_of : (counts : List ℕ) (d n : ℕ) (c : Context) → d < length counts → block_in c.activation ≡ Some d → n ≡ get_or counts d 0 + 1
    → (b : ℕ) → get_or (set counts d n) b 0 ≡ get_or counts b 0 + one_of b c
one_more_of counts d n c within is has b = elim (cases_eq b d) [
  | inl e ↦ subst (λ k. get_or (set counts d n) k 0 ≡ get_or counts k 0 + one_of k c) (sym e) (omega (arith, get_or-set_same counts d n 0 within, one_here d c is, has))
  | inr other ↦ omega (arith, get_or-set_other counts d b n 0 other, none_there b d c is other)
]

-- ---- the activations that are alive

module _ (counts : List ℕ) (xs : List Context) (counted : AreCounted counts xs) where
  -- one begins
  pub begun_counted : (new : List ℕ) (ys : List Context) (c : Context) → ys ≡ xs ++ c ∷ [] → ((b : ℕ) → get_or new b 0 ≡ get_or counts b 0 + one_of b c) → AreCounted new ys
  begun_counted new ys c is more = subst (AreCounted new) (sym is) (record { each = λ b. more b ∙ ap (λ n. n + one_of b c) (counted.each b) ∙ sym (sum_by_push (one_of b) xs c) })

  -- the last is changed, and is of the same block
  pub changed_counted : (n : ℕ) (x y : Context) → n ≡ length xs → 0 < length xs → x ≡ get_or xs (n - 1) x → block_in y.activation ≡ block_in x.activation → AreCounted counts (set xs (n - 1) y)
  changed_counted n x y size some is same = record {
    each = λ b.
        let within : n - 1 < length xs = omega (arith, size, some) in
        omega (arith, counted.each b, sum_by-set (one_of b) xs (n - 1) y x within, ap (one_of b) is, same_ones b x y same);
  }

  module _ (place : ℕ) where
    -- those from a place on are counted
    pub rest_counted : (ended : List Context) → ended ≡ drop place xs → (b : ℕ) → count_of b ended ≤ get_or counts b 0
    rest_counted ended is b = omega (arith, counted.each b, sum_by-take-drop (one_of b) xs place, ap (count_of b) is)

    -- and they end
    pub left_counted : (ended left : List Context) (new : List ℕ) → ended ≡ drop place xs → left ≡ take place xs → ((b : ℕ) → get_or new b 0 + count_of b ended ≡ get_or counts b 0) → AreCounted new left
    left_counted ended left new is rest less = record {
      each = λ b. omega (arith, less b, counted.each b, sum_by-take-drop (one_of b) xs place, ap (count_of b) is, ap (count_of b) rest);
    }

-- ---- whether a block is active

some_of : (test : Context → Bool) (xs : List Context) → nat_lt 0 (sum_by (λ c. cond (test c) 1 0) xs) ≡ list_any test xs
some_of test [] = refl
some_of test (x ∷ xs) = ap (nat_lt 0) (sum_by-cons (λ c. cond (test c) 1 0) x xs) ∙ by_first (test x) (sum_by (λ c. cond (test c) 1 0) xs) (list_any test xs) (some_of test xs)
  where
    by_first : (t : Bool) (n : ℕ) (r : Bool) → nat_lt 0 n ≡ r → nat_lt 0 (cond t 1 0 + n) ≡ (t || r)
    by_first true n r is = search (rules, tests)
    by_first false n r is =
        let e : 0 + n ≡ n = omega arith in
        ap (nat_lt 0) e ∙ is

pub active_counted : (counts : List ℕ) (xs : List Context) → AreCounted counts xs → (old : List Context) (b n : ℕ) → reverse xs ≡ old → n ≡ get_or counts b 0 → nat_lt 0 n ≡ is_active b old
active_counted counts xs counted old b n shows is =
    ap (nat_lt 0) (is ∙ counted.each b) ∙ some_of (λ c. is_activation_of_block b c.activation) xs ∙ sym (any_reversed (λ c. is_activation_of_block b c.activation) xs) ∙ ap (is_active b) shows
