-- The last place at which a test passes, and the first element that passes.
use Rattle.std.proofs.Common.{◌≡◌, ℕ, zero, suc, ◌+◌, ◌<◌, ◌≤◌, List, [], ◌∷◌, ◌++◌, Bool, true, false, ◌||◌, cond, length, take, drop, get_or, find, Option, Some, None, refl, ap, sym, ◌∙◌, subst, arith}
use Rattle.std.specs.List.{list_any, count_by, Contains}
use Rattle.std.specs.Option.{option_map, option_map_or, option_or}
use Rattle.std.proofs.lemmas.List.{take_more, length-take, drop_more, take-append-drop}
use Rattle.std.proofs.lemmas.List.Folds.{find-append}
use Rattle.std.proofs.lemmas.List.Sums.{sum_by-cons}
use Rattle.s80_scope.specs.Names.{last_place}

abbrev later : Option ℕ → Option ℕ → Option ℕ
later behind here = option_map_or (λ i. Some (suc i)) behind here

shift_later : (n : ℕ) (a b c : Option ℕ) → later (option_or (option_map (λ i. n + i) b) a) c ≡ option_or (option_map (λ i. suc n + i) b) (later a c)
shift_later n a None c = refl
shift_later n a (Some i) c = let same : suc (n + i) ≡ suc n + i = omega arith in ap (λ k. Some k) same

from_none : (a : Option ℕ) → a ≡ option_or (option_map (λ i. 0 + i) a) None
from_none None = refl
from_none (Some i) = let same : i ≡ 0 + i = omega arith in ap (λ k. Some k) same

pub last_place-append : {X : Type 0} (test : X → Bool) (xs ys : List X) → last_place test (xs ++ ys) ≡ option_or (option_map (λ i. length xs + i) (last_place test ys)) (last_place test xs)
last_place-append test [] ys = from_none (last_place test ys)
last_place-append test (x ∷ xs) ys =
    ap (λ r. later r (cond (test x) (Some 0) None)) (last_place-append test xs ys)
    ∙ shift_later (length xs) (last_place test xs) (last_place test ys) (cond (test x) (Some 0) None)

last_one : (b : Bool) (n : ℕ) (a : Option ℕ) → option_or (option_map (λ i. n + i) (cond b (Some 0) None)) a ≡ cond b (Some n) a
last_one true n a = let same : n + 0 ≡ n = omega arith in ap (λ k. Some k) same
last_one false n a = refl

pub last_place-push : {X : Type 0} (test : X → Bool) (xs : List X) (x : X) → last_place test (xs ++ x ∷ []) ≡ cond (test x) (Some (length xs)) (last_place test xs)
last_place-push test xs x = last_place-append test xs (x ∷ []) ∙ last_one (test x) (length xs) (last_place test xs)

-- one more element, as at a step of a loop
pub last_place_more : {X : Type 0} (test : X → Bool) (xs : List X) (i : ℕ) (d : X) → i < length xs → last_place test (take (i + 1) xs) ≡ cond (test (get_or xs i d)) (Some i) (last_place test (take i xs))
last_place_more test xs i d within =
    let long : length (take i xs) ≡ i = omega (arith, length-take i xs) in
    ap (last_place test) (take_more xs i d within) ∙ last_place-push test (take i xs) (get_or xs i d)
    ∙ ap (λ n. cond (test (get_or xs i d)) (Some n) (last_place test (take i xs))) long

pub none_counted : {X : Type 0} (test : X → Bool) (xs : List X) → count_by test xs ≡ 0 → find test xs ≡ None
none_counted test [] e = refl
none_counted {X} test (x ∷ xs) e = by (test x) (find test xs) (count_by test xs) (none_counted test xs) (sym (sum_by-cons (λ y. cond (test y) 1 0) x xs) ∙ e)
  where
    by : (b : Bool) (r : Option X) (c : ℕ) → (c ≡ 0 → r ≡ None) → cond b 1 0 + c ≡ 0 → cond b (Some x) r ≡ None
    by true r c go n = absurd (omega arith)
    by false r c go n = go (omega arith)

pub found_counted : {X : Type 0} (test : X → Bool) (xs : List X) (y : X) → find test xs ≡ Some y → 1 ≤ count_by test xs
found_counted test [] y e = absurd (cc)
found_counted {X} test (x ∷ xs) y e = subst (λ n. 1 ≤ n) (sym (sum_by-cons (λ z. cond (test z) 1 0) x xs)) (by (test x) (find test xs) (count_by test xs) (found_counted test xs y) e)
  where
    by : (b : Bool) (r : Option X) (c : ℕ) → (r ≡ Some y → 1 ≤ c) → cond b (Some x) r ≡ Some y → 1 ≤ cond b 1 0 + c
    by true r c go n = omega arith
    by false r c go n = let h : 1 ≤ c = go n in omega arith

pub found_passes : {X : Type 0} (test : X → Bool) (xs : List X) (y : X) → find test xs ≡ Some y → test y ≡ true
found_passes test [] y e = absurd (cc)
found_passes {X} test (x ∷ xs) y e = by (test x) (find test xs) refl (found_passes test xs y) e
  where
    by : (b : Bool) (r : Option X) → test x ≡ b → (r ≡ Some y → test y ≡ true) → cond b (Some x) r ≡ Some y → test y ≡ true
    by true r is go n = let same : x ≡ y = cc in ap test (sym same) ∙ is
    by false r is go n = go n

pub none_passes : {X : Type 0} (test : X → Bool) (xs : List X) → find test xs ≡ None → list_any test xs ≡ false
none_passes test [] e = refl
none_passes {X} test (x ∷ xs) e = by (test x) (find test xs) (list_any test xs) (none_passes test xs) e
  where
    by : (b : Bool) (r : Option X) (c : Bool) → (r ≡ None → c ≡ false) → cond b (Some x) r ≡ None → (b || c) ≡ false
    by true r c go n = absurd (cc)
    by false r c go n = go n

-- where nothing passes in two lists, nothing does in either
pub none_first : {X : Type 0} (a b : Option X) → option_or a b ≡ None → a ≡ None
none_first None b e = refl
none_first (Some x) b e = e

pub none_last : {X : Type 0} (a b : Option X) → option_or a b ≡ None → b ≡ None
none_last None b e = e
none_last (Some x) b e = absurd (cc)

pub some_passes : {X : Type 0} (test : X → Bool) (xs : List X) (y : X) → find test xs ≡ Some y → list_any test xs ≡ true
some_passes test [] y e = absurd (cc)
some_passes {X} test (x ∷ xs) y e = by (test x) (find test xs) (list_any test xs) (some_passes test xs y) e
  where
    by : (b : Bool) (r : Option X) (c : Bool) → (r ≡ Some y → c ≡ true) → cond b (Some x) r ≡ Some y → (b || c) ≡ true
    by true r c go n = refl
    by false r c go n = go n

-- the place after one more element, that passes or doesn't
pub place_found : {X : Type 0} (test : X → Bool) (xs : List X) (i : ℕ) (x : X) (new : Option ℕ) → i < length xs → x ≡ get_or xs i x → test x ≡ true → new ≡ Some i → new ≡ last_place test (take (i + 1) xs)
place_found test xs i x new within is passed set =
    set ∙ ap (λ b. cond b (Some i) (last_place test (take i xs))) (sym passed ∙ ap test is) ∙ sym (last_place_more test xs i x within)

pub place_kept : {X : Type 0} (test : X → Bool) (xs : List X) (i : ℕ) (x : X) (new : Option ℕ) → i < length xs → x ≡ get_or xs i x → test x ≡ false → new ≡ last_place test (take i xs) → new ≡ last_place test (take (i + 1) xs)
place_kept test xs i x new within is failed kept =
    kept ∙ ap (λ b. cond b (Some i) (last_place test (take i xs))) (sym failed ∙ ap test is) ∙ sym (last_place_more test xs i x within)

-- nothing passes among one more element
pub none_more : {X : Type 0} (test : X → Bool) (xs : List X) (i : ℕ) (x : X) → i < length xs → x ≡ get_or xs i x → find test (take i xs) ≡ None → find test (x ∷ []) ≡ None → find test (take (i + 1) xs) ≡ None
none_more test xs i x within is before here =
    ap (find test) (take_more xs i x within) ∙ find-append test (take i xs) (get_or xs i x ∷ [])
    ∙ ap (λ r. option_or r (find test (get_or xs i x ∷ []))) before ∙ ap (λ y. find test (y ∷ [])) (sym is) ∙ here

-- the first that passes is the one at this place
pub first_found : {X : Type 0} (test : X → Bool) (xs : List X) (i : ℕ) (x : X) → i < length xs → x ≡ get_or xs i x → find test (take i xs) ≡ None → test x ≡ true → find test xs ≡ Some x
first_found test xs i x within is before passed =
    ap (find test) (sym (take-append-drop i xs)) ∙ find-append test (take i xs) (drop i xs)
    ∙ ap (λ r. option_or r (find test (drop i xs))) before
    ∙ ap (find test) (drop_more xs i x within ∙ ap (λ y. y ∷ drop (i + 1) xs) (sym is))
    ∙ ap (λ b. cond b (Some x) (find test (drop (i + 1) xs))) passed

pub last_place_below : {X : Type 0} (test : X → Bool) (xs : List X) (i : ℕ) → last_place test xs ≡ Some i → i < length xs
last_place_below test [] i e = absurd (cc)
last_place_below {X} test (x ∷ xs) i e = by (last_place test xs) (test x) (last_place_below test xs) e
  where
    by : (r : Option ℕ) (b : Bool) → ((j : ℕ) → r ≡ Some j → j < length xs) → option_map_or (λ k. Some (suc k)) r (cond b (Some 0) None) ≡ Some i → i < suc (length xs)
    by (Some k) b below n = let h : k < length xs = below k refl in let same : suc k ≡ i = cc in omega arith
    by None true below n = let same : 0 ≡ i = cc in omega arith
    by None false below n = absurd (cc)

pub counted_none : {X : Type 0} (test : X → Bool) (xs : List X) → find test xs ≡ None → count_by test xs ≡ 0
counted_none test [] e = refl
counted_none {X} test (x ∷ xs) e = sum_by-cons (λ y. cond (test y) 1 0) x xs ∙ by (test x) (find test xs) (count_by test xs) (counted_none test xs) e
  where
    by : (b : Bool) (r : Option X) (c : ℕ) → (r ≡ None → c ≡ 0) → cond b (Some x) r ≡ None → cond b 1 0 + c ≡ 0
    by true r c go n = absurd (cc)
    by false r c go n = let h : c ≡ 0 = go n in omega arith

-- one that is in the list and passes
pub contained_counted : {X : Type 0} (test : X → Bool) (xs : List X) (y : X) → Contains xs y → test y ≡ true → 1 ≤ count_by test xs
contained_counted test [] y (k, within, is) passed = absurd (omega arith)
contained_counted test (x ∷ xs) y (zero, within, is) passed =
    subst (λ n. 1 ≤ n) (sym (sum_by-cons (λ z. cond (test z) 1 0) x xs)) (subst (λ b. 1 ≤ cond b 1 0 + count_by test xs) (sym (ap test is ∙ passed)) (omega arith))
contained_counted test (x ∷ xs) y (suc k, within, is) passed =
    let some : 1 ≤ count_by test xs = contained_counted test xs y (k, omega arith, is) passed in
    subst (λ n. 1 ≤ n) (sym (sum_by-cons (λ z. cond (test z) 1 0) x xs)) (omega arith)

-- the only one that passes is the first
pub only_found : {X : Type 0} (test : X → Bool) (xs : List X) (y : X) → count_by test xs ≡ 1 → Contains xs y → test y ≡ true → find test xs ≡ Some y
only_found test [] y once (k, within, is) passed = absurd (omega arith)
only_found test (x ∷ xs) y once (zero, within, is) passed = ap (λ b. cond b (Some x) (find test xs)) (ap test is ∙ passed) ∙ ap (λ z. Some z) is
only_found {X} test (x ∷ xs) y once (suc k, within, is) passed =
    by (test x) (count_by test xs) (sym (sum_by-cons (λ z. cond (test z) 1 0) x xs) ∙ once)
    (contained_counted test xs y (k, omega arith, is) passed) (λ one. only_found test xs y one (k, omega arith, is) passed)
  where
    by : (b : Bool) (c : ℕ) → cond b 1 0 + c ≡ 1 → 1 ≤ c → (c ≡ 1 → find test xs ≡ Some y) → cond b (Some x) (find test xs) ≡ Some y
    by true c n some go = absurd (omega arith)
    by false c n some go = go (omega arith)
