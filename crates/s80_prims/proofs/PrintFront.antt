-- What is kept of a text that is written.
use Rattle.std.proofs.Common.{◌≡◌, ◌≤◌, ◌<◌, ◌∙◌, ◌+◌, ◌-◌, ℕ, suc, zero, Bool, cond, true, false, refl, sym, ap, subst, List, [], ◌∷◌, ◌++◌, codes, length, take, drop, min, nat_le, nat_lt, flat_map, arith, length-append, append_assoc}
use Rattle.std.proofs.lemmas.Bool.Decides.{nat_tests}
use Rattle.std.proofs.lemmas.List.{length-take, take-append-drop, take-append-le, take_all, take_min}
use Rattle.std.proofs.lemmas.Grind.{flat_map-append}
use Rattle.s80_prims.specs.declared.front.Front.{Front}
use Rattle.s80_prims.specs.Front.{Holds, Writes}

-- ---- more bytes

take_over : (n : ℕ) (w b : List ℕ) → take n (w ++ b) ≡ take n w ++ take (n - length w) b
take_over zero w b = let none : 0 ≡ 0 - length w = omega arith in ap (λ m. take m b) none
take_over (suc n) [] b = let all : suc n ≡ suc n - 0 = omega arith in ap (λ m. take m b) all
take_over (suc n) (x ∷ w) b =
    let less : n - length w ≡ suc n - suc (length w) = omega arith in ap (λ r. x ∷ r) (take_over n w b ∙ ap (λ m. take n w ++ take m b) less)

-- so many bytes fit behind the text
pub kept : (n : ℕ) (text w bytes : List ℕ) (k : ℕ) → text ≡ take n w → k ≡ min (length bytes) (n - length text) → text ++ take k bytes ≡ take n (w ++ bytes)
kept n text w bytes k is count =
    let size : length text ≡ min n (length w) = ap length is ∙ length-take n w in
    let same : k ≡ min (n - length w) (length bytes) = omega (arith, count, size) in
    ap (λ m. text ++ take m bytes) same ∙ ap (λ r. text ++ r) (take_min (n - length w) bytes) ∙ ap (λ r. r ++ take (n - length w) bytes) is ∙ sym (take_over n w bytes)

lt_true : (a b : ℕ) → a < b → true ≡ nat_lt a b
lt_true a b h = grind (arith, nat_tests)

lt_same : (n a b : ℕ) → (n < a → n < b) → (n < b → n < a) → nat_lt n a ≡ nat_lt n b
lt_same n a b f g = grind (arith, nat_tests)

pub more_than : (n : ℕ) (text w bytes : List ℕ) (k : ℕ) → text ≡ take n w → k ≡ min (length bytes) (n - length text) → k < length bytes → true ≡ nat_lt n (length (w ++ bytes))
more_than n text w bytes k is count less =
    let size : length text ≡ min n (length w) = ap length is ∙ length-take n w in
    let all : length (w ++ bytes) ≡ length w + length bytes = rw length-append refl in
    lt_true n (length (w ++ bytes)) (omega (arith, count, size, all, less))

pub no_more : (n : ℕ) (text w bytes : List ℕ) (k : ℕ) (more : Bool) → text ≡ take n w → k ≡ min (length bytes) (n - length text) → length bytes ≤ k
    → more ≡ nat_lt n (length w) → more ≡ nat_lt n (length (w ++ bytes))
no_more n text w bytes k more is count fits before =
    let size : length text ≡ min n (length w) = ap length is ∙ length-take n w in
    let all : length (w ++ bytes) ≡ length w + length bytes = rw length-append refl in
    before ∙ lt_same n (length w) (length (w ++ bytes)) (λ h. omega (arith, all, h)) (λ h. omega (arith, count, size, all, fits, h))

-- ---- nothing more is kept

past : (n : ℕ) (u y : List ℕ) → nat_lt n (length u) ≡ true → (take n u ≡ take n (u ++ y)) × (true ≡ nat_lt n (length (u ++ y)))
past n u y h =
    let over : n < length u = grind (arith, nat_tests) in
    let all : length (u ++ y) ≡ length u + length y = rw length-append refl in
    (sym (take-append-le n u y (omega (arith, over))), lt_true n (length (u ++ y)) (omega (arith, over, all)))

-- whatever is written behind
pub writes_past : (old new : Front) (x y : List ℕ) → Writes old new x → new.more ≡ true → Writes old new (x ++ y)
writes_past old new x y writes more = λ w h.
    let k = writes w h in
    let p = past 4096 (w ++ x) y (sym k.1 ∙ more) in
    let group : (w ++ x) ++ y ≡ w ++ (x ++ y) = append_assoc w x y in
    subst (Holds new) group (k.0 ∙ p.0, more ∙ p.1)

-- a list of parts, up to one of them
parted : {X : Type 0} (f : X → List ℕ) (xs : List X) (i : ℕ) (end : List ℕ) → flat_map f (take i xs) ++ (flat_map f (drop i xs) ++ end) ≡ flat_map f xs ++ end
parted f xs i end =
    let front : flat_map f (take i xs) ++ flat_map f (drop i xs) ≡ flat_map f xs = sym (flat_map-append f (take i xs) (drop i xs)) ∙ ap (flat_map f) (take-append-drop i xs) in
    let group : flat_map f (take i xs) ++ (flat_map f (drop i xs) ++ end) ≡ (flat_map f (take i xs) ++ flat_map f (drop i xs)) ++ end = sym (append_assoc (flat_map f (take i xs)) (flat_map f (drop i xs)) end) in
    group ∙ ap (λ r. r ++ end) front

pub parts_past : {X : Type 0} (old new : Front) (begin : ℕ) (f : X → List ℕ) (xs : List X) (i : ℕ) (end : List ℕ) → Writes old new (begin ∷ flat_map f (take i xs)) → new.more ≡ true
    → Writes old new (begin ∷ (flat_map f xs ++ end))
parts_past old new begin f xs i end writes more =
    subst (Writes old new) (ap (λ r. begin ∷ r) (parted f xs i end)) (writes_past old new (begin ∷ flat_map f (take i xs)) (flat_map f (drop i xs) ++ end) writes more)

-- ---- the end

not_le : (n m : ℕ) → nat_lt n m ≡ true → nat_le m n ≡ false
not_le n m h = grind (arith, nat_tests)

is_le : (n m : ℕ) → nat_lt n m ≡ false → nat_le m n ≡ true
is_le n m h = grind (arith, nat_tests)

pub with_dots : (n : ℕ) (w text : List ℕ) → text ≡ take n w → nat_lt n (length w) ≡ true → text ++ codes "..." ≡ (cond (nat_le (length w) n) w (take n w ++ codes "..."))
with_dots n w text is more = ap (λ t. t ++ codes "...") is ∙ sym (ap (λ b. cond b w (take n w ++ codes "...")) (not_le n (length w) more))

pub as_it_is : (n : ℕ) (w text : List ℕ) → text ≡ take n w → nat_lt n (length w) ≡ false → text ≡ (cond (nat_le (length w) n) w (take n w ++ codes "..."))
as_it_is n w text is none =
    let short = is_le n (length w) none in
    let below : length w ≤ n = grind (arith, nat_tests) in
    is ∙ take_all n w below ∙ sym (ap (λ b. cond b w (take n w ++ codes "...")) short)
