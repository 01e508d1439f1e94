-- Lists that are made piece by piece.
use Rattle.std.proofs.Common.{◌≡◌, ◌∙◌, ◌+◌, ◌≤◌, ◌<◌, ◌++◌, cond, not, get_or, ℕ, suc, zero, Bool, true, false, refl, sym, ap, subst, List, [], ◌∷◌, Some, length, take, map, append_assoc, append-nil, arith}
use Rattle.std.specs.Prelude.{slice_get}
use Rattle.std.specs.List.{AllByRecursion, filter, flat_map}
use Rattle.std.proofs.lemmas.List.{take_all}
use Rattle.std.proofs.lemmas.List.Concat.{flat_map-append}

taken_further : {X : Type 0} (xs : List X) (i : ℕ) (x : X) → slice_get xs i ≡ Some x → take (suc i) xs ≡ take i xs ++ x ∷ []
taken_further [] i x at = absurd (cc)
taken_further (y ∷ ys) zero x at = let same : y ≡ x = cc in ap (λ z. z ∷ []) same
taken_further (y ∷ ys) (suc i) x at = ap (λ l. y ∷ l) (taken_further ys i x at)

pub take_next : {X : Type 0} (xs : List X) (i : ℕ) (x : X) → slice_get xs i ≡ Some x → take (i + 1) xs ≡ take i xs ++ x ∷ []
take_next xs i x at = let on : i + 1 ≡ suc i = omega arith in ap (λ n. take n xs) on ∙ taken_further xs i x at

-- a loop that adds the pieces of a list behind others
module _ {X C : Type 0} (piece : X → List C) (xs : List X) (before : List C) where
  pub piece_added : (i : ℕ) (x : X) (now new : List C) → slice_get xs i ≡ Some x → now ≡ before ++ flat_map piece (take i xs) → new ≡ now ++ piece x → new ≡ before ++ flat_map piece (take (i + 1) xs)
  piece_added i x now new at so more =
      more ∙ ap (λ l. l ++ piece x) so ∙ append_assoc before (flat_map piece (take i xs)) (piece x)
      ∙ ap (λ l. before ++ (flat_map piece (take i xs) ++ l)) (sym (append-nil (piece x))) ∙ ap (λ l. before ++ l) (sym (flat_map-append piece (take i xs) (x ∷ [])) ∙ ap (flat_map piece) (sym (take_next xs i x at)))

  pub pieces_added : (i : ℕ) (now : List C) → length xs ≤ i → now ≡ before ++ flat_map piece (take i xs) → now ≡ before ++ flat_map piece xs
  pieces_added i now past so = so ∙ ap (λ l. before ++ flat_map piece l) (take_all i xs past)

-- what is made of each that passes
pub passing_pieces : {X C : Type 0} (test : X → Bool) (made : X → C) (xs : List X) → flat_map (λ x. cond (test x) (made x ∷ []) []) xs ≡ map made (filter test xs)
passing_pieces test made [] = refl
passing_pieces test made (x ∷ xs) =
    elim (test x) as (λ b. cond b (made x ∷ []) [] ++ flat_map (λ x. cond (test x) (made x ∷ []) []) xs ≡ map made (cond b (x ∷ filter test xs) (filter test xs))) [
      | true ↦ ap (λ l. made x ∷ l) (passing_pieces test made xs)
      | false ↦ passing_pieces test made xs
    ]

pub map_of_map : {X Y Z : Type 0} (g : Y → Z) (f : X → Y) (xs : List X) → map g (map f xs) ≡ map (λ x. g (f x)) xs
map_of_map g f [] = refl
map_of_map g f (x ∷ xs) = ap (λ l. g (f x) ∷ l) (map_of_map g f xs)

pub pieces_of_map : {X Y Z : Type 0} (g : Y → List Z) (f : X → Y) (xs : List X) → flat_map g (map f xs) ≡ flat_map (λ x. g (f x)) xs
pieces_of_map g f [] = refl
pieces_of_map g f (x ∷ xs) = ap (λ l. g (f x) ++ l) (pieces_of_map g f xs)

pub passes_of_map : {X Y : Type 0} (test : Y → Bool) (f : X → Y) (xs : List X) → filter test (map f xs) ≡ map f (filter (λ x. test (f x)) xs)
passes_of_map test f [] = refl
passes_of_map test f (x ∷ xs) =
    elim (test (f x)) as (λ b. cond b (f x ∷ filter test (map f xs)) (filter test (map f xs)) ≡ map f (cond b (x ∷ filter (λ x. test (f x)) xs) (filter (λ x. test (f x)) xs))) [
      | true ↦ ap (λ l. f x ∷ l) (passes_of_map test f xs)
      | false ↦ passes_of_map test f xs
    ]

-- at each place of a list
pub at_each : {X : Type 0} (P : X → Type 0) (xs : List X) → ((k : ℕ) (x : X) → slice_get xs k ≡ Some x → P x) → AllByRecursion P xs
at_each P [] each = tt
at_each P (x ∷ xs) each = (each 0 x refl, at_each P xs (λ k y at. each (suc k) y at))

pub at_place : {X : Type 0} (P : X → Type 0) (xs : List X) (k : ℕ) (x : X) → AllByRecursion P xs → slice_get xs k ≡ Some x → P x
at_place P [] k x all at = absurd (cc)
at_place P (y ∷ ys) zero x all at = let same : y ≡ x = cc in subst P same all.0
at_place P (y ∷ ys) (suc k) x all at = at_place P ys k x all.1 at

-- pieces that agree at each element
pub same_pieces : {X Y : Type 0} (f g : X → List Y) (xs : List X) → AllByRecursion (λ x. f x ≡ g x) xs → flat_map f xs ≡ flat_map g xs
same_pieces f g [] same = refl
same_pieces f g (x ∷ xs) same = λ i. same.0 i ++ same_pieces f g xs same.1 i

pub same_map : {X Y : Type 0} (f g : X → Y) (xs : List X) → AllByRecursion (λ x. f x ≡ g x) xs → map f xs ≡ map g xs
same_map f g [] same = refl
same_map f g (x ∷ xs) same = λ i. same.0 i ∷ same_map f g xs same.1 i

pub get_of_map : {X Y : Type 0} (f : X → Y) (xs : List X) (k : ℕ) (x : X) → slice_get xs k ≡ Some x → slice_get (map f xs) k ≡ Some (f x)
get_of_map f [] k x at = absurd (cc)
get_of_map f (y ∷ ys) zero x at = let same : y ≡ x = cc in ap (λ z. Some (f z)) same
get_of_map f (y ∷ ys) (suc k) x at = get_of_map f ys k x at

pub map_got : {X Y : Type 0} (f : X → Y) (xs : List X) (k : ℕ) (y : Y) → slice_get (map f xs) k ≡ Some y → (x : X) × (slice_get xs k ≡ Some x) × (f x ≡ y)
map_got f [] k y at = absurd (cc)
map_got f (x ∷ xs) zero y at = (x, refl, cc)
map_got f (x ∷ xs) (suc k) y at = map_got f xs k y at

module _ {C : Type 0} (before first second : List C) where
  pub two_added : (one two : List C) → one ≡ before ++ first → two ≡ one ++ second → two ≡ before ++ (first ++ second)
  two_added one two a b = b ∙ ap (λ l. l ++ second) a ∙ append_assoc before first second

module _ {C : Type 0} (before first second third : List C) where
  pub three_added : (one two three : List C) → one ≡ before ++ first → two ≡ one ++ second → three ≡ two ++ third → three ≡ before ++ (first ++ (second ++ third))
  three_added one two three a b c =
      c ∙ ap (λ l. l ++ third) (b ∙ ap (λ l. l ++ second) a) ∙ append_assoc (before ++ first) second third ∙ append_assoc before first (second ++ third)

-- ---- a loop that maps a list

pub map_apart : {X Y : Type 0} (f : X → Y) (xs ys : List X) → map f (xs ++ ys) ≡ map f xs ++ map f ys
map_apart f [] ys = refl
map_apart f (x ∷ xs) ys = ap (λ l. f x ∷ l) (map_apart f xs ys)

pub count_of : {X Y : Type 0} (f : X → Y) (xs : List X) → length (map f xs) ≡ length xs
count_of f [] = refl
count_of f (x ∷ xs) = ap suc (count_of f xs)

module _ {X Y Z : Type 0} (f : Y → Z) (g : X → Y) (xs : List X) where
  pub map_next : (i : ℕ) (x : X) (now new : List Z) → slice_get xs i ≡ Some x → now ≡ map f (take i (map g xs)) → new ≡ now ++ f (g x) ∷ [] → new ≡ map f (take (i + 1) (map g xs))
  map_next i x now new at so more =
      more ∙ ap (λ l. l ++ f (g x) ∷ []) so ∙ sym (map_apart f (take i (map g xs)) (g x ∷ [])) ∙ ap (map f) (sym (take_next (map g xs) i (g x) (get_of_map g xs i x at)))

  pub map_whole : (i : ℕ) (now : List Z) → length xs ≤ i → now ≡ map f (take i (map g xs)) → now ≡ map f (map g xs)
  map_whole i now past so = let all : length (map g xs) ≤ i = omega (arith, past, count_of g xs) in so ∙ ap (map f) (take_all i (map g xs) all)

-- the same with the pieces of what is seen
module _ {X Y C : Type 0} (piece : Y → List C) (g : X → Y) (xs : List X) (before : List C) where
  pub seen_added : (i : ℕ) (x : X) (now new : List C) → slice_get xs i ≡ Some x → now ≡ before ++ flat_map piece (take i (map g xs)) → new ≡ now ++ piece (g x) → new ≡ before ++ flat_map piece (take (i + 1) (map g xs))
  seen_added i x now new at so more = piece_added piece (map g xs) before i (g x) now new (get_of_map g xs i x at) so more

  pub all_seen : (i : ℕ) (now : List C) → length xs ≤ i → now ≡ before ++ flat_map piece (take i (map g xs)) → now ≡ before ++ flat_map piece (map g xs)
  all_seen i now past so = let all : length (map g xs) ≤ i = omega (arith, past, count_of g xs) in pieces_added piece (map g xs) before i now all so

-- what a loop reads
pub item_at : {X : Type 0} (xs : List X) (i : ℕ) (x : X) → i < length xs → x ≡ get_or xs i x → slice_get xs i ≡ Some x
item_at [] i x within is = absurd (omega (arith, within))
item_at (y ∷ ys) zero x within is = ap Some (sym is)
item_at (y ∷ ys) (suc i) x within is = item_at ys i x (omega (arith, within)) is
