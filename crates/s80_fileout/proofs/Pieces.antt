-- Lists that are made piece by piece.
use Rattle.std.proofs.Common.{◌≡◌, ◌∙◌, ◌+◌, ◌≤◌, ◌||◌, ◌&&◌, ◌++◌, cond, ℕ, suc, zero, Bool, true, false, refl, sym, ap, List, [], ◌∷◌, Some, length, take, map, append_assoc, append-nil, arith}
use Rattle.std.specs.Prelude.{slice_get}
use Rattle.std.specs.List.{AllByRecursion, All, filter, flat_map, list_any}
use Rattle.std.proofs.lemmas.List.{take_all}
use Rattle.std.proofs.lemmas.List.Concat.{flat_map-append}

taken_further : {X : Type 0} (xs : List X) (i : ℕ) (x : X) → slice_get xs i ≡ Some x → take (suc i) xs ≡ take i xs ++ x ∷ []
taken_further [] i x at = absurd (cc)
taken_further (y ∷ ys) zero x at = let same : y ≡ x = cc in ap (λ z. z ∷ []) same
taken_further (y ∷ ys) (suc i) x at = ap (λ l. y ∷ l) (taken_further ys i x at)

pub take_next : {X : Type 0} (xs : List X) (i : ℕ) (x : X) → slice_get xs i ≡ Some x → take (i + 1) xs ≡ take i xs ++ x ∷ []
take_next xs i x at = let on : i + 1 ≡ suc i = omega arith in ap (λ n. take n xs) on ∙ taken_further xs i x at

-- ---- a loop that adds the pieces of a list behind others

module _ {X C : Type 0} (piece : X → List C) (xs : List X) (before : List C) where
  pub piece_added : (i : ℕ) (x : X) (now new : List C) → slice_get xs i ≡ Some x → now ≡ before ++ flat_map piece (take i xs) → new ≡ now ++ piece x → new ≡ before ++ flat_map piece (take (i + 1) xs)
  piece_added i x now new at so more =
      more ∙ ap (λ l. l ++ piece x) so ∙ append_assoc before (flat_map piece (take i xs)) (piece x)
      ∙ ap (λ l. before ++ (flat_map piece (take i xs) ++ l)) (sym (append-nil (piece x))) ∙ ap (λ l. before ++ l) (sym (flat_map-append piece (take i xs) (x ∷ [])) ∙ ap (flat_map piece) (sym (take_next xs i x at)))

  pub pieces_added : (i : ℕ) (now : List C) → length xs ≤ i → now ≡ before ++ flat_map piece (take i xs) → now ≡ before ++ flat_map piece xs
  pieces_added i now past so = so ∙ ap (λ l. before ++ flat_map piece l) (take_all i xs past)

-- what is made of each that passes
module _ {C : Type 0} (test : Bool) (made : C) (now new : List C) where
  pub one_passes : test ≡ true → new ≡ now ++ made ∷ [] → new ≡ now ++ cond test (made ∷ []) []
  one_passes is so = so ∙ ap (λ b. now ++ cond b (made ∷ []) []) (sym is)

  pub none_passes : test ≡ false → new ≡ now → new ≡ now ++ cond test (made ∷ []) []
  none_passes is so = so ∙ sym (append-nil now) ∙ ap (λ b. now ++ cond b (made ∷ []) []) (sym is)

pub passing_pieces : {X C : Type 0} (test : X → Bool) (made : X → C) (xs : List X) → flat_map (λ x. cond (test x) (made x ∷ []) []) xs ≡ map made (filter test xs)
passing_pieces test made [] = refl
passing_pieces test made (x ∷ xs) =
    elim (test x) as (λ b. cond b (made x ∷ []) [] ++ flat_map (λ x. cond (test x) (made x ∷ []) []) xs ≡ map made (cond b (x ∷ filter test xs) (filter test xs))) [
      | true ↦ ap (λ l. made x ∷ l) (passing_pieces test made xs)
      | false ↦ passing_pieces test made xs
    ]

-- ---- pieces of pieces

module _ {X Y Z : Type 0} where
  pub pieces_of_pieces : (f : Y → List Z) (g : X → List Y) (xs : List X) → flat_map f (flat_map g xs) ≡ flat_map (λ x. flat_map f (g x)) xs
  pieces_of_pieces f g [] = refl
  pieces_of_pieces f g (x ∷ xs) = flat_map-append f (g x) (flat_map g xs) ∙ ap (λ l. flat_map f (g x) ++ l) (pieces_of_pieces f g xs)

  pub map_of_pieces : (f : Y → Z) (g : X → List Y) (xs : List X) → map f (flat_map g xs) ≡ flat_map (λ x. map f (g x)) xs
  map_of_pieces f g [] = refl
  map_of_pieces f g (x ∷ xs) = apart (g x) (flat_map g xs) ∙ ap (λ l. map f (g x) ++ l) (map_of_pieces f g xs)
    where
      apart : (ys zs : List Y) → map f (ys ++ zs) ≡ map f ys ++ map f zs
      apart [] zs = refl
      apart (y ∷ ys) zs = ap (λ l. f y ∷ l) (apart ys zs)

pub passes_of_map : {X Y : Type 0} (test : Y → Bool) (f : X → Y) (xs : List X) → filter test (map f xs) ≡ map f (filter (λ x. test (f x)) xs)
passes_of_map test f [] = refl
passes_of_map test f (x ∷ xs) =
    elim (test (f x)) as (λ b. cond b (f x ∷ filter test (map f xs)) (filter test (map f xs)) ≡ map f (cond b (x ∷ filter (λ x. test (f x)) xs) (filter (λ x. test (f x)) xs))) [
      | true ↦ ap (λ l. f x ∷ l) (passes_of_map test f xs)
      | false ↦ passes_of_map test f xs
    ]

pub pieces_of_passes : {X Y : Type 0} (f : X → List Y) (test : X → Bool) (xs : List X) → flat_map f (filter test xs) ≡ flat_map (λ x. cond (test x) (f x) []) xs
pieces_of_passes f test [] = refl
pieces_of_passes f test (x ∷ xs) =
    elim (test x) as (λ b. flat_map f (cond b (x ∷ filter test xs) (filter test xs)) ≡ cond b (f x) [] ++ flat_map (λ x. cond (test x) (f x) []) xs) [
      | true ↦ ap (λ l. f x ++ l) (pieces_of_passes f test xs)
      | false ↦ pieces_of_passes f test xs
    ]

pub passes_of_passes : {X : Type 0} (p q : X → Bool) (xs : List X) → filter q (filter p xs) ≡ filter (λ x. p x && q x) xs
passes_of_passes p q [] = refl
passes_of_passes p q (x ∷ xs) =
    elim (p x) as (λ b. filter q (cond b (x ∷ filter p xs) (filter p xs)) ≡ cond (b && q x) (x ∷ filter (λ x. p x && q x) xs) (filter (λ x. p x && q x) xs)) [
      | true ↦ ap (λ l. cond (q x) (x ∷ l) l) (passes_of_passes p q xs)
      | false ↦ passes_of_passes p q xs
    ]

pub map_of_map : {X Y Z : Type 0} (g : Y → Z) (f : X → Y) (xs : List X) → map g (map f xs) ≡ map (λ x. g (f x)) xs
map_of_map g f [] = refl
map_of_map g f (x ∷ xs) = ap (λ l. g (f x) ∷ l) (map_of_map g f xs)

pub map_itself : {X : Type 0} (xs : List X) → map (λ x. x) xs ≡ xs
map_itself [] = refl
map_itself (x ∷ xs) = ap (λ l. x ∷ l) (map_itself xs)

-- pieces that agree at each element
pub same_pieces : {X Y : Type 0} (f g : X → List Y) (xs : List X) → AllByRecursion (λ x. f x ≡ g x) xs → flat_map f xs ≡ flat_map g xs
same_pieces f g [] same = refl
same_pieces f g (x ∷ xs) same = λ i. same.0 i ++ same_pieces f g xs same.1 i

-- each element is among them
pub all_among : {X : Type 0} (eq : X → X → Bool) → ((x : X) → eq x x ≡ true) → (xs : List X) → AllByRecursion (λ x. list_any (eq x) xs ≡ true) xs
all_among {X} eq itself [] = tt
all_among {X} eq itself (x ∷ xs) = (ap (λ b. b || list_any (eq x) xs) (itself x), later xs (all_among eq itself xs))
  where
    or_true : (b : Bool) → (b || true) ≡ true
    or_true true = refl
    or_true false = refl

    later : (ys : List X) → AllByRecursion (λ z. list_any (eq z) xs ≡ true) ys → AllByRecursion (λ z. (eq z x || list_any (eq z) xs) ≡ true) ys
    later [] among = tt
    later (y ∷ ys) among = (ap (λ b. eq y x || b) among.0 ∙ or_true (eq y x), later ys among.1)

-- from each element to each place
pub all_at : {X : Type 0} (P : X → Type 0) (xs : List X) → AllByRecursion P xs → All P xs
all_at P [] all k d within = absurd (omega arith)
all_at P (x ∷ xs) all zero d within = all.0
all_at P (x ∷ xs) all (suc k) d within = all_at P xs all.1 k d (omega arith)

pub nothing_left : {X : Type 0} (xs : List X) → length xs ≡ 0 → xs ≡ []
nothing_left [] none = refl
nothing_left (x ∷ xs) none = absurd (omega arith)
