-- Lists that a loop puts piece by piece, behind their length.
use Rattle.std.proofs.Common.{◌≡◌, ◌∙◌, ◌+◌, ◌≤◌, ◌<◌, ◌&&◌, ◌++◌, cond, ℕ, suc, zero, Bool, T, true, false, true≢false, refl, sym, ap, List, [], ◌∷◌, Option, None, Some, length, take, map, append_assoc, append-nil, arith}
use Rattle.std.specs.Prelude.{slice_get}
use Rattle.std.specs.Int.{w32, to_be_bytes}
use Rattle.std.specs.List.{AllByRecursion, flat_map}
use Rattle.std.specs.Ordering.{nat_cmp, is_lt, is_eq, eq_by_cmp, ordering_reverse}
use Rattle.std.specs.declared.cmp.Ordering.{Ordering}
use Rattle.std.specs.declared.cmp.Ordering.TheVariants.{Less, Equal, Greater}
use Rattle.std.specs.Cmp.{tied_itself}
use Rattle.std.specs.Cmp.Lexicographic.{slice_cmp, nat_list_cmp_total}
use Rattle.std.specs.FinMap as finmap
use Rattle.std.specs.FinMap.Entries.{find, is_sorted, below_all}
use Rattle.std.proofs.lemmas.List.{length-map, take_all}
use Rattle.std.proofs.lemmas.List.Concat.{flat_map-append}
use Rattle.std.proofs.lemmas.List.Folds.{flat_map-map}
use Rattle.s80_image.specs.Spelling.{listed}

-- ---- a loop over a list

taken_further : {X : Type 0} (xs : List X) (i : ℕ) (x : X) → slice_get xs i ≡ Some x → take (suc i) xs ≡ take i xs ++ x ∷ []
taken_further [] i x at = absurd (cc)
taken_further (y ∷ ys) zero x at = let same : y ≡ x = cc in ap (λ z. z ∷ []) same
taken_further (y ∷ ys) (suc i) x at = ap (λ l. y ∷ l) (taken_further ys i x at)

pub take_next : {X : Type 0} (xs : List X) (i : ℕ) (x : X) → slice_get xs i ≡ Some x → take (i + 1) xs ≡ take i xs ++ x ∷ []
take_next xs i x at = let on : i + 1 ≡ suc i = omega arith in ap (λ n. take n xs) on ∙ taken_further xs i x at

pub is_within : {X : Type 0} (xs : List X) (i : ℕ) (x : X) → slice_get xs i ≡ Some x → i < length xs
is_within [] i x at = absurd (cc)
is_within (y ∷ ys) zero x at = omega arith
is_within (y ∷ ys) (suc i) x at = let h = is_within ys i x at in omega (arith, h)

pub is_past : {X : Type 0} (xs : List X) (i : ℕ) → slice_get xs i ≡ None → length xs ≤ i
is_past [] i at = omega arith
is_past (y ∷ ys) zero at = absurd (cc)
is_past (y ∷ ys) (suc i) at = let h = is_past ys i at in omega (arith, h)

-- what stood before, the length of the list, and the pieces of those so far
module _ {X : Type 0} (piece : X → List ℕ) (xs : List X) (before : List ℕ) (count : ℕ) where
  abbrev pub SoFar : ℕ → List ℕ → Type 0
  SoFar i now = now ≡ before ++ (to_be_bytes w32 count ++ flat_map piece (take i xs))

  pub none_yet : (n : ℕ) (now : List ℕ) → n ≡ count → now ≡ before ++ to_be_bytes w32 n → SoFar 0 now
  none_yet n now same so = so ∙ ap (λ m. before ++ to_be_bytes w32 m) same ∙ ap (λ b. before ++ b) (sym (append-nil (to_be_bytes w32 count)))

  pub one_more : (i : ℕ) (x : X) (now new : List ℕ) → slice_get xs i ≡ Some x → SoFar i now → new ≡ now ++ piece x → SoFar (i + 1) new
  one_more i x now new at so more =
      more ∙ ap (λ l. l ++ piece x) so ∙ append_assoc before (to_be_bytes w32 count ++ flat_map piece (take i xs)) (piece x)
      ∙ ap (λ l. before ++ l) (append_assoc (to_be_bytes w32 count) (flat_map piece (take i xs)) (piece x)
      ∙ ap (λ l. to_be_bytes w32 count ++ (flat_map piece (take i xs) ++ l)) (sym (append-nil (piece x)))
      ∙ ap (λ l. to_be_bytes w32 count ++ l) (sym (flat_map-append piece (take i xs) (x ∷ [])) ∙ ap (flat_map piece) (sym (take_next xs i x at))))

  pub all_of_them : (i : ℕ) (now : List ℕ) → length xs ≤ i → length xs ≡ count → SoFar i now → now ≡ before ++ listed piece xs
  all_of_them i now past same so = so ∙ ap (λ l. before ++ (to_be_bytes w32 count ++ flat_map piece l)) (take_all i xs past) ∙ ap (λ n. before ++ (to_be_bytes w32 n ++ flat_map piece xs)) (sym same)

-- a list of what is seen of others
pub listed_map : {X Y : Type 0} (piece : Y → List ℕ) (view : X → Y) (xs : List X) → listed piece (map view xs) ≡ listed (λ x. piece (view x)) xs
listed_map piece view xs = λ i. to_be_bytes w32 (length-map xs view i) ++ flat_map-map piece view xs i

pub map_twice : {X Y Z : Type 0} (g : Y → Z) (f : X → Y) (xs : List X) → map g (map f xs) ≡ map (λ x. g (f x)) xs
map_twice g f [] = refl
map_twice g f (x ∷ xs) = ap (λ l. g (f x) ∷ l) (map_twice g f xs)

-- ---- the entries of a finite map by their keys

abbrev Text : Type 0
Text = List ℕ

abbrev by_bytes : Text → Text → Ordering
by_bytes = slice_cmp nat_cmp

true_is : (b : Bool) → T b → b ≡ true
true_is true h = refl
true_is false h = absurd h

first_of_two : (a b : Bool) → T (a && b) → T a
first_of_two true b h = tt
first_of_two false b h = absurd h

second_of_two : (a b : Bool) → T (a && b) → T b
second_of_two true b h = h
second_of_two false b h = absurd h

-- what is below isn't equal, told from the other side
unequal : (r : Ordering) → is_lt r ≡ true → is_eq (ordering_reverse r) ≡ false
unequal Less is = refl
unequal Equal is = absurd (true≢false (sym is))
unequal Greater is = refl

apart : (a b : Text) → is_lt (by_bytes a b) ≡ true → eq_by_cmp by_bytes b a ≡ false
apart a b below = ap is_eq (nat_list_cmp_total.antisymm b a) ∙ unequal (by_bytes a b) below

tied : (a : Text) → eq_by_cmp by_bytes a a ≡ true
tied a = ap is_eq (tied_itself nat_list_cmp_total a)

module _ {X : Type 0} where
  -- each entry is what is found by its key
  all_found : (es : List (Text × X)) → T (is_sorted by_bytes es) → AllByRecursion (λ e. find by_bytes e.0 es ≡ Some e.1) es
  all_found [] sorted = tt
  all_found (e ∷ es) sorted =
      (ap (λ b. cond b (Some e.1) (find by_bytes e.0 es)) (tied e.0), later es (first_of_two (below_all by_bytes e.0 es) (is_sorted by_bytes es) sorted) (all_found es (second_of_two (below_all by_bytes e.0 es) (is_sorted by_bytes es) sorted)))
    where
      later : (fs : List (Text × X)) → T (below_all by_bytes e.0 fs) → AllByRecursion (λ f. find by_bytes f.0 es ≡ Some f.1) fs → AllByRecursion (λ f. cond (eq_by_cmp by_bytes f.0 e.0) (Some e.1) (find by_bytes f.0 es) ≡ Some f.1) fs
      later [] below found = tt
      later (f ∷ fs) below found = (
        ap (λ b. cond b (Some e.1) (find by_bytes f.0 es)) (apart e.0 f.0 (true_is (is_lt (by_bytes e.0 f.0)) (first_of_two (is_lt (by_bytes e.0 f.0)) (below_all by_bytes e.0 fs) below))) ∙ found.0,
        later fs (second_of_two (is_lt (by_bytes e.0 f.0)) (below_all by_bytes e.0 fs) below) found.1,
      )

  -- pieces of entries are pieces of keys, by what is found there
  pieces_of_found : (piece : Text → Option X → List ℕ) (es whole : List (Text × X)) → AllByRecursion (λ e. find by_bytes e.0 whole ≡ Some e.1) es
      → flat_map (λ k. piece k (find by_bytes k whole)) (map (λ e. e.0) es) ≡ flat_map (λ e. piece e.0 (Some e.1)) es
  pieces_of_found piece [] whole found = refl
  pieces_of_found piece (e ∷ es) whole found = λ i. piece e.0 (found.0 i) ++ pieces_of_found piece es whole found.1 i

  pub listed_by_keys : (piece : Text → Option X → List ℕ) (m : finmap.FinMap by_bytes X) → listed (λ k. piece k (finmap.get m k)) (finmap.keys m) ≡ listed (λ e. piece e.0 (Some e.1)) (finmap.entries m)
  listed_by_keys piece m =
      ap (λ (look : Text → Option X). listed (λ k. piece k (look k)) (finmap.keys m)) (λ i k. finmap.get-entries m k i)
      ∙ (λ i. to_be_bytes w32 (length-map (finmap.entries m) (λ (e : Text × X). e.0) i) ++ pieces_of_found piece (finmap.entries m) (finmap.entries m) (all_found (finmap.entries m) (finmap.entries_sorted m)) i)
