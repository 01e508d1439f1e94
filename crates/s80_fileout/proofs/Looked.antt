-- Finite maps from texts: their entries by their keys, and the keys in order.
use Rattle.std.proofs.Common.{◌≡◌, ◌∙◌, ◌&&◌, ◌++◌, cond, ℕ, Bool, true, false, true≢false, refl, sym, ap, List, [], ◌∷◌, Option, Some, is_some, map}
use Rattle.std.specs.Prelude.{T}
use Rattle.std.specs.List.{AllByRecursion, flat_map, list_any}
use Rattle.std.specs.Ordering.{nat_cmp, is_lt, is_eq, eq_by_cmp, ordering_reverse}
use Rattle.std.specs.declared.cmp.Ordering.{Ordering}
use Rattle.std.specs.declared.cmp.Ordering.TheVariants.{Less, Equal, Greater}
use Rattle.std.specs.Cmp.{eq_by_cmp_equiv, tied_itself}
use Rattle.std.specs.Cmp.Lexicographic.{slice_cmp, nat_list_cmp_total, texts_ties}
use Rattle.std.specs.Str.{bytes_eq}
use Rattle.std.specs.FinMap as finmap
use Rattle.std.specs.FinMap.Entries.{find, is_sorted, below_all, is_some-find}
use Rattle.s80_fileout.proofs.Grouped.{Rises}
use Rattle.s80_fileout.proofs.Pieces.{all_among}

abbrev Text : Type 0
Text = List ℕ

abbrev pub by_bytes : Text → Text → Ordering
by_bytes = slice_cmp nat_cmp

true_is : (b : Bool) → T b → b ≡ true
true_is true h = refl
true_is false h = absurd h

first_of_two : (a b : Bool) → T (a && b) → T a
first_of_two true b h = tt
first_of_two false b h = absurd h

second_of_two : (a b : Bool) → T (a && b) → T b
second_of_two true b h = h
second_of_two false b h = absurd h

-- what is below isn't equal, told from the other side
unequal : (r : Ordering) → is_lt r ≡ true → is_eq (ordering_reverse r) ≡ false
unequal Less is = refl
unequal Equal is = absurd (true≢false (sym is))
unequal Greater is = refl

apart : (a b : Text) → is_lt (by_bytes a b) ≡ true → eq_by_cmp by_bytes b a ≡ false
apart a b below = ap is_eq (nat_list_cmp_total.antisymm b a) ∙ unequal (by_bytes a b) below

pub tied : (a : Text) → eq_by_cmp by_bytes a a ≡ true
tied a = ap is_eq (tied_itself nat_list_cmp_total a)

pub texts_turned : (a b : Text) → bytes_eq a b ≡ bytes_eq b a
texts_turned a b = texts_ties a b ∙ (eq_by_cmp_equiv nat_list_cmp_total).symm a b ∙ sym (texts_ties b a)

module _ {X : Type 0} where
  -- each entry is what is found by its key
  all_found : (es : List (Text × X)) → T (is_sorted by_bytes es) → AllByRecursion (λ e. find by_bytes e.0 es ≡ Some e.1) es
  all_found [] sorted = tt
  all_found (e ∷ es) sorted =
      (ap (λ b. cond b (Some e.1) (find by_bytes e.0 es)) (tied e.0), later es (first_of_two (below_all by_bytes e.0 es) (is_sorted by_bytes es) sorted) (all_found es (second_of_two (below_all by_bytes e.0 es) (is_sorted by_bytes es) sorted)))
    where
      later : (fs : List (Text × X)) → T (below_all by_bytes e.0 fs) → AllByRecursion (λ f. find by_bytes f.0 es ≡ Some f.1) fs → AllByRecursion (λ f. cond (eq_by_cmp by_bytes f.0 e.0) (Some e.1) (find by_bytes f.0 es) ≡ Some f.1) fs
      later [] below found = tt
      later (f ∷ fs) below found = (
        ap (λ b. cond b (Some e.1) (find by_bytes f.0 es)) (apart e.0 f.0 (true_is (is_lt (by_bytes e.0 f.0)) (first_of_two (is_lt (by_bytes e.0 f.0)) (below_all by_bytes e.0 fs) below))) ∙ found.0,
        later fs (second_of_two (is_lt (by_bytes e.0 f.0)) (below_all by_bytes e.0 fs) below) found.1,
      )

  keys_below : (k : Text) (es : List (Text × X)) → T (below_all by_bytes k es) → AllByRecursion (λ j. is_lt (by_bytes k j) ≡ true) (map (λ e. e.0) es)
  keys_below k [] below = tt
  keys_below k (e ∷ es) below =
      (true_is (is_lt (by_bytes k e.0)) (first_of_two (is_lt (by_bytes k e.0)) (below_all by_bytes k es) below), keys_below k es (second_of_two (is_lt (by_bytes k e.0)) (below_all by_bytes k es) below))

  -- pieces of entries are pieces of keys, by what is found there
  pieces_of_found : {C : Type 0} (piece : Text → Option X → List C) (es whole : List (Text × X)) → AllByRecursion (λ e. find by_bytes e.0 whole ≡ Some e.1) es
      → flat_map (λ e. piece e.0 (Some e.1)) es ≡ flat_map (λ k. piece k (find by_bytes k whole)) (map (λ e. e.0) es)
  pieces_of_found piece [] whole found = refl
  pieces_of_found piece (e ∷ es) whole found = λ i. piece e.0 (sym found.0 i) ++ pieces_of_found piece es whole found.1 i

  pub pieces_by_keys : {C : Type 0} (piece : Text → Option X → List C) (m : finmap.FinMap by_bytes X) → flat_map (λ e. piece e.0 (Some e.1)) (finmap.entries m) ≡ flat_map (λ k. piece k (finmap.get m k)) (finmap.keys m)
  pieces_by_keys piece m =
      pieces_of_found piece (finmap.entries m) (finmap.entries m) (all_found (finmap.entries m) (finmap.entries_sorted m))
      ∙ ap (λ (look : Text → Option X). flat_map (λ k. piece k (look k)) (finmap.keys m)) (λ i k. sym (finmap.get-entries m k) i)

  -- the keys strictly rise
  rising : (es : List (Text × X)) → T (is_sorted by_bytes es) → Rises by_bytes (map (λ e. e.0) es)
  rising [] sorted = tt
  rising (e ∷ es) sorted =
      (keys_below e.0 es (first_of_two (below_all by_bytes e.0 es) (is_sorted by_bytes es) sorted), rising es (second_of_two (below_all by_bytes e.0 es) (is_sorted by_bytes es) sorted))

  pub keys_rise : (m : finmap.FinMap by_bytes X) → Rises by_bytes (finmap.keys m)
  keys_rise m = rising (finmap.entries m) (finmap.entries_sorted m)

  -- a text that is among the keys of entries is one of the map of these
  pub among_keys : (es : List (Text × X)) (k : Text) → list_any (eq_by_cmp by_bytes k) (map (λ e. e.0) es) ≡ true → list_any (bytes_eq k) (finmap.keys (finmap.from_entries {R = by_bytes} es)) ≡ true
  among_keys es k there =
      ap (λ (eq : Text → Bool). list_any eq (finmap.keys (finmap.from_entries {R = by_bytes} es))) (λ i j. texts_ties k j i)
      ∙ sym (finmap.contains_key-keys (finmap.from_entries {R = by_bytes} es) k)
      ∙ ap is_some (finmap.get-from_entries nat_list_cmp_total es k)
      ∙ is_some-find by_bytes k es ∙ there

  -- a key is there
  pub key_there : (m : finmap.FinMap by_bytes X) → AllByRecursion (λ k. finmap.contains_key m k ≡ true) (finmap.keys m)
  key_there m = turned (finmap.keys m) (all_among (eq_by_cmp by_bytes) tied (finmap.keys m))
    where
      turned : (ks : List Text) → AllByRecursion (λ k. list_any (eq_by_cmp by_bytes k) (finmap.keys m) ≡ true) ks → AllByRecursion (λ k. finmap.contains_key m k ≡ true) ks
      turned [] among = tt
      turned (k ∷ ks) among = (finmap.contains_key-keys m k ∙ among.0, turned ks among.1)
