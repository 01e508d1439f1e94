-- Finite maps by names: their entries, and what is found there.
use Rattle.std.proofs.Common.{◌≡◌, ◌∙◌, ◌&&◌, ℕ, Bool, cond, true, false, true≢false, refl, sym, ap, subst, List, [], ◌∷◌, Option, Some, None, option_map, map as list_map}
use Rattle.std.specs.Prelude.{T}
use Rattle.std.specs.List.{AllByRecursion}
use Rattle.std.specs.Str.{bytes_eq}
use Rattle.std.specs.Ordering.{nat_cmp, is_lt, is_eq, eq_by_cmp, ordering_reverse}
use Rattle.std.specs.declared.cmp.Ordering.{Ordering}
use Rattle.std.specs.declared.cmp.Ordering.TheVariants.{Less, Equal, Greater}
use Rattle.std.specs.Cmp.{tied_itself}
use Rattle.std.specs.Cmp.Lexicographic.{slice_cmp, nat_list_cmp_total, bytes_decides, texts_ties}
use Rattle.std.specs.FinMap as map
use Rattle.std.specs.FinMap.Entries.{below_all, find, is_sorted}

abbrev pub Text : Type 0
Text = List ℕ

abbrev pub by_text : Text → Text → Ordering
by_text = slice_cmp nat_cmp

abbrev pub Named : Type 0 → Type 0
Named V = map.FinMap by_text V

-- whether or not something is found
pub by_found : {V P : Type 0} (o : Option V) → (o ≡ None → P) → ((v : V) → o ≡ Some v → P) → P
by_found {V} {P} o none some = go o refl
  where
    go : (p : Option V) → o ≡ p → P
    go None is = none is
    go (Some v) is = some v is

pub no_value : {V P : Type 0} (o : Option V) (v : V) → o ≡ None → o ≡ Some v → P
no_value o v none some = absurd (let bad : None ≡ Some v = sym none ∙ some in cc)

pub one_value : {V : Type 0} (o : Option V) (v w : V) → o ≡ Some v → o ≡ Some w → v ≡ w
one_value o v w first second = let both : Some v ≡ Some w = sym first ∙ second in cc

pub true_is : (b : Bool) → T b → b ≡ true
true_is true h = refl
true_is false h = absurd h

pub first_of_two : (a b : Bool) → T (a && b) → T a
first_of_two true b h = tt
first_of_two false b h = absurd h

pub second_of_two : (a b : Bool) → T (a && b) → T b
second_of_two true b h = h
second_of_two false b h = absurd h

-- what is below isn't equal, told from the other side
unequal : (r : Ordering) → is_lt r ≡ true → is_eq (ordering_reverse r) ≡ false
unequal Less is = refl
unequal Equal is = absurd (true≢false (sym is))
unequal Greater is = refl

apart : (a b : Text) → is_lt (by_text a b) ≡ true → eq_by_cmp by_text b a ≡ false
apart a b below = ap is_eq (nat_list_cmp_total.antisymm b a) ∙ unequal (by_text a b) below

tied : (a : Text) → eq_by_cmp by_text a a ≡ true
tied a = ap is_eq (tied_itself nat_list_cmp_total a)

module _ {V : Type 0} where
  -- each entry is what is found by its key
  all_found : (es : List (Text × V)) → T (is_sorted by_text es) → AllByRecursion (λ e. find by_text e.0 es ≡ Some e.1) es
  all_found [] sorted = tt
  all_found (e ∷ es) sorted = (
    ap (λ b. cond b (Some e.1) (find by_text e.0 es)) (tied e.0),
    later es (first_of_two (below_all by_text e.0 es) (is_sorted by_text es) sorted) (all_found es (second_of_two (below_all by_text e.0 es) (is_sorted by_text es) sorted)),
  )
    where
      later : (fs : List (Text × V)) → T (below_all by_text e.0 fs) → AllByRecursion (λ f. find by_text f.0 es ≡ Some f.1) fs
          → AllByRecursion (λ f. cond (eq_by_cmp by_text f.0 e.0) (Some e.1) (find by_text f.0 es) ≡ Some f.1) fs
      later [] below found = tt
      later (f ∷ fs) below found = (
        ap (λ b. cond b (Some e.1) (find by_text f.0 es)) (apart e.0 f.0 (true_is (is_lt (by_text e.0 f.0)) (first_of_two (is_lt (by_text e.0 f.0)) (below_all by_text e.0 fs) below))) ∙ found.0,
        later fs (second_of_two (is_lt (by_text e.0 f.0)) (below_all by_text e.0 fs) below) found.1,
      )

  turned_found : (m : Named V) (es : List (Text × V)) → AllByRecursion (λ e. find by_text e.0 (map.entries m) ≡ Some e.1) es
      → AllByRecursion (λ e. map.get m e.0 ≡ Some e.1) es
  turned_found m [] all = tt
  turned_found m (e ∷ es) all = (map.get-entries m e.0 ∙ all.0, turned_found m es all.1)

  pub each_found : (m : Named V) → AllByRecursion (λ e. map.get m e.0 ≡ Some e.1) (map.entries m)
  each_found m = turned_found m (map.entries m) (all_found (map.entries m) (map.entries_sorted m))

  -- what holds of each entry holds of what is found
  among : (P : Text → V → Type 0) (es : List (Text × V)) → AllByRecursion (λ e. P e.0 e.1) es → (q : Text) (v : V) → find by_text q es ≡ Some v → P q v
  among P [] all q v is = absurd (let bad : None ≡ Some v = is in cc)
  among P (e ∷ es) all q v is = by_key (among P es all.1 q v) (bytes_eq q e.0) refl (ap (λ b. cond b (Some e.1) (find by_text q es)) (texts_ties q e.0) ∙ is)
    where
      by_key : (find by_text q es ≡ Some v → P q v) → (b : Bool) → bytes_eq q e.0 ≡ b → cond b (Some e.1) (find by_text q es) ≡ Some v → P q v
      by_key rest true at here =
          let keys : e.0 ≡ q = sym ((bytes_decides q e.0).0 at) in
          let values : e.1 ≡ v = cc in
          subst (λ (x : Text × V). P x.0 x.1) (λ i. (keys i, values i)) all.0
      by_key rest false at more = rest more

  pub found_holds : (P : Text → V → Type 0) (m : Named V) → AllByRecursion (λ e. P e.0 e.1) (map.entries m) → (q : Text) (v : V) → map.get m q ≡ Some v → P q v
  found_holds P m all q v is = among P (map.entries m) all q v (sym (map.get-entries m q) ∙ is)

  -- and the other way
  each_of : (P : Text → V → Type 0) (m : Named V) (es : List (Text × V)) → ((q : Text) (v : V) → map.get m q ≡ Some v → P q v)
      → AllByRecursion (λ e. map.get m e.0 ≡ Some e.1) es → AllByRecursion (λ e. P e.0 e.1) es
  each_of P m [] holds all = tt
  each_of P m (e ∷ es) holds all = (holds e.0 e.1 all.0, each_of P m es holds all.1)

  pub each_holds : (P : Text → V → Type 0) (m : Named V) → ((q : Text) (v : V) → map.get m q ≡ Some v → P q v) → AllByRecursion (λ e. P e.0 e.1) (map.entries m)
  each_holds P m holds = each_of P m (map.entries m) holds (each_found m)

  -- two maps that answer alike are equal
  pub same_named : (m n : Named V) → ((q : Text) → map.get m q ≡ map.get n q) → m ≡ n
  same_named m n is = map.same_map nat_list_cmp_total (map.slice_cmp-IsAntisymmetric map.nat_cmp-IsAntisymmetric) m n is

  pub none_named : (m : Named V) → ((q : Text) → map.get m q ≡ None) → m ≡ map.empty
  none_named m none = same_named m map.empty (λ q. none q ∙ sym (map.get-empty by_text q))

  -- a map is that of its entries
  pub entries_again : (m : Named V) → map.from_entries (map.entries m) ≡ m
  entries_again m = same_named (map.from_entries (map.entries m)) m (λ q. map.get-from_entries nat_list_cmp_total (map.entries m) q ∙ sym (map.get-entries m q))

-- ---- the values of a map seen otherwise

module _ {V W : Type 0} (view : V → W) where
  abbrev pub seen_entries : List (Text × V) → List (Text × W)
  seen_entries es = list_map (λ e. (e.0, view e.1)) es

  seen_below : (x : Text) (es : List (Text × V)) → below_all by_text x (seen_entries es) ≡ below_all by_text x es
  seen_below x [] = refl
  seen_below x (e ∷ es) = ap (λ b. is_lt (by_text x e.0) && b) (seen_below x es)

  seen_sorted : (es : List (Text × V)) → is_sorted by_text (seen_entries es) ≡ is_sorted by_text es
  seen_sorted [] = refl
  seen_sorted (e ∷ es) = λ i. seen_below e.0 es i && seen_sorted es i

  seen_find : (q : Text) (es : List (Text × V)) → find by_text q (seen_entries es) ≡ option_map view (find by_text q es)
  seen_find q [] = refl
  seen_find q (e ∷ es) = elim (eq_by_cmp by_text q e.0) as (λ b. cond b (Some (view e.1)) (find by_text q (seen_entries es)) ≡ option_map view (cond b (Some e.1) (find by_text q es))) [
    | true ↦ refl
    | false ↦ seen_find q es
  ]

  pub entries_seen : (m : Named V) (n : Named W) → ((q : Text) → option_map view (map.get m q) ≡ map.get n q) → seen_entries (map.entries m) ≡ map.entries n
  entries_seen m n same =
      let sorted : T (is_sorted by_text (seen_entries (map.entries m))) = subst T (sym (seen_sorted (map.entries m))) (map.entries_sorted m) in
      let made : Named W = map.from_sorted (seen_entries (map.entries m)) in
      let is : made ≡ n = same_named made n (λ q.
      map.get-from_sorted by_text (seen_entries (map.entries m)) q sorted ∙ seen_find q (map.entries m) ∙ ap (option_map view) (sym (map.get-entries m q)) ∙ same q) in
      sym (map.entries-from_sorted by_text (seen_entries (map.entries m)) sorted) ∙ ap (λ (k : Named W). map.entries k) is
