-- Methods that are seen by less than is kept of them, as they are put, taken away and counted.
use Rattle.std.proofs.Common.{◌≡◌, ◌+◌, ◌∙◌, ◌&&◌, ℕ, suc, Bool, T, cond, true, false, refl, sym, ap, subst, List, [], ◌∷◌, length, Option, Some, None, is_some, option_map, map as list_map}
use Rattle.std.specs.Ordering.{nat_cmp, eq_by_cmp, is_lt}
use Rattle.std.specs.declared.cmp.Ordering.{Ordering}
use Rattle.std.specs.Cmp.Lexicographic.{slice_cmp, nat_list_cmp_total}
use Rattle.std.specs.FinMap as map
use Rattle.std.specs.FinMap.Entries.{below_all, find, is_sorted}
use Rattle.s80_dict.specs.Dict.{Methods}
use Rattle.s80_class.specs.Classes.{Name}
use Rattle.s80_apply.specs.Accept.{len_with}
use Rattle.s80_apply.specs.Seen.{AreSeen}

abbrev order : Name → Name → Ordering
order = slice_cmp nat_cmp

-- ---- the keys of a map depend on what it contains alone

-- its keys, each with the same
abbrev bare : {X : Type 0} → List (Name × X) → List (Name × ℕ)
bare es = list_map (λ e. (e.0, 0)) es

abbrev firsts : {X : Type 0} → List (Name × X) → List Name
firsts es = list_map (λ e. e.0) es

module _ {X : Type 0} where
  bare_firsts : (es : List (Name × X)) → firsts (bare es) ≡ firsts es
  bare_firsts [] = refl
  bare_firsts (e ∷ es) = ap (λ (names : List Name). e.0 ∷ names) (bare_firsts es)

  bare_below : (x : Name) (es : List (Name × X)) → below_all order x (bare es) ≡ below_all order x es
  bare_below x [] = refl
  bare_below x (e ∷ es) = ap (λ b. is_lt (order x e.0) && b) (bare_below x es)

  bare_sorted : (es : List (Name × X)) → is_sorted order (bare es) ≡ is_sorted order es
  bare_sorted [] = refl
  bare_sorted (e ∷ es) = λ i. bare_below e.0 es i && bare_sorted es i

  bare_find : (q : Name) (es : List (Name × X)) → find order q (bare es) ≡ option_map {U = ℕ} (λ v. 0) (find order q es)
  bare_find q [] = refl
  bare_find q (e ∷ es) = elim (eq_by_cmp order q e.0) as (λ b. cond b (Some 0) (find order q (bare es)) ≡ option_map {U = ℕ} (λ v. 0) (cond b (Some e.1) (find order q es))) [
    | true ↦ refl
    | false ↦ bare_find q es
  ]

  -- the map of them
  abbrev bare_map : Methods X → Methods ℕ
  bare_map m = map.from_sorted (bare (map.entries m))

  in_order : (m : Methods X) → T (is_sorted order (bare (map.entries m)))
  in_order m = subst T (sym (bare_sorted (map.entries m))) (map.entries_sorted m)

  bare_keys : (m : Methods X) → map.keys (bare_map m) ≡ map.keys m
  bare_keys m = ap firsts (map.entries-from_sorted order (bare (map.entries m)) (in_order m)) ∙ bare_firsts (map.entries m)

  bare_get : (m : Methods X) (q : Name) → map.get (bare_map m) q ≡ option_map {U = ℕ} (λ v. 0) (map.get m q)
  bare_get m q = map.get-from_sorted order (bare (map.entries m)) q (in_order m) ∙ bare_find q (map.entries m) ∙ ap (option_map {U = ℕ} (λ v. 0)) (sym (map.get-entries m q))

both_there : {X Y : Type 0} (a : Option X) (b : Option Y) → is_some a ≡ is_some b → option_map {U = ℕ} (λ v. 0) a ≡ option_map {U = ℕ} (λ v. 0) b
both_there None None same = refl
both_there None (Some y) same = absurd (cc)
both_there (Some x) None same = absurd (cc)
both_there (Some x) (Some y) same = refl

pub same_keys : {X Y : Type 0} (m : Methods X) (n : Methods Y) → ((q : Name) → map.contains_key m q ≡ map.contains_key n q) → map.keys m ≡ map.keys n
same_keys m n same =
    sym (bare_keys m)
    ∙ ap (λ (names : Methods ℕ). map.keys names)
    (map.same_map nat_list_cmp_total (map.slice_cmp-IsAntisymmetric map.nat_cmp-IsAntisymmetric) (bare_map m) (bare_map n) (λ q. bare_get m q ∙ both_there (map.get m q) (map.get n q) (same q) ∙ sym (bare_get n q)))
    ∙ bare_keys n

count_firsts : {X : Type 0} (es : List (Name × X)) → length (firsts es) ≡ length es
count_firsts [] = refl
count_firsts (e ∷ es) = ap suc (count_firsts es)

len_keys : {X : Type 0} (m : Methods X) → map.len m ≡ length (map.keys m)
len_keys m = map.len-entries m ∙ sym (count_firsts (map.entries m))

-- ---- what is seen of methods

some_of : {X Y : Type 0} (f : X → Y) (o : Option X) → is_some (option_map f o) ≡ is_some o
some_of f None = refl
some_of f (Some x) = refl

module _ {X M : Type 0} (view : X → M) where
  -- it is enough that each method is seen so
  pub seen : (m : Methods X) (n : Methods M) → ((selector : Name) → option_map view (map.get m selector) ≡ map.get n selector) → AreSeen view m n
  seen m n each = record { keys = same_keys m n (λ q. sym (some_of view (map.get m q)) ∙ ap is_some (each q)); each = each }

  put_or : (b : Bool) (v : X) (row : M) (o : Option X) (q : Option M) → view v ≡ row → option_map view o ≡ q → option_map view (cond b (Some v) o) ≡ cond b (Some row) q
  put_or true v row o q is same = ap Some is
  put_or false v row o q is same = same

  pub seen_put : (m : Methods X) (n : Methods M) (k : Name) (v : X) (row : M) → view v ≡ row → AreSeen view m n → AreSeen view (map.insert m k v) (map.insert n k row)
  seen_put m n k v row is are = seen (map.insert m k v) (map.insert n k row) (λ s.
      ap (option_map view) (map.get-insert nat_list_cmp_total m k v s)
      ∙ put_or (eq_by_cmp order s k) v row (map.get m s) (map.get n s) is (are.each s)
      ∙ sym (map.get-insert nat_list_cmp_total n k row s))

  none_or : (b : Bool) (o : Option X) (q : Option M) → option_map view o ≡ q → option_map view (cond b None o) ≡ cond b None q
  none_or true o q same = refl
  none_or false o q same = same

  pub seen_taken : (m : Methods X) (n : Methods M) (k : Name) → AreSeen view m n → AreSeen view (map.remove m k) (map.remove n k)
  seen_taken m n k are = seen (map.remove m k) (map.remove n k) (λ s.
      ap (option_map view) (map.get-remove nat_list_cmp_total m k s)
      ∙ none_or (eq_by_cmp order s k) (map.get m s) (map.get n s) (are.each s)
      ∙ sym (map.get-remove nat_list_cmp_total n k s))

  pub seen_empty : AreSeen view map.empty map.empty
  seen_empty = seen map.empty map.empty (λ s. ap (option_map view) (map.get-empty order s) ∙ sym (map.get-empty order s))

  pub seen_where : (b : Bool) (x y : Methods X) (z w : Methods M) → AreSeen view x z → AreSeen view y w → AreSeen view (cond b x y) (cond b z w)
  seen_where true x y z w put kept = put
  seen_where false x y z w put kept = kept

  pub same_count : (m : Methods X) (n : Methods M) (k : Name) → AreSeen view m n → len_with k m ≡ len_with k n
  same_count m n k are =
      let there : map.contains_key m k ≡ map.contains_key n k = sym (some_of view (map.get m k)) ∙ ap is_some (are.each k) in
      let count : map.len m ≡ map.len n = len_keys m ∙ ap length are.keys ∙ sym (len_keys n) in
      λ i. cond (there i) (count i) (count i + 1)
