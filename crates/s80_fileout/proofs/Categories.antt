-- The methods on one side of a class in their order.
use Rattle.std.proofs.Common.{◌≡◌, ◌∙◌, ℕ, Bool, true, refl, sym, ap, List, [], ◌∷◌, Option, Some, None, map}
use Rattle.std.specs.List.{AllByRecursion, All, filter, flat_map, list_any}
use Rattle.std.specs.List.Sorted.{IsPermutation, IsSortedBy, IsStableBy}
use Rattle.std.specs.Ordering.{is_lt, eq_by_cmp}
use Rattle.std.specs.Cmp.Lexicographic.{nat_list_cmp_total, texts_ties}
use Rattle.std.specs.Str.{bytes_eq}
use Rattle.std.specs.FinMap as finmap
use Rattle.std.proofs.lemmas.List.Concat.{flat_map_single}
use Rattle.std.proofs.lemmas.List.Elements.{All-map, All-same}
use Rattle.std.proofs.lemmas.List.Sorted.{All-permutation}
use Rattle.s80_base.specs.declared.names.Side.{Side}
use Rattle.s80_dict.specs.Dict.{Methods}
use Rattle.s80_class.specs.Classes.{Name}
use Rattle.s80_apply.specs.State.{MethodRow}
use Rattle.s80_fileout.specs.declared.methods.ListedMethod.{ListedMethod}
use Rattle.s80_fileout.specs.Condensed.{by_category, categories}
use Rattle.s80_fileout.specs.Order.{listed}
use Rattle.s80_fileout.proofs.Grouped.{sorted_groups}
use Rattle.s80_fileout.proofs.Looked.{among_keys, by_bytes, keys_rise, pieces_by_keys, tied}
use Rattle.s80_fileout.proofs.Pieces.{all_among, all_at, map_of_pieces, passes_of_map}

abbrev pub category_of : ListedMethod → List ℕ
category_of m = m.method.category

abbrev pub before_in_category : ListedMethod → ListedMethod → Bool
before_in_category one other = is_lt (by_bytes (category_of one) (category_of other))

abbrev Entries : Type 0
Entries = List (List ℕ × MethodRow)

-- a method of a selector, where there is one
abbrev pub method_piece : Name → Side → List ℕ → Option MethodRow → List ListedMethod
method_piece name side selector None = []
method_piece name side selector (Some row) = listed name side (selector, row) ∷ []

-- the categories of entries, as the keys of a map
abbrev as_keys : Entries → List (List ℕ × Unit {0})
as_keys es = map (λ e. (e.1.category, tt {0})) es

module _ (methods : Methods MethodRow) (name : Name) (side : Side) where
  abbrev pub by_selector : List ListedMethod
  by_selector = map (listed name side) (finmap.entries methods)

  pub method_pieces : flat_map (λ selector. method_piece name side selector (finmap.get methods selector)) (finmap.keys methods) ≡ by_selector
  method_pieces = sym (pieces_by_keys (method_piece name side) methods) ∙ flat_map_single (listed name side) (finmap.entries methods)

  abbrev IsAmong : List ℕ → Type 0
  IsAmong category = list_any (bytes_eq category) (categories methods) ≡ true

  -- each entry's category is among them
  each_among : All (λ (e : List ℕ × MethodRow). IsAmong e.1.category) (finmap.entries methods)
  each_among = go (finmap.entries methods) (all_among (eq_by_cmp by_bytes) tied (map (λ (p : List ℕ × Unit {0}). p.0) (as_keys (finmap.entries methods))))
    where
      turned : (es : Entries) → AllByRecursion (λ k. list_any (eq_by_cmp by_bytes k) (map (λ (p : List ℕ × Unit {0}). p.0) (as_keys (finmap.entries methods))) ≡ true) (map (λ (p : List ℕ × Unit {0}). p.0) (as_keys es))
          → AllByRecursion (λ (e : List ℕ × MethodRow). IsAmong e.1.category) es
      turned [] among = tt
      turned (e ∷ es) among = (among_keys (as_keys (finmap.entries methods)) e.1.category among.0, turned es among.1)

      go : (es : Entries) → AllByRecursion (λ k. list_any (eq_by_cmp by_bytes k) (map (λ (p : List ℕ × Unit {0}). p.0) (as_keys (finmap.entries methods))) ≡ true) (map (λ (p : List ℕ × Unit {0}). p.0) (as_keys es))
          → All (λ (e : List ℕ × MethodRow). IsAmong e.1.category) es
      go es among = all_at (λ (e : List ℕ × MethodRow). IsAmong e.1.category) es (turned es among)

  in_category : (category : List ℕ) → filter (λ m. bytes_eq (category_of m) category) by_selector ≡ map (listed name side) (filter (λ (e : List ℕ × MethodRow). bytes_eq e.1.category category) (finmap.entries methods))
  in_category category = passes_of_map (λ m. bytes_eq (category_of m) category) (listed name side) (finmap.entries methods)

  -- sorted by their categories
  pub category_sorted : (first sorted : List ListedMethod) → first ≡ by_selector → IsSortedBy before_in_category sorted → IsStableBy before_in_category first sorted → IsPermutation first sorted
      → sorted ≡ map (listed name side) (by_category methods)
  category_sorted first sorted is rises stable moved =
      let P : ListedMethod → Type 0 = λ m. IsAmong (category_of m) in
      let there : All P sorted = All-permutation P first sorted moved (All-same P first by_selector is (All-map P (listed name side) (finmap.entries methods) each_among)) in
      let of_category : List ℕ → ListedMethod = λ category. listed name side ([], record { category = category; source = [] }) in
      sorted_groups category_of by_bytes nat_list_cmp_total (finmap.slice_cmp-IsAntisymmetric finmap.nat_cmp-IsAntisymmetric) bytes_eq texts_ties (categories methods) first sorted of_category (λ category. refl) (keys_rise (finmap.from_entries (as_keys (finmap.entries methods)))) rises stable there
      ∙ ap (λ l. flat_map (λ category. filter (λ m. bytes_eq (category_of m) category) l) (categories methods)) is
      ∙ ap (λ (g : List ℕ → List ListedMethod). flat_map g (categories methods)) (λ i category. in_category category i)
      ∙ sym (map_of_pieces (listed name side) (λ category. filter (λ (e : List ℕ × MethodRow). bytes_eq e.1.category category) (finmap.entries methods)) (categories methods))
