-- The classes of one's own in their order.
use Rattle.std.proofs.Common.{◌≡◌, ◌∙◌, ◌+◌, ◌++◌, ◌==◌, not, cond, ℕ, Bool, true, refl, ap, List, [], ◌∷◌, Some, length, map, take, get_or}
use Rattle.std.specs.Prelude.{slice_get}
use Rattle.std.specs.List.{All, filter, flat_map, list_any}
use Rattle.std.specs.List.Sorted.{IsPermutation, IsSortedByKey, IsStableByKey}
use Rattle.std.specs.Ordering.{nat_cmp}
use Rattle.std.specs.Cmp.{nat_cmp_total, unsigned_ties}
use Rattle.std.specs.FinMap as finmap
use Rattle.std.proofs.lemmas.List.Elements.{All-filter, All-map, All-same}
use Rattle.std.proofs.lemmas.List.Sorted.{All-permutation}
use Rattle.s80_kernel.specs.Rows.{is_kernel_class}
use Rattle.s80_class.specs.Classes.{Name, Classes, lineage}
use Rattle.s80_fileout.specs.declared.order.RankedClass.{RankedClass}
use Rattle.s80_fileout.specs.Condensed.{is_own_at, up_to}
use Rattle.s80_fileout.specs.Order.{own_names, ranked_class}
use Rattle.s80_fileout.proofs.Depths.{depth_among, numbers_rise}
use Rattle.s80_fileout.proofs.Grouped.{sorted_groups}
use Rattle.s80_fileout.proofs.Looked.{key_there}
use Rattle.s80_fileout.proofs.Pieces.{all_at, map_itself, map_of_map, map_of_pieces, passes_of_map, passes_of_passes, passing_pieces, piece_added}

abbrev pub is_own : Name → Bool
is_own name = not (is_kernel_class name)

abbrev depth_in : Classes → Name → ℕ
depth_in classes name = length (lineage classes name)

abbrev pub named_in_order : Classes → List RankedClass
named_in_order classes = map (ranked_class classes) (filter is_own (finmap.keys classes))

-- the classes in byte order, each a piece
abbrev pub class_piece : Classes → Name → List RankedClass
class_piece classes name = cond (is_own name) (ranked_class classes name ∷ []) []

pub class_pieces : (classes : Classes) → flat_map (class_piece classes) (finmap.keys classes) ≡ named_in_order classes
class_pieces classes = passing_pieces is_own (ranked_class classes) (finmap.keys classes)

pub class_added : (classes : Classes) (i : ℕ) (name : Name) (now new : List RankedClass) → slice_get (finmap.keys classes) i ≡ Some name → now ≡ flat_map (class_piece classes) (take i (finmap.keys classes))
    → new ≡ now ++ class_piece classes name → new ≡ flat_map (class_piece classes) (take (i + 1) (finmap.keys classes))
class_added classes i name now new at so more = piece_added (class_piece classes) (finmap.keys classes) [] i name now new at so more

module _ (classes : Classes) (named : List RankedClass) (is : named ≡ named_in_order classes) where
  abbrev numbers : List ℕ
  numbers = up_to (finmap.len classes)

  abbrev IsAmong : ℕ → Type 0
  IsAmong depth = list_any (λ j. depth == j) numbers ≡ true

  depths : All (λ (c : RankedClass). IsAmong c.depth) named
  depths =
      All-same (λ (c : RankedClass). IsAmong c.depth) named (named_in_order classes) is
      (All-map (λ (c : RankedClass). IsAmong c.depth) (ranked_class classes) (filter is_own (finmap.keys classes))
      (All-filter is_own (λ name. IsAmong (depth_in classes name)) (finmap.keys classes)
      (λ k d within. depth_among classes (get_or (finmap.keys classes) k d) (all_at (λ name. finmap.contains_key classes name ≡ true) (finmap.keys classes) (key_there classes) k d within))))

  at_depth : (depth : ℕ) → map (λ (c : RankedClass). c.class_name) (filter (λ (c : RankedClass). c.depth == depth) named) ≡ filter (is_own_at classes depth) (finmap.keys classes)
  at_depth depth =
      ap (λ l. map (λ (c : RankedClass). c.class_name) (filter (λ (c : RankedClass). c.depth == depth) l)) is
      ∙ ap (map (λ (c : RankedClass). c.class_name)) (passes_of_map (λ (c : RankedClass). c.depth == depth) (ranked_class classes) (filter is_own (finmap.keys classes)))
      ∙ map_of_map (λ (c : RankedClass). c.class_name) (ranked_class classes) (filter (λ name. depth_in classes name == depth) (filter is_own (finmap.keys classes)))
      ∙ map_itself (filter (λ name. depth_in classes name == depth) (filter is_own (finmap.keys classes)))
      ∙ passes_of_passes is_own (λ name. depth_in classes name == depth) (finmap.keys classes)

  -- sorted by their depths
  pub own_sorted : (sorted : List RankedClass) → IsSortedByKey (λ (c : RankedClass). c.depth) nat_cmp sorted → IsStableByKey (λ (c : RankedClass). c.depth) nat_cmp named sorted → IsPermutation named sorted
      → map (λ (c : RankedClass). c.class_name) sorted ≡ own_names classes
  own_sorted sorted rises stable moved =
      let there : All (λ (c : RankedClass). IsAmong c.depth) sorted = All-permutation (λ (c : RankedClass). IsAmong c.depth) named sorted moved depths in
      let groups = sorted_groups (λ (c : RankedClass). c.depth) nat_cmp nat_cmp_total finmap.nat_cmp-IsAntisymmetric (λ a b. a == b) unsigned_ties numbers named sorted (λ depth. record { depth = depth; class_name = [] }) (λ depth. refl) (numbers_rise (finmap.len classes)) rises stable there in
      ap (map (λ (c : RankedClass). c.class_name)) groups
      ∙ map_of_pieces (λ (c : RankedClass). c.class_name) (λ depth. filter (λ (c : RankedClass). c.depth == depth) named) numbers
      ∙ ap (λ (g : ℕ → List Name). flat_map g numbers) (λ i depth. at_depth depth i)
