-- What makes the classes of an image, class by class.
use Rattle.std.proofs.Common.{◌≡◌, ◌∙◌, ◌+◌, ◌≤◌, ◌||◌, ◌++◌, not, ℕ, Bool, cond, true, false, refl, sym, ap, subst, List, [], ◌∷◌, Option, Some, None, length, take, map as list_map, slice_get, append-nil, arith}
use Rattle.std.specs.Prelude.{filter, if◌then◌else◌}
use Rattle.std.specs.List.{flat_map, list_any}
use Rattle.std.specs.List.Sorted.{IsStrictlySortedBy}
use Rattle.std.specs.Str.{bytes_eq}
use Rattle.std.specs.FinMap as map
use Rattle.s80_base.specs.declared.names.Side.{Side}
use Rattle.s80_base.specs.declared.names.Side.TheVariants.{Instance, Class}
use Rattle.s80_kernel.specs.Rows.{is_kernel_class}
use Rattle.s80_form.specs.declared.form.Form.TheVariants.{RemoveMethod}
use Rattle.s80_change.specs.declared.change.Change.{Change}
use Rattle.s80_change.specs.declared.change.Change.TheVariants.{Form}
use Rattle.s80_class.specs.Classes.{Name, Classes, ClassRow, lineage}
use Rattle.s80_apply.specs.State.{MethodRow, State, kernel_state}
use Rattle.s80_apply.specs.System.{IsSystemOf, SystemState}
use Rattle.s80_dict.specs.Dict.{Methods}
use Rattle.s80_fileout.specs.declared.order.RankedClass.{RankedClass}
use Rattle.s80_fileout.specs.Condensed.{comment_of, of_kernel_class as of_class_of_kernel, of_own_class, removals}
use Rattle.s80_fileout.specs.Order.{by_row, kernel_class as class_of_kernel, own_class, own_in_order, ranked_class}
use Rattle.s80_image.specs.declared.image.ImageMethod.{ImageMethod}
use Rattle.s80_image.specs.Classes.{ClassView}
use Rattle.s80_image.specs.Methods.{MethodView, methods_of}
use Rattle.s80_image.specs.Together.{classes_by_name, row_of}
use Rattle.s80_snapshot.specs.Resuming.{has_selector, is_on, kernel_class, names_of, outline, place_in, ranked, removal_from, removals_from, selector_of}
use Rattle.s80_snapshot.specs.Sources.{ImagedMethod, imaged_methods, methods_on}
use Rattle.s80_snapshot.proofs.ClassPlaces.{class_got, class_keys, not_got, placed_class}
use Rattle.s80_snapshot.proofs.Grouping.{imaged, on_class, on_side}
use Rattle.s80_snapshot.proofs.ImageMaps.{has_one, order}
use Rattle.s80_snapshot.proofs.PiecesAdded.{at_each, map_of_map, passing_pieces, piece_added, pieces_of_map, same_pieces}

any_of_map : {X Y : Type 0} (p : Y → Bool) (f : X → Y) (xs : List X) → list_any p (list_map f xs) ≡ list_any (λ x. p (f x)) xs
any_of_map p f [] = refl
any_of_map p f (x ∷ xs) = ap (λ b. p (f x) || b) (any_of_map p f xs)

abbrev pub rank_piece : List ClassView → ClassView → List RankedClass
rank_piece cs c = cond (not (is_kernel_class c.heading.name)) (ranked_class (classes_by_name cs) c.heading.name ∷ []) []

-- ---- the kernel's classes

pub selector_told : (methods : List ImageMethod) (selector : List ℕ) → list_any (λ m. bytes_eq m.heading.selector selector) methods ≡ has_selector (methods_of methods) selector
selector_told [] selector = refl
selector_told (m ∷ ms) selector = ap (λ b. bytes_eq m.heading.selector selector || b) (selector_told ms selector)

pub removal_pieces : (name : Name) (side : Side) (methods : List MethodView) → flat_map (removal_from name side methods) (map.keys (kernel_state.methods name side)) ≡ removals_from name side methods
removal_pieces name side methods = passing_pieces (λ selector. not (has_selector methods selector)) (λ selector. Form (RemoveMethod name side selector)) (map.keys (kernel_state.methods name side))

module _ (cs : List ClassView) (sorted : IsStrictlySortedBy order (names_of cs)) where
  pub outline_has : (k : ℕ) (c : ClassView) (side : Side) (selector : List ℕ) → slice_get cs k ≡ Some c
      → map.contains_key ((outline cs).methods c.heading.name side) selector ≡ has_selector (on_side c side) selector
  outline_has k c side selector at =
      has_one selector_of (λ m. record { category = []; source = [] }) (filter (is_on c.heading.name side) (imaged_methods cs)) selector
      ∙ ap (list_any (λ x. bytes_eq (selector_of x) selector)) (on_class cs k c side sorted at)
      ∙ any_of_map (λ x. bytes_eq (selector_of x) selector) (imaged c side) (on_side c side)

  removed : (k : ℕ) (c : ClassView) (side : Side) → slice_get cs k ≡ Some c → removals_from c.heading.name side (on_side c side) ≡ removals (outline cs) c.heading.name side
  removed k c side at =
      ap (λ (t : List ℕ → Bool). list_map (λ selector. Form (RemoveMethod c.heading.name side selector)) (filter t (map.keys (kernel_state.methods c.heading.name side))))
      (λ i selector. not (sym (outline_has k c side selector at) i))

  kernel_made : (k : ℕ) (c : ClassView) → slice_get cs k ≡ Some c → kernel_class c ≡ class_of_kernel (outline cs) c.heading.name
  kernel_made k c at =
      (λ i. if is_kernel_class c.heading.name then comment_of c.heading.name c.heading.comment ++ (removed k c Instance at i ++ removed k c Class at i) else [])
      ∙ ap (by_row (λ n row. if is_kernel_class n then of_class_of_kernel (outline cs) n row else []) c.heading.name) (sym (class_got cs k c sorted at))

  pub kernel_in_order : flat_map kernel_class cs ≡ flat_map (class_of_kernel (outline cs)) (map.keys (outline cs).classes)
  kernel_in_order =
      same_pieces kernel_class (λ c. class_of_kernel (outline cs) c.heading.name) cs (at_each (λ c. kernel_class c ≡ class_of_kernel (outline cs) c.heading.name) cs kernel_made)
      ∙ sym (pieces_of_map (class_of_kernel (outline cs)) (λ c. c.heading.name) cs)
      ∙ ap (flat_map (class_of_kernel (outline cs))) (sym (class_keys cs sorted))

  -- ---- classes of one's own

  pub rank_added : (i depth : ℕ) (c : ClassView) (now new : List RankedClass) → slice_get cs i ≡ Some c → depth ≡ length (lineage (classes_by_name cs) c.heading.name)
      → now ≡ flat_map (rank_piece cs) (take i cs) → new ≡ now ++ ranked depth c.heading.name → new ≡ flat_map (rank_piece cs) (take (i + 1) cs)
  rank_added i depth c now new at deep so more =
      piece_added (rank_piece cs) cs [] i c now new at so
      (more ∙ ap (λ d. now ++ ranked d c.heading.name) deep)

  pub ranks_are : flat_map (rank_piece cs) cs ≡ own_in_order (classes_by_name cs)
  ranks_are =
      sym (pieces_of_map (λ name. cond (not (is_kernel_class name)) (ranked_class (classes_by_name cs) name ∷ []) []) (λ c. c.heading.name) cs)
      ∙ passing_pieces (λ name. not (is_kernel_class name)) (ranked_class (classes_by_name cs)) (names_of cs)
      ∙ ap (λ names. list_map (ranked_class (classes_by_name cs)) (filter (λ name. not (is_kernel_class name)) names)) (sym (class_keys cs sorted))

  pub own_there : (name : Name) (k : ℕ) (c : ClassView) → place_in cs name ≡ Some k → slice_get cs k ≡ Some c → of_own_class c.heading.name (row_of c.heading) ≡ own_class (classes_by_name cs) name
  own_there name k c is at =
      let d = placed_class cs name k is in
      let same : d.0 ≡ c = let both : Some d.0 ≡ Some c = sym d.1 ∙ at in cc in
      let named : c.heading.name ≡ name = ap (λ (x : ClassView). x.heading.name) (sym same) ∙ d.2 in
      ap (by_row of_own_class c.heading.name) (sym (class_got cs k c sorted at)) ∙ ap (λ n. own_class (classes_by_name cs) n) named

  pub own_absent : (name : Name) → place_in cs name ≡ None → own_class (classes_by_name cs) name ≡ []
  own_absent name none = ap (by_row of_own_class name) (not_got cs name none)

-- ---- one after the other

no_entries : {X : Type 0} (es : List (List ℕ × X)) → length es ≡ 0 → list_map (λ (e : List ℕ × X). e.0) es ≡ []
no_entries [] none = refl
no_entries (e ∷ es) none = absurd (omega (arith, none))

-- a class that isn't there has no methods
pub no_keys : (system : SystemState) (state : State) (name : Name) (side : Side) → IsSystemOf system state → map.get system.table.classes name ≡ None → map.keys (state.methods name side) ≡ []
no_keys system state name side is none =
    let empty = is.others name side (ap (λ (cs : Classes). map.get cs name) (sym is.classes) ∙ none) in
    no_entries (map.entries (state.methods name side)) (sym (map.len-entries (state.methods name side)) ∙ ap (λ (m : Methods MethodRow). map.len m) empty ∙ map.len-empty order MethodRow)

module _ (name : Name) (side : Side) (methods : List MethodView) (selector : List ℕ) (now : List Change) where
  pub removal_kept : has_selector methods selector ≡ true → now ≡ now ++ removal_from name side methods selector
  removal_kept has = sym (append-nil now) ∙ ap (λ b. now ++ cond (not b) (Form (RemoveMethod name side selector) ∷ []) []) (sym has)

  pub removal_added : (new : List Change) → has_selector methods selector ≡ false → new ≡ now ++ Form (RemoveMethod name side selector) ∷ [] → new ≡ now ++ removal_from name side methods selector
  removal_added new lacks more = more ∙ ap (λ b. now ++ cond (not b) (Form (RemoveMethod name side selector) ∷ []) []) (sym lacks)
