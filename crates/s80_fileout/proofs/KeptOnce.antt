-- A list that keeps versions has just these of each method of the state.
use Rattle.std.proofs.Common.{◌≡◌, ◌≢◌, inl, inr, ◌∙◌, ◌++◌, ℕ, Bool, cond, true, false, not, filter, reverse, take, refl, sym, ap, subst, List, [], ◌∷◌, map as list_map, Option, Some, None, append-nil}
use Rattle.std.specs.List.{flat_map}
use Rattle.std.specs.FinMap as map
use Rattle.std.specs.Str.{bytes_eq}
use Rattle.std.proofs.lemmas.List.{reverse-reverse}
use Rattle.std.proofs.lemmas.List.Elements.{filter-append}
use Rattle.s80_base.specs.declared.names.Side.{Side}
use Rattle.s80_base.specs.declared.names.Side.TheVariants.{Instance, Class}
use Rattle.s80_kernel.specs.Rows.{is_kernel_class}
use Rattle.s80_change.specs.declared.change.Change.{Change}
use Rattle.s80_change.specs.declared.change.Change.TheVariants.{Form}
use Rattle.s80_form.specs.declared.form.Form.TheVariants.{Classify, RemoveMethod, NoChanges}
use Rattle.s80_class.specs.Classes.{Name, ClassRow}
use Rattle.s80_history.specs.Lists.{Placed, puts, versions_of}
use Rattle.s80_apply.specs.List.{state_of}
use Rattle.s80_apply.specs.State.{MethodRow, State, kernel_state}
use Rattle.s80_fileout.specs.Condensed.{class_vars_of, classified, comment_of, condensed_with, defined, for_classes, for_methods, is_own_at, kept, kernel_part, last_category, made_with, newest, of_kernel_class, of_own_class, of_versions, own_part, removals, up_to}
use Rattle.s80_fileout.proofs.Elements.{IsIn, AreApart, flat_none}
use Rattle.s80_fileout.proofs.Cells.{Cell, in_cell}
use Rattle.s80_fileout.proofs.Held.{held_last}
use Rattle.s80_fileout.proofs.Keyed.{by_found, no_value}
use Rattle.s80_fileout.proofs.ManyCells.{CellRow, all_cells, all_cells_apart, cell_of, for_methods_are, in_all_cells}
use Rattle.s80_fileout.proofs.Putting.{PutsCell, in_reversed, name_of, puts_it, puts_no_other, versions, versions_are}
use Rattle.s80_fileout.proofs.KeptVersions.{in_taken, version_puts}

-- ---- lists of which a test passes all, or none

filter_all : {X : Type 0} (p : X → Bool) (xs : List X) → ((x : X) → IsIn x xs → p x ≡ true) → filter p xs ≡ xs
filter_all p [] all = refl
filter_all p (x ∷ xs) all = ap (λ b. cond b (x ∷ filter p xs) (filter p xs)) (all x (inl refl)) ∙ ap (λ ys. x ∷ ys) (filter_all p xs (λ y at. all y (inr at)))

filter_none : {X : Type 0} (p : X → Bool) (xs : List X) → ((x : X) → IsIn x xs → p x ≡ false) → filter p xs ≡ []
filter_none p [] none = refl
filter_none p (x ∷ xs) none = ap (λ b. cond b (x ∷ filter p xs) (filter p xs)) (none x (inl refl)) ∙ filter_none p xs (λ y at. none y (inr at))

pub filter_flat : {X Y : Type 0} (p : Y → Bool) (f : X → List Y) (xs : List X) → filter p (flat_map f xs) ≡ flat_map (λ x. filter p (f x)) xs
filter_flat p f [] = refl
filter_flat p f (x ∷ xs) = filter-append p (f x) (flat_map f xs) ∙ ap (λ ys. filter p (f x) ++ ys) (filter_flat p f xs)

both_none : {X : Type 0} (p : X → Bool) (xs ys : List X) → filter p xs ≡ [] → filter p ys ≡ [] → filter p (xs ++ ys) ≡ []
both_none p xs ys first second = filter-append p xs ys ∙ (λ i. first i ++ second i)

-- but one gives anything
pub flat_only : {X Y K : Type 0} (f : X → List Y) (key : X → K) (x : X) (xs : List X) → AreApart key xs → IsIn x xs → ((y : X) → key y ≢ key x → f y ≡ []) → flat_map f xs ≡ f x
flat_only f key x [] apart at none = absurd at
flat_only f key x (y ∷ xs) apart (inl same) none =
    (λ i. f (sym same i) ++ flat_none f xs (λ z there. none z (λ e. apart.0 z there (e ∙ ap key same))) i) ∙ append-nil (f x)
flat_only f key x (y ∷ xs) apart (inr more) none =
    ap (λ ys. ys ++ flat_map f xs) (none y (λ e. apart.0 x more (sym e))) ∙ flat_only f key x xs apart.1 more none

-- ---- the parts without methods

module _ (c : Cell) where
  abbrev puts_here : Change → Bool
  puts_here change = puts (name_of c) change

  none_of_comment : (name : Name) (text : List ℕ) → filter puts_here (comment_of name text) ≡ []
  none_of_comment name [] = refl
  none_of_comment name (b ∷ bs) = refl

  none_of_class_vars : (name : Name) (names : List Name) → filter puts_here (class_vars_of name names) ≡ []
  none_of_class_vars name [] = refl
  none_of_class_vars name (v ∷ vs) = refl

  none_of_definition : (name : Name) (row : ClassRow) (o : Option Name) → filter puts_here (defined name row o) ≡ []
  none_of_definition name row None = refl
  none_of_definition name row (Some superclass) = refl

  none_of_removals : (name : Name) (side : Side) (selectors : List (List ℕ)) → filter puts_here (list_map (λ selector. Form (RemoveMethod name side selector)) selectors) ≡ []
  none_of_removals name side [] = refl
  none_of_removals name side (k ∷ ks) = none_of_removals name side ks

  none_of_classified : (name : Name) (side : Side) (selector before category : List ℕ) → filter puts_here (classified name side selector before category) ≡ []
  none_of_classified name side selector before category = go (bytes_eq before category)
    where
      go : (b : Bool) → filter puts_here (cond b [] (Form (Classify name side selector category) ∷ [])) ≡ []
      go true = refl
      go false = refl

  none_where : (b : Bool) (cs : List Change) → filter puts_here cs ≡ [] → filter puts_here (cond b cs []) ≡ []
  none_where true cs none = none
  none_where false cs none = refl

  none_of_kernel_part : (state : State) → filter puts_here (kernel_part state) ≡ []
  none_of_kernel_part state =
      filter_flat puts_here (λ (e : Name × ClassRow). cond (is_kernel_class e.0) (of_kernel_class state e.0 e.1) []) (map.entries state.classes)
      ∙ flat_none (λ (e : Name × ClassRow). filter puts_here (cond (is_kernel_class e.0) (of_kernel_class state e.0 e.1) [])) (map.entries state.classes) (λ e at.
      none_where (is_kernel_class e.0) (of_kernel_class state e.0 e.1)
      (both_none puts_here (comment_of e.0 e.1.comment) (removals state e.0 Instance ++ removals state e.0 Class) (none_of_comment e.0 e.1.comment)
      (both_none puts_here (removals state e.0 Instance) (removals state e.0 Class)
      (none_of_removals e.0 Instance (filter (λ selector. not (map.contains_key (state.methods e.0 Instance) selector)) (map.keys (kernel_state.methods e.0 Instance))))
      (none_of_removals e.0 Class (filter (λ selector. not (map.contains_key (state.methods e.0 Class) selector)) (map.keys (kernel_state.methods e.0 Class)))))))

  none_at_depth : (state : State) (depth : ℕ) → filter puts_here (for_classes (λ name row. cond (is_own_at state.classes depth name) (of_own_class name row) []) state) ≡ []
  none_at_depth state depth =
      filter_flat puts_here (λ (e : Name × ClassRow). cond (is_own_at state.classes depth e.0) (of_own_class e.0 e.1) []) (map.entries state.classes)
      ∙ flat_none (λ (e : Name × ClassRow). filter puts_here (cond (is_own_at state.classes depth e.0) (of_own_class e.0 e.1) [])) (map.entries state.classes) (λ e at.
      none_where (is_own_at state.classes depth e.0) (of_own_class e.0 e.1)
      (both_none puts_here (defined e.0 e.1 e.1.superclass) (comment_of e.0 e.1.comment ++ class_vars_of e.0 e.1.class_side_vars) (none_of_definition e.0 e.1 e.1.superclass)
      (both_none puts_here (comment_of e.0 e.1.comment) (class_vars_of e.0 e.1.class_side_vars) (none_of_comment e.0 e.1.comment) (none_of_class_vars e.0 e.1.class_side_vars))))

  none_of_own_part : (state : State) → filter puts_here (own_part state) ≡ []
  none_of_own_part state =
      filter_flat puts_here (λ depth. for_classes (λ name row. cond (is_own_at state.classes depth name) (of_own_class name row) []) state) (up_to (map.len state.classes))
      ∙ flat_none (λ depth. filter puts_here (for_classes (λ name row. cond (is_own_at state.classes depth name) (of_own_class name row) []) state)) (up_to (map.len state.classes)) (λ depth at. none_at_depth state depth)

  -- so only the methods' part has some
  pub puts_of_methods : (method : Name → Side → List ℕ → MethodRow → List Change) (state : State) → filter puts_here (condensed_with method state) ≡ filter puts_here (for_methods method state)
  puts_of_methods method state =
      filter-append puts_here (made_with method state) (Form NoChanges ∷ [])
      ∙ append-nil (filter puts_here (made_with method state))
      ∙ filter-append puts_here (kernel_part state) (own_part state ++ for_methods method state)
      ∙ (λ i. none_of_kernel_part state i ++ filter-append puts_here (own_part state) (for_methods method state) i)
      ∙ (λ i. none_of_own_part state i ++ filter puts_here (for_methods method state))

-- ---- the versions of a method

module _ (count : ℕ) (cs : List Change) where
  abbrev mine : CellRow → List Change
  mine x = of_versions count cs x.0 x.1 x.2 x.3

  -- those of its cell are its newest versions
  pub newest_are : (c : Cell) → newest count cs (name_of c) ≡ reverse (take count (versions cs c))
  newest_are c = ap (λ vs. reverse (take count vs)) (versions_are cs c)

  newest_put : (c : Cell) (x : Change) → IsIn x (newest count cs (name_of c)) → PutsCell c x
  newest_put c x at = version_puts cs c x (in_taken x count (versions cs c) (in_reversed x (take count (versions cs c)) (subst (IsIn x) (newest_are c) at)))

  own_puts : (x : CellRow) → filter (puts (name_of (cell_of x))) (mine x) ≡ newest count cs (name_of (cell_of x))
  own_puts x =
      let c : Cell = cell_of x in
      filter-append (puts (name_of c)) (newest count cs (name_of c)) (classified x.0 x.1 x.2 (last_category cs (name_of c)) x.3.category)
      ∙ (λ i. filter_all (puts (name_of c)) (newest count cs (name_of c)) (λ y at. puts_it c y (newest_put c y at)) i ++ none_of_classified c x.0 x.1 x.2 (last_category cs (name_of c)) x.3.category i)
      ∙ append-nil (newest count cs (name_of c))

  other_puts : (c : Cell) (x : CellRow) → cell_of x ≢ c → filter (puts (name_of c)) (mine x) ≡ []
  other_puts c x ne =
      let d : Cell = cell_of x in
      both_none (puts (name_of c)) (newest count cs (name_of d)) (classified x.0 x.1 x.2 (last_category cs (name_of d)) x.3.category)
      (filter_none (puts (name_of c)) (newest count cs (name_of d)) (λ y at. puts_no_other c d y ne (newest_put d y at)))
      (none_of_classified c x.0 x.1 x.2 (last_category cs (name_of d)) x.3.category)

  -- a method of the state has them in the whole list
  puts_kept : (c : Cell) (row : MethodRow) → in_cell c (state_of cs) ≡ Some row → filter (puts (name_of c)) (kept cs count) ≡ newest count cs (name_of c)
  puts_kept c row is =
      puts_of_methods c (of_versions count cs) (state_of cs)
      ∙ ap (filter (puts (name_of c))) (sym (for_methods_are (of_versions count cs) (state_of cs)))
      ∙ filter_flat (puts (name_of c)) mine (all_cells (state_of cs))
      ∙ flat_only (λ x. filter (puts (name_of c)) (mine x)) cell_of (c.0, c.1, c.2, row) (all_cells (state_of cs)) (all_cells_apart (state_of cs)) there (λ x ne. other_puts c x ne)
      ∙ own_puts (c.0, c.1, c.2, row)
    where
      there : IsIn (c.0, c.1, c.2, row) (all_cells (state_of cs))
      there = by_found (map.get (state_of cs).classes c.0)
          (λ none. no_value (in_cell c (state_of cs)) row ((held_last cs).others c none) is)
          (λ class known. in_all_cells (state_of cs) c class row known is)

  pub versions_kept : (c : Cell) (row : MethodRow) → in_cell c (state_of cs) ≡ Some row
      → list_map (λ (p : Placed). p.1) (versions_of (kept cs count) (name_of c)) ≡ take count (list_map (λ (p : Placed). p.1) (versions_of cs (name_of c)))
  versions_kept c row is =
      versions_are (kept cs count) c ∙ ap reverse (puts_kept c row is)
      ∙ reverse-reverse (take count (list_map (λ (p : Placed). p.1) (versions_of cs (name_of c))))
