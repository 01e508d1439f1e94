-- The forms of a condensed list are brief, and its methods lawful, where the list that made the state is lawful.
use Rattle.std.proofs.Common.{◌≡◌, ◌≢◌, ◌⊎◌, inl, inr, ◌∙◌, ◌≤◌, ◌==◌, ◌++◌, ℕ, Bool, cond, true, false, not, filter, refl, sym, ap, subst, List, [], ◌∷◌, length, Option, Some, None, option_map, true≢false, arith}
use Rattle.std.specs.List.{All}
use Rattle.std.specs.FinMap as map
use Rattle.std.specs.Str.{bytes_eq}
use Rattle.std.specs.Cmp.Lexicographic.{bytes_decides}
use Rattle.std.proofs.lemmas.Bool.{and_parts}
use Rattle.s80_base.specs.declared.names.Side.{Side}
use Rattle.s80_base.specs.declared.names.Side.TheVariants.{Instance, Class}
use Rattle.s80_kernel.specs.Rows.{is_kernel_class}
use Rattle.s80_kernel.specs.Methods.{KernelMethodRow, found_method}
use Rattle.s80_form.specs.declared.form.Form.TheVariants.{Classify, Define, NoChanges, RemoveMethod}
use Rattle.s80_form.specs.Name.{IsBrief, AreBrief}
use Rattle.s80_change.specs.declared.change.Change.{Change}
use Rattle.s80_change.specs.declared.change.Change.TheVariants.{Form}
use Rattle.s80_change.specs.Block.{IsLawful}
use Rattle.s80_class.specs.Classes.{Name, ClassRow, lineage}
use Rattle.s80_apply.specs.List.{state_of}
use Rattle.s80_apply.specs.State.{MethodRow, State, kernel_method, kernel_state, on_class_side}
use Rattle.s80_apply.proofs.Names.{classes_named}
use Rattle.s80_fileout.specs.Condensed.{as_change, class_vars_of, classified, comment_of, condensed_with, defined, definition_of, for_classes, for_methods, is_own_at, kernel_category, kernel_part, made_with, of_kernel_class, of_method, of_own_class, over_kernels, own_part, removals, up_to}
use Rattle.s80_fileout.proofs.Elements.{filtered_in, mapped_in}
use Rattle.s80_fileout.proofs.Keyed.{entry_got, key_got, one_value}
use Rattle.s80_fileout.proofs.Cells.{Cell, in_cell}
use Rattle.s80_fileout.proofs.KernelCells.{kernel_cell, kernel_selector_short}
use Rattle.s80_fileout.proofs.ManyCells.{CellRow, IsCell, all_cells, all_cells_in, cell_of, for_methods_are}
use Rattle.s80_fileout.proofs.Brief.{AreBriefIn, HasLawfulSource, IsBriefRow, IsKernels, brief_last}
use Rattle.s80_fileout.proofs.LawfulList.{AreSound, IsSound, sound_both, sound_flat, sound_none, sound_one}

not_kernel : (b : Bool) → not b ≡ true → b ≡ false
not_kernel true h = absurd (true≢false (sym h))
not_kernel false h = refl

-- ---- classes

sound_comment : (name : Name) (text : List ℕ) → IsBrief name → IsBrief text → AreSound (comment_of name text)
sound_comment name [] named brief = sound_none
sound_comment name (b ∷ bs) named brief = sound_one _ (named, brief)

sound_class_vars : (name : Name) (names : List Name) → IsBrief name → AreBrief names → AreSound (class_vars_of name names)
sound_class_vars name [] named brief = sound_none
sound_class_vars name (v ∷ vs) named brief = sound_one _ (named, brief)

module _ (final : State) (brief : AreBriefIn final) where
  sound_removals : (name : Name) (side : Side) → IsBrief name → AreSound (removals final name side)
  sound_removals name side named x at =
      let k = mapped_in (λ selector. Form (RemoveMethod name side selector)) x (filter (λ selector. not (map.contains_key (final.methods name side) selector)) (map.keys (kernel_state.methods name side))) at in
      let row = key_got (kernel_state.methods name side) k.0 (filtered_in (λ selector. not (map.contains_key (final.methods name side) selector)) k.0 (map.keys (kernel_state.methods name side)) k.1) in
      let short : length k.0 ≤ 100 = kernel_selector_short (name, side, k.0) row.0 row.1 in
      subst IsSound (sym k.2) (named, omega (arith, short))

  sound_where : (b : Bool) (cs : List Change) → (b ≡ true → AreSound cs) → AreSound (cond b cs [])
  sound_where true cs sound = sound refl
  sound_where false cs sound = sound_none

  sound_kernel_part : AreSound (kernel_part final)
  sound_kernel_part = sound_flat (λ (e : Name × ClassRow). cond (is_kernel_class e.0) (of_kernel_class final e.0 e.1) []) (map.entries final.classes) (λ e at.
      let row = brief.rows e.0 e.1 (entry_got final.classes e at) in
      sound_where (is_kernel_class e.0) (of_kernel_class final e.0 e.1) (λ _.
      sound_both (comment_of e.0 e.1.comment) (removals final e.0 Instance ++ removals final e.0 Class) (sound_comment e.0 e.1.comment row.named row.comment)
      (sound_both (removals final e.0 Instance) (removals final e.0 Class) (sound_removals e.0 Instance row.named) (sound_removals e.0 Class row.named))))

  sound_definition : (name : Name) (row : ClassRow) (o : Option Name) → row.superclass ≡ o → is_kernel_class name ≡ false → IsBriefRow name row → AreSound (defined name row o)
  sound_definition name row None is other told = sound_none
  sound_definition name row (Some superclass) is other told =
      let own = told.own other in
      let same : own.superclass ≡ superclass = one_value row.superclass own.superclass superclass own.above is in
      sound_one _ (subst (λ above. IsSound (Form (Define (definition_of name row above)))) same own.definition)

  sound_own_part : AreSound (own_part final)
  sound_own_part = sound_flat (λ depth. for_classes (λ name row. cond (is_own_at final.classes depth name) (of_own_class name row) []) final) (up_to (map.len final.classes)) (λ depth _.
      sound_flat (λ (e : Name × ClassRow). cond (is_own_at final.classes depth e.0) (of_own_class e.0 e.1) []) (map.entries final.classes) (λ e at.
      let row = brief.rows e.0 e.1 (entry_got final.classes e at) in
      sound_where (is_own_at final.classes depth e.0) (of_own_class e.0 e.1) (λ is.
      let other = not_kernel (is_kernel_class e.0) (and_parts (not (is_kernel_class e.0)) (length (lineage final.classes e.0) == depth) is).0 in
      sound_both (defined e.0 e.1 e.1.superclass) (comment_of e.0 e.1.comment ++ class_vars_of e.0 e.1.class_side_vars) (sound_definition e.0 e.1 e.1.superclass refl other row)
      (sound_both (comment_of e.0 e.1.comment) (class_vars_of e.0 e.1.class_side_vars) (sound_comment e.0 e.1.comment row.named row.comment)
      (sound_class_vars e.0 e.1.class_side_vars row.named (row.own other).class_side_vars)))))

  -- ---- where its methods are

  pub sound_made : (method : Name → Side → List ℕ → MethodRow → List Change) → ((x : CellRow) → IsCell final x → AreSound (method x.0 x.1 x.2 x.3)) → AreSound (made_with method final)
  sound_made method each =
      sound_both (kernel_part final) (own_part final ++ for_methods method final) sound_kernel_part
      (sound_both (own_part final) (for_methods method final) sound_own_part
      (subst AreSound (for_methods_are method final) (sound_flat (λ (x : CellRow). method x.0 x.1 x.2 x.3) (all_cells final) (λ x at. each x (all_cells_in final x at)))))

pub sound_condensed : (method : Name → Side → List ℕ → MethodRow → List Change) (final : State) → AreSound (made_with method final) → AreSound (condensed_with method final)
sound_condensed method final made = sound_both (made_with method final) (Form NoChanges ∷ []) made (sound_one (Form NoChanges) tt)

-- ---- methods

pub sound_classified : (c : Cell) (before category : List ℕ) → IsBrief c.0 → (before ≢ category → IsBrief c.2) → IsBrief category → AreSound (classified c.0 c.1 c.2 before category)
sound_classified c before category named selector brief = go (bytes_eq before category) refl
  where
    go : (b : Bool) → bytes_eq before category ≡ b → AreSound (cond b [] (Form (Classify c.0 c.1 c.2 category) ∷ []))
    go true _ = sound_none
    go false differs = sound_one (Form (Classify c.0 c.1 c.2 category)) (named, selector (λ same. true≢false (sym ((bytes_decides before category).1 same) ∙ differs)), brief)

module _ (cs : List Change) (lawful : All IsLawful cs) where
  abbrev final : State
  final = state_of cs

  brief : AreBriefIn final
  brief = brief_last cs lawful

  pub name_brief : (x : CellRow) → IsCell final x → IsBrief x.0
  name_brief x cell = (brief.rows x.0 cell.class cell.there).named

  pub category_brief : (x : CellRow) → IsCell final x → IsBrief x.3.category
  category_brief x cell = (brief.cells (cell_of x) x.3 cell.row).category

  sound_change : (x : CellRow) → IsCell final x → HasLawfulSource (cell_of x) x.3 → AreSound (as_change x.0 x.1 x.2 x.3 ∷ [])
  sound_change x cell source = sound_one (as_change x.0 x.1 x.2 x.3) (record {
    head = record { class_name = classes_named cs x.0 cell.class cell.there; brief = record { class_name = name_brief x cell; category = category_brief x cell } };
    text = source.text;
    short = source.short;
    check = source.check;
  })

  pub of_method_sound : (x : CellRow) → IsCell final x → AreSound (of_method x.0 x.1 x.2 x.3)
  of_method_sound x cell = go (found_method x.0 (on_class_side x.1) x.2) refl
    where
      kernel_is : (o : Option KernelMethodRow) → found_method x.0 (on_class_side x.1) x.2 ≡ o → in_cell (cell_of x) kernel_state ≡ option_map kernel_method o
      kernel_is o found = kernel_cell (cell_of x) ∙ ap (option_map kernel_method) found

      lawful_source : ((old : MethodRow) → in_cell (cell_of x) kernel_state ≡ Some old → old.source ≡ x.3.source → ⊥) → IsKernels (cell_of x) x.3 ⊎ HasLawfulSource (cell_of x) x.3 → HasLawfulSource (cell_of x) x.3
      lawful_source none (inl kernels) = absurd (none kernels.0 kernels.1 kernels.2)
      lawful_source none (inr source) = source

      by_source : (k : KernelMethodRow) → in_cell (cell_of x) kernel_state ≡ Some (kernel_method k) → (b : Bool) → bytes_eq x.3.source k.source ≡ b
          → AreSound (cond b (classified x.0 x.1 x.2 kernel_category x.3.category) (as_change x.0 x.1 x.2 x.3 ∷ []))
      by_source k here true same =
          let short : length x.2 ≤ 100 = kernel_selector_short (cell_of x) (kernel_method k) here in
          sound_classified (cell_of x) kernel_category x.3.category (name_brief x cell) (λ _. omega (arith, short)) (category_brief x cell)
      by_source k here false differs = sound_change x cell (lawful_source (λ old is same.
          let both : kernel_method k ≡ old = one_value (in_cell (cell_of x) kernel_state) (kernel_method k) old here is in
          true≢false (sym ((bytes_decides x.3.source k.source).1 (sym (ap (λ (r : MethodRow). r.source) both ∙ same))) ∙ differs)) (brief.cells (cell_of x) x.3 cell.row).source)

      go : (o : Option KernelMethodRow) → found_method x.0 (on_class_side x.1) x.2 ≡ o → AreSound (over_kernels x.0 x.1 x.2 x.3 o)
      go None found = sound_change x cell (lawful_source (λ old is same. absurd (let bad : None ≡ Some old = sym (kernel_is None found) ∙ is in cc)) (brief.cells (cell_of x) x.3 cell.row).source)
      go (Some k) found = by_source k (kernel_is (Some k) found) (bytes_eq x.3.source k.source) refl

  pub filed_sound : AreSound (made_with of_method final)
  filed_sound = sound_made final brief of_method of_method_sound

  pub canon_sound : AreSound (condensed_with of_method final)
  canon_sound = sound_condensed of_method final filed_sound
