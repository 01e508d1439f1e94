-- What holds of each method of a state, and holds yet when a change was worked.
use Rattle.std.proofs.Common.{◌≡◌, ◌∙◌, ◌&&◌, ℕ, Bool, cond, true, false, refl, sym, ap, subst, List, [], ◌∷◌, Option, Some, None, Result, Ok, Err, option_map, unwrap_or}
use Rattle.std.specs.Prelude.{⊤}
use Rattle.std.specs.List.{All}
use Rattle.std.specs.Str.{bytes_eq}
use Rattle.std.specs.Ordering.{nat_cmp, eq_by_cmp}
use Rattle.std.specs.Cmp.Lexicographic.{slice_cmp, bytes_decides, nat_list_cmp_total, texts_ties}
use Rattle.std.specs.FinMap as map
use Rattle.std.proofs.lemmas.List.Elements.{All-head, All-tail}
use Rattle.s80_base.specs.declared.names.Side.{Side}
use Rattle.s80_dict.specs.Dict.{Methods}
use Rattle.s80_dict.specs.Table.{same_side}
use Rattle.s80_kernel.specs.Methods.{KernelMethodRow}
use Rattle.s80_change.specs.declared.change.Change.{Change}
use Rattle.s80_change.specs.declared.change.Change.TheVariants as changes
use Rattle.s80_change.specs.declared.change.Method.{Method as MethodChange}
use Rattle.s80_form.specs.declared.form.Form.{Form}
use Rattle.s80_form.specs.declared.form.Form.TheVariants.{Define, ClassVars, Comment, RemoveMethod, Classify, RemoveClass, NoChanges}
use Rattle.s80_form.specs.declared.refusal.Refusal.{Refusal}
use Rattle.s80_class.specs.Classes.{Name, change_row, with_class_side_vars, with_comment}
use Rattle.s80_apply.specs.State.{StateOf, put_kernel_methods, put_method, side_of, take_class, take_method}
use Rattle.s80_apply.specs.Accept.{Keeping, accept_checked, accept_form, accept_with, classify, define, first_some, no_method, put_source, refusal_of, refusal_of_class_vars, refusal_of_removal, too_many_methods, unknown_name}
use Rattle.s80_apply.specs.List.{state_or}
use Rattle.s80_apply.proofs.LastingLists.{by_refusal}

-- of a selector and what the state has of its method
abbrev pub HoldsOfEach : {M : Type 0} → (List ℕ → M → Type 0) → StateOf M → Type 0
HoldsOfEach {M} P state = (name : Name) (side : Side) (selector : List ℕ) (row : M) → map.get (state.methods name side) selector ≡ Some row → P selector row

module _ {M : Type 0} (P : List ℕ → M → Type 0) where
  -- ---- the methods of one side of a class

  abbrev Each : Methods M → Type 0
  Each methods = (selector : List ℕ) (row : M) → map.get methods selector ≡ Some row → P selector row

  each_put : (methods : Methods M) (selector : List ℕ) (row : M) → P selector row → Each methods → Each (map.insert methods selector row)
  each_put methods selector row here all q r is =
      by_key (bytes_eq q selector) refl (sym (map.get-insert nat_list_cmp_total methods selector row q ∙ ap (λ b. cond b (Some row) (map.get methods q)) (sym (texts_ties q selector))) ∙ is)
    where
      by_key : (b : Bool) → bytes_eq q selector ≡ b → cond b (Some row) (map.get methods q) ≡ Some r → P q r
      by_key true at is = let same : row ≡ r = cc in subst (λ k. P k r) (sym ((bytes_decides q selector).0 at)) (subst (P selector) same here)
      by_key false at is = all q r is

  each_taken : (methods : Methods M) (selector : List ℕ) → Each methods → Each (map.remove methods selector)
  each_taken methods selector all q r is = by_key (eq_by_cmp (slice_cmp nat_cmp) q selector) (sym (map.get-remove nat_list_cmp_total methods selector q) ∙ is)
    where
      by_key : (b : Bool) → cond b None (map.get methods q) ≡ Some r → P q r
      by_key true is = absurd (cc)
      by_key false is = all q r is

  each_where : (b : Bool) (these those : Methods M) → Each these → Each those → Each (cond b these those)
  each_where true these those here there = here
  each_where false these those here there = there

  pub each_none : Each map.empty
  each_none q r is = absurd (let bad : None ≡ Some r = sym (map.get-empty (slice_cmp nat_cmp) q) ∙ is in cc)

  -- ---- a state

  put_holds : (class : Name) (side : Side) (selector : List ℕ) (row : M) (state : StateOf M) → P selector row → HoldsOfEach P state → HoldsOfEach P (put_method class side selector row state)
  put_holds class side selector row state here all name s =
      each_where (bytes_eq name class && same_side s side) (map.insert (state.methods name s) selector row) (state.methods name s) (each_put (state.methods name s) selector row here (all name s)) (all name s)

  taken_holds : (class : Name) (side : Side) (selector : List ℕ) (state : StateOf M) → HoldsOfEach P state → HoldsOfEach P (take_method class side selector state)
  taken_holds class side selector state all name s =
      each_where (bytes_eq name class && same_side s side) (map.remove (state.methods name s) selector) (state.methods name s) (each_taken (state.methods name s) selector (all name s)) (all name s)

  gone_holds : (class : Name) (state : StateOf M) → HoldsOfEach P state → HoldsOfEach P (take_class class state)
  gone_holds class state all name s = each_where (bytes_eq name class) map.empty (state.methods name s) each_none (all name s)

  -- the methods of the kernel
  pub kernel_holds : (row : KernelMethodRow → M) (ks : List KernelMethodRow) → All (λ k. P k.selector (row k)) ks → (state : StateOf M) → HoldsOfEach P state → HoldsOfEach P (put_kernel_methods row ks state)
  kernel_holds row [] each state all = all
  kernel_holds row (k ∷ ks) each state all =
      kernel_holds row ks (All-tail (λ (k : KernelMethodRow). P k.selector (row k)) k ks each) (put_method k.class (side_of k.on_class_side) k.selector (row k) state)
      (put_holds k.class (side_of k.on_class_side) k.selector (row k) state (All-head (λ (k : KernelMethodRow). P k.selector (row k)) k ks each) all)

  -- ---- a change, where it doesn't hang on the category

  module _ (keeping : Keeping M) (under : (selector category : List ℕ) (row : M) → P selector row → P selector (keeping.under category row)) where
    classified_holds : (name : Name) (side : Side) (selector category : List ℕ) (state : StateOf M) → HoldsOfEach P state → HoldsOfEach P (classify keeping name side selector category state)
    classified_holds name side selector category state all = go (map.get (state.methods name side) selector) refl
      where
        go : (o : Option M) → map.get (state.methods name side) selector ≡ o → HoldsOfEach P (unwrap_or (option_map (λ row. put_method name side selector (keeping.under category row) state) o) state)
        go None none = all
        go (Some row) is = put_holds name side selector (keeping.under category row) state (under selector category row (all name side selector row is)) all

    formed_holds : (form : Form) (state : StateOf M) → HoldsOfEach P state → HoldsOfEach P (state_or (accept_form keeping form state) state)
    formed_holds (Define d) state all = by_refusal (HoldsOfEach P) (refusal_of d state.classes) state (record state { classes = define d state.classes }) all (λ none. all)
    formed_holds (ClassVars name names) state all =
        by_refusal (HoldsOfEach P) (refusal_of_class_vars name names state.classes) state (record state { classes = change_row (with_class_side_vars names) name state.classes }) all (λ none. all)
    formed_holds (Comment name text) state all = by_refusal (HoldsOfEach P) (unknown_name name state.classes) state (record state { classes = change_row (with_comment text) name state.classes }) all (λ none. all)
    formed_holds (RemoveMethod name side selector) state all =
        by_refusal (HoldsOfEach P) (no_method name side selector state) state (take_method name side selector state) all (λ none. taken_holds name side selector state all)
    formed_holds (Classify name side selector category) state all =
        by_refusal (HoldsOfEach P) (no_method name side selector state) state (classify keeping name side selector category state) all (λ none. classified_holds name side selector category state all)
    formed_holds (RemoveClass name) state all = by_refusal (HoldsOfEach P) (refusal_of_removal name state.classes) state (take_class name state) all (λ none. gone_holds name state all)
    formed_holds NoChanges state all = all

    checked_holds : (m : MethodChange) (check : Result (List ℕ) Refusal) (state : StateOf M) → ((selector : List ℕ) → check ≡ Ok selector → P selector (keeping.put m)) → HoldsOfEach P state
        → HoldsOfEach P (state_or (accept_checked keeping m check state) state)
    checked_holds m (Err refusal) state put all = all
    checked_holds m (Ok selector) state put all =
        by_refusal (HoldsOfEach P) (first_some (unknown_name m.class_name state.classes ∷ too_many_methods m selector state ∷ [])) state (put_source keeping m selector state) all
        (λ none. put_holds m.class_name m.side selector (keeping.put m) state (put selector refl) all)

    -- it holds of the method that a change puts
    abbrev pub HoldsOfPut : Change → Type 0
    HoldsOfPut (changes.Method m) = (selector : List ℕ) → m.source.selector ≡ Ok selector → P selector (keeping.put m)
    HoldsOfPut _ = ⊤

    pub changed_holds : (change : Change) (state : StateOf M) → HoldsOfPut change → HoldsOfEach P state → HoldsOfEach P (state_or (accept_with keeping change state) state)
    changed_holds (changes.Form form) state put all = formed_holds form state all
    changed_holds (changes.Method m) state put all = checked_holds m m.source.selector state put all
    changed_holds (changes.DoIt text) state put all = all
