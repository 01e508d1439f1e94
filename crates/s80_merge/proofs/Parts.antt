-- What a change alters of a class that it leaves where it is, by the one key that it writes; and that what has no key in common agrees.
use Rattle.std.proofs.Common.{◌≡◌, ◌⊎◌, ◌∙◌, ◌++◌, ◌&&◌, inl, inr, ℕ, Bool, cond, true, false, true≢false, refl, sym, ap, subst, List, [], ◌∷◌, Option, Some, None, Result, Ok, Err, option_map, bytes_eq}
use Rattle.std.specs.Cmp.Lexicographic.{bytes_decides}
use Rattle.std.specs.FinMap as map
use Rattle.std.specs.List.{Contains}
use Rattle.std.proofs.lemmas.List.Elements.{Contains-append_left, Contains-append_right}
use Rattle.s80_base.specs.declared.names.Side.{Side}
use Rattle.s80_dict.specs.Table.{same_side}
use Rattle.s80_change.specs.declared.change.Change.{Change}
use Rattle.s80_change.specs.declared.change.Change.TheVariants as change
use Rattle.s80_change.specs.declared.change.Method.{Method}
use Rattle.s80_form.specs.declared.definition.Definition.{Definition}
use Rattle.s80_form.specs.declared.form.Form.TheVariants.{Define, ClassVars, Comment, RemoveMethod, Classify, RemoveClass, NoChanges}
use Rattle.s80_form.specs.declared.refusal.Refusal.{Refusal}
use Rattle.s80_class.specs.Classes.{Name, ClassRow, Classes, with_class_side_vars, with_comment}
use Rattle.s80_apply.specs.Accept.{keeping_rows, row_of}
use Rattle.s80_apply.specs.State.{MethodRow, State}
use Rattle.s80_merge.specs.declared.key.Key.{Key}
use Rattle.s80_merge.specs.declared.key.Key.TheVariants.{ClassKey, DefinitionKey, ClassVarsKey, CommentKey, MethodKey}
use Rattle.s80_merge.specs.Touched.{class_keys, form_uses, form_writes, line_keys, method_keys, uses, writes}
use Rattle.s80_merge.proofs.Acts.{Act, Agree, act_of, at_place, is_side, method_act}
use Rattle.s80_merge.proofs.Members.{here}

-- ---- parts of a class

pub data Part : Type 0 where
  Defining : Definition → Part
  Giving : List Name → Part
  Commenting : List ℕ → Part
  Placing : Side → List ℕ → (Option MethodRow → Option MethodRow) → Part
  Nothing : Part

abbrev pub part_row : Part → ClassRow → ClassRow
part_row (Defining d) row = row_of d (Some row)
part_row (Giving names) row = with_class_side_vars names row
part_row (Commenting text) row = with_comment text row
part_row (Placing side selector f) row = row
part_row Nothing row = row

abbrev pub part_method : Part → Side → List ℕ → Option MethodRow → Option MethodRow
part_method (Defining d) s k row = row
part_method (Giving names) s k row = row
part_method (Commenting text) s k row = row
part_method (Placing side selector f) s k row = at_place side selector f s k row
part_method Nothing s k row = row

abbrev pub part_keys : Part → Name → List Key
part_keys (Defining d) name = DefinitionKey name ∷ []
part_keys (Giving names) name = ClassVarsKey name ∷ []
part_keys (Commenting text) name = CommentKey name ∷ []
part_keys (Placing side selector f) name = MethodKey name side selector ∷ []
part_keys Nothing name = []

-- two of one class, which have no key in common
abbrev pub AreApart : List Key → List Key → Type 0
AreApart these those = (key : Key) → Contains these key → Contains those key → ⊥

not_shared : (key : Key) (these those : List Key) → AreApart (key ∷ these) (key ∷ those) → ⊥
not_shared key these those apart = apart key (here key these) (here key those)

module _ (name : Name) (row : ClassRow) where
  pub rows_agree : (one other : Part) → AreApart (part_keys one name) (part_keys other name) → part_row other (part_row one row) ≡ part_row one (part_row other row)
  rows_agree (Placing side selector f) other apart = refl
  rows_agree Nothing other apart = refl
  rows_agree (Defining d) (Defining e) apart = absurd (not_shared (DefinitionKey name) [] [] apart)
  rows_agree (Defining d) (Giving names) apart = refl
  rows_agree (Defining d) (Commenting text) apart = refl
  rows_agree (Defining d) (Placing side selector f) apart = refl
  rows_agree (Defining d) Nothing apart = refl
  rows_agree (Giving names) (Defining d) apart = refl
  rows_agree (Giving names) (Giving others) apart = absurd (not_shared (ClassVarsKey name) [] [] apart)
  rows_agree (Giving names) (Commenting text) apart = refl
  rows_agree (Giving names) (Placing side selector f) apart = refl
  rows_agree (Giving names) Nothing apart = refl
  rows_agree (Commenting text) (Defining d) apart = refl
  rows_agree (Commenting text) (Giving names) apart = refl
  rows_agree (Commenting text) (Commenting words) apart = absurd (not_shared (CommentKey name) [] [] apart)
  rows_agree (Commenting text) (Placing side selector f) apart = refl
  rows_agree (Commenting text) Nothing apart = refl

pub both_true : (a b : Bool) → (a && b) ≡ true → (a ≡ true) × (b ≡ true)
both_true true b is = (refl, is)
both_true false b bad = absurd (true≢false (sym bad))

apart_places : (f g : Option MethodRow → Option MethodRow) (p q : Bool) (row : Option MethodRow) → (p ≡ true → q ≡ true → ⊥) → cond q (g (cond p (f row) row)) (cond p (f row) row) ≡ cond p (f (cond q (g row) row)) (cond q (g row) row)
apart_places f g true true row apart = absurd (apart refl refl)
apart_places f g true false row apart = refl
apart_places f g false q row apart = refl

module _ (name : Name) (s : Side) (k : List ℕ) (row : Option MethodRow) where
  placed_apart : (side : Side) (selector : List ℕ) (other_side : Side) (other_selector : List ℕ) (f g : Option MethodRow → Option MethodRow)
      → AreApart (MethodKey name side selector ∷ []) (MethodKey name other_side other_selector ∷ [])
      → at_place other_side other_selector g s k (at_place side selector f s k row) ≡ at_place side selector f s k (at_place other_side other_selector g s k row)
  placed_apart side selector other_side other_selector f g apart =
      apart_places f g (same_side s side && bytes_eq k selector) (same_side s other_side && bytes_eq k other_selector) row
      (λ this that.
      let one = both_true (same_side s side) (bytes_eq k selector) this in
      let two = both_true (same_side s other_side) (bytes_eq k other_selector) that in
      let sides : side ≡ other_side = sym (is_side s side one.0) ∙ is_side s other_side two.0 in
      let selectors : selector ≡ other_selector = sym ((bytes_decides k selector).0 one.1) ∙ (bytes_decides k other_selector).0 two.1 in
      let same : MethodKey name side selector ≡ MethodKey name other_side other_selector = λ i. MethodKey name (sides i) (selectors i) in
      not_shared (MethodKey name side selector) [] [] (subst (λ key. AreApart (MethodKey name side selector ∷ []) (key ∷ [])) (sym same) apart))

  pub methods_agree : (one other : Part) → AreApart (part_keys one name) (part_keys other name) → part_method other s k (part_method one s k row) ≡ part_method one s k (part_method other s k row)
  methods_agree (Defining d) other apart = refl
  methods_agree (Giving names) other apart = refl
  methods_agree (Commenting text) other apart = refl
  methods_agree Nothing other apart = refl
  methods_agree (Placing side selector f) (Defining d) apart = refl
  methods_agree (Placing side selector f) (Giving names) apart = refl
  methods_agree (Placing side selector f) (Commenting text) apart = refl
  methods_agree (Placing side selector f) Nothing apart = refl
  methods_agree (Placing side selector f) (Placing other_side other_selector g) apart = placed_apart side selector other_side other_selector f g apart

-- ---- which part a change alters

-- of a class that is there, or that stays away
pub record IsPart (c : Change) (classes : Classes) : Type 0 where
  pub part : Part
  pub keys : writes c classes ≡ part_keys part (act_of c).name
  pub some : (row : ClassRow) → (act_of c).row (Some row) ≡ Some (part_row part row)
  pub none : map.contains_key classes (act_of c).name ≡ false → (act_of c).row None ≡ None
  pub methods : (s : Side) (k : List ℕ) (row : Option MethodRow) → (act_of c).method s k row ≡ part_method part s k row

-- it writes that its class is there, or alters a part of it
abbrev pub Alters : Change → Classes → Type 0
Alters c classes = Contains (writes c classes) (ClassKey (act_of c).name) ⊎ IsPart c classes

module _ (classes : Classes) where
  defining : (d : Definition) (b : Bool) → map.contains_key classes d.class_name ≡ b → Alters (change.Form (Define d)) classes
  defining d true is = inr (record {
    part = Defining d;
    keys = ap (λ b. cond b (DefinitionKey d.class_name ∷ []) (class_keys d.class_name)) is;
    some = λ row. refl;
    none = λ no. absurd (true≢false (sym is ∙ no));
    methods = λ s k row. refl;
  })
  defining d false is = inl (subst (λ b. Contains (cond b (DefinitionKey d.class_name ∷ []) (class_keys d.class_name)) (ClassKey d.class_name)) (sym is) (here (ClassKey d.class_name) (DefinitionKey d.class_name ∷ [])))

  putting : (m : Method) (check : Result (List ℕ) Refusal) → m.source.selector ≡ check → IsPart (change.Method m) classes
  putting m (Ok selector) is = record {
    part = Placing m.side selector (λ _. Some (keeping_rows.put m));
    keys = ap (method_keys m.class_name m.side) is ∙ ap (λ name. MethodKey name m.side selector ∷ []) (sym (ap (λ r. (method_act m r).name) is));
    some = λ row. ap (λ r. (method_act m r).row (Some row)) is;
    none = λ _. ap (λ r. (method_act m r).row None) is;
    methods = λ s k row. ap (λ r. (method_act m r).method s k row) is;
  }
  putting m (Err refusal) is = record {
    part = Nothing;
    keys = ap (method_keys m.class_name m.side) is;
    some = λ row. ap (λ r. (method_act m r).row (Some row)) is;
    none = λ _. ap (λ r. (method_act m r).row None) is;
    methods = λ s k row. ap (λ r. (method_act m r).method s k row) is;
  }

  pub alters : (c : Change) → Alters c classes
  alters (change.Form (Define d)) = defining d (map.contains_key classes d.class_name) refl
  alters (change.Form (ClassVars name names)) = inr (record { part = Giving names; keys = refl; some = λ row. refl; none = λ _. refl; methods = λ s k row. refl })
  alters (change.Form (Comment name text)) = inr (record { part = Commenting text; keys = refl; some = λ row. refl; none = λ _. refl; methods = λ s k row. refl })
  alters (change.Form (RemoveMethod name side selector)) = inr (record { part = Placing side selector (λ _. None); keys = refl; some = λ row. refl; none = λ _. refl; methods = λ s k row. refl })
  alters (change.Form (Classify name side selector category)) =
      inr (record { part = Placing side selector (option_map (keeping_rows.under category)); keys = refl; some = λ row. refl; none = λ _. refl; methods = λ s k row. refl })
  alters (change.Form (RemoveClass name)) = inl (here (ClassKey name) (DefinitionKey name ∷ []))
  alters (change.Form NoChanges) = inr (record { part = Nothing; keys = refl; some = λ row. refl; none = λ _. refl; methods = λ s k row. refl })
  alters (change.Method m) = inr (putting m m.source.selector refl)
  alters (change.DoIt text) = inr (record { part = Nothing; keys = refl; some = λ row. refl; none = λ _. refl; methods = λ s k row. refl })

-- ---- a change with its class

abbrev pub touches : Change → Classes → List Key
touches c classes = writes c classes ++ uses c classes

pub record IsIdle (act : Act) : Type 0 where
  pub rows : (row : Option ClassRow) → act.row row ≡ row
  pub methods : (s : Side) (k : List ℕ) (row : Option MethodRow) → act.method s k row ≡ row

module _ (classes : Classes) where
  by_use : (c : Change) (key : Key) → Contains (uses c classes) key → Contains (touches c classes) key
  by_use c key used = Contains-append_right (writes c classes) (uses c classes) key used

  there_or_new : (d : Definition) (b : Bool) → map.contains_key classes d.class_name ≡ b → Contains (touches (change.Form (Define d)) classes) (ClassKey d.class_name)
  there_or_new d true is =
      by_use (change.Form (Define d)) (ClassKey d.class_name)
      (Contains-append_right (line_keys d.superclass classes) (cond (map.contains_key classes d.class_name) (ClassKey d.class_name ∷ []) []) (ClassKey d.class_name)
      (subst (λ b. Contains (cond b (ClassKey d.class_name ∷ []) []) (ClassKey d.class_name)) (sym is) (here (ClassKey d.class_name) [])))
  there_or_new d false is =
      Contains-append_left (form_writes (Define d) classes) (form_uses (Define d) classes) (ClassKey d.class_name)
      (subst (λ b. Contains (cond b (DefinitionKey d.class_name ∷ []) (class_keys d.class_name)) (ClassKey d.class_name)) (sym is) (here (ClassKey d.class_name) (DefinitionKey d.class_name ∷ [])))

  of_method : (m : Method) (check : Result (List ℕ) Refusal) → (method_act m check).name ≡ m.class_name
  of_method m (Ok selector) = refl
  of_method m (Err refusal) = refl

  pub has_class : (c : Change) → Contains (touches c classes) (ClassKey (act_of c).name) ⊎ IsIdle (act_of c)
  has_class (change.Form (Define d)) = inl (there_or_new d (map.contains_key classes d.class_name) refl)
  has_class (change.Form (ClassVars name names)) = inl (by_use (change.Form (ClassVars name names)) (ClassKey name) (here (ClassKey name) []))
  has_class (change.Form (Comment name text)) = inl (by_use (change.Form (Comment name text)) (ClassKey name) (here (ClassKey name) []))
  has_class (change.Form (RemoveMethod name side selector)) = inl (by_use (change.Form (RemoveMethod name side selector)) (ClassKey name) (here (ClassKey name) []))
  has_class (change.Form (Classify name side selector category)) = inl (by_use (change.Form (Classify name side selector category)) (ClassKey name) (here (ClassKey name) []))
  has_class (change.Form (RemoveClass name)) = inl (by_use (change.Form (RemoveClass name)) (ClassKey name) (here (ClassKey name) []))
  has_class (change.Form NoChanges) = inr (record { rows = λ row. refl; methods = λ s k row. refl })
  has_class (change.Method m) =
      inl (subst (λ name. Contains (touches (change.Method m) classes) (ClassKey name)) (sym (of_method m m.source.selector)) (by_use (change.Method m) (ClassKey m.class_name) (here (ClassKey m.class_name) [])))
  has_class (change.DoIt text) = inr (record { rows = λ row. refl; methods = λ s k row. refl })

-- ---- two changes without conflict

-- neither writes what the other writes or uses
pub record AreFree (one other : Change) (classes : Classes) : Type 0 where
  pub left : AreApart (writes one classes) (touches other classes)
  pub right : AreApart (writes other classes) (touches one classes)

-- a change that writes that a class is there, beside one on that class
pub clash : (one other : Change) (classes : Classes) → AreApart (writes one classes) (touches other classes) → Contains (writes one classes) (ClassKey (act_of one).name)
    → (act_of one).name ≡ (act_of other).name → IsIdle (act_of other)
clash one other classes apart written same = by_case (has_class classes other)
  where
    by_case : Contains (touches other classes) (ClassKey (act_of other).name) ⊎ IsIdle (act_of other) → IsIdle (act_of other)
    by_case (inl touched) = absurd (apart (ClassKey (act_of one).name) written (subst (λ name. Contains (touches other classes) (ClassKey name)) (sym same) touched))
    by_case (inr idle) = idle

module _ (one other : Change) (state : State) where
  pub idle_right : IsIdle (act_of other) → Agree (act_of one) (act_of other) state
  idle_right idle = record {
    rows = λ n _ _. idle.rows ((act_of one).row (map.get state.classes n)) ∙ ap (act_of one).row (sym (idle.rows (map.get state.classes n)));
    methods = λ n s k _ _. idle.methods s k ((act_of one).method s k (map.get (state.methods n s) k)) ∙ ap ((act_of one).method s k) (sym (idle.methods s k (map.get (state.methods n s) k)));
  }

  pub idle_left : IsIdle (act_of one) → Agree (act_of one) (act_of other) state
  idle_left idle = record {
    rows = λ n _ _. ap (act_of other).row (idle.rows (map.get state.classes n)) ∙ sym (idle.rows ((act_of other).row (map.get state.classes n)));
    methods = λ n s k _ _. ap ((act_of other).method s k) (idle.methods s k (map.get (state.methods n s) k)) ∙ sym (idle.methods s k ((act_of other).method s k (map.get (state.methods n s) k)));
  }
