-- What a change makes of a state where no limit stands against it: each change alters what one class has.
use Rattle.std.proofs.Common.{◌≡◌, ◌∙◌, ◌&&◌, ℕ, Bool, cond, true, false, true≢false, refl, sym, ap, subst, List, [], Option, Some, None, Result, Ok, Err, option_map, unwrap_or, bytes_eq}
use Rattle.std.specs.Cmp.Lexicographic.{bytes_decides, nat_list_cmp_total, slice_cmp, texts_ties}
use Rattle.std.specs.FinMap as map
use Rattle.std.specs.Ordering.{nat_cmp}
use Rattle.s80_base.specs.declared.names.Side.{Side}
use Rattle.s80_base.specs.declared.names.Side.TheVariants.{Instance, Class}
use Rattle.s80_dict.specs.Dict.{Methods}
use Rattle.s80_dict.specs.Table.{same_side}
use Rattle.s80_change.specs.declared.change.Change.{Change}
use Rattle.s80_change.specs.declared.change.Change.TheVariants as change
use Rattle.s80_change.specs.declared.change.Method.{Method}
use Rattle.s80_form.specs.declared.form.Form.{Form}
use Rattle.s80_form.specs.declared.form.Form.TheVariants.{Define, ClassVars, Comment, RemoveMethod, Classify, RemoveClass, NoChanges}
use Rattle.s80_form.specs.declared.refusal.Refusal.{Refusal}
use Rattle.s80_class.specs.Classes.{Name, ClassRow, Classes, change_row, with_class_side_vars, with_comment}
use Rattle.s80_class.proofs.lemmas.Changed.{changed_absent, changed_elsewhere, changed_here}
use Rattle.s80_class.proofs.lemmas.Lines.{get-inserted, get-removed, not_eq}
use Rattle.s80_apply.specs.Accept.{classify, define, keeping_rows, put_source, row_of}
use Rattle.s80_apply.specs.State.{MethodRow, State, put_method, take_class, take_method}

-- ---- the state behind a change

abbrev pub form_effect : Form → State → State
form_effect (Define d) state = record state { classes = define d state.classes }
form_effect (ClassVars name names) state = record state { classes = change_row (with_class_side_vars names) name state.classes }
form_effect (Comment name text) state = record state { classes = change_row (with_comment text) name state.classes }
form_effect (RemoveMethod name side selector) state = take_method name side selector state
form_effect (Classify name side selector category) state = classify keeping_rows name side selector category state
form_effect (RemoveClass name) state = take_class name state
form_effect NoChanges state = state

abbrev pub method_effect : Method → Result (List ℕ) Refusal → State → State
method_effect m (Ok selector) state = put_source keeping_rows m selector state
method_effect m (Err refusal) state = state

abbrev pub effect : Change → State → State
effect (change.Form form) state = form_effect form state
effect (change.Method m) state = method_effect m m.source.selector state
effect (change.DoIt text) state = state

-- ---- as what it makes of the row and of each method of one class

pub record Act : Type 0 where
  pub name : Name
  pub row : Option ClassRow → Option ClassRow
  pub method : Side → List ℕ → Option MethodRow → Option MethodRow

abbrev pub same_row : Option ClassRow → Option ClassRow
same_row row = row

abbrev pub same_method : Side → List ℕ → Option MethodRow → Option MethodRow
same_method side selector row = row

-- the method of one selector on one side
abbrev pub at_place : Side → List ℕ → (Option MethodRow → Option MethodRow) → Side → List ℕ → Option MethodRow → Option MethodRow
at_place side selector f s k row = cond (same_side s side && bytes_eq k selector) (f row) row

abbrev pub form_act : Form → Act
form_act (Define d) = record { name = d.class_name; row = λ row. Some (row_of d row); method = same_method }
form_act (ClassVars name names) = record { name = name; row = option_map (with_class_side_vars names); method = same_method }
form_act (Comment name text) = record { name = name; row = option_map (with_comment text); method = same_method }
form_act (RemoveMethod name side selector) = record { name = name; row = same_row; method = at_place side selector (λ _. None) }
form_act (Classify name side selector category) = record { name = name; row = same_row; method = at_place side selector (option_map (keeping_rows.under category)) }
form_act (RemoveClass name) = record { name = name; row = λ _. None; method = λ _ _ _. None }
form_act NoChanges = record { name = []; row = same_row; method = same_method }

abbrev pub method_act : Method → Result (List ℕ) Refusal → Act
method_act m (Ok selector) = record { name = m.class_name; row = same_row; method = at_place m.side selector (λ _. Some (keeping_rows.put m)) }
method_act m (Err refusal) = record { name = m.class_name; row = same_row; method = same_method }

abbrev pub act_of : Change → Act
act_of (change.Form form) = form_act form
act_of (change.Method m) = method_act m m.source.selector
act_of (change.DoIt text) = record { name = []; row = same_row; method = same_method }

pub record Does (act : Act) (before now : State) : Type 0 where
  pub rows : (q : Name) → map.get now.classes q ≡ cond (bytes_eq q act.name) (act.row (map.get before.classes q)) (map.get before.classes q)
  pub methods : (q : Name) (side : Side) (selector : List ℕ)
      → map.get (now.methods q side) selector ≡ cond (bytes_eq q act.name) (act.method side selector (map.get (before.methods q side) selector)) (map.get (before.methods q side) selector)

-- ---- that it is so

same_either : {X : Type 0} (b : Bool) (x : X) → x ≡ cond b x x
same_either true x = refl
same_either false x = refl

pub is_side : (s side : Side) → same_side s side ≡ true → s ≡ side
is_side Instance Instance is = refl
is_side Class Class is = refl
is_side Instance Class is = absurd (true≢false (sym is))
is_side Class Instance is = absurd (true≢false (sym is))

-- the value at a name
at_name : {X : Type 0} (b : Bool) (q name : Name) (f : Name → X) (x : X) → bytes_eq q name ≡ b → cond b (f name) x ≡ cond b (f q) x
at_name true q name f x is = ap f (sym ((bytes_decides q name).0 is))
at_name false q name f x is = refl

changed_rows : (f : ClassRow → ClassRow) (name : Name) (classes : Classes) (q : Name) → map.get (change_row f name classes) q ≡ cond (bytes_eq q name) (option_map f (map.get classes q)) (map.get classes q)
changed_rows f name classes q = by_name (bytes_eq q name) refl
  where
    here : (o : Option ClassRow) → map.get classes name ≡ o → map.get (change_row f name classes) name ≡ option_map f (map.get classes name)
    here None none = ap (λ (m : Classes). map.get m name) (changed_absent f name classes none) ∙ none ∙ sym (ap (option_map f) none)
    here (Some row) is = changed_here f name classes row is ∙ sym (ap (option_map f) is)

    by_name : (b : Bool) → bytes_eq q name ≡ b → map.get (change_row f name classes) q ≡ cond b (option_map f (map.get classes q)) (map.get classes q)
    by_name true is = subst (λ n. map.get (change_row f name classes) n ≡ option_map f (map.get classes n)) (sym ((bytes_decides q name).0 is)) (here (map.get classes name) refl)
    by_name false is = changed_elsewhere f name classes q (not_eq q name is)

module _ (methods : Methods MethodRow) (selector k : List ℕ) where
  removed_method : map.get (map.remove methods selector) k ≡ cond (bytes_eq k selector) None (map.get methods k)
  removed_method = map.get-remove nat_list_cmp_total methods selector k ∙ ap (λ b. cond b None (map.get methods k)) (sym (texts_ties k selector))

  inserted_method : (row : MethodRow) → map.get (map.insert methods selector row) k ≡ cond (bytes_eq k selector) (Some row) (map.get methods k)
  inserted_method row = map.get-insert nat_list_cmp_total methods selector row k ∙ ap (λ b. cond b (Some row) (map.get methods k)) (sym (texts_ties k selector))

  taken_at : (a b : Bool) → map.get (cond (a && b) (map.remove methods selector) methods) k ≡ cond a (cond (b && bytes_eq k selector) None (map.get methods k)) (map.get methods k)
  taken_at true true = removed_method
  taken_at true false = refl
  taken_at false b = refl

  put_at : (row : MethodRow) (a b : Bool) → map.get (cond (a && b) (map.insert methods selector row) methods) k ≡ cond a (cond (b && bytes_eq k selector) (Some row) (map.get methods k)) (map.get methods k)
  put_at row true true = inserted_method row
  put_at row true false = refl
  put_at row false b = refl

emptied : (methods : Methods MethodRow) (k : List ℕ) (a : Bool) → map.get (cond a map.empty methods) k ≡ cond a None (map.get methods k)
emptied methods k true = map.get-empty (slice_cmp nat_cmp) k
emptied methods k false = refl

-- a method under another category, where it is there
module _ (name : Name) (side : Side) (selector category : List ℕ) (state : State) where
  abbrev under : Option MethodRow → Option MethodRow
  under = option_map (keeping_rows.under category)

  abbrev made : Option MethodRow → State
  made o = unwrap_or (option_map (λ row. put_method name side selector (keeping_rows.under category row) state) o) state

  abbrev there : Name → Side → List ℕ → Option MethodRow
  there q s k = map.get (state.methods q s) k

  -- where the place is the one that is told, it has what was found there
  found : (o : Option MethodRow) → there name side selector ≡ o → (q : Name) (s : Side) (k : List ℕ) (a b c : Bool) → bytes_eq q name ≡ a → same_side s side ≡ b → bytes_eq k selector ≡ c
      → cond a (cond (b && c) (under o) (there q s k)) (there q s k) ≡ cond a (cond (b && c) (under (there q s k)) (there q s k)) (there q s k)
  found o is q s k true true true same_name same_s same_k =
      let here : there q s k ≡ o = (λ i. there ((bytes_decides q name).0 same_name i) (is_side s side same_s i) ((bytes_decides k selector).0 same_k i)) ∙ is in
      ap under (sym here)
  found o is q s k true true false same_name same_s other = refl
  found o is q s k true false c same_name other _ = refl
  found o is q s k false b c other _ _ = refl

  none_found : (q : Name) (s : Side) (k : List ℕ) (a b c : Bool) → there name side selector ≡ None → bytes_eq q name ≡ a → same_side s side ≡ b → bytes_eq k selector ≡ c
      → there q s k ≡ cond a (cond (b && c) None (there q s k)) (there q s k)
  none_found q s k true true true is same_name same_s same_k = (λ i. there ((bytes_decides q name).0 same_name i) (is_side s side same_s i) ((bytes_decides k selector).0 same_k i)) ∙ is
  none_found q s k true true false is _ _ _ = refl
  none_found q s k true false c is _ _ _ = refl
  none_found q s k false b c is _ _ _ = refl

  classified : (o : Option MethodRow) → there name side selector ≡ o → (q : Name) (s : Side) (k : List ℕ)
      → map.get ((made o).methods q s) k ≡ cond (bytes_eq q name) (at_place side selector under s k (there q s k)) (there q s k)
  classified None is q s k = none_found q s k (bytes_eq q name) (same_side s side) (bytes_eq k selector) is refl refl refl ∙ found None is q s k (bytes_eq q name) (same_side s side) (bytes_eq k selector) refl refl refl
  classified (Some row) is q s k =
      put_at (state.methods q s) selector k (keeping_rows.under category row) (bytes_eq q name) (same_side s side)
      ∙ found (Some row) is q s k (bytes_eq q name) (same_side s side) (bytes_eq k selector) refl refl refl

  made_classes : (o : Option MethodRow) → (made o).classes ≡ state.classes
  made_classes None = refl
  made_classes (Some row) = refl

form_does : (form : Form) (state : State) → Does (form_act form) state (form_effect form state)
form_does (Define d) state = record {
  rows = λ q. get-inserted state.classes d.class_name (row_of d (map.get state.classes d.class_name)) q
      ∙ at_name (bytes_eq q d.class_name) q d.class_name (λ n. Some (row_of d (map.get state.classes n))) (map.get state.classes q) refl;
  methods = λ q s k. same_either (bytes_eq q d.class_name) (map.get (state.methods q s) k);
}
form_does (ClassVars name names) state = record {
  rows = changed_rows (with_class_side_vars names) name state.classes;
  methods = λ q s k. same_either (bytes_eq q name) (map.get (state.methods q s) k);
}
form_does (Comment name text) state = record {
  rows = changed_rows (with_comment text) name state.classes;
  methods = λ q s k. same_either (bytes_eq q name) (map.get (state.methods q s) k);
}
form_does (RemoveMethod name side selector) state = record {
  rows = λ q. same_either (bytes_eq q name) (map.get state.classes q);
  methods = λ q s k. taken_at (state.methods q s) selector k (bytes_eq q name) (same_side s side);
}
form_does (Classify name side selector category) state = record {
  rows = λ q. ap (λ (c : Classes). map.get c q) (made_classes name side selector category state (map.get (state.methods name side) selector)) ∙ same_either (bytes_eq q name) (map.get state.classes q);
  methods = classified name side selector category state (map.get (state.methods name side) selector) refl;
}
form_does (RemoveClass name) state = record {
  rows = get-removed state.classes name;
  methods = λ q s k. emptied (state.methods q s) k (bytes_eq q name);
}
form_does NoChanges state = record {
  rows = λ q. same_either (bytes_eq q []) (map.get state.classes q);
  methods = λ q s k. same_either (bytes_eq q []) (map.get (state.methods q s) k);
}

method_does : (m : Method) (check : Result (List ℕ) Refusal) (state : State) → Does (method_act m check) state (method_effect m check state)
method_does m (Ok selector) state = record {
  rows = λ q. same_either (bytes_eq q m.class_name) (map.get state.classes q);
  methods = λ q s k. put_at (state.methods q s) selector k (keeping_rows.put m) (bytes_eq q m.class_name) (same_side s m.side);
}
method_does m (Err refusal) state = record {
  rows = λ q. same_either (bytes_eq q m.class_name) (map.get state.classes q);
  methods = λ q s k. same_either (bytes_eq q m.class_name) (map.get (state.methods q s) k);
}

pub does : (c : Change) (state : State) → Does (act_of c) state (effect c state)
does (change.Form form) state = form_does form state
does (change.Method m) state = method_does m m.source.selector state
does (change.DoIt text) state = record {
  rows = λ q. same_either (bytes_eq q []) (map.get state.classes q);
  methods = λ q s k. same_either (bytes_eq q []) (map.get (state.methods q s) k);
}

-- ---- two that agree

-- where they alter one class, each alters what the other leaves
pub record Agree (one other : Act) (state : State) : Type 0 where
  pub rows : (n : Name) → n ≡ one.name → n ≡ other.name → other.row (one.row (map.get state.classes n)) ≡ one.row (other.row (map.get state.classes n))
  pub methods : (n : Name) (s : Side) (k : List ℕ) → n ≡ one.name → n ≡ other.name
      → other.method s k (one.method s k (map.get (state.methods n s) k)) ≡ one.method s k (other.method s k (map.get (state.methods n s) k))

either_first : {X : Type 0} (f g : X → X) (p q : Bool) (x by_one by_other last_other last_one : X) → by_one ≡ cond p (f x) x → by_other ≡ cond q (g x) x
    → last_other ≡ cond q (g by_one) by_one → last_one ≡ cond p (f by_other) by_other → (p ≡ true → q ≡ true → g (f x) ≡ f (g x)) → last_other ≡ last_one
either_first f g true true x u v w z a b c d agree = c ∙ ap g a ∙ agree refl refl ∙ ap f (sym b) ∙ sym d
either_first f g true false x u v w z a b c d agree = c ∙ a ∙ ap f (sym b) ∙ sym d
either_first f g false true x u v w z a b c d agree = c ∙ ap g a ∙ sym b ∙ sym d
either_first f g false false x u v w z a b c d agree = c ∙ a ∙ sym b ∙ sym d

pub same_state : (one other : State) → ((q : Name) → map.get one.classes q ≡ map.get other.classes q)
    → ((q : Name) (s : Side) (k : List ℕ) → map.get (one.methods q s) k ≡ map.get (other.methods q s) k) → one ≡ other
same_state one other rows methods = λ i. record {
  classes = map.same_map nat_list_cmp_total (map.slice_cmp-IsAntisymmetric map.nat_cmp-IsAntisymmetric) one.classes other.classes rows i;
  methods = λ q s. map.same_map nat_list_cmp_total (map.slice_cmp-IsAntisymmetric map.nat_cmp-IsAntisymmetric) (one.methods q s) (other.methods q s) (methods q s) i;
}

-- make one state, whichever comes first
pub agreed : (one other : Act) (state by_one by_other last_other last_one : State) → Does one state by_one → Does other state by_other → Does other by_one last_other → Does one by_other last_one
    → Agree one other state → last_other ≡ last_one
agreed one other state by_one by_other last_other last_one a b c d agree =
    same_state last_other last_one
    (λ q. either_first one.row other.row (bytes_eq q one.name) (bytes_eq q other.name) (map.get state.classes q) (map.get by_one.classes q) (map.get by_other.classes q) (map.get last_other.classes q)
    (map.get last_one.classes q) (a.rows q) (b.rows q) (c.rows q) (d.rows q) (λ p r. agree.rows q ((bytes_decides q one.name).0 p) ((bytes_decides q other.name).0 r)))
    (λ q s k. either_first (one.method s k) (other.method s k) (bytes_eq q one.name) (bytes_eq q other.name) (map.get (state.methods q s) k) (map.get (by_one.methods q s) k) (map.get (by_other.methods q s) k)
    (map.get (last_other.methods q s) k) (map.get (last_one.methods q s) k) (a.methods q s k) (b.methods q s k) (c.methods q s k) (d.methods q s k)
    (λ p r. agree.methods q s k ((bytes_decides q one.name).0 p) ((bytes_decides q other.name).0 r)))
