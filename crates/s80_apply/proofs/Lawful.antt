-- A form that a list accepts is lawful.
use Rattle.std.proofs.Common.{◌≡◌, ℕ, Bool, cond, true, false, not, refl, subst, List, [], ◌∷◌, ◌++◌, Option, Some, None, is_some, Ok, get_or, option_map, true≢false, sym}
use Rattle.std.specs.List.{All, find}
use Rattle.std.specs.FinMap as map
use Rattle.std.proofs.lemmas.List.Elements.{All-nil, All-cons, All-head, All-tail}
use Rattle.s80_base.specs.declared.names.Side.{Side}
use Rattle.s80_kernel.specs.Methods.{kernel_methods}
use Rattle.s80_change.specs.declared.change.Change.{Change}
use Rattle.s80_change.specs.declared.change.Change.TheVariants as changes
use Rattle.s80_change.specs.Block.{IsLawful}
use Rattle.s80_change.specs.Check.{IsCheckOf}
use Rattle.s80_form.specs.declared.definition.Definition.{Definition}
use Rattle.s80_form.specs.declared.form.Form.{Form}
use Rattle.s80_form.specs.declared.form.Form.TheVariants.{Define, ClassVars, Comment, RemoveMethod, Classify, RemoveClass, NoChanges}
use Rattle.s80_form.specs.declared.refusal.Refusal.{Refusal}
use Rattle.s80_form.specs.declared.refusal.Refusal.TheVariants.{BadName}
use Rattle.s80_form.specs.Definition.{HasDefinitionNames}
use Rattle.s80_form.specs.Form.{HasLawfulNames, IsBriefForm, IsLawfulForm}
use Rattle.s80_form.specs.Name.{IsName, IsSelectorWord, AreNames, is_name, is_class_name}
use Rattle.s80_class.specs.Classes.{Name, Classes, change_row, with_class_side_vars, with_comment}
use Rattle.s80_class.proofs.lemmas.Most.{some_row}
use Rattle.s80_apply.specs.Accept.{accept, accept_form, accepted, bad_name, classify, cycle, define, duplicate, keeping_rows, kernel_class, no_method, refusal_of, refusal_of_class_vars, refusal_of_removal, too_many, unknown_class, unknown_name}
use Rattle.s80_apply.specs.Kernel.{kernel_classes}
use Rattle.s80_apply.specs.List.{IsAccepted, state_after, state_from, state_of}
use Rattle.s80_apply.specs.Named.{AreNamed}
use Rattle.s80_apply.specs.State.{State, kernel_method, kernel_state, no_methods, take_class, take_method}
use Rattle.s80_apply.proofs.Names.{classes_named, named_where}
use Rattle.s80_apply.proofs.OfMethods.{HoldsOfEach, HoldsOfPut, changed_holds, each_none, kernel_holds}
use Rattle.s80_apply.proofs.Passing.{known_name, method_there, names_good, none_first, removal_accepted, vars_accepted}

-- ---- the methods of a list have selectors

abbrev HasSelector : {M : Type 0} → List ℕ → M → Type 0
HasSelector selector row = IsSelectorWord selector

abbrev HaveSelectors : State → Type 0
HaveSelectors state = HoldsOfEach HasSelector state

module _ (sources : (source selector : List ℕ) → IsCheckOf source (Ok selector) → IsSelectorWord selector) (fit : All (λ row. IsCheckOf row.source (Ok row.selector)) kernel_methods) where
  kernel_selectors : HaveSelectors kernel_state
  unfolding kernel_state
  kernel_selectors =
      kernel_holds HasSelector kernel_method kernel_methods (λ k d below. sources (get_or kernel_methods k d).source (get_or kernel_methods k d).selector (fit k d below)) (record { classes = kernel_classes; methods = no_methods })
      (λ name side. each_none HasSelector)

  lawful_put : (change : Change) → IsLawful change → HoldsOfPut HasSelector keeping_rows (λ selector category row h. h) change
  lawful_put (changes.Form form) h = tt
  lawful_put (changes.Method m) h = λ selector is. sources m.source.text selector (subst (IsCheckOf m.source.text) is h.check)
  lawful_put (changes.DoIt text) h = tt

  selectors_from : (cs : List Change) (state : State) → All IsLawful cs → HaveSelectors state → HaveSelectors (state_from state cs)
  selectors_from [] state lawful all = all
  selectors_from (c ∷ cs) state lawful all =
      selectors_from cs (state_after c state) (All-tail IsLawful c cs lawful) (changed_holds HasSelector keeping_rows (λ selector category row h. h) c state (lawful_put c (All-head IsLawful c cs lawful)) all)

  list_selectors : (cs : List Change) → All IsLawful cs → HaveSelectors (state_of cs)
  list_selectors cs lawful = selectors_from cs kernel_state lawful kernel_selectors

-- ---- a definition that is accepted

names_before : (xs ys : List Name) → AreNames (xs ++ ys) → AreNames xs
names_before [] ys all = All-nil IsName
names_before (x ∷ xs) ys all = All-cons IsName x xs (All-head IsName x (xs ++ ys) all) (names_before xs ys (All-tail IsName x (xs ++ ys) all))

names_behind : (xs ys : List Name) → AreNames (xs ++ ys) → AreNames ys
names_behind [] ys all = all
names_behind (x ∷ xs) ys all = names_behind xs ys (All-tail IsName x (xs ++ ys) all)

variables_named : (d : Definition) → bad_name d ≡ None → AreNames (d.inst_vars ++ (d.class_vars ++ d.pools))
variables_named d h = go (is_class_name d.class_name) h
  where
    all : List Name
    all = d.inst_vars ++ (d.class_vars ++ d.pools)

    go : (b : Bool) → cond b (option_map BadName (find (λ name. not (is_name name)) all)) (Some (BadName d.class_name)) ≡ None → AreNames all
    go true none = names_good all none
    go false bad = absurd (cc)

definition_named : (d : Definition) (classes : Classes) → AreNamed classes → refusal_of d classes ≡ None → HasDefinitionNames d
definition_named d classes named none =
    let first = none_first (bad_name d) (unknown_class d classes ∷ kernel_class d ∷ cycle d classes ∷ duplicate d ∷ too_many d classes ∷ []) none in
    let second = none_first (unknown_class d classes) (kernel_class d ∷ cycle d classes ∷ duplicate d ∷ too_many d classes ∷ []) first.1 in
    let above = some_row classes d.superclass (known_name d.superclass classes second.0) in
    let all = variables_named d first.0 in
    let others = names_behind d.inst_vars (d.class_vars ++ d.pools) all in
    record {
      superclass = named d.superclass above.0 above.1;
      class_name = named_where d first.0;
      inst_vars = names_before d.inst_vars (d.class_vars ++ d.pools) all;
      class_vars = names_before d.class_vars d.pools others;
      pools = names_behind d.class_vars d.pools others;
    }

-- ---- a form that is accepted

none_refused : (o : Option Refusal) (after : State) → IsAccepted (accepted o after) → o ≡ None
none_refused None after is = refl
none_refused (Some refusal) after is = absurd is

name_there : (name : Name) (classes : Classes) → AreNamed classes → map.contains_key classes name ≡ true → IsName name
name_there name classes named there = let row = some_row classes name there in named name row.0 row.1

selector_there : (name : Name) (side : Side) (selector : List ℕ) (state : State) → HaveSelectors state → map.contains_key (state.methods name side) selector ≡ true → IsSelectorWord selector
selector_there name side selector state selects there = go (map.get (state.methods name side) selector) refl there
  where
    go : (o : Option _) → map.get (state.methods name side) selector ≡ o → is_some o ≡ true → IsSelectorWord selector
    go None is none = absurd (true≢false (sym none))
    go (Some row) is _ = selects name side selector row is

form_named : (form : Form) (state : State) → AreNamed state.classes → HaveSelectors state → IsAccepted (accept_form keeping_rows form state) → HasLawfulNames form
form_named (Define d) state named selects is = definition_named d state.classes named (none_refused (refusal_of d state.classes) (record state { classes = define d state.classes }) is)
form_named (ClassVars name names) state named selects is =
    let ok = vars_accepted name names state.classes (none_refused (refusal_of_class_vars name names state.classes) (record state { classes = change_row (with_class_side_vars names) name state.classes }) is) in
    (name_there name state.classes named ok.known, ok.named)
form_named (Comment name text) state named selects is =
    name_there name state.classes named (known_name name state.classes (none_refused (unknown_name name state.classes) (record state { classes = change_row (with_comment text) name state.classes }) is))
form_named (RemoveMethod name side selector) state named selects is =
    let ok = method_there name side selector state (none_refused (no_method name side selector state) (take_method name side selector state) is) in
    (name_there name state.classes named ok.known, selector_there name side selector state selects ok.there)
form_named (Classify name side selector category) state named selects is =
    let ok = method_there name side selector state (none_refused (no_method name side selector state) (classify keeping_rows name side selector category state) is) in
    (name_there name state.classes named ok.known, selector_there name side selector state selects ok.there)
form_named (RemoveClass name) state named selects is =
    name_there name state.classes named (removal_accepted name state.classes (none_refused (refusal_of_removal name state.classes) (take_class name state) is)).known
form_named NoChanges state named selects is = tt

pub form_lawful : ((source selector : List ℕ) → IsCheckOf source (Ok selector) → IsSelectorWord selector) → All (λ row. IsCheckOf row.source (Ok row.selector)) kernel_methods
    → (cs : List Change) (form : Form) → All IsLawful cs → IsBriefForm form → IsAccepted (accept (changes.Form form) (state_of cs)) → IsLawfulForm form
form_lawful sources fit cs form lawful brief is = record { names = form_named form (state_of cs) (classes_named cs) (list_selectors sources fit cs lawful) is; brief = brief }
