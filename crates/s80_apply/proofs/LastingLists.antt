-- What every accepted change keeps holds of the classes of each list.
use Rattle.std.proofs.Common.{◌≡◌, ℕ, refl, sym, subst, List, [], ◌∷◌, Option, Some, None, Result, Ok, Err, option_map, unwrap_or}
use Rattle.std.specs.FinMap as map
use Rattle.s80_base.specs.declared.names.Side.{Side}
use Rattle.s80_change.specs.declared.change.Change.{Change}
use Rattle.s80_change.specs.declared.change.Change.TheVariants as changes
use Rattle.s80_change.specs.declared.change.Method.{Method as MethodChange}
use Rattle.s80_form.specs.declared.definition.Definition.{Definition}
use Rattle.s80_form.specs.declared.form.Form.{Form}
use Rattle.s80_form.specs.declared.form.Form.TheVariants.{Define, ClassVars, Comment, RemoveMethod, Classify, RemoveClass, NoChanges}
use Rattle.s80_form.specs.declared.refusal.Refusal.{Refusal}
use Rattle.s80_kernel.specs.Methods.{KernelMethodRow, kernel_methods}
use Rattle.s80_class.specs.Classes.{Name, Classes, change_row, with_class_side_vars, with_comment}
use Rattle.s80_apply.specs.Accept.{Keeping, accept_checked, accept_form, accepted, classify, define, first_some, keeping_rows, no_method, put_source, refusal_of, refusal_of_class_vars, refusal_of_removal, too_many_methods, unknown_name}
use Rattle.s80_apply.specs.Kernel.{kernel_classes}
use Rattle.s80_apply.specs.List.{classes_of, state_after, state_from, state_or}
use Rattle.s80_apply.specs.State.{State, StateOf, kernel_method, kernel_state, no_methods, put_kernel_methods, put_method, side_of, take_class, take_method}

-- what every accepted change of the classes keeps
pub record IsKept (P : Classes → Type 0) : Type 0 where
  pub defined : (d : Definition) (classes : Classes) → refusal_of d classes ≡ None → P classes → P (define d classes)
  pub given_vars : (name : Name) (names : List Name) (classes : Classes) → refusal_of_class_vars name names classes ≡ None → P classes → P (change_row (with_class_side_vars names) name classes)
  pub commented : (name : Name) (text : List ℕ) (classes : Classes) → P classes → P (change_row (with_comment text) name classes)
  pub removed : (name : Name) (classes : Classes) → refusal_of_removal name classes ≡ None → P classes → P (map.remove classes name)

-- a change that is refused leaves the state, and no check refuses one that is accepted
pub by_refusal : {M : Type 0} (P : StateOf M → Type 0) (o : Option Refusal) (before then : StateOf M) → P before → (o ≡ None → P then) → P (state_or (accepted o then) before)
by_refusal P None before then holds next = next refl
by_refusal P (Some refusal) before then holds next = holds

-- ---- methods leave the classes

classify_leaves : {M : Type 0} (keeping : Keeping M) (name : Name) (side : Side) (selector category : List ℕ) (state : StateOf M) → (classify keeping name side selector category state).classes ≡ state.classes
classify_leaves {M} keeping name side selector category state = go (map.get (state.methods name side) selector)
  where
    go : (o : Option M) → (unwrap_or (option_map (λ row. put_method name side selector (keeping.under category row) state) o) state).classes ≡ state.classes
    go None = refl
    go (Some row) = refl

kernel_leaves : (ks : List KernelMethodRow) (state : State) → (put_kernel_methods kernel_method ks state).classes ≡ state.classes
kernel_leaves [] state = refl
kernel_leaves (k ∷ ks) state = kernel_leaves ks (put_method k.class (side_of k.on_class_side) k.selector (kernel_method k) state)

classes_first : kernel_state.classes ≡ kernel_classes
unfolding kernel_state
classes_first = kernel_leaves kernel_methods (record { classes = kernel_classes; methods = no_methods })

-- ---- lists

module _ (P : Classes → Type 0) (kept : IsKept P) where
  abbrev Holds : State → Type 0
  Holds state = P state.classes

  formed : (form : Form) (state : State) → Holds state → Holds (state_or (accept_form keeping_rows form state) state)
  formed (Define d) state holds =
      by_refusal Holds (refusal_of d state.classes) state (record state { classes = define d state.classes }) holds (λ none. kept.defined d state.classes none holds)
  formed (ClassVars name names) state holds =
      by_refusal Holds (refusal_of_class_vars name names state.classes) state (record state { classes = change_row (with_class_side_vars names) name state.classes }) holds
      (λ none. kept.given_vars name names state.classes none holds)
  formed (Comment name text) state holds =
      by_refusal Holds (unknown_name name state.classes) state (record state { classes = change_row (with_comment text) name state.classes }) holds (λ none. kept.commented name text state.classes holds)
  formed (RemoveMethod name side selector) state holds = by_refusal Holds (no_method name side selector state) state (take_method name side selector state) holds (λ none. holds)
  formed (Classify name side selector category) state holds =
      by_refusal Holds (no_method name side selector state) state (classify keeping_rows name side selector category state) holds
      (λ none. subst P (sym (classify_leaves keeping_rows name side selector category state)) holds)
  formed (RemoveClass name) state holds = by_refusal Holds (refusal_of_removal name state.classes) state (take_class name state) holds (λ none. kept.removed name state.classes none holds)
  formed NoChanges state holds = holds

  checked : (m : MethodChange) (check : Result (List ℕ) Refusal) (state : State) → Holds state → Holds (state_or (accept_checked keeping_rows m check state) state)
  checked m (Err refusal) state holds = holds
  checked m (Ok selector) state holds =
      by_refusal Holds (first_some (unknown_name m.class_name state.classes ∷ too_many_methods m selector state ∷ [])) state (put_source keeping_rows m selector state) holds (λ none. holds)

  changed : (change : Change) (state : State) → Holds state → Holds (state_after change state)
  changed (changes.Form form) state holds = formed form state holds
  changed (changes.Method m) state holds = checked m m.source.selector state holds
  changed (changes.DoIt text) state holds = holds

  from_state : (cs : List Change) (state : State) → Holds state → Holds (state_from state cs)
  from_state [] state holds = holds
  from_state (c ∷ cs) state holds = from_state cs (state_after c state) (changed c state holds)

  pub in_each_list : P kernel_classes → (cs : List Change) → P (classes_of cs)
  in_each_list holds cs = from_state cs kernel_state (subst P (sym classes_first) holds)
