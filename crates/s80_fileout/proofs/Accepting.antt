-- What an accepted change makes of a state, case by case; and what every accepted change keeps.
use Rattle.std.proofs.Common.{◌≡◌, ◌∙◌, true, refl, sym, ap, subst, List, [], ◌∷◌, Option, Some, None, Result, Ok, Err, option_map, unwrap_or}
use Rattle.std.specs.FinMap as map
use Rattle.s80_base.specs.declared.names.Side.{Side}
use Rattle.s80_change.specs.declared.change.Change.{Change}
use Rattle.s80_change.specs.declared.change.Change.TheVariants as changes
use Rattle.s80_change.specs.declared.change.Method.{Method as MethodChange}
use Rattle.s80_form.specs.declared.definition.Definition.{Definition}
use Rattle.s80_form.specs.declared.form.Form.TheVariants.{Define, ClassVars, Comment, RemoveMethod, Classify, RemoveClass, NoChanges}
use Rattle.s80_form.specs.declared.refusal.Refusal.{Refusal}
use Rattle.s80_class.specs.Classes.{Name, change_row, with_class_side_vars, with_comment}
use Rattle.s80_apply.specs.State.{MethodRow, State, put_method, take_class, take_method}
use Rattle.s80_apply.specs.Accept.{accept, accept_checked, accepted, classify, define, first_some, keeping_rows, no_method, put_source, refusal_of, refusal_of_class_vars, refusal_of_removal, too_many_methods, unknown_name}
use Rattle.s80_apply.specs.List.{state_after, state_from, state_or}
use Rattle.s80_apply.proofs.Passing.{known_name, method_there, none_first}
use Rattle.s80_fileout.proofs.Cells.{in_cell}
use Rattle.s80_fileout.proofs.Keyed.{contained}

-- what a method change makes
abbrev pub with_method : MethodChange → Name → State → State
with_method m selector s = put_method m.class_name m.side selector (record { category = m.category; source = m.source.text }) s

pub record Cases (Q : Change → State → State → Type 0) : Type 0 where
  pub defined : (d : Definition) (s : State) → refusal_of d s.classes ≡ None → Q (changes.Form (Define d)) s (record s { classes = define d s.classes })
  pub given_vars : (name : Name) (names : List Name) (s : State) → refusal_of_class_vars name names s.classes ≡ None
      → Q (changes.Form (ClassVars name names)) s (record s { classes = change_row (with_class_side_vars names) name s.classes })
  pub commented : (name text : Name) (s : State) → map.contains_key s.classes name ≡ true → Q (changes.Form (Comment name text)) s (record s { classes = change_row (with_comment text) name s.classes })
  pub taken : (name : Name) (side : Side) (selector : Name) (s : State) → map.contains_key s.classes name ≡ true → Q (changes.Form (RemoveMethod name side selector)) s (take_method name side selector s)
  pub classified : (name : Name) (side : Side) (selector category : Name) (row : MethodRow) (s : State) → map.contains_key s.classes name ≡ true → in_cell (name, side, selector) s ≡ Some row
      → Q (changes.Form (Classify name side selector category)) s (put_method name side selector (record row { category = category }) s)
  pub removed : (name : Name) (s : State) → refusal_of_removal name s.classes ≡ None → Q (changes.Form (RemoveClass name)) s (take_class name s)
  pub begun : (s : State) → Q (changes.Form NoChanges) s s
  pub put : (m : MethodChange) (selector : Name) (s : State) → m.source.selector ≡ Ok selector → map.contains_key s.classes m.class_name ≡ true → too_many_methods m selector s ≡ None
      → Q (changes.Method m) s (with_method m selector s)
  pub evaluated : (text : Name) (s : State) → Q (changes.DoIt text) s s

accepted_so : (o : Option Refusal) (made now : State) → accepted o made ≡ Ok now → (o ≡ None) × (made ≡ now)
accepted_so None made now is = (refl, let same : made ≡ now = cc in same)
accepted_so (Some why) made now is = absurd (let bad : Err why ≡ Ok now = is in cc)

one_answer : (s now : State) → ◌≡◌ {A = Result State Refusal} (Ok s) (Ok now) → s ≡ now
one_answer s now is = cc

module _ (Q : Change → State → State → Type 0) (cases : Cases Q) where
  by_check : (m : MethodChange) (check : Result Name Refusal) (s now : State) → m.source.selector ≡ check → accept_checked keeping_rows m check s ≡ Ok now → Q (changes.Method m) s now
  by_check m (Err why) s now so is = absurd (let bad : Err why ≡ Ok now = is in cc)
  by_check m (Ok selector) s now so is =
      let ok = accepted_so (first_some (unknown_name m.class_name s.classes ∷ too_many_methods m selector s ∷ [])) (put_source keeping_rows m selector s) now is in
      let first = none_first (unknown_name m.class_name s.classes) (too_many_methods m selector s ∷ []) ok.0 in
      let second = none_first (too_many_methods m selector s) [] first.1 in
      subst (Q (changes.Method m) s) ok.1 (cases.put m selector s so (known_name m.class_name s.classes first.0) second.0)

  pub by_case : (c : Change) (s now : State) → accept c s ≡ Ok now → Q c s now
  by_case (changes.Form (Define d)) s now is =
      let ok = accepted_so (refusal_of d s.classes) (record s { classes = define d s.classes }) now is in
      subst (Q (changes.Form (Define d)) s) ok.1 (cases.defined d s ok.0)
  by_case (changes.Form (ClassVars name names)) s now is =
      let ok = accepted_so (refusal_of_class_vars name names s.classes) (record s { classes = change_row (with_class_side_vars names) name s.classes }) now is in
      subst (Q (changes.Form (ClassVars name names)) s) ok.1 (cases.given_vars name names s ok.0)
  by_case (changes.Form (Comment name text)) s now is =
      let ok = accepted_so (unknown_name name s.classes) (record s { classes = change_row (with_comment text) name s.classes }) now is in
      subst (Q (changes.Form (Comment name text)) s) ok.1 (cases.commented name text s (known_name name s.classes ok.0))
  by_case (changes.Form (RemoveMethod name side selector)) s now is =
      let ok = accepted_so (no_method name side selector s) (take_method name side selector s) now is in
      subst (Q (changes.Form (RemoveMethod name side selector)) s) ok.1 (cases.taken name side selector s (method_there name side selector s ok.0).known)
  by_case (changes.Form (Classify name side selector category)) s now is =
      let ok = accepted_so (no_method name side selector s) (classify keeping_rows name side selector category s) now is in
      let there = method_there name side selector s ok.0 in
      let row = contained (s.methods name side) selector there.there in
      let made : classify keeping_rows name side selector category s ≡ put_method name side selector (record row.0 { category = category }) s =
      ap (λ o. unwrap_or (option_map (λ (row : MethodRow). put_method name side selector (record row { category = category }) s) o) s) row.1 in
      subst (Q (changes.Form (Classify name side selector category)) s) (sym made ∙ ok.1) (cases.classified name side selector category row.0 s there.known row.1)
  by_case (changes.Form (RemoveClass name)) s now is =
      let ok = accepted_so (refusal_of_removal name s.classes) (take_class name s) now is in
      subst (Q (changes.Form (RemoveClass name)) s) ok.1 (cases.removed name s ok.0)
  by_case (changes.Form NoChanges) s now is = subst (Q (changes.Form NoChanges) s) (one_answer s now is) (cases.begun s)
  by_case (changes.Method m) s now is = by_check m m.source.selector s now refl is
  by_case (changes.DoIt text) s now is = subst (Q (changes.DoIt text) s) (one_answer s now is) (cases.evaluated text s)

-- a list keeps what each change keeps
module _ (P : State → Type 0) (cases : Cases (λ c s t. P s → P t)) where
  one_kept : (c : Change) (s : State) → P s → P (state_after c s)
  one_kept c s holds = go (accept c s) refl
    where
      go : (r : Result State Refusal) → accept c s ≡ r → P (state_or r s)
      go (Ok now) is = by_case (λ c s t. P s → P t) cases c s now is holds
      go (Err why) is = holds

  pub each_kept : (cs : List Change) (s : State) → P s → P (state_from s cs)
  each_kept [] s holds = holds
  each_kept (c ∷ cs) s holds = each_kept cs (state_after c s) (one_kept c s holds)
