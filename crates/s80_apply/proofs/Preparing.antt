-- What is answered where a change is prepared: a step, or why it is refused.
use Rattle.std.proofs.Common.{◌≡◌, ◌+◌, inl, inr, ◌∙◌, ℕ, Bool, cond, true, false, refl, sym, ap, subst, List, [], ◌∷◌, Option, Some, None, is_some, option_map, unwrap_or, MatchOption, Result, Ok, Err, arith}
use Rattle.std.specs.FinMap as map
use Rattle.s80_base.specs.declared.names.Side.{Side}
use Rattle.s80_dict.specs.Table.{methods_at, put_at}
use Rattle.s80_change.specs.declared.change.Change.{Change}
use Rattle.s80_change.specs.declared.change.Change.TheVariants as changes
use Rattle.s80_change.specs.declared.change.Method.{Method as MethodChange}
use Rattle.s80_form.specs.declared.form.Form.{Form}
use Rattle.s80_form.specs.declared.form.Form.TheVariants.{Comment, RemoveMethod, Classify, RemoveClass}
use Rattle.s80_form.specs.declared.refusal.Refusal.{Refusal}
use Rattle.s80_form.specs.declared.refusal.Refusal.TheVariants.{UnknownClass, NoSelector}
use Rattle.s80_form.specs.declared.refusal.ManyKind.TheVariants.{Methods as ManyMethods}
use Rattle.s80_form.specs.declared.refusal.Refused.{Refused}
use Rattle.s80_form.specs.declared.refusal.Refused.TheVariants as refused
use Rattle.s80_class.specs.Classes.{Name, Classes, change_row, with_comment}
use Rattle.s80_class.specs.Table.{Table, IsNumberOf}
use Rattle.s80_class.proofs.lemmas.Most.{some_row}
use Rattle.s80_apply.specs.declared.step.Placed.{Placed}
use Rattle.s80_apply.specs.declared.step.PlacedMethod.{PlacedMethod}
use Rattle.s80_apply.specs.declared.step.Step.TheVariants as steps
use Rattle.s80_apply.specs.State.{State, StateOf, put_method, take_class, take_method}
use Rattle.s80_apply.specs.Placed.{PlacedRow, PlacedState, accept_placed, keeping_places, source_offset, without_place}
use Rattle.s80_apply.specs.Seen.{AreSeen}
use Rattle.s80_apply.specs.Accept.{Keeping, above, accept, accept_checked, accepted, classify, first_some, has_subclasses, keeping_rows, kernel_name, len_with, no_method, no_selector, put_source, refusal_of_removal, too_many_methods, unknown_name}
use Rattle.s80_apply.specs.Entries.{Entry, row_in, state_row}
use Rattle.s80_apply.specs.List.{AreOfList}
use Rattle.s80_apply.specs.System.{CanPutMethod, ClassifiesMethod, FindsClass, FindsMethod, HasMethod, HasMethodAt, HasNoMethod, HasNumber, HasPlaces, IsPrepared, IsSoundSystem, IsSystemBy, IsSystemOf, Places, Prepares, Stays, SystemState, moved}
use Rattle.s80_apply.specs.Method.{IsRefusedAt, PlacesIn, TakesPlace, refusal_at, row_for}
use Rattle.s80_apply.proofs.Sound.{not_unknown}
use Rattle.s80_apply.proofs.Standing.{class_commented, class_put, class_taken, method_put, method_taken, rows_show, state_rows_show}
use Rattle.s80_apply.proofs.Stands.{same_count}

-- ---- a refusal, or out of memory

pub refused_so : (before now : SystemState) (change : Change) (r : Refused) → ((state : State) → IsSystemOf before state → Prepares state change now (Err r)) → IsPrepared before change now (Err r)
refused_so before now change r answer = record { answer = answer; places = λ placed has. tt; ready = tt }

-- ---- nothing is changed

pub nothing_prepared : (system : SystemState) (change : Change) → ((state : State) → accept change state ≡ Ok state) → ((at : ℕ) (state : PlacedState) → accept_placed change at state ≡ Ok state) → IsPrepared system change system (Ok steps.Nothing)
nothing_prepared system change rows places = record {
  answer = λ state is. (state, rows state, λ at after same. subst (λ s. IsSystemOf s state) (sym same) is);
  places = λ state is at. (state, places at state, λ after same. subst (λ s. HasPlaces s state) (sym same) is);
  ready = (tt, omega arith);
}

-- ---- an entry among the classes

-- a form that changes the classes alone, where nothing refuses it
module _ (form : Form) (refusal : Classes → Option Refusal) (after : Classes → Classes)
    (rows : (state : State) → accept (changes.Form form) state ≡ accepted (refusal state.classes) (record state { classes = after state.classes }))
    (places : (at : ℕ) (state : PlacedState) → accept_placed (changes.Form form) at state ≡ accepted (refusal state.classes) (record state { classes = after state.classes })) (before now : SystemState) where
  passes : {M : Type 0} (state : StateOf M) → before.table.classes ≡ state.classes → refusal before.table.classes ≡ None → accepted (refusal state.classes) (record state { classes = after state.classes }) ≡ Ok (record state { classes = after state.classes })
  passes state same none = ap (λ o. accepted o (record state { classes = after state.classes })) (ap refusal (sym same) ∙ none)

  pub class_prepared : (placed : Placed) → Stays before now → IsSoundSystem now → ((classes : Classes) → AreOfList classes → refusal classes ≡ None → AreOfList (after classes))
      → Places (refusal before.table.classes) (after before.table.classes) now (Ok placed) → IsPrepared before (changes.Form form) now (Ok (steps.Class placed))
  class_prepared placed stays sound of_list answer = record {
    answer = λ state is. (
      record state { classes = after state.classes },
      rows state ∙ passes state is.classes answer.0,
      λ at next has. class_put state_rows_show now next state placed (after state.classes) sound (stays.same state is) answer.1 (answer.2 ∙ ap after is.classes) has,
    );
    places = λ state is at. (
      record state { classes = after state.classes },
      places at state ∙ passes state is.classes answer.0,
      λ next has. class_put rows_show now next state placed (after state.classes) sound (stays.same_places state is) answer.1 (answer.2 ∙ ap after is.classes) has,
    );
    ready = ((answer.1, subst AreOfList (sym answer.2) (of_list before.table.classes (subst AreOfList stays.classes sound.of_list) answer.0)), omega arith);
  }

  why_refused : (r : Refused) → Places (refusal before.table.classes) (after before.table.classes) now (Err r) → (state : State) → IsSystemOf before state → Prepares state (changes.Form form) now (Err r)
  why_refused refused.Memory answer state is = tt
  why_refused (refused.Refusal why) answer state is = rows state ∙ ap (λ o. accepted o (record state { classes = after state.classes })) (ap refusal (sym is.classes) ∙ answer)

  pub class_refused : (r : Refused) → Places (refusal before.table.classes) (after before.table.classes) now (Err r) → IsPrepared before (changes.Form form) now (Err r)
  class_refused r answer = refused_so before now (changes.Form form) r (why_refused r answer)

-- ---- a class by its name

module _ {M : Type 0} {view : Entry → M} (system : SystemState) (state : StateOf M) (is : IsSystemBy view system state) where
  same_unknown : (name : Name) → unknown_name name state.classes ≡ unknown_name name system.table.classes
  same_unknown name = ap (unknown_name name) (sym is.classes)

  known : (name : Name) (number : ℕ) → HasNumber system name number → unknown_name name state.classes ≡ None
  known name number has = same_unknown name ∙ not_unknown system.table.classes name has.there.0 has.there.1

-- ---- a comment

abbrev commented : {M : Type 0} → Name → List ℕ → StateOf M → StateOf M
commented name text state = record state { classes = change_row (with_comment text) name state.classes }

comment_by : {M : Type 0} (name text : List ℕ) (state : StateOf M) (unknown : Option Refusal) → unknown_name name state.classes ≡ unknown → accepted (unknown_name name state.classes) (commented name text state) ≡ accepted unknown (commented name text state)
comment_by name text state unknown is = ap (λ o. accepted o (commented name text state)) is

pub comment_refused : (system : SystemState) (name text : List ℕ) (r : Refused) → FindsClass system name (Err r) → IsPrepared system (changes.Form (Comment name text)) system (Err r)
comment_refused system name text r found = refused_so system system (changes.Form (Comment name text)) r (why r found)
  where
    why : (r : Refused) → FindsClass system name (Err r) → (state : State) → IsSystemOf system state → Prepares state (changes.Form (Comment name text)) system (Err r)
    why refused.Memory found state is = tt
    why (refused.Refusal refusal) found state is = comment_by name text state (Some refusal) (same_unknown system state is name ∙ found)

pub comment_prepared : (system : SystemState) (name text : List ℕ) (number : ℕ) → HasNumber system name number → IsPrepared system (changes.Form (Comment name text)) system (Ok (steps.Comment number text))
comment_prepared system name text number has = record {
  answer = λ state is. (commented name text state, comment_by name text state None (known system state is name number has), λ at next then. class_commented system next state name number text has is then);
  places = λ state is at. (commented name text state, comment_by name text state None (known system state is name number has), λ next then. class_commented system next state name number text has is then);
  ready = (record { class = name; number_is = has }, omega arith);
}

-- ---- the removal of a class

removal_by : {M : Type 0} (name : Name) (state : StateOf M) (unknown kernel above : Option Refusal) → unknown_name name state.classes ≡ unknown → kernel_name name ≡ kernel → has_subclasses name state.classes ≡ above
    → accepted (refusal_of_removal name state.classes) (take_class name state) ≡ accepted (first_some (unknown ∷ kernel ∷ above ∷ [])) (take_class name state)
removal_by name state unknown kernel above p q r = λ i. accepted (first_some (p i ∷ q i ∷ r i ∷ [])) (take_class name state)

pub removal_refused : (system : SystemState) (name : Name) (r : Refused) → FindsClass system name (Err r) → IsPrepared system (changes.Form (RemoveClass name)) system (Err r)
removal_refused system name r found = refused_so system system (changes.Form (RemoveClass name)) r (why r found)
  where
    why : (r : Refused) → FindsClass system name (Err r) → (state : State) → IsSystemOf system state → Prepares state (changes.Form (RemoveClass name)) system (Err r)
    why refused.Memory found state is = tt
    why (refused.Refusal refusal) found state is =
        removal_by name state (Some refusal) (kernel_name name) (has_subclasses name state.classes) (same_unknown system state is name ∙ found) refl refl

module _ (system : SystemState) (name : Name) (number : ℕ) (has : HasNumber system name number) where
  pub kernel_stays : (refusal : Refusal) → kernel_name name ≡ Some refusal → IsPrepared system (changes.Form (RemoveClass name)) system (Err (refused.Refusal refusal))
  kernel_stays refusal kernel = refused_so system system (changes.Form (RemoveClass name)) (refused.Refusal refusal) (λ state is.
      removal_by name state None (Some refusal) (has_subclasses name state.classes) (known system state is name number has) kernel refl)

  same_above : {M : Type 0} {view : Entry → M} (state : StateOf M) → IsSystemBy view system state → has_subclasses name state.classes ≡ has_subclasses name system.table.classes
  same_above state is = ap (has_subclasses name) (sym is.classes)

  pub superclass_stays : (refusal : Refusal) → kernel_name name ≡ None → has_subclasses name system.table.classes ≡ Some refusal → IsPrepared system (changes.Form (RemoveClass name)) system (Err (refused.Refusal refusal))
  superclass_stays refusal kernel above = refused_so system system (changes.Form (RemoveClass name)) (refused.Refusal refusal) (λ state is.
      removal_by name state None None (Some refusal) (known system state is name number has) kernel (same_above state is ∙ above))

  pub removal_prepared : kernel_name name ≡ None → has_subclasses name system.table.classes ≡ None → IsPrepared system (changes.Form (RemoveClass name)) system (Ok (steps.RemoveClass number))
  removal_prepared kernel above = record {
    answer = λ state is. (take_class name state, removal_by name state None None None (known system state is name number has) kernel (same_above state is ∙ above), λ at next then. class_taken system next state name number has is then);
    places = λ state is at. (take_class name state, removal_by name state None None None (known system state is name number has) kernel (same_above state is ∙ above), λ next then. class_taken system next state name number has is then);
    ready = (record { class = name; number_is = has; removable = removable }, omega arith);
  }
    where
      removable : refusal_of_removal name system.table.classes ≡ None
      removable = λ i. first_some (not_unknown system.table.classes name has.there.0 has.there.1 i ∷ kernel i ∷ above i ∷ [])

-- ---- a method that is there

module _ {M : Type 0} {view : Entry → M} (system : SystemState) (name : Name) (side : Side) (selector : List ℕ) (state : StateOf M) (is : IsSystemBy view system state) (number : ℕ) (has : HasNumber system name number) where
  -- what the state has of it
  seen_there : (o : Option Entry) → map.get (methods_at system.methods number side) selector ≡ o → map.get (state.methods name side) selector ≡ option_map view o
  seen_there o at = sym ((is.methods number name side has.named).each selector) ∙ ap (option_map view) at

  selector_is : (o : Option M) → map.get (state.methods name side) selector ≡ o → no_method name side selector state ≡ cond (is_some o) None (Some (NoSelector name side selector))
  selector_is o at = (λ i. first_some (known system state is name number has i ∷ cond (is_some (at i)) None (Some (NoSelector name side selector)) ∷ [])) ∙ alone (is_some o)
    where
      alone : (b : Bool) → first_some (None ∷ cond b None (Some (NoSelector name side selector)) ∷ []) ≡ cond b None (Some (NoSelector name side selector))
      alone true = refl
      alone false = refl

  not_refused : (entry : Entry) → map.get (methods_at system.methods number side) selector ≡ Some entry → no_method name side selector state ≡ None
  not_refused entry at = selector_is (Some (view entry)) (seen_there (Some entry) at)

-- why there is none
none_there : (system : SystemState) (name : Name) (side : Side) (selector : List ℕ) (refusal : Refusal) → HasNoMethod system name side selector refusal → (state : State) → IsSystemOf system state → no_method name side selector state ≡ Some refusal
none_there system name side selector refusal (inl unknown) state is = ap (λ o. first_some (o ∷ no_selector name side selector state ∷ [])) (same_unknown system state is name ∙ unknown)
none_there system name side selector refusal (inr at) state is = selector_is system name side selector state is at.0 at.1 None (seen_there system name side selector state is at.0 at.1 None at.2) ∙ ap Some (sym at.3)

-- a change of a method that is there
pub method_unknown : (system : SystemState) (name : Name) (side : Side) (selector : List ℕ) (change : Change) (after : State → State) → ((state : State) → accept change state ≡ accepted (no_method name side selector state) (after state))
    → (r : Refused) → FindsMethod system name side selector (Err r) → IsPrepared system change system (Err r)
method_unknown system name side selector change after rule r found = refused_so system system change r (why r found)
  where
    why : (r : Refused) → FindsMethod system name side selector (Err r) → (state : State) → IsSystemOf system state → Prepares state change system (Err r)
    why refused.Memory found state is = tt
    why (refused.Refusal refusal) found state is = rule state ∙ ap (λ o. accepted o (after state)) (none_there system name side selector refusal found state is)

module _ (system : SystemState) (name : Name) (side : Side) (selector : List ℕ) (number : ℕ) (has : HasNumber system name number) (at : HasMethodAt system number side selector) where
  -- its removal
  taken : {M : Type 0} {view : Entry → M} (state : StateOf M) → IsSystemBy view system state → accepted (no_method name side selector state) (take_method name side selector state) ≡ Ok (take_method name side selector state)
  taken state is = ap (λ o. accepted o (take_method name side selector state)) (not_refused system name side selector state is number has at.entry at.there)

  pub method_removal_prepared : IsPrepared system (changes.Form (RemoveMethod name side selector)) system (Ok (steps.RemoveMethod number side selector))
  method_removal_prepared = record {
    answer = λ state is. (take_method name side selector state, taken state is, λ place next then. method_taken system next state name number side selector has is then.table then.methods);
    places = λ state is place. (take_method name side selector state, taken state is, λ next then. method_taken system next state name number side selector has is then.table then.methods);
    ready = (at, omega arith);
  }

  -- another category
  module _ (category : List ℕ) where
    module _ {M : Type 0} {view : Entry → M} (keeping : Keeping M) (under : view (record at.entry { category = category }) ≡ keeping.under category (view at.entry)) (state : StateOf M) (is : IsSystemBy view system state) where
      classified : classify keeping name side selector category state ≡ put_method name side selector (keeping.under category (view at.entry)) state
      classified =
          ap (λ o. unwrap_or (option_map (λ row. put_method name side selector (keeping.under category row) state) o) state) (seen_there system name side selector state is number has (Some at.entry) at.there)

      classifies : accepted (no_method name side selector state) (classify keeping name side selector category state) ≡ Ok (put_method name side selector (keeping.under category (view at.entry)) state)
      classifies = λ i. accepted (not_refused system name side selector state is number has at.entry at.there i) (classified i)

      classified_stands : (next : SystemState) → ClassifiesMethod system number side selector category next → IsSystemBy view next (put_method name side selector (keeping.under category (view at.entry)) state)
      classified_stands next then =
          method_put system next state name number side selector (record at.entry { category = category }) (keeping.under category (view at.entry)) has under is then.table (then.methods at.entry at.there)

    pub classifying_prepared : IsPrepared system (changes.Form (Classify name side selector category)) system (Ok (steps.Classify number side selector category))
    classifying_prepared = record {
      answer = λ state is. (
        put_method name side selector (keeping_rows.under category (state_row at.entry)) state,
        classifies keeping_rows refl state is,
        λ place next then. classified_stands keeping_rows refl state is next then,
      );
      places = λ state is place. (
        put_method name side selector ((keeping_places place).under category (row_in at.entry)) state,
        classifies (keeping_places place) refl state is,
        λ next then. classified_stands (keeping_places place) refl state is next then,
      );
      ready = (at, omega arith);
    }

-- ---- a method that is put

module _ {M : Type 0} {view : Entry → M} (system : SystemState) (state : StateOf M) (is : IsSystemBy view system state) where
  there_known : (name : Name) → map.contains_key system.table.classes name ≡ true → unknown_name name state.classes ≡ None
  there_known name there = let row = some_row system.table.classes name there in same_unknown system state is name ∙ not_unknown system.table.classes name row.0 row.1

  -- as many are counted in the system as in the state
  same_many : (m : MethodChange) (selector : List ℕ) (number : ℕ) → IsNumberOf system.table.names number m.class_name → too_many_methods m selector state ≡ above 16384 ManyMethods (len_with selector (methods_at system.methods number m.side))
  same_many m selector number named =
      let are : AreSeen view (methods_at system.methods number m.side) (state.methods m.class_name m.side) = is.methods number m.class_name m.side named in
      ap (above 16384 ManyMethods) (sym (same_count view (methods_at system.methods number m.side) (state.methods m.class_name m.side) selector are))

  accepts_place : (keeping : Keeping M) (m : MethodChange) (selector : List ℕ) (placed : PlacedMethod) → m.source.selector ≡ Ok selector → TakesPlace system m selector placed → accept_checked keeping m m.source.selector state ≡ Ok (put_source keeping m selector state)
  accepts_place keeping m selector placed check takes =
      let few : too_many_methods m selector state ≡ None = same_many m selector placed.number takes.number ∙ takes.few in
      ap (λ c. accept_checked keeping m c state) check
      ∙ (λ i. accepted (first_some (there_known m.class_name takes.there i ∷ few i ∷ [])) (put_source keeping m selector state))

-- what is seen of its entry, once its block is put
abbrev moved_row : ℕ → PlacedRow → PlacedRow
moved_row at row = record row { position = at + row.position }

moved_is : (m : MethodChange) (at : ℕ) → moved_row at (row_for m) ≡ (keeping_places at).put m
moved_is m at =
    let same : 0 + source_offset m ≡ source_offset m = omega arith in
    ap (λ n. moved_row at (record (row_for m) { position = n })) same

module _ (old now : SystemState) (m : MethodChange) (selector : List ℕ) (placed : PlacedMethod) (check : m.source.selector ≡ Ok selector) (takes : TakesPlace old m selector placed) (stays : Stays old now) (table : now.table ≡ old.table) (can : CanPutMethod now placed) where
  its_class : HasNumber now m.class_name placed.number
  its_class =
      let row = some_row old.table.classes m.class_name takes.there in
      record {
        named = subst (λ (t : Table). IsNumberOf t.names placed.number m.class_name) (sym table) takes.number;
        only = λ c named. takes.only c (subst (λ (t : Table). IsNumberOf t.names c m.class_name) table named);
        dictionaries = can.number;
        there = (row.0, ap (λ (t : Table). map.get t.classes m.class_name) table ∙ row.1);
      }

  stands : {M : Type 0} {view : Entry → M} (keeping : Keeping M) (at : ℕ) → view (moved at placed.entry) ≡ keeping.put m → (state : StateOf M) → IsSystemBy view now state → (next : SystemState) → HasMethod now placed at next → IsSystemBy view next (put_source keeping m selector state)
  stands keeping at shown state is next has =
      method_put now next state m.class_name placed.number m.side selector (moved at placed.entry) (keeping.put m) its_class shown is has.table (λ n s.
      has.methods n s ∙ (λ i. put_at (methods_at now.methods) placed.number (takes.side i) (takes.selector_is i) (moved at placed.entry) n s))

  pub method_prepared : IsPrepared old (changes.Method m) now (Ok (steps.Method placed))
  method_prepared = record {
    answer = λ state is. (
      put_source keeping_rows m selector state,
      accepts_place old state is keeping_rows m selector placed check takes,
      λ at next has. stands keeping_rows at (ap without_place takes.row) state (stays.same state is) next has,
    );
    places = λ state is at. (
      put_source (keeping_places at) m selector state,
      accepts_place old state is (keeping_places at) m selector placed check takes,
      λ next has. stands (keeping_places at) at (ap (moved_row at) takes.row ∙ moved_is m at) state (stays.same_places state is) next has,
    );
    ready = (can, takes.near);
  }

refused_at : (old : SystemState) (state : State) (m : MethodChange) (selector : List ℕ) (refusal : Refusal) → IsSystemOf old state → IsRefusedAt old m selector refusal → accept_checked keeping_rows m (Ok selector) state ≡ Err refusal
refused_at old state m selector refusal was is = go is.number is.found is.refused
  where
    go : (number : Option ℕ) → MatchOption number (map.get old.table.classes m.class_name ≡ None) (λ c. IsNumberOf old.table.names c m.class_name × (map.contains_key old.table.classes m.class_name ≡ true)) → refusal_at old m selector number ≡ Some refusal
        → accept_checked keeping_rows m (Ok selector) state ≡ Err refusal
    go None absent same =
        let unknown : unknown_name m.class_name state.classes ≡ Some (UnknownClass m.class_name) =
        same_unknown old state was m.class_name ∙ ap (λ o. cond (is_some o) None (Some (UnknownClass m.class_name))) absent in
        λ i. accepted (first_some ((unknown ∙ same) i ∷ too_many_methods m selector state ∷ [])) (put_source keeping_rows m selector state)
    go (Some number) found same =
        let many : too_many_methods m selector state ≡ Some refusal = same_many old state was m selector number found.0 ∙ same in
        λ i. accepted (first_some (there_known old state was m.class_name found.1 i ∷ many i ∷ [])) (put_source keeping_rows m selector state)

pub method_refused : (old now : SystemState) (m : MethodChange) (r : Refused) → PlacesIn old m m.source.selector (Err r) → IsPrepared old (changes.Method m) now (Err r)
method_refused old now m r places = refused_so old now (changes.Method m) r (λ state was. go state was m.source.selector refl r places)
  where
    go : (state : State) → IsSystemOf old state → (check : Result (List ℕ) Refusal) → m.source.selector ≡ check → (r : Refused) → PlacesIn old m check (Err r) → Prepares state (changes.Method m) now (Err r)
    go state was check is refused.Memory places = tt
    go state was (Ok selector) is (refused.Refusal refusal) places = ap (λ c. accept_checked keeping_rows m c state) is ∙ refused_at old state m selector refusal was places
    go state was (Err why) is (refused.Refusal refusal) places = ap (λ c. accept_checked keeping_rows m c state) is ∙ ap Err (sym places)

-- a place that is answered has a selector that the source gives
pub fits_where : (old : SystemState) (m : MethodChange) (placed : PlacedMethod) → PlacesIn old m m.source.selector (Ok placed) → (selector : List ℕ) × (m.source.selector ≡ Ok selector) × TakesPlace old m selector placed
fits_where old m placed places = go m.source.selector refl places
  where
    go : (check : Result (List ℕ) Refusal) → m.source.selector ≡ check → PlacesIn old m check (Ok placed) → (selector : List ℕ) × (m.source.selector ≡ Ok selector) × TakesPlace old m selector placed
    go (Ok selector) is places = (selector, is, places)
    go (Err why) is places = absurd places
