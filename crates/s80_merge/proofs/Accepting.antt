-- What is accepted is taken; and what is taken is accepted within the limits.
use Rattle.std.proofs.Common.{◌≡◌, ◌∙◌, ℕ, Bool, cond, true, false, not, nat_le, find, refl, sym, ap, subst, List, [], ◌∷◌, length, Option, Some, None, Result, Ok, Err, option_map}
use Rattle.std.specs.Prelude.{⊤}
use Rattle.std.specs.FinMap as map
use Rattle.s80_base.specs.declared.names.Side.{Side}
use Rattle.s80_change.specs.declared.change.Change.{Change}
use Rattle.s80_change.specs.declared.change.Change.TheVariants as change
use Rattle.s80_change.specs.declared.change.Method.{Method}
use Rattle.s80_form.specs.Name.{is_name}
use Rattle.s80_form.specs.declared.definition.Definition.{Definition}
use Rattle.s80_form.specs.declared.form.Form.{Form}
use Rattle.s80_form.specs.declared.form.Form.TheVariants.{Define, ClassVars, Comment, RemoveMethod, Classify, RemoveClass, NoChanges}
use Rattle.s80_form.specs.declared.refusal.ManyKind.{ManyKind}
use Rattle.s80_form.specs.declared.refusal.ManyKind.TheVariants.{Classes as ManyClasses, InstanceVariables, ClassVariables, ClassSideVariables, Pools, BitsVariables}
use Rattle.s80_form.specs.declared.refusal.Refusal.{Refusal}
use Rattle.s80_form.specs.declared.refusal.Refusal.TheVariants.{UnknownClass, HasSubclasses, Cycle, Duplicate, BadName, NoSelector, TooMany}
use Rattle.s80_class.specs.Classes.{Name, Classes, IsValid, change_row, extent_of, is_under, with_class_side_vars, with_comment}
use Rattle.s80_class.proofs.lemmas.Lines.{lineage_line, passes}
use Rattle.s80_class.proofs.lemmas.Most.{some_row}
use Rattle.s80_class.proofs.lemmas.Subclasses.{has_none, is_alone}
use Rattle.s80_apply.specs.Accept.{above, accept, accept_checked, accept_form, accepted, bad_name, classify, cycle, define, duplicate, first_again, first_some, has_subclasses, kernel_class, kernel_name, keeping_rows, no_method, no_selector, put_source, refusal_of, refusal_of_class_vars, refusal_of_removal, too_many, too_many_methods, unknown_class, unknown_name}
use Rattle.s80_apply.specs.List.{IsAccepted}
use Rattle.s80_apply.specs.State.{State, take_class, take_method}
use Rattle.s80_apply.proofs.Defined.{head_row}
use Rattle.s80_apply.proofs.Passing.{known_name, method_there, none_first, removal_accepted}
use Rattle.s80_apply.proofs.Refusing.{accepted_where}
use Rattle.s80_apply.proofs.Sound.{not_unknown}
use Rattle.s80_merge.specs.Merging.{IsLimit, IsWithinLimits}
use Rattle.s80_merge.proofs.Acts.{effect, form_effect, method_effect}
use Rattle.s80_merge.proofs.Takes.{HasLine, Takes, TakesDefinition, TakesForm, TakesMethod, TakesRemoval, TakesVars}

-- ---- accepted, and so taken

pub accepted_ok : {T : Type 0} (o : Option Refusal) (value now : T) → accepted o value ≡ Ok now → (o ≡ None) × (value ≡ now)
accepted_ok None value now is = (refl, cc)
accepted_ok (Some refusal) value now is = absurd (cc)

line_accepted : (d : Definition) (classes : Classes) → IsValid classes → refusal_of d classes ≡ None → HasLine d classes
line_accepted d classes valid none =
    let ok = accepted_where d classes none in
    let row = some_row classes d.superclass ok.known in
    let line = valid d.superclass row.0 row.1 in
    record { line = line.0; is_line = line.1; apart = sym (ap (passes d.class_name) (lineage_line classes d.superclass line.0 line.1)) ∙ ok.acyclic }

definition_accepted : (d : Definition) (classes : Classes) → IsValid classes → refusal_of d classes ≡ None → TakesDefinition d classes
definition_accepted d classes valid none =
    let a = none_first (bad_name d) (unknown_class d classes ∷ kernel_class d ∷ cycle d classes ∷ duplicate d ∷ too_many d classes ∷ []) none in
    let b = none_first (unknown_class d classes) (kernel_class d ∷ cycle d classes ∷ duplicate d ∷ too_many d classes ∷ []) a.1 in
    let c = none_first (kernel_class d) (cycle d classes ∷ duplicate d ∷ too_many d classes ∷ []) b.1 in
    let e = none_first (cycle d classes) (duplicate d ∷ too_many d classes ∷ []) c.1 in
    let f = none_first (duplicate d) (too_many d classes ∷ []) e.1 in
    record { named = a.0; own = c.0; once = f.0; above = line_accepted d classes valid none }

vars_accepted : (name : Name) (names : List Name) (classes : Classes) → refusal_of_class_vars name names classes ≡ None → TakesVars name names classes
vars_accepted name names classes none =
    let bad = option_map BadName (find (λ word. not (is_name word)) names) in
    let again = option_map Duplicate (first_again [] names) in
    let many = above 64 ClassSideVariables (extent_of (change_row (with_class_side_vars names) name classes) name).class_side_vars in
    let a = none_first bad (unknown_name name classes ∷ kernel_name name ∷ again ∷ many ∷ []) none in
    let b = none_first (unknown_name name classes) (kernel_name name ∷ again ∷ many ∷ []) a.1 in
    let c = none_first (kernel_name name) (again ∷ many ∷ []) b.1 in
    let d = none_first again (many ∷ []) c.1 in
    record { named = a.0; there = known_name name classes b.0; own = c.0; once = d.0 }

removal_taken : (name : Name) (classes : Classes) → refusal_of_removal name classes ≡ None → TakesRemoval name classes
removal_taken name classes none =
    let a = none_first (unknown_name name classes) (kernel_name name ∷ has_subclasses name classes ∷ []) none in
    let b = none_first (kernel_name name) (has_subclasses name classes ∷ []) a.1 in
    record { there = known_name name classes a.0; own = b.0; alone = is_alone classes name (removal_accepted name classes none).alone }

method_taken : (name : Name) (side : Side) (selector : List ℕ) (state : State) → no_method name side selector state ≡ None → TakesMethod name side selector state
method_taken name side selector state none = let is = method_there name side selector state none in record { there = is.known; found = is.there }

form_taken : (form : Form) (state now : State) → IsValid state.classes → accept_form keeping_rows form state ≡ Ok now → TakesForm form state × (form_effect form state ≡ now)
form_taken (Define d) state now valid is =
    let ok = accepted_ok (refusal_of d state.classes) (record state { classes = define d state.classes }) now is in
    (definition_accepted d state.classes valid ok.0, ok.1)
form_taken (ClassVars name names) state now valid is =
    let ok = accepted_ok (refusal_of_class_vars name names state.classes) (record state { classes = change_row (with_class_side_vars names) name state.classes }) now is in
    (vars_accepted name names state.classes ok.0, ok.1)
form_taken (Comment name text) state now valid is =
    let ok = accepted_ok (unknown_name name state.classes) (record state { classes = change_row (with_comment text) name state.classes }) now is in
    (known_name name state.classes ok.0, ok.1)
form_taken (RemoveMethod name side selector) state now valid is =
    let ok = accepted_ok (no_method name side selector state) (take_method name side selector state) now is in
    (method_taken name side selector state ok.0, ok.1)
form_taken (Classify name side selector category) state now valid is =
    let ok = accepted_ok (no_method name side selector state) (classify keeping_rows name side selector category state) now is in
    (method_taken name side selector state ok.0, ok.1)
form_taken (RemoveClass name) state now valid is =
    let ok = accepted_ok (refusal_of_removal name state.classes) (take_class name state) now is in
    (removal_taken name state.classes ok.0, ok.1)
form_taken NoChanges state now valid is = (tt, cc)

checked_taken : (m : Method) (check : Result (List ℕ) Refusal) (state now : State) → accept_checked keeping_rows m check state ≡ Ok now
    → ((selector : List ℕ) × (check ≡ Ok selector)) × (map.contains_key state.classes m.class_name ≡ true) × (method_effect m check state ≡ now)
checked_taken m (Err refusal) state now is = absurd (cc)
checked_taken m (Ok selector) state now is =
    let ok = accepted_ok (first_some (unknown_name m.class_name state.classes ∷ too_many_methods m selector state ∷ [])) (put_source keeping_rows m selector state) now is in
    let a = none_first (unknown_name m.class_name state.classes) (too_many_methods m selector state ∷ []) ok.0 in
    ((selector, refl), known_name m.class_name state.classes a.0, ok.1)

pub taken : (c : Change) (state now : State) → IsValid state.classes → accept c state ≡ Ok now → Takes c state × (effect c state ≡ now)
taken (change.Form form) state now valid is = form_taken form state now valid is
taken (change.Method m) state now valid is = let ok = checked_taken m m.source.selector state now is in ((ok.0, ok.1), ok.2)
taken (change.DoIt text) state now valid is = (tt, cc)

-- ---- taken, and so accepted within the limits

-- there is no other reason than a limit
abbrev OnlyLimits : Option Refusal → Type 0
OnlyLimits None = ⊤
OnlyLimits (Some refusal) = IsLimit refusal

-- it is accepted and makes this state, or refused for a limit
abbrev pub Answers : State → Result State Refusal → Type 0
Answers now (Ok state) = state ≡ now
Answers now (Err refusal) = IsLimit refusal

answered : (o : Option Refusal) (now : State) → OnlyLimits o → Answers now (accepted o now)
answered None now only = refl
answered (Some refusal) now only = only

limit : (most : ℕ) (kind : ManyKind) (count : ℕ) → OnlyLimits (above most kind count)
limit most kind count = go (nat_le count most)
  where
    go : (b : Bool) → OnlyLimits (cond b None (Some (TooMany kind count)))
    go true = tt
    go false = tt

limit_first : (o : Option Refusal) (os : List (Option Refusal)) → OnlyLimits o → OnlyLimits (first_some os) → OnlyLimits (first_some (o ∷ os))
limit_first None os one others = others
limit_first (Some refusal) os one others = one

passed_first : (o : Option Refusal) (os : List (Option Refusal)) → o ≡ None → OnlyLimits (first_some os) → OnlyLimits (first_some (o ∷ os))
passed_first None os is others = others
passed_first (Some refusal) os is others = absurd (let bad : Some refusal ≡ None = is in cc)

known : (name : Name) (classes : Classes) → map.contains_key classes name ≡ true → unknown_name name classes ≡ None
known name classes there = ap (λ b. cond b None (Some (UnknownClass name))) there

many_limits : (d : Definition) (classes : Classes) → OnlyLimits (too_many d classes)
many_limits d classes =
    let E = extent_of (define d classes) d.class_name in
    let bits = above 0 BitsVariables E.bits_variables in
    let pools = above 256 Pools (length d.pools) in
    let side = above 64 ClassSideVariables E.class_side_vars in
    let vars = above 256 ClassVariables (length d.class_vars) in
    let inst = above 64 InstanceVariables E.inst_vars in
    let many = above 65536 ManyClasses (map.len (define d classes)) in
    limit_first many (inst ∷ vars ∷ side ∷ pools ∷ bits ∷ []) (limit 65536 ManyClasses (map.len (define d classes)))
    (limit_first inst (vars ∷ side ∷ pools ∷ bits ∷ []) (limit 64 InstanceVariables E.inst_vars)
    (limit_first vars (side ∷ pools ∷ bits ∷ []) (limit 256 ClassVariables (length d.class_vars))
    (limit_first side (pools ∷ bits ∷ []) (limit 64 ClassSideVariables E.class_side_vars)
    (limit_first pools (bits ∷ []) (limit 256 Pools (length d.pools)) (limit_first bits [] (limit 0 BitsVariables E.bits_variables) tt)))))

definition_limits : (d : Definition) (classes : Classes) → TakesDefinition d classes → OnlyLimits (refusal_of d classes)
definition_limits d classes takes =
    let row = head_row classes d.superclass takes.above.line takes.above.is_line in
    let acyclic : is_under classes d.superclass d.class_name ≡ false = ap (passes d.class_name) (lineage_line classes d.superclass takes.above.line takes.above.is_line) ∙ takes.above.apart in
    let no_cycle : cycle d classes ≡ None = ap (λ b. cond b (Some (Cycle d.class_name)) None) acyclic in
    passed_first (bad_name d) (unknown_class d classes ∷ kernel_class d ∷ cycle d classes ∷ duplicate d ∷ too_many d classes ∷ []) takes.named
    (passed_first (unknown_class d classes) (kernel_class d ∷ cycle d classes ∷ duplicate d ∷ too_many d classes ∷ []) (not_unknown classes d.superclass row.0 row.1)
    (passed_first (kernel_class d) (cycle d classes ∷ duplicate d ∷ too_many d classes ∷ []) takes.own
    (passed_first (cycle d classes) (duplicate d ∷ too_many d classes ∷ []) no_cycle
    (passed_first (duplicate d) (too_many d classes ∷ []) takes.once (limit_first (too_many d classes) [] (many_limits d classes) tt)))))

vars_limits : (name : Name) (names : List Name) (classes : Classes) → TakesVars name names classes → OnlyLimits (refusal_of_class_vars name names classes)
vars_limits name names classes takes =
    let bad = option_map BadName (find (λ word. not (is_name word)) names) in
    let again = option_map Duplicate (first_again [] names) in
    let count = (extent_of (change_row (with_class_side_vars names) name classes) name).class_side_vars in
    let many = above 64 ClassSideVariables count in
    passed_first bad (unknown_name name classes ∷ kernel_name name ∷ again ∷ many ∷ []) takes.named
    (passed_first (unknown_name name classes) (kernel_name name ∷ again ∷ many ∷ []) (known name classes takes.there)
    (passed_first (kernel_name name) (again ∷ many ∷ []) takes.own (passed_first again (many ∷ []) takes.once (limit_first many [] (limit 64 ClassSideVariables count) tt))))

removal_limits : (name : Name) (classes : Classes) → TakesRemoval name classes → OnlyLimits (refusal_of_removal name classes)
removal_limits name classes takes =
    let alone : has_subclasses name classes ≡ None = ap (λ b. cond b (Some (HasSubclasses name)) None) (has_none classes name takes.alone) in
    passed_first (unknown_name name classes) (kernel_name name ∷ has_subclasses name classes ∷ []) (known name classes takes.there)
    (passed_first (kernel_name name) (has_subclasses name classes ∷ []) takes.own (passed_first (has_subclasses name classes) [] alone tt))

method_limits : (name : Name) (side : Side) (selector : List ℕ) (state : State) → TakesMethod name side selector state → OnlyLimits (no_method name side selector state)
method_limits name side selector state takes =
    let found : no_selector name side selector state ≡ None = ap (λ b. cond b None (Some (NoSelector name side selector))) takes.found in
    passed_first (unknown_name name state.classes) (no_selector name side selector state ∷ []) (known name state.classes takes.there) (passed_first (no_selector name side selector state) [] found tt)

form_answers : (form : Form) (state : State) → TakesForm form state → Answers (form_effect form state) (accept_form keeping_rows form state)
form_answers (Define d) state takes = answered (refusal_of d state.classes) (record state { classes = define d state.classes }) (definition_limits d state.classes takes)
form_answers (ClassVars name names) state takes =
    answered (refusal_of_class_vars name names state.classes) (record state { classes = change_row (with_class_side_vars names) name state.classes }) (vars_limits name names state.classes takes)
form_answers (Comment name text) state takes =
    answered (unknown_name name state.classes) (record state { classes = change_row (with_comment text) name state.classes }) (subst OnlyLimits (sym (known name state.classes takes)) tt)
form_answers (RemoveMethod name side selector) state takes = answered (no_method name side selector state) (take_method name side selector state) (method_limits name side selector state takes)
form_answers (Classify name side selector category) state takes =
    answered (no_method name side selector state) (classify keeping_rows name side selector category state) (method_limits name side selector state takes)
form_answers (RemoveClass name) state takes = answered (refusal_of_removal name state.classes) (take_class name state) (removal_limits name state.classes takes)
form_answers NoChanges state takes = refl

checked_answers : (m : Method) (check : Result (List ℕ) Refusal) (state : State) → (selector : List ℕ) × (check ≡ Ok selector) → map.contains_key state.classes m.class_name ≡ true
    → Answers (method_effect m check state) (accept_checked keeping_rows m check state)
checked_answers m (Err refusal) state (selector, is) there = absurd (cc)
checked_answers m (Ok selector) state so there =
    answered (first_some (unknown_name m.class_name state.classes ∷ too_many_methods m selector state ∷ [])) (put_source keeping_rows m selector state)
    (passed_first (unknown_name m.class_name state.classes) (too_many_methods m selector state ∷ []) (known m.class_name state.classes there) (limit_first (too_many_methods m selector state) [] (limit 16384 _ _) tt))

answers : (c : Change) (state : State) → Takes c state → Answers (effect c state) (accept c state)
answers (change.Form form) state takes = form_answers form state takes
answers (change.Method m) state takes = checked_answers m m.source.selector state takes.0 takes.1
answers (change.DoIt text) state takes = refl

within_ok : (now : State) (answer : Result State Refusal) → Answers now answer → IsWithinLimits answer → answer ≡ Ok now
within_ok now (Ok state) is limits = ap (λ s. Ok s) is
within_ok now (Err refusal) only limits = absurd (limits only)

pub within : (c : Change) (state : State) → Takes c state → IsWithinLimits (accept c state) → accept c state ≡ Ok (effect c state)
within c state takes limits = within_ok (effect c state) (accept c state) (answers c state takes) limits

-- and refused for a limit alone
pub refused_for : (c : Change) (state : State) (refusal : Refusal) → Takes c state → accept c state ≡ Err refusal → IsLimit refusal
refused_for c state refusal takes is = subst (Answers (effect c state)) is (answers c state takes)

pub accepted_within : (answer : Result State Refusal) → IsAccepted answer → IsWithinLimits answer
accepted_within (Ok state) is = tt
accepted_within (Err refusal) is = absurd is
