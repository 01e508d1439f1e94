-- What a check tells where it doesn't refuse.
use Rattle.std.proofs.Common.{◌≡◌, ◌≤◌, ℕ, Bool, cond, true, false, not, nat_le, refl, List, [], ◌∷◌, Option, Some, None, find, option_map, arith}
use Rattle.std.specs.FinMap as map
use Rattle.std.proofs.lemmas.Bool.Decides.{nat_tests}
use Rattle.std.proofs.lemmas.List.Elements.{All-nil, All-cons}
use Rattle.s80_base.specs.declared.names.Side.{Side}
use Rattle.s80_kernel.specs.Rows.{is_kernel_class}
use Rattle.s80_form.specs.declared.refusal.Refusal.TheVariants.{UnknownClass, KernelClass, HasSubclasses, BadName, Duplicate, NoSelector, TooMany}
use Rattle.s80_form.specs.declared.refusal.ManyKind.{ManyKind}
use Rattle.s80_form.specs.declared.refusal.ManyKind.TheVariants.{ClassSideVariables}
use Rattle.s80_form.specs.Name.{IsName, AreNames, is_name}
use Rattle.s80_class.specs.Classes.{Name, Classes, change_row, extent_of, has_subclass, with_class_side_vars}
use Rattle.s80_apply.specs.State.{StateOf}
use Rattle.s80_apply.specs.Accept.{above, first_again, first_some, has_subclasses, kernel_name, no_method, no_selector, refusal_of_class_vars, refusal_of_removal, unknown_name}

-- ---- one check

pub none_first : {T : Type 0} (o : Option T) (os : List (Option T)) → first_some (o ∷ os) ≡ None → (o ≡ None) × (first_some os ≡ None)
none_first None os h = (refl, h)
none_first (Some x) os h = absurd (let bad : Some x ≡ None = h in cc)

pub known_name : (name : Name) (classes : Classes) → unknown_name name classes ≡ None → map.contains_key classes name ≡ true
known_name name classes h = go (map.contains_key classes name) refl h
  where
    go : (b : Bool) → map.contains_key classes name ≡ b → cond b None (Some (UnknownClass name)) ≡ None → map.contains_key classes name ≡ true
    go true is _ = is
    go false is bad = absurd (cc)

pub apart_name : (name : Name) → kernel_name name ≡ None → is_kernel_class name ≡ false
apart_name name h = go (is_kernel_class name) refl h
  where
    go : (b : Bool) → is_kernel_class name ≡ b → cond b (Some (KernelClass name)) None ≡ None → is_kernel_class name ≡ false
    go false is _ = is
    go true is bad = absurd (cc)

pub few_enough : (limit : ℕ) (kind : ManyKind) (n : ℕ) → above limit kind n ≡ None → n ≤ limit
few_enough limit kind n h = go (nat_le n limit) refl h
  where
    go : (b : Bool) → nat_le n limit ≡ b → cond b None (Some (TooMany kind n)) ≡ None → n ≤ limit
    go true is _ = grind (arith, nat_tests)
    go false is bad = absurd (cc)

alone_name : (name : Name) (classes : Classes) → has_subclasses name classes ≡ None → has_subclass classes name ≡ false
alone_name name classes h = go (has_subclass classes name) refl h
  where
    go : (b : Bool) → has_subclass classes name ≡ b → cond b (Some (HasSubclasses name)) None ≡ None → has_subclass classes name ≡ false
    go false is _ = is
    go true is bad = absurd (cc)

there_selector : {M : Type 0} (name : Name) (side : Side) (selector : List ℕ) (state : StateOf M) → no_selector name side selector state ≡ None → map.contains_key (state.methods name side) selector ≡ true
there_selector name side selector state h = go (map.contains_key (state.methods name side) selector) refl h
  where
    go : (b : Bool) → map.contains_key (state.methods name side) selector ≡ b → cond b None (Some (NoSelector name side selector)) ≡ None → map.contains_key (state.methods name side) selector ≡ true
    go true is _ = is
    go false is bad = absurd (cc)

-- none of the names fails the test
pub none_bad : (names : List Name) → find (λ name. not (is_name name)) names ≡ None → AreNames names
none_bad [] h = All-nil IsName
none_bad (name ∷ names) h =
    elim (is_name name) as (λ b. is_name name ≡ b → cond (not b) (Some name) (find (λ name. not (is_name name)) names) ≡ None → AreNames (name ∷ names)) [
      | true ↦ λ is rest. All-cons IsName name names is (none_bad names rest)
      | false ↦ λ is bad. absurd (cc)
    ] refl h

pub names_good : (names : List Name) → option_map BadName (find (λ name. not (is_name name)) names) ≡ None → AreNames names
names_good names h = go (find (λ name. not (is_name name)) names) refl h
  where
    go : (o : Option Name) → find (λ name. not (is_name name)) names ≡ o → option_map BadName o ≡ None → AreNames names
    go None is _ = none_bad names is
    go (Some name) is bad = absurd (cc)

-- ---- the checks of a form

-- class-side variables
pub record AreVarsAccepted (name : Name) (names : List Name) (classes : Classes) : Type 0 where
  pub named : AreNames names
  pub known : map.contains_key classes name ≡ true
  pub apart : is_kernel_class name ≡ false
  pub few : (extent_of (change_row (with_class_side_vars names) name classes) name).class_side_vars ≤ 64

pub vars_accepted : (name : Name) (names : List Name) (classes : Classes) → refusal_of_class_vars name names classes ≡ None → AreVarsAccepted name names classes
vars_accepted name names classes h =
    let bad = option_map BadName (find (λ word. not (is_name word)) names) in
    let again = option_map Duplicate (first_again [] names) in
    let count = (extent_of (change_row (with_class_side_vars names) name classes) name).class_side_vars in
    let many = above 64 ClassSideVariables count in
    let a = none_first bad (unknown_name name classes ∷ kernel_name name ∷ again ∷ many ∷ []) h in
    let b = none_first (unknown_name name classes) (kernel_name name ∷ again ∷ many ∷ []) a.1 in
    let c = none_first (kernel_name name) (again ∷ many ∷ []) b.1 in
    let d = none_first again (many ∷ []) c.1 in
    let e = none_first many [] d.1 in
    record {
      named = names_good names a.0;
      known = known_name name classes b.0;
      apart = apart_name name c.0;
      few = few_enough 64 ClassSideVariables count e.0;
    }

-- the removal of a class
pub record IsRemovalAccepted (name : Name) (classes : Classes) : Type 0 where
  pub known : map.contains_key classes name ≡ true
  pub apart : is_kernel_class name ≡ false
  pub alone : has_subclass classes name ≡ false

pub removal_accepted : (name : Name) (classes : Classes) → refusal_of_removal name classes ≡ None → IsRemovalAccepted name classes
removal_accepted name classes h =
    let a = none_first (unknown_name name classes) (kernel_name name ∷ has_subclasses name classes ∷ []) h in
    let b = none_first (kernel_name name) (has_subclasses name classes ∷ []) a.1 in
    let c = none_first (has_subclasses name classes) [] b.1 in
    record { known = known_name name classes a.0; apart = apart_name name b.0; alone = alone_name name classes c.0 }

-- a method that is there
pub record IsMethodThere {M : Type 0} (name : Name) (side : Side) (selector : List ℕ) (state : StateOf M) : Type 0 where
  pub known : map.contains_key state.classes name ≡ true
  pub there : map.contains_key (state.methods name side) selector ≡ true

pub method_there : {M : Type 0} (name : Name) (side : Side) (selector : List ℕ) (state : StateOf M) → no_method name side selector state ≡ None → IsMethodThere name side selector state
method_there name side selector state h =
    let a = none_first (unknown_name name state.classes) (no_selector name side selector state ∷ []) h in
    let b = none_first (no_selector name side selector state) [] a.1 in
    record { known = known_name name state.classes a.0; there = there_selector name side selector state b.0 }
