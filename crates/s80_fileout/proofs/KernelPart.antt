-- The first part of a condensed list: the classes of the kernel get their comments, and lose the methods that the state lacks.
use Rattle.std.proofs.Common.{◌≡◌, ◌≢◌, ◌⊎◌, inl, inr, ◌∙◌, ℕ, Bool, cond, true, false, not, filter, refl, sym, ap, List, [], ◌∷◌, ◌++◌, map as list_map, Option, Some, None, is_some, true≢false}
use Rattle.std.specs.FinMap as map
use Rattle.s80_base.specs.declared.names.Side.{Side}
use Rattle.s80_base.specs.declared.names.Side.TheVariants.{Instance, Class}
use Rattle.s80_kernel.specs.Rows.{is_kernel_class}
use Rattle.s80_change.specs.declared.change.Change.{Change}
use Rattle.s80_change.specs.declared.change.Change.TheVariants.{Form}
use Rattle.s80_form.specs.declared.form.Form.TheVariants.{Comment, RemoveMethod}
use Rattle.s80_form.specs.declared.refusal.Refusal.TheVariants.{UnknownClass}
use Rattle.s80_class.specs.Classes.{Name, ClassRow, Classes, change_row, with_comment}
use Rattle.s80_class.proofs.lemmas.Changed.{changed_here, changed_elsewhere}
use Rattle.s80_apply.specs.Accept.{accepted}
use Rattle.s80_apply.specs.Kernel.{kernel_classes}
use Rattle.s80_apply.specs.State.{MethodRow, State, kernel_state, take_method}
use Rattle.s80_apply.proofs.LastingKernel.{Stands}
use Rattle.s80_fileout.specs.Condensed.{comment_of, kernel_part, of_kernel_class, removals}
use Rattle.s80_fileout.proofs.Elements.{IsIn, AreApart, filter_apart, filter_passed, filtered_in, in_filtered}
use Rattle.s80_fileout.proofs.Keyed.{by_found, entries_apart, entry_got, got_entry, got_key, key_got, keys_apart, no_value, one_value}
use Rattle.s80_fileout.proofs.Leading.{Leads, Stepped, AllStepped, leads_first, leads_keyed, leads_one, leads_then, leads_weaker}
use Rattle.s80_fileout.proofs.Cells.{Cell, in_cell, removal_accepted, taken_here, taken_elsewhere}
use Rattle.s80_fileout.proofs.KernelCells.{kernel_bare, kernel_class_there, kernel_state_classes, no_kernel_cell, no_kernel_class}

-- ---- methods taken away, one after the other

abbrev removal : Name → Side → List ℕ → Change
removal name side selector = Form (RemoveMethod name side selector)

record AreTaken (name : Name) (side : Side) (selectors : List (List ℕ)) (s t : State) : Type 0 where
  classes : t.classes ≡ s.classes
  gone : (selector : List ℕ) → IsIn selector selectors → in_cell (name, side, selector) t ≡ None
  others : (c : Cell) → ((selector : List ℕ) → IsIn selector selectors → c ≢ (name, side, selector)) → in_cell c t ≡ in_cell c s

gone_first : (name : Name) (side : Side) (k : List ℕ) (ks : List (List ℕ)) (s t : State) → ((y : List ℕ) → IsIn y ks → y ≢ k) → AreTaken name side ks (take_method name side k s) t
    → (selector : List ℕ) → (selector ≡ k) ⊎ IsIn selector ks → in_cell (name, side, selector) t ≡ None
gone_first name side k ks s t apart rest selector (inl same) =
    ap (λ x. in_cell (name, side, x) t) same ∙ rest.others (name, side, k) (λ y at e. apart y at (ap (λ (c : Cell). c.2) (sym e))) ∙ taken_here name side k s
gone_first name side k ks s t apart rest selector (inr more) = rest.gone selector more

leads_taken : (name : Name) (side : Side) (selectors : List (List ℕ)) (s : State) → AreApart (λ k. k) selectors → map.contains_key s.classes name ≡ true
    → ((selector : List ℕ) → IsIn selector selectors → map.contains_key (s.methods name side) selector ≡ true) → Leads s (list_map (removal name side) selectors) (AreTaken name side selectors s)
leads_taken name side [] s apart known there = (tt, record { classes = refl; gone = λ selector at. absurd at; others = λ c out. refl })
leads_taken name side (k ∷ ks) s apart known there =
    let then_taken : State = take_method name side k s in
    leads_first (removal name side k) (list_map (removal name side) ks) s then_taken (AreTaken name side (k ∷ ks) s) (removal_accepted name side k s known (there k (inl refl)))
    (leads_weaker (list_map (removal name side) ks) then_taken (AreTaken name side ks then_taken) (AreTaken name side (k ∷ ks) s)
    (leads_taken name side ks then_taken apart.1 known (λ selector at.
    ap is_some (taken_elsewhere name side k s (name, side, selector) (λ e. apart.0 selector at (ap (λ (c : Cell). c.2) e))) ∙ there selector (inr at)))
    (λ t rest. record {
      classes = rest.classes;
      gone = gone_first name side k ks s t apart.0 rest;
      others = λ c out. rest.others c (λ selector at. out selector (inr at)) ∙ taken_elsewhere name side k s c (out k (inl refl));
    }))

-- ---- what is left of the kernel's

-- the kernel's method, where the state has one
abbrev pub left_cell : State → Cell → Option MethodRow
left_cell final c = cond (is_some (in_cell c final)) (in_cell c kernel_state) None

-- a class with its methods is the same in both
pub record SameAt (q : Name) (s t : State) : Type 0 where
  pub class : map.get t.classes q ≡ map.get s.classes q
  pub methods : (side : Side) (selector : List ℕ) → in_cell (q, side, selector) t ≡ in_cell (q, side, selector) s

pub same_itself : (q : Name) (s : State) → SameAt q s s
same_itself q s = record { class = refl; methods = λ side selector. refl }

pub same_through : (q : Name) (r s t : State) → SameAt q r s → SameAt q s t → SameAt q r t
same_through q r s t first second = record { class = second.class ∙ first.class; methods = λ side selector. second.methods side selector ∙ first.methods side selector }

-- a class of the kernel is as in the state, and has what is left of its methods; other classes aren't there
pub record IsSettled (final : State) (q : Name) (t : State) : Type 0 where
  pub class : map.get t.classes q ≡ cond (is_kernel_class q) (map.get final.classes q) None
  pub methods : (side : Side) (selector : List ℕ) → in_cell (q, side, selector) t ≡ left_cell final (q, side, selector)

settled_yet : (final : State) (q : Name) (s t : State) → SameAt q s t → IsSettled final q s → IsSettled final q t
settled_yet final q s t same settled = record { class = same.class ∙ settled.class; methods = λ side selector. same.methods side selector ∙ settled.methods side selector }

-- ---- one class

pub record IsCommented (name : Name) (row : ClassRow) (s t : State) : Type 0 where
  pub here : map.get t.classes name ≡ Some row
  pub others : (q : Name) → q ≢ name → map.get t.classes q ≡ map.get s.classes q
  pub methods : t.methods ≡ s.methods

pub leads_comment : (name : Name) (row : ClassRow) (text : List ℕ) (s : State) → map.get s.classes name ≡ Some row → row.comment ≡ [] → Leads s (comment_of name text) (IsCommented name (with_comment text row) s)
leads_comment name row [] s is bare = (tt, record { here = is ∙ ap (λ text. Some (with_comment text row)) bare; others = λ q ne. refl; methods = refl })
leads_comment name row (b ∷ bs) s is bare =
    let known : map.contains_key s.classes name ≡ true = ap is_some is in
    let now : State = record s { classes = change_row (with_comment (b ∷ bs)) name s.classes } in
    leads_one (Form (Comment name (b ∷ bs))) s now (IsCommented name (with_comment (b ∷ bs) row) s)
    (λ i. accepted (cond (known i) None (Some (UnknownClass name))) now)
    (record { here = changed_here (with_comment (b ∷ bs)) name s.classes row is; others = λ q ne. changed_elsewhere (with_comment (b ∷ bs)) name s.classes q ne; methods = refl })

record IsRemoved (final : State) (name : Name) (side : Side) (s t : State) : Type 0 where
  classes : t.classes ≡ s.classes
  here : (selector : List ℕ) → in_cell (name, side, selector) t ≡ left_cell final (name, side, selector)
  others : (c : Cell) → ((selector : List ℕ) → c ≢ (name, side, selector)) → in_cell c t ≡ in_cell c s

abbrev lacks : State → Name → Side → List ℕ → Bool
lacks final name side selector = not (map.contains_key (final.methods name side) selector)

-- the kernel's selectors on one side of a class
abbrev selectors_of : Name → Side → List (List ℕ)
selectors_of name side = map.keys (kernel_state.methods name side)

abbrev lost : State → Name → Side → List (List ℕ)
lost final name side = filter (lacks final name side) (selectors_of name side)

leads_removed : (final : State) (name : Name) (side : Side) (s : State) → map.contains_key s.classes name ≡ true → ((selector : List ℕ) → in_cell (name, side, selector) s ≡ in_cell (name, side, selector) kernel_state)
    → Leads s (removals final name side) (IsRemoved final name side s)
leads_removed final name side s known as_kernel =
    leads_weaker (removals final name side) s (AreTaken name side (lost final name side) s) (IsRemoved final name side s)
    (leads_taken name side (lost final name side) s (filter_apart (λ k. k) (lacks final name side) (selectors_of name side) (keys_apart (kernel_state.methods name side))) known
    (λ selector at. let row = key_got (kernel_state.methods name side) selector (filtered_in (lacks final name side) selector (selectors_of name side) at) in ap is_some (as_kernel selector ∙ row.1)))
    (λ t taken. record {
      classes = taken.classes;
      here = λ selector. left t taken selector (is_some (in_cell (name, side, selector) final)) refl;
      others = λ c out. taken.others c (λ selector at. out selector);
    })
  where
    left : (t : State) → AreTaken name side (lost final name side) s t → (selector : List ℕ) (b : Bool) → is_some (in_cell (name, side, selector) final) ≡ b
        → in_cell (name, side, selector) t ≡ cond b (in_cell (name, side, selector) kernel_state) None
    left t taken selector true has =
        taken.others (name, side, selector) (λ k at e.
        true≢false (sym (filter_passed (lacks final name side) k (selectors_of name side) at) ∙ ap (λ x. not (is_some (in_cell (name, side, x) final))) (ap (λ (c : Cell). c.2) (sym e)) ∙ ap not has))
        ∙ as_kernel selector
    left t taken selector false has = by_found (in_cell (name, side, selector) kernel_state)
        (λ none. taken.others (name, side, selector) (λ k at e.
        let row = key_got (kernel_state.methods name side) k (filtered_in (lacks final name side) k (selectors_of name side) at) in
        no_value (in_cell (name, side, selector) kernel_state) row.0 none (ap (λ x. in_cell (name, side, x) kernel_state) (ap (λ (c : Cell). c.2) e) ∙ row.1)) ∙ as_kernel selector ∙ none)
        (λ row is. taken.gone selector (in_filtered (lacks final name side) selector (selectors_of name side) (ap not has) (got_key (kernel_state.methods name side) selector row is)))

-- ---- all classes

none_left : (b : Bool) (o : Option MethodRow) → o ≡ None → None ≡ cond b o None
none_left true o none = sym none
none_left false o none = refl

other_side : Instance ≢ Class
other_side e = true≢false (ap is_instance e)
  where
    is_instance : Side → Bool
    is_instance Instance = true
    is_instance Class = false

module _ (final : State) (stands : Stands final.classes) where
  -- what the kernel's class has in the state
  same_row : (name : Name) (row k : ClassRow) → map.get kernel_classes name ≡ Some k → map.get final.classes name ≡ Some row → with_comment row.comment k ≡ row
  same_row name row k is here =
      let there = stands name k is in
      let same : row ≡ with_comment there.0 k = one_value (map.get final.classes name) row (with_comment there.0 k) here there.1 in
      ap (λ (r : ClassRow). with_comment r.comment k) same ∙ sym same

  abbrev IsDone : Name → State → State → Type 0
  IsDone name s t = IsSettled final name t × ((q : Name) → q ≢ name → SameAt q s t)

  one_class : (name : Name) (row : ClassRow) (s : State) → is_kernel_class name ≡ true → map.get final.classes name ≡ Some row → SameAt name kernel_state s
      → Leads s (of_kernel_class final name row) (IsDone name s)
  one_class name row s own here untouched =
      let k = kernel_class_there name own in
      let before : map.get s.classes name ≡ Some k.0 = untouched.class ∙ ap (λ (c : Classes). map.get c name) kernel_state_classes ∙ k.1 in
      leads_then (comment_of name row.comment) (removals final name Instance ++ removals final name Class) s (IsCommented name (with_comment row.comment k.0) s) (IsDone name s)
      (leads_comment name k.0 row.comment s before (kernel_bare name k.0 k.1)) (λ t commented.
      leads_then (removals final name Instance) (removals final name Class) t (IsRemoved final name Instance t) (IsDone name s)
      (leads_removed final name Instance t (ap is_some commented.here) (λ selector. ap (λ m. map.get (m name Instance) selector) commented.methods ∙ untouched.methods Instance selector)) (λ u first.
      leads_weaker (removals final name Class) u (IsRemoved final name Class u) (IsDone name s)
      (leads_removed final name Class u (ap (λ (c : Classes). map.contains_key c name) first.classes ∙ ap is_some commented.here)
      (λ selector. first.others (name, Class, selector) (λ k e. other_side (ap (λ (c : Cell). c.1) (sym e))) ∙ ap (λ m. map.get (m name Class) selector) commented.methods ∙ untouched.methods Class selector))
      (λ v second. (
        record {
          class =
              ap (λ (c : Classes). map.get c name) (second.classes ∙ first.classes) ∙ commented.here ∙ ap Some (same_row name row k.0 k.1 here) ∙ sym here
              ∙ ap (λ b. cond b (map.get final.classes name) None) (sym own);
          methods = λ side. settled_side t u v first second side;
        },
        λ q ne. record {
          class = ap (λ (c : Classes). map.get c q) (second.classes ∙ first.classes) ∙ commented.others q ne;
          methods = λ side selector.
              second.others (q, side, selector) (λ k e. ne (ap (λ (c : Cell). c.0) e))
              ∙ first.others (q, side, selector) (λ k e. ne (ap (λ (c : Cell). c.0) e)) ∙ ap (λ m. map.get (m q side) selector) commented.methods;
        },
      ))))
    where
      settled_side : (t u v : State) → IsRemoved final name Instance t u → IsRemoved final name Class u v → (side : Side) (selector : List ℕ) → in_cell (name, side, selector) v ≡ left_cell final (name, side, selector)
      settled_side t u v first second Instance selector = second.others (name, Instance, selector) (λ k e. other_side (ap (λ (c : Cell). c.1) e)) ∙ first.here selector
      settled_side t u v first second Class selector = second.here selector

  abbrev Row : Type 0
  Row = Name × ClassRow

  abbrev changes_for : Row → List Change
  changes_for e = cond (is_kernel_class e.0) (of_kernel_class final e.0 e.1) []

  -- what isn't the kernel's, is settled from the beginning
  untouched_settled : (q : Name) (s : State) → is_kernel_class q ≡ false → SameAt q kernel_state s → IsSettled final q s
  untouched_settled q s other same = record {
    class = same.class ∙ ap (λ (c : Classes). map.get c q) kernel_state_classes ∙ no_kernel_class q other ∙ ap (λ b. cond b (map.get final.classes q) None) (sym other);
    methods = λ side selector.
        same.methods side selector ∙ no_kernel_cell (q, side, selector) other ∙ none_left (is_some (in_cell (q, side, selector) final)) (in_cell (q, side, selector) kernel_state) (no_kernel_cell (q, side, selector) other);
  }

  abbrev IsStepped : Row → State → State → Type 0
  IsStepped = Stepped (λ (e : Row). e.0) changes_for SameAt same_itself same_through (λ s. Unit {0}) (λ e s. SameAt e.0 kernel_state s) (λ e s. IsSettled final e.0 s)
      (λ e s t same before. same_through e.0 kernel_state s t before same) (λ e s t same settled. settled_yet final e.0 s t same settled)

  one_entry : (e : Row) → IsIn e (map.entries final.classes) → (s : State) → Unit {0} → SameAt e.0 kernel_state s → Leads s (changes_for e) (IsStepped e s)
  one_entry e at s _ untouched = go (is_kernel_class e.0) refl
    where
      go : (b : Bool) → is_kernel_class e.0 ≡ b → Leads s (cond b (of_kernel_class final e.0 e.1) []) (IsStepped e s)
      go true own =
          leads_weaker (of_kernel_class final e.0 e.1) s (IsDone e.0 s) (IsStepped e s)
          (one_class e.0 e.1 s own (entry_got final.classes e at) untouched) (λ t both. record { keeps = tt; done = both.0; others = both.1 })
      go false other = (tt, record { keeps = tt; done = untouched_settled e.0 s other untouched; others = λ q ne. same_itself q s })

  abbrev AreStepped : State → State → Type 0
  AreStepped = AllStepped (λ (e : Row). e.0) changes_for SameAt same_itself same_through (λ s. Unit {0}) (λ e s. SameAt e.0 kernel_state s) (λ e s. IsSettled final e.0 s)
      (λ e s t same before. same_through e.0 kernel_state s t before same) (λ e s t same settled. settled_yet final e.0 s t same settled) (map.entries final.classes)

  pub leads_kernel_part : Leads kernel_state (kernel_part final) (λ t. (q : Name) → IsSettled final q t)
  leads_kernel_part =
      leads_weaker (kernel_part final) kernel_state (AreStepped kernel_state) (λ t. (q : Name) → IsSettled final q t)
      (leads_keyed (λ (e : Row). e.0) changes_for SameAt same_itself same_through (λ s. Unit {0}) (λ e s. SameAt e.0 kernel_state s) (λ e s. IsSettled final e.0 s)
      (λ e s t same before. same_through e.0 kernel_state s t before same) (λ e s t same settled. settled_yet final e.0 s t same settled)
      (map.entries final.classes) (entries_apart final.classes) one_entry kernel_state tt (λ e at. same_itself e.0 kernel_state))
      (λ t all q. by_found (map.get final.classes q)
      (λ none. untouched_settled q t (not_own q none (is_kernel_class q) refl) (all.others q (λ e at same. no_value (map.get final.classes q) e.1 none (ap (map.get final.classes) same ∙ entry_got final.classes e at))))
      (λ row is. all.done (q, row) (got_entry final.classes q row is)))
    where
      not_own : (q : Name) → map.get final.classes q ≡ None → (b : Bool) → is_kernel_class q ≡ b → is_kernel_class q ≡ false
      not_own q none false is = is
      not_own q none true is =
          let k = kernel_class_there q is in
          let there = stands q k.0 k.1 in
          no_value (map.get final.classes q) (with_comment there.0 k.0) none there.1
