-- The methods of a state, each by its class, its side and its selector.
use Rattle.std.proofs.Common.{◌≡◌, ◌≢◌, ◌∙◌, ◌&&◌, ◌≤◌, ℕ, Bool, cond, true, false, nat_le, refl, sym, ap, List, [], ◌∷◌, Option, Some, None, Ok, true≢false, is_some, option_map, unwrap_or, arith}
use Rattle.std.specs.Str.{bytes_eq}
use Rattle.std.specs.Cmp.Lexicographic.{bytes_decides}
use Rattle.std.specs.FinMap as map
use Rattle.std.proofs.lemmas.Bool.{and_parts}
use Rattle.std.proofs.lemmas.Bool.Decides.{nat_tests}
use Rattle.s80_base.specs.declared.names.Side.{Side}
use Rattle.s80_base.specs.declared.names.Side.TheVariants.{Instance, Class}
use Rattle.s80_dict.specs.Table.{same_side}
use Rattle.s80_change.specs.declared.change.Change.TheVariants as changes
use Rattle.s80_change.specs.declared.change.Method.{Method}
use Rattle.s80_form.specs.declared.form.Form.TheVariants.{RemoveMethod, Classify}
use Rattle.s80_form.specs.declared.refusal.Refusal.TheVariants.{UnknownClass, NoSelector, TooMany}
use Rattle.s80_form.specs.declared.refusal.ManyKind.{ManyKind}
use Rattle.s80_form.specs.declared.refusal.ManyKind.TheVariants.{Methods as ManyMethods}
use Rattle.s80_class.specs.Classes.{Name}
use Rattle.s80_apply.specs.State.{MethodRow, State, put_method, take_method}
use Rattle.s80_apply.specs.Accept.{accept, accept_checked, accepted, above, classify, first_some, keeping_rows, len_with, put_source}
use Rattle.s80_fileout.proofs.Keyed.{same_bytes, get_put_here, get_put_other, get_taken_here, get_taken_other}

-- a class, a side and a selector
abbrev pub Cell : Type 0
Cell = Name × Side × List ℕ

abbrev pub in_cell : Cell → State → Option MethodRow
in_cell c state = map.get (state.methods c.0 c.1) c.2

-- ---- places

pub side_itself : (s : Side) → same_side s s ≡ true
side_itself Instance = refl
side_itself Class = refl

pub side_same : (s t : Side) → same_side s t ≡ true → s ≡ t
side_same Instance Instance e = refl
side_same Instance Class e = absurd (true≢false (sym e))
side_same Class Instance e = absurd (true≢false (sym e))
side_same Class Class e = refl

abbrev pub is_place : Name → Side → Name → Side → Bool
is_place name side n s = bytes_eq n name && same_side s side

pub place_itself : (name : Name) (side : Side) → is_place name side name side ≡ true
place_itself name side = λ i. same_bytes name i && side_itself side i

pub place_same : (name n : Name) (side s : Side) → is_place name side n s ≡ true → (n ≡ name) × (s ≡ side)
place_same name n side s e = let parts = and_parts (bytes_eq n name) (same_side s side) e in ((bytes_decides n name).0 parts.0, side_same s side parts.1)

pub place_other : (name n : Name) (side s : Side) → (n ≡ name → s ≡ side → ⊥) → is_place name side n s ≡ false
place_other name n side s other = go (is_place name side n s) refl
  where
    go : (b : Bool) → is_place name side n s ≡ b → is_place name side n s ≡ false
    go true is = let same = place_same name n side s is in absurd (other same.0 same.1)
    go false is = is

-- ---- one method put, and one taken away

module _ (name : Name) (side : Side) (selector : List ℕ) (state : State) where
  pub put_here : (row : MethodRow) → in_cell (name, side, selector) (put_method name side selector row state) ≡ Some row
  put_here row =
      ap (λ b. map.get (cond b (map.insert (state.methods name side) selector row) (state.methods name side)) selector) (place_itself name side)
      ∙ get_put_here (state.methods name side) selector row

  pub put_elsewhere : (row : MethodRow) (c : Cell) → c ≢ (name, side, selector) → in_cell c (put_method name side selector row state) ≡ in_cell c state
  put_elsewhere row c ne = go (is_place name side c.0 c.1) refl
    where
      go : (b : Bool) → is_place name side c.0 c.1 ≡ b → map.get (cond b (map.insert (state.methods c.0 c.1) selector row) (state.methods c.0 c.1)) c.2 ≡ in_cell c state
      go true is = let same = place_same name c.0 side c.1 is in get_put_other (state.methods c.0 c.1) selector row c.2 (λ e. ne (λ i. (same.0 i, same.1 i, e i)))
      go false is = refl

  pub taken_here : in_cell (name, side, selector) (take_method name side selector state) ≡ None
  taken_here =
      ap (λ b. map.get (cond b (map.remove (state.methods name side) selector) (state.methods name side)) selector) (place_itself name side)
      ∙ get_taken_here (state.methods name side) selector

  pub taken_elsewhere : (c : Cell) → c ≢ (name, side, selector) → in_cell c (take_method name side selector state) ≡ in_cell c state
  taken_elsewhere c ne = go (is_place name side c.0 c.1) refl
    where
      go : (b : Bool) → is_place name side c.0 c.1 ≡ b → map.get (cond b (map.remove (state.methods c.0 c.1) selector) (state.methods c.0 c.1)) c.2 ≡ in_cell c state
      go true is = let same = place_same name c.0 side c.1 is in get_taken_other (state.methods c.0 c.1) selector c.2 (λ e. ne (λ i. (same.0 i, same.1 i, e i)))
      go false is = refl

  -- ---- that it is accepted

  pub removal_accepted : map.contains_key state.classes name ≡ true → map.contains_key (state.methods name side) selector ≡ true
      → accept (changes.Form (RemoveMethod name side selector)) state ≡ Ok (take_method name side selector state)
  removal_accepted known there =
      λ i. accepted (first_some (cond (known i) None (Some (UnknownClass name)) ∷ cond (there i) None (Some (NoSelector name side selector)) ∷ [])) (take_method name side selector state)

  pub classify_accepted : (category : List ℕ) (row : MethodRow) → map.contains_key state.classes name ≡ true → in_cell (name, side, selector) state ≡ Some row
      → accept (changes.Form (Classify name side selector category)) state ≡ Ok (put_method name side selector (record row { category = category }) state)
  classify_accepted category row known there =
      (λ i. accepted (first_some (cond (known i) None (Some (UnknownClass name)) ∷ cond (is_some (there i)) None (Some (NoSelector name side selector)) ∷ [])) (classify keeping_rows name side selector category state))
      ∙ ap (λ o. Ok (unwrap_or (option_map (λ (row : MethodRow). put_method name side selector (record row { category = category }) state) o) state)) there

pub few_above : (limit : ℕ) (kind : ManyKind) (n : ℕ) → n ≤ limit → above limit kind n ≡ None
few_above limit kind n le = ap (λ b. cond b None (Some (TooMany kind n))) (told n limit le)
  where
    told : (n most : ℕ) → n ≤ most → nat_le n most ≡ true
    told n most h = grind (arith, nat_tests)

pub method_accepted : (m : Method) (selector : List ℕ) (state : State) → m.source.selector ≡ Ok selector → map.contains_key state.classes m.class_name ≡ true
    → len_with selector (state.methods m.class_name m.side) ≤ 16384
    → accept (changes.Method m) state ≡ Ok (put_method m.class_name m.side selector (record { category = m.category; source = m.source.text }) state)
method_accepted m selector state is known few =
    ap (λ r. accept_checked keeping_rows m r state) is
    ∙ (λ i. accepted (first_some (cond (known i) None (Some (UnknownClass m.class_name)) ∷ few_above 16384 ManyMethods (len_with selector (state.methods m.class_name m.side)) few i ∷ [])) (put_source keeping_rows m selector state))
