-- In the state of a list no side of a class has too many methods, and a name that no class has, has none.
use Rattle.std.proofs.Common.{◌≡◌, ◌∙◌, ◌≤◌, ◌+◌, ◌-◌, Bool, cond, true, false, refl, sym, ap, subst, List, Some, None, is_some, arith}
use Rattle.std.specs.Str.{bytes_eq}
use Rattle.std.specs.Ordering.{nat_cmp}
use Rattle.std.specs.Cmp.Lexicographic.{slice_cmp, nat_list_cmp_total}
use Rattle.std.specs.FinMap as map
use Rattle.s80_base.specs.declared.names.Side.{Side}
use Rattle.s80_dict.specs.Dict.{Methods}
use Rattle.s80_change.specs.declared.change.Change.{Change}
use Rattle.s80_form.specs.declared.refusal.ManyKind.TheVariants.{Methods as ManyMethods}
use Rattle.s80_class.specs.Classes.{Name, ClassRow, Classes, change_row, with_class_side_vars, with_comment}
use Rattle.s80_class.proofs.lemmas.Changed.{changed_here, changed_elsewhere}
use Rattle.s80_apply.specs.Accept.{len_with, row_of}
use Rattle.s80_apply.specs.List.{state_of}
use Rattle.s80_apply.specs.State.{MethodRow, State, kernel_state, put_method, take_class, take_method}
use Rattle.s80_apply.proofs.Passing.{few_enough}
use Rattle.s80_kernel.specs.Rows.{is_kernel_class}
use Rattle.s80_fileout.proofs.Keyed.{by_bytes, by_found, contained, get_put_here, get_put_other, get_taken, no_value}
use Rattle.s80_fileout.proofs.Cells.{Cell, in_cell, is_place, place_same, put_elsewhere}
use Rattle.s80_fileout.proofs.KernelCells.{kernel_class_there, kernel_few, kernel_state_classes, no_kernel_cell}
use Rattle.s80_fileout.proofs.Accepting.{Cases, each_kept}

pub record AreHeld (s : State) : Type 0 where
  pub few : (name : Name) (side : Side) → map.len (s.methods name side) ≤ 16384
  pub others : (c : Cell) → map.get s.classes c.0 ≡ None → in_cell c s ≡ None

-- ---- classes that aren't there

changed_none : (change : ClassRow → ClassRow) (name : Name) (classes : Classes) (q : Name) → map.get (change_row change name classes) q ≡ None → map.get classes q ≡ None
changed_none change name classes q none = by_bytes q name
    (λ same. by_found (map.get classes name) (λ absent. ap (map.get classes) same ∙ absent) (λ row is.
    no_value (map.get (change_row change name classes) q) (change row) none (ap (map.get (change_row change name classes)) same ∙ changed_here change name classes row is)))
    (λ ne. sym (changed_elsewhere change name classes q ne) ∙ none)

changed_held : (change : ClassRow → ClassRow) (name : Name) (s : State) → AreHeld s → AreHeld (record s { classes = change_row change name s.classes })
changed_held change name s held = record { few = held.few; others = λ c none. held.others c (changed_none change name s.classes c.0 none) }

defined_held : (name : Name) (row : ClassRow) (s : State) → AreHeld s → AreHeld (record s { classes = map.insert s.classes name row })
defined_held name row s held = record {
  few = held.few;
  others = λ c none. by_bytes c.0 name
      (λ same. no_value (map.get (map.insert s.classes name row) c.0) row none (ap (map.get (map.insert s.classes name row)) same ∙ get_put_here s.classes name row))
      (λ ne. held.others c (sym (get_put_other s.classes name row c.0 ne) ∙ none));
}

-- ---- methods

put_few : (b : Bool) (m : Methods MethodRow) (selector : Name) (row : MethodRow) → map.len m ≤ 16384 → (b ≡ true → len_with selector m ≤ 16384) → map.len (cond b (map.insert m selector row) m) ≤ 16384
put_few true m selector row few room = let most : len_with selector m ≤ 16384 = room refl in omega (arith, most, map.len-insert nat_list_cmp_total m selector row)
put_few false m selector row few room = few

put_held : (name : Name) (side : Side) (selector : Name) (row : MethodRow) (s : State) → map.contains_key s.classes name ≡ true
    → ((n : Name) (t : Side) → is_place name side n t ≡ true → len_with selector (s.methods n t) ≤ 16384) → AreHeld s → AreHeld (put_method name side selector row s)
put_held name side selector row s known room held = record {
  few = λ n t. put_few (is_place name side n t) (s.methods n t) selector row (held.few n t) (room n t);
  others = λ c none. put_elsewhere name side selector s row c (λ e.
      let there = contained s.classes name known in
      no_value (map.get s.classes c.0) there.0 none (ap (λ (d : Cell). map.get s.classes d.0) e ∙ there.1)) ∙ held.others c none;
}

taken_few : (b : Bool) (m : Methods MethodRow) (selector : Name) → map.len m ≤ 16384 → map.len (cond b (map.remove m selector) m) ≤ 16384
taken_few true m selector few = go (map.contains_key m selector) (map.len-remove nat_list_cmp_total m selector)
  where
    go : (b : Bool) → map.len (map.remove m selector) ≡ cond b (map.len m - 1) (map.len m) → map.len (map.remove m selector) ≤ 16384
    go true is = omega (arith, is, few)
    go false is = omega (arith, is, few)
taken_few false m selector few = few

taken_none : (b : Bool) (m : Methods MethodRow) (selector q : Name) → map.get m q ≡ None → map.get (cond b (map.remove m selector) m) q ≡ None
taken_none true m selector q none = get_taken m selector q ∙ go (bytes_eq q selector)
  where
    go : (b : Bool) → cond b None (map.get m q) ≡ None
    go true = refl
    go false = none
taken_none false m selector q none = none

taken_held : (name : Name) (side : Side) (selector : Name) (s : State) → AreHeld s → AreHeld (take_method name side selector s)
taken_held name side selector s held = record {
  few = λ n t. taken_few (is_place name side n t) (s.methods n t) selector (held.few n t);
  others = λ c none. taken_none (is_place name side c.0 c.1) (s.methods c.0 c.1) selector c.2 (held.others c none);
}

emptied_few : (b : Bool) (m : Methods MethodRow) → map.len m ≤ 16384 → map.len (cond b map.empty m) ≤ 16384
emptied_few true m few = omega (arith, map.len-empty (slice_cmp nat_cmp) MethodRow)
emptied_few false m few = few

removed_held : (name : Name) (s : State) → AreHeld s → AreHeld (take_class name s)
removed_held name s held = record {
  few = λ n t. emptied_few (bytes_eq n name) (s.methods n t) (held.few n t);
  others = λ c none. go c none (bytes_eq c.0 name) refl;
}
  where
    go : (c : Cell) → map.get (map.remove s.classes name) c.0 ≡ None → (b : Bool) → bytes_eq c.0 name ≡ b → map.get (cond b map.empty (s.methods c.0 c.1)) c.2 ≡ None
    go c none true is = map.get-empty (slice_cmp nat_cmp) c.2
    go c none false is = held.others c (sym (get_taken s.classes name c.0 ∙ ap (λ b. cond b None (map.get s.classes c.0)) is) ∙ none)

-- ---- lists

kernel_held : AreHeld kernel_state
kernel_held = record {
  few = kernel_few;
  others = λ c none. no_kernel_cell c (go c none (is_kernel_class c.0) refl);
}
  where
    go : (c : Cell) → map.get kernel_state.classes c.0 ≡ None → (b : Bool) → is_kernel_class c.0 ≡ b → is_kernel_class c.0 ≡ false
    go c none true is = let k = kernel_class_there c.0 is in no_value (map.get kernel_state.classes c.0) k.0 none (ap (λ (x : Classes). map.get x c.0) kernel_state_classes ∙ k.1)
    go c none false is = is

cases : Cases (λ c s t. AreHeld s → AreHeld t)
cases = record {
  defined = λ d s none held. defined_held d.class_name (row_of d (map.get s.classes d.class_name)) s held;
  given_vars = λ name names s none held. changed_held (with_class_side_vars names) name s held;
  commented = λ name text s known held. changed_held (with_comment text) name s held;
  taken = λ name side selector s known held. taken_held name side selector s held;
  classified = λ name side selector category row s known there held. put_held name side selector (record row { category = category }) s known (λ n t here. room name side selector row s there held n t here) held;
  removed = λ name s none held. removed_held name s held;
  begun = λ s held. held;
  put = λ m selector s so known few held. put_held m.class_name m.side selector (record { category = m.category; source = m.source.text }) s known (λ n t here.
      let same = place_same m.class_name n m.side t here in
      subst (λ (p : Name × Side). len_with selector (s.methods p.0 p.1) ≤ 16384) (λ i. (sym same.0 i, sym same.1 i)) (few_enough 16384 ManyMethods (len_with selector (s.methods m.class_name m.side)) few)) held;
  evaluated = λ text s held. held;
}
  where
    room : (name : Name) (side : Side) (selector : Name) (row : MethodRow) (s : State) → in_cell (name, side, selector) s ≡ Some row → AreHeld s → (n : Name) (t : Side) → is_place name side n t ≡ true
        → len_with selector (s.methods n t) ≤ 16384
    room name side selector row s there held n t here =
        let same = place_same name n side t here in
        let has : map.contains_key (s.methods n t) selector ≡ true = ap is_some (ap (λ (p : Name × Side). map.get (s.methods p.0 p.1) selector) (λ i. (same.0 i, same.1 i)) ∙ there) in
        let few : map.len (s.methods n t) ≤ 16384 = held.few n t in
        omega (arith, few, ap (λ b. cond b (map.len (s.methods n t)) (map.len (s.methods n t) + 1)) has)

pub held_last : (cs : List Change) → AreHeld (state_of cs)
held_last cs = each_kept AreHeld cases cs kernel_state kernel_held
