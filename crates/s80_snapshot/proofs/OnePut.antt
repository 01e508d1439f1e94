-- One method put into a system, with its source at the image's place.
use Rattle.std.proofs.Common.{◌≡◌, ◌≢◌, ◌⊎◌, inl, inr, ◌∙◌, ◌<◌, ◌≤◌, ◌+◌, ◌&&◌, ℕ, Bool, cond, true, false, refl, sym, ap, subst, List, [], ◌∷◌, Option, Some, None, Result, Ok, Err, is_some, option_map, length, nat_eq, nat_le, slice_get, true≢false, arith}
use Rattle.std.proofs.lemmas.Bool.Decides.{nat_tests}
use Rattle.std.specs.FinMap as map
use Rattle.std.specs.Str.{bytes_eq}
use Rattle.std.specs.Cmp.Lexicographic.{bytes_decides}
use Rattle.s80_base.specs.declared.names.Side.{Side}
use Rattle.s80_dict.specs.Dict.{Methods}
use Rattle.s80_dict.specs.Table.{methods_at, put_at, same_side}
use Rattle.s80_change.specs.declared.change.Change.{Change}
use Rattle.s80_change.specs.declared.change.Method.{Method}
use Rattle.s80_change.specs.Source.{SourceParts}
use Rattle.s80_form.specs.declared.refusal.Refusal.{Refusal}
use Rattle.s80_form.specs.declared.refusal.Refusal.TheVariants.{TooMany, UnknownClass}
use Rattle.s80_form.specs.declared.refusal.ManyKind.TheVariants.{Methods as ManyMethods}
use Rattle.s80_class.specs.Classes.{Name, Classes, ClassRow}
use Rattle.s80_class.specs.Table.{IsNumberOf}
use Rattle.s80_apply.specs.Accept.{Keeping, above, accept, accept_with, accepted, first_some, keeping_rows, len_with, too_many_methods, unknown_name}
use Rattle.s80_apply.specs.Entries.{Entry, row_in, state_row}
use Rattle.s80_apply.specs.List.{IsAccepted}
use Rattle.s80_apply.specs.Placed.{PlacedRow, PlacedState, accept_placed, keeping_places}
use Rattle.s80_apply.specs.Seen.{AreSeen}
use Rattle.s80_apply.specs.State.{MethodRow, State, StateOf, put_method}
use Rattle.s80_apply.specs.declared.step.SourcePlace.{SourcePlace}
use Rattle.s80_apply.specs.System.{HasMethodAt, HasNumber, HasPlaces, HasSourceAt, IsSystemBy, IsSystemOf, LacksMethod, SetsSourcePlace, SystemState, at_place}
use Rattle.s80_snapshot.specs.Resuming.{Accepts, MayPut, Puts, Works, method_change, placed_row_of, selector_of, state_row_of}
use Rattle.s80_snapshot.specs.Sources.{ImagedMethod}
use Rattle.s80_snapshot.proofs.Grouping.{side_itself, side_same}
use Rattle.s80_snapshot.proofs.ImageMaps.{get_put, get_put_here, no_value, one_named, same_bytes, same_named, seen}

-- the method of a source that has its selector
abbrev method_of : ImagedMethod → List ℕ → Method
method_of m text = record { class_name = m.class_name; side = m.side; category = m.method.heading.category; source = record { text = text; selector = Ok (selector_of m) } }

-- ---- a method is accepted

known : (classes : Classes) (name : Name) → map.contains_key classes name ≡ true → unknown_name name classes ≡ None
known classes name there = ap (λ b. cond b None (Some (UnknownClass name))) there

few : (n : ℕ) → n ≤ 16384 → above 16384 ManyMethods n ≡ None
few n within = let told : nat_le n 16384 ≡ true = grind (arith, nat_tests) in ap (λ b. cond b None (Some (TooMany ManyMethods n))) told

pub put_accepted : (m : ImagedMethod) (source : SourceParts) (system : SystemState) → MayPut m system → source.selector ≡ Ok (selector_of m) → Accepts system (method_change m source)
put_accepted m source system may is = (
  may.state,
  may.is,
  subst IsAccepted (sym (ap (λ r. accept (method_change m (record { text = source.text; selector = r })) may.state) is
      ∙ ap (λ o. accepted (first_some (o ∷ too_many_methods method (selector_of m) may.state ∷ [])) after) (known may.state.classes m.class_name may.class)
      ∙ ap (λ o. accepted (first_some (None ∷ o ∷ [])) after) (few (len_with (selector_of m) (may.state.methods m.class_name m.side)) may.few))) tt,
)
  where
    method : Method
    method = method_of m source.text

    after : State
    after = put_method m.class_name m.side (selector_of m) (state_row_of m source.text) may.state

-- what was accepted is the method put
put_is : {T : Type 0} (r : Option Refusal) (x after : T) → accepted r x ≡ Ok after → x ≡ after
put_is None x after is = ok_value is
  where
    ok_value : {T : Type 0} {x y : T} → ◌≡◌ {A = Result T Refusal} (Ok x) (Ok y) → x ≡ y
    ok_value is = cc
put_is (Some r) x after is = absurd (cc)

module _ {M : Type 0} (keeping : Keeping M) (m : ImagedMethod) (source : SourceParts) (is : source.selector ≡ Ok (selector_of m)) where
  pub method_put : (state after : StateOf M) → accept_with keeping (method_change m source) state ≡ Ok after
      → put_method m.class_name m.side (selector_of m) (keeping.put (method_of m source.text)) state ≡ after
  method_put state after so =
      let method : Method = method_of m source.text in
      put_is (first_some (unknown_name m.class_name state.classes ∷ too_many_methods method (selector_of m) state ∷ []))
      (put_method m.class_name m.side (selector_of m) (keeping.put method) state) after
      (ap (λ r. accept_with keeping (method_change m (record { text = source.text; selector = r })) state) (sym is) ∙ so)

-- ---- a method put twice

twice : {V : Type 0} (b : Bool) (m : Methods V) (k : List ℕ) (v w : V) → cond b (map.insert (cond b (map.insert m k v) m) k w) (cond b (map.insert m k v) m) ≡ cond b (map.insert m k w) m
twice {V} true m k v w = same_named (map.insert (map.insert m k v) k w) (map.insert m k w) (λ q.
    get_put (map.insert m k v) k w q ∙ ap (cond (bytes_eq q k) (Some w)) (get_put m k v q) ∙ shadowed (bytes_eq q k) (map.get m q) ∙ sym (get_put m k w q))
  where
    shadowed : (b : Bool) (o : Option V) → cond b (Some w) (cond b (Some v) o) ≡ cond b (Some w) o
    shadowed true o = refl
    shadowed false o = refl
twice false m k v w = refl

pub put_twice : {M : Type 0} (name : Name) (side : Side) (selector : List ℕ) (v w : M) (s : StateOf M)
    → put_method name side selector w (put_method name side selector v s) ≡ put_method name side selector w s
put_twice name side selector v w s = λ i. record { classes = s.classes; methods = λ n t. twice (bytes_eq n name && same_side t side) (s.methods n t) selector v w i }

-- ---- the place of a source

number_same : (a b : ℕ) → nat_eq a b ≡ true → a ≡ b
number_same a b e = grind (arith, nat_tests)

number_itself : (a : ℕ) → nat_eq a a ≡ true
number_itself a = grind (arith, nat_tests)

both_true : (a b : Bool) → (a ≡ true → b ≡ true) → (b ≡ true → a ≡ true) → a ≡ b
both_true true b f g = sym (f refl)
both_true false true f g = g refl
both_true false false f g = refl

module _ {M : Type 0} (view : Entry → M) (before : SystemState) (name : Name) (number : ℕ) (numbered : HasNumber before name number) where
  place_told : (n : ℕ) (q : Name) → IsNumberOf before.table.names n q → nat_eq n number ≡ bytes_eq q name
  place_told n q named = both_true (nat_eq n number) (bytes_eq q name)
      (λ same. let here : slice_get before.table.names number ≡ Some (Some q) = subst (λ k. slice_get before.table.names k ≡ Some (Some q)) (number_same n number same) named in
      (bytes_decides q name).1 (one_named (slice_get before.table.names number) q name here numbered.named))
      (λ same. let here : IsNumberOf before.table.names n name = subst (IsNumberOf before.table.names n) ((bytes_decides q name).0 same) named in
      ap (λ k. nat_eq k number) (numbered.only n here) ∙ number_itself number)

  put_seen : (b : Bool) (m : Methods Entry) (n : Methods M) (k : List ℕ) (e : Entry) (row : M) → view e ≡ row → AreSeen view m n → AreSeen view (cond b (map.insert m k e) m) (cond b (map.insert n k row) n)
  put_seen false m n k e row same are = are
  put_seen true m n k e row same are = seen view (map.insert m k e) (map.insert n k row) (λ q.
      ap (option_map view) (get_put m k e q) ∙ go (bytes_eq q k) (map.get m q) (map.get n q) (are.each q) ∙ sym (get_put n k row q))
    where
      go : (b : Bool) (o : Option Entry) (p : Option M) → option_map view o ≡ p → option_map view (cond b (Some e) o) ≡ cond b (Some row) p
      go true o p is = ap Some same
      go false o p is = is

  -- a dictionary with an entry put
  pub entry_put : (now : SystemState) (s : StateOf M) (side : Side) (selector : List ℕ) (e : Entry) (row : M) → view e ≡ row → now.table ≡ before.table
      → ((n : ℕ) (t : Side) → methods_at now.methods n t ≡ put_at (methods_at before.methods) number side selector e n t) → IsSystemBy view before s → IsSystemBy view now (put_method name side selector row s)
  entry_put now s side selector e row same table methods is = record {
    classes = ap (λ t. t.classes) table ∙ is.classes;
    methods = λ n q t named.
        let there : IsNumberOf before.table.names n q = subst (λ x. IsNumberOf x n q) (ap (λ t. t.names) table) named in
        subst (λ (d : Methods Entry). AreSeen view d (cond (bytes_eq q name && same_side t side) (map.insert (s.methods q t) selector row) (s.methods q t)))
        (sym (methods n t ∙ ap (λ b. cond (b && same_side t side) (map.insert (methods_at before.methods n t) selector e) (methods_at before.methods n t)) (place_told n q there)))
        (put_seen (bytes_eq q name && same_side t side) (methods_at before.methods n t) (s.methods q t) selector e row same (is.methods n q t there));
    others = λ q t none. elsewhere q t none (bytes_eq q name) refl;
  }
    where
      elsewhere : (q : Name) (t : Side) → map.get s.classes q ≡ None → (b : Bool) → bytes_eq q name ≡ b → cond (b && same_side t side) (map.insert (s.methods q t) selector row) (s.methods q t) ≡ map.empty
      elsewhere q t none true here = no_value (map.get s.classes q) numbered.there.0 none
          (ap (λ cs. map.get cs q) (sym is.classes) ∙ ap (map.get before.table.classes) ((bytes_decides q name).0 here) ∙ numbered.there.1)
      elsewhere q t none false differs = is.others q t none

pub found_entry : {M : Type 0} (view : Entry → M) (o : Option Entry) (row : M) → option_map view o ≡ Some row → (e : Entry) × (o ≡ Some e) × (view e ≡ row)
found_entry view None row is = absurd (cc)
found_entry view (Some e) row is = (e, refl, cc)

-- the source of a method that is there stands at this place then
module _ {M : Type 0} (view : Entry → M) (change : M → M) (place : SourcePlace) (shows : (e : Entry) → view (at_place place e) ≡ change (view e)) where
  pub place_set : (mid now : SystemState) (name : Name) (side : Side) (selector : List ℕ) (result : Bool) (s : StateOf M) (row : M) → SetsSourcePlace mid name side selector place now result
      → IsSystemBy view mid s → map.get s.classes name ≡ map.get mid.table.classes name → map.get (s.methods name side) selector ≡ Some row → IsSystemBy view now (put_method name side selector (change row) s)
  place_set mid now name side selector true s row (number, numbered, has, set) is classes there =
      let e = found_entry view (map.get (methods_at mid.methods number side) selector) row ((is.methods number name side numbered.named).each selector ∙ there) in
      entry_put view mid name number numbered now s side selector (at_place place e.0) (change row) (shows e.0 ∙ ap change e.2) set.table (set.methods e.0 e.1) is
  place_set mid now name side selector false s row (inl none, same) is classes there =
      no_value (map.get (s.methods name side) selector) row (ap (λ (m : Methods M). map.get m selector) (is.others name side (classes ∙ none)) ∙ map.get-empty _ selector) there
  place_set mid now name side selector false s row (inr (number, numbered, none), same) is classes there =
      no_value (map.get (s.methods name side) selector) row (sym ((is.methods number name side numbered.named).each selector) ∙ ap (option_map view) none) there

numbered_now : (mid now : SystemState) (name : Name) (side : Side) (selector : List ℕ) (place : SourcePlace) (number : ℕ) → HasNumber mid name number → HasSourceAt mid number side selector place now → HasNumber now name number
numbered_now mid now name side selector place number h set = record {
  named = subst (λ t. IsNumberOf t.names number name) (sym set.table) h.named;
  only = λ c named. h.only c (subst (λ t. IsNumberOf t.names c name) set.table named);
  dictionaries = subst (λ n. number < n) (sym set.count) h.dictionaries;
  there = (h.there.0, ap (λ t. map.get t.classes name) set.table ∙ h.there.1);
}

pub here_put : {M : Type 0} (name : Name) (side : Side) (selector : List ℕ) (row : M) (s : StateOf M) → map.get ((put_method name side selector row s).methods name side) selector ≡ Some row
here_put name side selector row s =
    ap (λ b. map.get (cond (b && same_side side side) (map.insert (s.methods name side) selector row) (s.methods name side)) selector) (same_bytes name)
    ∙ ap (λ b. map.get (cond b (map.insert (s.methods name side) selector row) (s.methods name side)) selector) (side_itself side)
    ∙ get_put_here (s.methods name side) selector row

-- ---- both together

module _ (m : ImagedMethod) (source : SourceParts) (before mid now : SystemState) (result : Bool) (may : MayPut m before) (is : source.selector ≡ Ok (selector_of m)) where
  abbrev place : SourcePlace
  place = record { from_kernel = m.method.heading.from_kernel; position = m.method.heading.position; length = m.method.heading.length }

  abbrev with_place : PlacedRow → PlacedRow
  with_place row = record row { from_kernel = place.from_kernel; position = place.position; length = place.length }

  module _ (works : Works (method_change m source) before mid) (sets : SetsSourcePlace mid m.class_name m.side (selector_of m) place now result) where
    put_state : (state : State) → IsSystemOf before state → IsSystemOf now (put_method m.class_name m.side (selector_of m) (state_row_of m source.text) state)
    put_state state of =
        let after = works.state state of in
        let put : put_method m.class_name m.side (selector_of m) (state_row_of m source.text) state ≡ after.0 = method_put keeping_rows m source is state after.0 after.1 in
        let there : IsSystemOf mid (put_method m.class_name m.side (selector_of m) (state_row_of m source.text) state) = subst (IsSystemOf mid) (sym put) after.2 in
        subst (IsSystemOf now) (put_twice m.class_name m.side (selector_of m) (state_row_of m source.text) (state_row_of m source.text) state)
        (place_set state_row (λ row. row) place (λ e. refl) mid now m.class_name m.side (selector_of m) result (put_method m.class_name m.side (selector_of m) (state_row_of m source.text) state) (state_row_of m source.text) sets there
        (ap (λ cs. map.get cs m.class_name) (sym there.classes)) (here_put m.class_name m.side (selector_of m) (state_row_of m source.text) state))

    put_placed : (placed : PlacedState) → HasPlaces before placed → HasPlaces now (put_method m.class_name m.side (selector_of m) (placed_row_of m source.text) placed)
    put_placed placed of =
        let after = works.placed placed of in
        let row : PlacedRow = (keeping_places 0).put (method_of m source.text) in
        let put : put_method m.class_name m.side (selector_of m) row placed ≡ after.0 = method_put (keeping_places 0) m source is placed after.0 after.1 in
        let there : HasPlaces mid (put_method m.class_name m.side (selector_of m) row placed) = subst (HasPlaces mid) (sym put) after.2 in
        subst (HasPlaces now) (put_twice m.class_name m.side (selector_of m) row (placed_row_of m source.text) placed)
        (place_set row_in with_place place (λ e. refl) mid now m.class_name m.side (selector_of m) result (put_method m.class_name m.side (selector_of m) row placed) row sets there
        (ap (λ cs. map.get cs m.class_name) (sym there.classes)) (here_put m.class_name m.side (selector_of m) row placed))

    has_number : (r : Bool) → SetsSourcePlace mid m.class_name m.side (selector_of m) place now r → (number : ℕ) × HasNumber now m.class_name number
    has_number true (number, numbered, has, set) = (number, numbered_now mid now m.class_name m.side (selector_of m) place number numbered set)
    has_number false (lacks, same) = absurd (no lacks)
      where
        state : State
        state = put_method m.class_name m.side (selector_of m) (state_row_of m source.text) may.state

        there : IsSystemOf mid state
        there = let after = works.state may.state may.is in subst (IsSystemOf mid) (sym (method_put keeping_rows m source is may.state after.0 after.1)) after.2

        no : LacksMethod mid m.class_name m.side (selector_of m) → ⊥
        no (inl none) = no_value (map.get (state.methods m.class_name m.side) (selector_of m)) (state_row_of m source.text)
            (ap (λ (d : Methods MethodRow). map.get d (selector_of m)) (there.others m.class_name m.side (ap (λ cs. map.get cs m.class_name) (sym there.classes) ∙ none)) ∙ map.get-empty _ (selector_of m))
            (here_put m.class_name m.side (selector_of m) (state_row_of m source.text) may.state)
        no (inr (number, numbered, none)) = no_value (map.get (state.methods m.class_name m.side) (selector_of m)) (state_row_of m source.text)
            (sym ((there.methods number m.class_name m.side numbered.named).each (selector_of m)) ∙ ap (option_map state_row) none)
            (here_put m.class_name m.side (selector_of m) (state_row_of m source.text) may.state)

    pub method_is_put : Puts m source.text before now
    method_is_put =
        let numbered = has_number result sets in
        record {
          classes = (put_state may.state may.is).classes ∙ sym may.is.classes;
          number = numbered.0;
          numbered = numbered.1;
          state = put_state;
          placed = put_placed;
        }
