-- The methods of a state in the order in which a condensed list makes them: each stands there once.
use Rattle.std.proofs.Common.{◌≡◌, ◌≢◌, inl, inr, ◌∙◌, ◌++◌, ℕ, Bool, cond, true, false, refl, sym, ap, List, [], ◌∷◌, map as list_map, filter, Option, Some, None, is_some, true≢false}
use Rattle.std.specs.List.{flat_map}
use Rattle.std.specs.Str.{bytes_eq}
use Rattle.std.specs.Ordering.{nat_cmp, eq_by_cmp}
use Rattle.std.specs.Cmp.Lexicographic.{slice_cmp, nat_list_cmp_total, bytes_decides, texts_ties}
use Rattle.std.specs.FinMap as map
use Rattle.std.specs.FinMap.Entries.{find}
use Rattle.std.proofs.lemmas.Grind.{flat_map-append}
use Rattle.s80_base.specs.declared.names.Side.{Side}
use Rattle.s80_base.specs.declared.names.Side.TheVariants.{Instance, Class}
use Rattle.s80_dict.specs.Dict.{Methods}
use Rattle.s80_change.specs.declared.change.Change.{Change}
use Rattle.s80_class.specs.Classes.{Name, ClassRow}
use Rattle.s80_apply.specs.State.{MethodRow, State}
use Rattle.s80_fileout.specs.Condensed.{by_category, categories, for_methods}
use Rattle.s80_fileout.proofs.Elements.{IsIn, AreApart, apart_flat, apart_mapped, filter_apart, filter_passed, filtered_in, flat_in, in_filtered, in_flat, in_mapped, mapped_in}
use Rattle.s80_fileout.proofs.Keyed.{Named, entries_apart, entry_got, got_entry, got_key, key_got, keys_apart, one_value, same_bytes}
use Rattle.s80_fileout.proofs.Cells.{Cell, in_cell}

-- ---- by categories

abbrev Entry : Type 0
Entry = List ℕ × MethodRow

abbrev of_category : Methods MethodRow → List ℕ → List Entry
of_category methods category = filter (λ e. bytes_eq e.1.category category) (map.entries methods)

-- what is found among entries that say nothing
named_once : (es : List Entry) (e : Entry) → IsIn e es → is_some (find {X = Unit {0}} (slice_cmp nat_cmp) e.1.category (list_map (λ e. (e.1.category, tt {0})) es)) ≡ true
named_once [] e at = absurd at
named_once (f ∷ es) e (inl same) =
    ap (λ b. is_some (cond b (Some (tt {0})) (find (slice_cmp nat_cmp) e.1.category (list_map (λ e. (e.1.category, tt {0})) es))))
    (sym (texts_ties e.1.category f.1.category) ∙ (bytes_decides e.1.category f.1.category).1 (ap (λ (x : Entry). x.1.category) same))
named_once (f ∷ es) e (inr more) = go (eq_by_cmp (slice_cmp nat_cmp) e.1.category f.1.category) (named_once es e more)
  where
    go : (b : Bool) → is_some (find {X = Unit {0}} (slice_cmp nat_cmp) e.1.category (list_map (λ e. (e.1.category, tt {0})) es)) ≡ true
        → is_some (cond b (Some (tt {0})) (find (slice_cmp nat_cmp) e.1.category (list_map (λ e. (e.1.category, tt {0})) es))) ≡ true
    go true rest = refl
    go false rest = rest

some_unit : (o : Option (Unit {0})) → is_some o ≡ true → (u : Unit {0}) × (o ≡ Some u)
some_unit None is = absurd (true≢false (sym is))
some_unit (Some u) is = (u, refl)

in_categories : (methods : Methods MethodRow) (e : Entry) → IsIn e (map.entries methods) → IsIn e.1.category (categories methods)
in_categories methods e at =
    let names : Named (Unit {0}) = map.from_entries (list_map (λ e. (e.1.category, tt {0})) (map.entries methods)) in
    let found = some_unit (map.get names e.1.category) (ap is_some (map.get-from_entries nat_list_cmp_total (list_map (λ e. (e.1.category, tt {0})) (map.entries methods)) e.1.category) ∙ named_once (map.entries methods) e at) in
    got_key names e.1.category found.0 found.1

pub in_by_category : (methods : Methods MethodRow) (e : Entry) → IsIn e (map.entries methods) → IsIn e (by_category methods)
in_by_category methods e at =
    in_flat (of_category methods) e.1.category e (categories methods) (in_categories methods e at) (in_filtered (λ f. bytes_eq f.1.category e.1.category) e (map.entries methods) (same_bytes e.1.category) at)

pub by_category_in : (methods : Methods MethodRow) (e : Entry) → IsIn e (by_category methods) → IsIn e (map.entries methods)
by_category_in methods e at = let c = flat_in (of_category methods) e (categories methods) at in filtered_in (λ f. bytes_eq f.1.category c.0) e (map.entries methods) c.2

categories_apart : (methods : Methods MethodRow) → AreApart (λ c. c) (categories methods)
categories_apart methods = keys_apart (map.from_entries {X = Unit {0}} {R = slice_cmp nat_cmp} (list_map (λ e. (e.1.category, tt {0})) (map.entries methods)))

pub by_category_apart : (methods : Methods MethodRow) → AreApart (λ e. e.0) (by_category methods)
by_category_apart methods =
    apart_flat (of_category methods) (λ c. c) (λ (e : Entry). e.0) (categories methods) (categories_apart methods)
    (λ c at. filter_apart (λ (e : Entry). e.0) (λ e. bytes_eq e.1.category c) (map.entries methods) (entries_apart methods))
    (λ c d e f at there ne here other same. ne (category_of d f other ∙ ap (λ (r : MethodRow). r.category) (rows c d e f here other same) ∙ sym (category_of c e here)))
  where
    category_of : (c : List ℕ) (e : Entry) → IsIn e (of_category methods c) → c ≡ e.1.category
    category_of c e at = sym ((bytes_decides e.1.category c).0 (filter_passed (λ f. bytes_eq f.1.category c) e (map.entries methods) at))

    rows : (c d : List ℕ) (e f : Entry) → IsIn e (of_category methods c) → IsIn f (of_category methods d) → f.0 ≡ e.0 → f.1 ≡ e.1
    rows c d e f here other same =
        one_value (map.get methods e.0) f.1 e.1
        (ap (map.get methods) (sym same) ∙ entry_got methods f (filtered_in (λ g. bytes_eq g.1.category d) f (map.entries methods) other))
        (entry_got methods e (filtered_in (λ g. bytes_eq g.1.category c) e (map.entries methods) here))

-- ---- all of a state

-- a method with its row
abbrev pub CellRow : Type 0
CellRow = Name × Side × List ℕ × MethodRow

abbrev pub cell_of : CellRow → Cell
cell_of x = (x.0, x.1, x.2)

abbrev pub sides : List Side
sides = Instance ∷ Class ∷ []

abbrev rows_on : State → Name → Side → List CellRow
rows_on state name side = list_map (λ e. (name, side, e.0, e.1)) (by_category (state.methods name side))

abbrev rows_of : State → Name → List CellRow
rows_of state name = flat_map (rows_on state name) sides

abbrev pub all_cells : State → List CellRow
all_cells state = flat_map (rows_of state) (map.keys state.classes)

flat_mapped : {X Y Z : Type 0} (f : Y → List Z) (g : X → Y) (xs : List X) → flat_map f (list_map g xs) ≡ flat_map (λ x. f (g x)) xs
flat_mapped f g [] = refl
flat_mapped f g (x ∷ xs) = ap (λ zs. f (g x) ++ zs) (flat_mapped f g xs)

flat_flat : {X Y Z : Type 0} (f : Y → List Z) (g : X → List Y) (xs : List X) → flat_map f (flat_map g xs) ≡ flat_map (λ x. flat_map f (g x)) xs
flat_flat f g [] = refl
flat_flat f g (x ∷ xs) = flat_map-append f (g x) (flat_map g xs) ∙ ap (λ zs. flat_map f (g x) ++ zs) (flat_flat f g xs)

pub for_methods_are : (changes : Name → Side → List ℕ → MethodRow → List Change) (state : State) → flat_map (λ (x : CellRow). changes x.0 x.1 x.2 x.3) (all_cells state) ≡ for_methods changes state
for_methods_are changes state =
    flat_flat each (rows_of state) (map.keys state.classes)
    ∙ (λ i. flat_map (λ name. (flat_flat each (rows_on state name) sides
    ∙ (λ j. flat_map (λ side. flat_mapped each (λ (e : Entry). (name, side, e.0, e.1)) (by_category (state.methods name side)) j) sides)) i) (map.keys state.classes))
  where
    each : CellRow → List Change
    each x = changes x.0 x.1 x.2 x.3

-- a method of a class that is there stands among them
pub in_all_cells : (state : State) (c : Cell) (class : ClassRow) (row : MethodRow) → map.get state.classes c.0 ≡ Some class → in_cell c state ≡ Some row → IsIn (c.0, c.1, c.2, row) (all_cells state)
in_all_cells state c class row there is =
    in_flat (rows_of state) c.0 (c.0, c.1, c.2, row) (map.keys state.classes) (got_key state.classes c.0 class there)
    (in_flat (rows_on state c.0) c.1 (c.0, c.1, c.2, row) sides (either c.1)
    (in_mapped (λ (e : Entry). (c.0, c.1, e.0, e.1)) (c.2, row) (by_category (state.methods c.0 c.1)) (in_by_category (state.methods c.0 c.1) (c.2, row) (got_entry (state.methods c.0 c.1) c.2 row is))))
  where
    either : (side : Side) → IsIn side sides
    either Instance = inl refl
    either Class = inr (inl refl)

-- what stands on one side of a class
record StandsOn (state : State) (name : Name) (side : Side) (x : CellRow) : Type 0 where
  class : x.0 ≡ name
  on : x.1 ≡ side
  row : in_cell (cell_of x) state ≡ Some x.3

on_side : (state : State) (name : Name) (side : Side) (x : CellRow) → IsIn x (rows_on state name side) → StandsOn state name side x
on_side state name side x at =
    let e = mapped_in (λ (e : Entry). (name, side, e.0, e.1)) x (by_category (state.methods name side)) at in
    record {
      class = ap (λ (y : CellRow). y.0) e.2;
      on = ap (λ (y : CellRow). y.1) e.2;
      row =
          ap (λ (y : CellRow). in_cell (cell_of y) state) e.2 ∙ entry_got (state.methods name side) e.0 (by_category_in (state.methods name side) e.0 e.1)
          ∙ ap (λ (y : CellRow). Some y.3) (sym e.2);
    }

pub record IsCell (state : State) (x : CellRow) : Type 0 where
  pub class : ClassRow
  pub there : map.get state.classes x.0 ≡ Some class
  pub row : in_cell (cell_of x) state ≡ Some x.3

pub all_cells_in : (state : State) (x : CellRow) → IsIn x (all_cells state) → IsCell state x
all_cells_in state x at =
    let name = flat_in (rows_of state) x (map.keys state.classes) at in
    let side = flat_in (rows_on state name.0) x sides name.2 in
    let on = on_side state name.0 side.0 x side.2 in
    let class = key_got state.classes name.0 name.1 in
    record { class = class.0; there = ap (map.get state.classes) on.class ∙ class.1; row = on.row }

pub all_cells_apart : (state : State) → AreApart cell_of (all_cells state)
all_cells_apart state =
    apart_flat (rows_of state) (λ n. n) cell_of (map.keys state.classes) (keys_apart state.classes)
    (λ name at.
    apart_flat (rows_on state name) (λ s. s) cell_of sides sides_apart
    (λ side there. apart_mapped (λ (e : Entry). (name, side, e.0, e.1)) cell_of (by_category (state.methods name side)) (weaker name side (by_category (state.methods name side)) (by_category_apart (state.methods name side))))
    (λ s t x y here other ne first second same. ne (sym ((on_side state name t y second).on) ∙ ap (λ (c : Cell). c.1) same ∙ (on_side state name s x first).on)))
    (λ n m x y here other ne first second same. ne (sym (class_of m y second) ∙ ap (λ (c : Cell). c.0) same ∙ class_of n x first))
  where
    class_of : (name : Name) (x : CellRow) → IsIn x (rows_of state name) → x.0 ≡ name
    class_of name x at = let side = flat_in (rows_on state name) x sides at in (on_side state name side.0 x side.2).class

    is_instance : Side → Bool
    is_instance Instance = true
    is_instance Class = false

    sides_apart : AreApart (λ s. s) sides
    sides_apart = (apart, ((λ s at. absurd at), tt))
      where
        apart : (s : Side) → IsIn s (Class ∷ []) → s ≢ Instance
        apart s (inl same) e = true≢false (ap is_instance (sym e ∙ same))
        apart s (inr none) e = absurd none

    weaker : (name : Name) (side : Side) (es : List Entry) → AreApart (λ e. e.0) es → AreApart (λ (e : Entry). cell_of (name, side, e.0, e.1)) es
    weaker name side [] all = tt
    weaker name side (e ∷ es) all = ((λ f at same. all.0 f at (ap (λ (c : Cell). c.2) same)), weaker name side es all.1)
