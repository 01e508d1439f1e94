-- The kernel's classes and methods, as they are looked up.
use Rattle.std.proofs.Common.{◌≡◌, ◌≢◌, ◌∙◌, ◌&&◌, ◌||◌, ◌+◌, ◌≤◌, ℕ, Bool, cond, true, false, nat_le, not, find, codes, refl, sym, ap, List, [], ◌∷◌, length, Option, Some, None, is_some, option_map, true≢false, arith}
use Rattle.std.specs.List.{list_all}
use Rattle.std.specs.Bool.{beq}
use Rattle.std.specs.Cmp.{booleans_Decides}
use Rattle.std.specs.Str.{bytes_eq}
use Rattle.std.specs.Ordering.{nat_cmp}
use Rattle.std.specs.Cmp.Lexicographic.{slice_cmp, nat_list_cmp_total, bytes_decides}
use Rattle.std.specs.FinMap as map
use Rattle.std.proofs.lemmas.Bool.{and_parts}
use Rattle.s80_base.specs.declared.names.Side.{Side}
use Rattle.s80_base.specs.declared.names.Side.TheVariants.{Instance, Class}
use Rattle.s80_dict.specs.Dict.{Methods}
use Rattle.s80_kernel.specs.Rows.{KernelRow, kernel_rows, has_name, is_kernel_class}
use Rattle.s80_kernel.specs.Methods.{KernelMethodRow, found_method, is_method, kernel_methods}
use Rattle.s80_class.specs.Classes.{Name, ClassRow}
use Rattle.s80_apply.specs.Kernel.{kernel_classes, kernel_row}
use Rattle.s80_apply.specs.State.{MethodRow, State, kernel_method, kernel_state, no_methods, on_class_side, put_kernel_methods, put_method, side_of}
use Rattle.s80_apply.proofs.Booted.{built, built_has}
use Rattle.s80_apply.proofs.LastingKernel.{has_row, most_of}
use Rattle.s80_fileout.proofs.Keyed.{by_found, contained, get_put, no_value, one_value}
use Rattle.s80_fileout.proofs.Cells.{Cell, in_cell, is_place, put_here, put_elsewhere}

-- ---- classes

kernel_leaves : (ks : List KernelMethodRow) (state : State) → (put_kernel_methods kernel_method ks state).classes ≡ state.classes
kernel_leaves [] state = refl
kernel_leaves (k ∷ ks) state = kernel_leaves ks (put_method k.class (side_of k.on_class_side) k.selector (kernel_method k) state)

pub kernel_state_classes : kernel_state.classes ≡ kernel_classes
unfolding kernel_state
kernel_state_classes = kernel_leaves kernel_methods (record { classes = kernel_classes; methods = no_methods })

pub kernel_class_there : (name : Name) → is_kernel_class name ≡ true → (row : ClassRow) × (map.get kernel_classes name ≡ Some row)
unfolding is_kernel_class kernel_classes
kernel_class_there name is = contained kernel_classes name (built_has kernel_rows name ∙ is)

is_class : (name : Name) → has_name kernel_rows name ≡ true → is_kernel_class name ≡ true
unfolding is_kernel_class
is_class name is = is

pub there_kernel_class : (name : Name) (row : ClassRow) → map.get kernel_classes name ≡ Some row → is_kernel_class name ≡ true
there_kernel_class name row is = is_class name (has_row name row is)

pub no_kernel_class : (name : Name) → is_kernel_class name ≡ false → map.get kernel_classes name ≡ None
no_kernel_class name is = by_found (map.get kernel_classes name) (λ none. none) (λ row here. absurd (true≢false (sym (there_kernel_class name row here) ∙ is)))

bare_row : (rows : List KernelRow) (name : Name) (row : ClassRow) → map.get (built rows) name ≡ Some row → row.comment ≡ []
bare_row [] name row is = no_value (map.get (built []) name) row (map.get-empty (slice_cmp nat_cmp) name) is
bare_row (r ∷ rows) name row is = go (bare_row rows name row) (bytes_eq name r.name) (sym (get_put (built rows) r.name (kernel_row r) name) ∙ is)
  where
    go : (map.get (built rows) name ≡ Some row → row.comment ≡ []) → (b : Bool) → cond b (Some (kernel_row r)) (map.get (built rows) name) ≡ Some row → row.comment ≡ []
    go rest true here = let same : kernel_row r ≡ row = cc in ap (λ (x : ClassRow). x.comment) (sym same)
    go rest false more = rest more

-- no class of the kernel has a comment
pub kernel_bare : (name : Name) (row : ClassRow) → map.get kernel_classes name ≡ Some row → row.comment ≡ []
unfolding kernel_classes
kernel_bare name row is = bare_row kernel_rows name row is

-- ---- methods

abbrev apart : List KernelMethodRow → Bool
apart [] = true
apart (k ∷ ks) = not (is_some (find (is_method k.class k.on_class_side k.selector) ks)) && apart ks

all_apart : apart kernel_methods ≡ true
unfolding kernel_methods
all_apart = refl

all_of_classes : list_all (λ k. is_kernel_class k.class) kernel_methods ≡ true
unfolding kernel_methods is_kernel_class
all_of_classes = refl

count : length kernel_methods ≡ 104
unfolding kernel_methods
count = refl

on_side : (b : Bool) (s : Side) → b ≡ on_class_side s → s ≡ side_of b
on_side b Instance is = ap side_of (sym is)
on_side b Class is = ap side_of (sym is)

abbrev passes : Cell → KernelMethodRow → Bool
passes c k = is_method c.0 (on_class_side c.1) c.2 k

abbrev cell_of : KernelMethodRow → Cell
cell_of k = (k.class, side_of k.on_class_side, k.selector)

named : (c : Cell) (k : KernelMethodRow) → passes c k ≡ true → c ≡ cell_of k
named c k h =
    let parts = and_parts (bytes_eq k.class c.0) (beq k.on_class_side (on_class_side c.1) && bytes_eq k.selector c.2) h in
    let others = and_parts (beq k.on_class_side (on_class_side c.1)) (bytes_eq k.selector c.2) parts.1 in
    let class : c.0 ≡ k.class = sym ((bytes_decides k.class c.0).0 parts.0) in
    let side : c.1 ≡ side_of k.on_class_side = on_side k.on_class_side c.1 ((booleans_Decides k.on_class_side (on_class_side c.1)).0 others.0) in
    let selector : c.2 ≡ k.selector = sym ((bytes_decides k.selector c.2).0 others.1) in
    λ i. (class i, side i, selector i)

on_itself : (b : Bool) → beq b (on_class_side (side_of b)) ≡ true
on_itself true = (booleans_Decides true true).1 refl
on_itself false = (booleans_Decides false false).1 refl

itself_passes : (k : KernelMethodRow) → passes (cell_of k) k ≡ true
itself_passes k = λ i. (bytes_decides k.class k.class).1 refl i && (on_itself k.on_class_side i && (bytes_decides k.selector k.selector).1 refl i)

back_on : (b : Bool) → on_class_side (side_of b) ≡ b
back_on true = refl
back_on false = refl

not_some : {X : Type 0} (o : Option X) → not (is_some o) ≡ true → o ≡ None
not_some None h = refl
not_some (Some x) h = absurd (true≢false (sym h))

abbrev found_or : Option KernelMethodRow → Option MethodRow → Option MethodRow
found_or None o = o
found_or (Some k) o = Some (kernel_method k)

put_cells : (ks : List KernelMethodRow) (state : State) (c : Cell) → apart ks ≡ true → in_cell c (put_kernel_methods kernel_method ks state) ≡ found_or (find (passes c) ks) (in_cell c state)
put_cells [] state c h = refl
put_cells (k ∷ ks) state c h =
    let put : State = put_method k.class (side_of k.on_class_side) k.selector (kernel_method k) state in
    let parts = and_parts (not (is_some (find (is_method k.class k.on_class_side k.selector) ks))) (apart ks) h in
    put_cells ks put c parts.1
    ∙ elim (passes c k) as (λ b. passes c k ≡ b → found_or (find (passes c) ks) (in_cell c put) ≡ found_or (cond b (Some k) (find (passes c) ks)) (in_cell c state)) [
      | true ↦ λ is.
          let same : c ≡ cell_of k = named c k is in
          let none : find (passes c) ks ≡ None =
          ap (λ d. find (passes d) ks) same ∙ ap (λ b. find (is_method k.class b k.selector) ks) (back_on k.on_class_side)
          ∙ not_some (find (is_method k.class k.on_class_side k.selector) ks) parts.0 in
          ap (λ o. found_or o (in_cell c put)) none ∙ ap (λ d. in_cell d put) same ∙ put_here k.class (side_of k.on_class_side) k.selector state (kernel_method k)
      | false ↦ λ is.
          let other : c ≢ cell_of k = λ same. true≢false (sym (itself_passes k) ∙ ap (λ d. passes d k) (sym same) ∙ is) in
          ap (found_or (find (passes c) ks)) (put_elsewhere k.class (side_of k.on_class_side) k.selector state (kernel_method k) c other)
    ] refl

found_is : (o : Option KernelMethodRow) → found_or o None ≡ option_map kernel_method o
found_is None = refl
found_is (Some k) = refl

-- a method of the kernel is the one that is found
pub kernel_cell : (c : Cell) → in_cell c kernel_state ≡ option_map kernel_method (found_method c.0 (on_class_side c.1) c.2)
unfolding kernel_state found_method
kernel_cell c =
    put_cells kernel_methods (record { classes = kernel_classes; methods = no_methods }) c all_apart
    ∙ ap (found_or (find (passes c) kernel_methods)) (map.get-empty (slice_cmp nat_cmp) c.2)
    ∙ found_is (find (passes c) kernel_methods)

none_of_class : (ks : List KernelMethodRow) (c : Cell) → list_all (λ k. is_kernel_class k.class) ks ≡ true → is_kernel_class c.0 ≡ false → find (passes c) ks ≡ None
none_of_class [] c all is = refl
none_of_class (k ∷ ks) c all is =
    let parts = and_parts (is_kernel_class k.class) (list_all (λ k. is_kernel_class k.class) ks) all in
    elim (passes c k) as (λ b. passes c k ≡ b → cond b (Some k) (find (passes c) ks) ≡ None) [
      | true ↦ λ here. absurd (true≢false (sym parts.0 ∙ ap (λ (d : Cell). is_kernel_class d.0) (sym (named c k here)) ∙ is))
      | false ↦ λ _. none_of_class ks c parts.1 is
    ] refl

not_found : (c : Cell) → is_kernel_class c.0 ≡ false → found_method c.0 (on_class_side c.1) c.2 ≡ None
unfolding found_method
not_found c is = none_of_class kernel_methods c all_of_classes is

-- and a class that isn't the kernel's has none
pub no_kernel_cell : (c : Cell) → is_kernel_class c.0 ≡ false → in_cell c kernel_state ≡ None
no_kernel_cell c is = kernel_cell c ∙ ap (option_map kernel_method) (not_found c is)

-- ---- how long their names are

short_rows : list_all (λ row. nat_le (length row.name) 100) kernel_rows ≡ true
short_rows = refl

short_selectors : list_all (λ k. nat_le (length k.selector) 100) kernel_methods ≡ true
unfolding kernel_methods
short_selectors = refl

short_among : (rows : List KernelRow) (q : Name) → list_all (λ row. nat_le (length row.name) 100) rows ≡ true → has_name rows q ≡ true → nat_le (length q) 100 ≡ true
short_among [] q all has = absurd (true≢false (sym has))
short_among (row ∷ rows) q all has =
    let parts = and_parts (nat_le (length row.name) 100) (list_all (λ row. nat_le (length row.name) 100) rows) all in
    elim (bytes_eq row.name q) as (λ b. bytes_eq row.name q ≡ b → (b || has_name rows q) ≡ true → nat_le (length q) 100 ≡ true) [
      | true ↦ λ is _. ap (λ name. nat_le (length name) 100) (sym ((bytes_decides row.name q).0 is)) ∙ parts.0
      | false ↦ λ _ more. short_among rows q parts.1 more
    ] refl has

pub kernel_name_short : (name : Name) (row : ClassRow) → map.get kernel_classes name ≡ Some row → length name ≤ 100
kernel_name_short name row is = most_of (length name) 100 (short_among kernel_rows name short_rows (has_row name row is))

found_short : (ks : List KernelMethodRow) (c : Cell) (k : KernelMethodRow) → list_all (λ k. nat_le (length k.selector) 100) ks ≡ true → find (passes c) ks ≡ Some k → nat_le (length c.2) 100 ≡ true
found_short [] c k all is = absurd (let bad : None ≡ Some k = is in cc)
found_short (j ∷ ks) c k all is =
    let parts = and_parts (nat_le (length j.selector) 100) (list_all (λ k. nat_le (length k.selector) 100) ks) all in
    elim (passes c j) as (λ b. passes c j ≡ b → cond b (Some j) (find (passes c) ks) ≡ Some k → nat_le (length c.2) 100 ≡ true) [
      | true ↦ λ here _. ap (λ (d : Cell). nat_le (length d.2) 100) (named c j here) ∙ parts.0
      | false ↦ λ _ more. found_short ks c k parts.1 more
    ] refl is

method_short : (c : Cell) (k : KernelMethodRow) → found_method c.0 (on_class_side c.1) c.2 ≡ Some k → nat_le (length c.2) 100 ≡ true
unfolding found_method
method_short c k is = found_short kernel_methods c k short_selectors is

pub kernel_selector_short : (c : Cell) (row : MethodRow) → in_cell c kernel_state ≡ Some row → length c.2 ≤ 100
kernel_selector_short c row is = by_found (found_method c.0 (on_class_side c.1) c.2)
    (λ none. no_value (in_cell c kernel_state) row (kernel_cell c ∙ ap (option_map kernel_method) none) is)
    (λ k found. most_of (length c.2) 100 (method_short c k found))

pub kernel_category_is : (c : Cell) (row : MethodRow) → in_cell c kernel_state ≡ Some row → row.category ≡ codes "kernel"
kernel_category_is c row is = by_found (found_method c.0 (on_class_side c.1) c.2)
    (λ none. no_value (in_cell c kernel_state) row (kernel_cell c ∙ ap (option_map kernel_method) none) is)
    (λ k found. let both : kernel_method k ≡ row = one_value (in_cell c kernel_state) (kernel_method k) row (kernel_cell c ∙ ap (option_map kernel_method) found) is in ap (λ (r : MethodRow). r.category) (sym both))

-- ---- how many they are

one_more : (m : Methods MethodRow) (k : List ℕ) (v : MethodRow) → map.len (map.insert m k v) ≤ map.len m + 1
one_more m k v = go (map.contains_key m k) (map.len-insert nat_list_cmp_total m k v)
  where
    go : (b : Bool) → map.len (map.insert m k v) ≡ cond b (map.len m) (map.len m + 1) → map.len (map.insert m k v) ≤ map.len m + 1
    go true is = omega (arith, is)
    go false is = omega (arith, is)

put_count : (ks : List KernelMethodRow) (state : State) (name : Name) (side : Side) → map.len ((put_kernel_methods kernel_method ks state).methods name side) ≤ map.len (state.methods name side) + length ks
put_count [] state name side = omega arith
put_count (k ∷ ks) state name side =
    let put : State = put_method k.class (side_of k.on_class_side) k.selector (kernel_method k) state in
    let rest : map.len ((put_kernel_methods kernel_method ks put).methods name side) ≤ map.len (put.methods name side) + length ks = put_count ks put name side in
    let here : map.len (put.methods name side) ≤ map.len (state.methods name side) + 1 = go (is_place k.class (side_of k.on_class_side) name side) in
    omega (arith, rest, here)
  where
    go : (b : Bool) → map.len (cond b (map.insert (state.methods name side) k.selector (kernel_method k)) (state.methods name side)) ≤ map.len (state.methods name side) + 1
    go true = one_more (state.methods name side) k.selector (kernel_method k)
    go false = omega arith

pub kernel_few : (name : Name) (side : Side) → map.len (kernel_state.methods name side) ≤ 16384
unfolding kernel_state
kernel_few name side =
    let most = put_count kernel_methods (record { classes = kernel_classes; methods = no_methods }) name side in
    omega (arith, most, count, map.len-empty (slice_cmp nat_cmp) MethodRow)
