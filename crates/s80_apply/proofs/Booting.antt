-- The methods of the kernel, put into the dictionaries of their classes one after the other.
use Rattle.std.proofs.Common.{◌≡◌, ◌∙◌, ◌≤◌, ◌<◌, ◌+◌, ◌++◌, ℕ, zero, suc, true, refl, sym, ap, subst, List, [], ◌∷◌, length, take, get_or, Option, Some, None, Ok, codes, slice_range, map as list_map, arith, length-append}
use Rattle.std.specs.List.{All, slice_get}
use Rattle.std.specs.Ordering.{nat_cmp}
use Rattle.std.specs.Cmp.Lexicographic.{slice_cmp}
use Rattle.std.specs.FinMap as map
use Rattle.std.proofs.lemmas.List.{take_more, take_all, length-map, length-drop, length-take}
use Rattle.std.proofs.lemmas.Slice.{between_is}
use Rattle.std.proofs.lemmas.List.Elements.{All-nil, All-cons, All-head, All-tail}
use Rattle.std.proofs.lemmas.Option.{slice_get_within, get_or_from_slice_get}
use Rattle.s80_base.specs.declared.names.Side.{Side}
use Rattle.s80_base.specs.declared.names.Side.TheVariants.{Instance, Class}
use Rattle.s80_dict.specs.Table.{MethodsValue, SidesValue, methods_at, no_sides, on_side, put_at}
use Rattle.s80_kernel.specs.declared.methods.KernelMethod.{KernelMethod}
use Rattle.s80_kernel.specs.Methods.{IsPlainSource, KernelMethodRow, MethodPlace, StandsIn, kernel_methods, held_place, place_of}
use Rattle.s80_kernel.specs.Text.{kernel_text}
use Rattle.s80_change.specs.Check.{IsCheckOf}
use Rattle.s80_kernel.specs.declared.rows.KernelClass.{KernelClass}
use Rattle.s80_kernel.specs.Rows.{KernelRow, is_kernel_class, kernel_rows, row_of as kernel_row_of}
use Rattle.s80_class.specs.Classes.{Name, Classes}
use Rattle.s80_class.specs.Table.{Table, IsNumberOf}
use Rattle.s80_class.proofs.lemmas.Most.{some_row}
use Rattle.s80_apply.specs.Kernel.{kernel_classes}
use Rattle.s80_apply.specs.Limits.{IsWithin}
use Rattle.s80_apply.specs.State.{no_methods, put_kernel_methods, put_method, side_of}
use Rattle.s80_apply.specs.Placed.{PlacedState, placed_kernel_method, placed_kernel_state}
use Rattle.s80_apply.specs.Seen.{AreSeen}
use Rattle.s80_apply.specs.Entries.{Entry, row_in}
use Rattle.s80_apply.specs.Codes.{AreCodes}
use Rattle.s80_apply.specs.System.{HasNumber, HasPlaces, SystemState}
use Rattle.s80_apply.specs.Boot.{HasClassesAlone, TakesMethod, row_held}
use Rattle.s80_apply.proofs.Booted.{IsBooted, built_has, booted_none, booted_all}
use Rattle.s80_apply.proofs.Codes.{codes_put}
use Rattle.s80_apply.proofs.Standing.{method_put}
use Rattle.s80_apply.proofs.Stands.{seen_empty}

-- ---- the classes, without methods

-- the first of the classes, each with dictionaries without methods
pub record AreBare (table : Table) (methods : MethodsValue Entry) (done : List KernelRow) : Type 0 where
  pub booted : IsBooted table done
  pub count : length methods.sides ≡ length table.names
  pub none : (n : ℕ) (s : Side) → methods_at methods n s ≡ map.empty

no_methods_at : (n : ℕ) (s : Side) → (on_side (get_or [] n no_sides) s).methods ≡ map.empty {X = Entry}
no_methods_at zero Instance = refl
no_methods_at zero Class = refl
no_methods_at (suc n) Instance = refl
no_methods_at (suc n) Class = refl

pub bare_none : (table : Table) (methods : MethodsValue Entry) → table.classes ≡ map.empty → table.names ≡ [] → methods.sides ≡ [] → AreBare table methods []
bare_none table methods classes names sides = record {
  booted = booted_none table classes;
  count = ap length sides ∙ sym (ap length names);
  none = λ n s. ap (λ (all : List (SidesValue Entry)). (on_side (get_or all n no_sides) s).methods) sides ∙ no_methods_at n s;
}

pub bare_more : (table after : Table) (before reserved now : MethodsValue Entry) (done more : List KernelRow) (name : Option Name) → AreBare table before done → IsBooted after more → after.names ≡ table.names ++ name ∷ []
    → reserved.sides ≡ before.sides → now.sides ≡ reserved.sides ++ no_sides ∷ [] → ((n : ℕ) (s : Side) → methods_at now n s ≡ methods_at reserved n s) → AreBare after now more
bare_more table after before reserved now done more name bare booted names room sides methods = record {
  booted = booted;
  count = omega (arith, ap length sides, ap length room, ap length names, length-append reserved.sides (no_sides ∷ []), length-append table.names (name ∷ []), bare.count);
  none = λ n s. methods n s ∙ ap (λ (all : List (SidesValue Entry)). (on_side (get_or all n no_sides) s).methods) room ∙ bare.none n s;
}

pub bare_all : (items : List KernelClass) (n : ℕ) (table : Table) (methods : MethodsValue Entry) → list_map kernel_row_of items ≡ kernel_rows → length items ≤ n → AreBare table methods (take n (list_map kernel_row_of items)) → HasClassesAlone table methods
bare_all items n table methods same past bare =
    let all = booted_all items n table same past bare.booted in
    record { classes = all.0; valid = bare.booted.good.valid; within = all.1; count = bare.count; none = bare.none }

-- ---- the rows of the code

-- the row of the method at a place
pub record RowAt (P : KernelMethodRow → Type 0) (rows : List KernelMethodRow) (i : ℕ) (m : KernelMethod) : Type 0 where
  pub row : KernelMethodRow
  pub is : slice_get rows i ≡ Some row
  pub held : held_place m ≡ place_of row
  pub holds : P row

pub row_at : (P : KernelMethodRow → Type 0) (items : List KernelMethod) (rows : List KernelMethodRow) (i : ℕ) (d : KernelMethod) → All P rows → list_map held_place items ≡ list_map place_of rows → i < length items → RowAt P rows i (get_or items i d)
row_at P [] rows i d all same below = absurd (omega (arith, below))
row_at P (m ∷ ms) [] i d all same below = absurd (cc)
row_at P (m ∷ ms) (row ∷ rows) zero d all same below =
    let first : held_place m ≡ place_of row = cc in
    record { row = row; is = refl; held = first; holds = All-head P row rows all }
row_at P (m ∷ ms) (row ∷ rows) (suc i) d all same below =
    let others : list_map held_place ms ≡ list_map place_of rows = cc in
    let later = row_at P ms rows i d (All-tail P row rows all) others (omega (arith, below)) in
    record { row = later.row; is = later.is; held = later.held; holds = later.holds }

-- what the laws say of a row
pub record IsLawful (row : KernelMethodRow) : Type 0 where
  pub of_kernel : is_kernel_class row.class ≡ true
  pub stands : StandsIn kernel_text row
  pub short : length row.source ≤ 65535
  pub fits : IsCheckOf row.source (Ok row.selector)

pub lawful_rows : (rows : List KernelMethodRow) → All (λ row. is_kernel_class row.class ≡ true) rows → All (StandsIn kernel_text) rows → All (λ row. IsPlainSource row.source) rows → All (λ row. IsCheckOf row.source (Ok row.selector)) rows → All IsLawful rows
lawful_rows [] kernel stand plain fit = All-nil IsLawful
lawful_rows (row ∷ rows) kernel stand plain fit =
    All-cons IsLawful row rows (record {
      of_kernel = All-head (λ (row : KernelMethodRow). is_kernel_class row.class ≡ true) row rows kernel;
      stands = All-head (StandsIn kernel_text) row rows stand;
      short = (All-head (λ (row : KernelMethodRow). IsPlainSource row.source) row rows plain).short;
      fits = All-head (λ (row : KernelMethodRow). IsCheckOf row.source (Ok row.selector)) row rows fit;
    })
    (lawful_rows rows (All-tail (λ (row : KernelMethodRow). is_kernel_class row.class ≡ true) row rows kernel) (All-tail (StandsIn kernel_text) row rows stand)
    (All-tail (λ (row : KernelMethodRow). IsPlainSource row.source) row rows plain) (All-tail (λ (row : KernelMethodRow). IsCheckOf row.source (Ok row.selector)) row rows fit))

-- the source in the text is that of the row
source_held : (m : KernelMethod) (row : KernelMethodRow) → held_place m ≡ place_of row → StandsIn kernel_text row → (row_held m).source ≡ row.source
source_held m row held stands = (λ i. slice_range kernel_text (held i).position ((held i).position + (held i).size)) ∙ stands.same

-- it is no longer than it is said to be
pub held_short : (m : KernelMethod) → m.length ≤ 65535 → length (row_held m).source ≤ 65535
held_short m short =
    let whole = ap length (between_is kernel_text m.position (m.position + m.length)) in
    omega (arith, whole, length-drop m.position (take (m.position + m.length) kernel_text), length-take (m.position + m.length) kernel_text, short)

kernel_class_there : (class : Name) → is_kernel_class class ≡ true → map.contains_key kernel_classes class ≡ true
unfolding is_kernel_class kernel_classes
kernel_class_there class h = built_has kernel_rows class ∙ h

-- ---- the state

abbrev pub bare : PlacedState
bare = record { classes = kernel_classes; methods = no_methods }

put_more : (ks : List KernelMethodRow) (k : KernelMethodRow) (state : PlacedState) → put_kernel_methods placed_kernel_method (ks ++ k ∷ []) state ≡ put_method k.class (side_of k.on_class_side) k.selector (placed_kernel_method k) (put_kernel_methods placed_kernel_method ks state)
put_more [] k state = refl
put_more (first ∷ ks) k state = put_more ks k (put_method first.class (side_of first.on_class_side) first.selector (placed_kernel_method first) state)

-- ---- a method more in a system

abbrev system_of : Table → MethodsValue Entry → SystemState
system_of table methods = record { table = table; methods = methods }

module _ (table : Table) (m : KernelMethod) (k : KernelMethodRow) (before now : MethodsValue Entry) (state : PlacedState) (held : held_place m ≡ place_of k) (stands : StandsIn kernel_text k) (takes : TakesMethod table m before now)
    (there : map.contains_key table.classes k.class ≡ true) (count : length before.sides ≡ length table.names) (is : HasPlaces (system_of table before) state) where
  class_is : m.class_name.now ≡ k.class
  class_is = ap (λ (p : MethodPlace). p.class) held

  row_is : row_in takes.entry ≡ placed_kernel_method k
  row_is = takes.row ∙ (λ i. record { category = codes "kernel"; source = source_held m k held stands i; from_kernel = true; position = (held i).position; length = (held i).size })

  its_class : HasNumber (system_of table before) k.class takes.number
  its_class =
      let named : IsNumberOf table.names takes.number k.class = subst (λ (x : Name). IsNumberOf table.names takes.number x) class_is takes.named in
      let within = slice_get_within table.names takes.number (Some k.class) named in
      record {
        named = named;
        only = λ c at. takes.only c (subst (λ (x : Name). IsNumberOf table.names c x) (sym class_is) at);
        dictionaries = omega (arith, within, count);
        there = some_row table.classes k.class there;
      }

  pub method_taken : HasPlaces (system_of table now) (put_method k.class (side_of k.on_class_side) k.selector (placed_kernel_method k) state)
  method_taken =
      method_put (system_of table before) (system_of table now) state k.class takes.number (side_of k.on_class_side) k.selector takes.entry (placed_kernel_method k) its_class row_is is refl (λ n s.
      takes.methods n s ∙ (λ i. put_at (methods_at before) takes.number (side_of (held i).on_class_side) (held i).selector takes.entry n s))

-- ---- so far

-- the classes of the kernel, with the first of its methods
pub record HasMethodsOf (table : Table) (methods : MethodsValue Entry) (ks : List KernelMethodRow) : Type 0 where
  pub classes : table.classes ≡ kernel_classes
  pub within : IsWithin table.classes
  pub count : length methods.sides ≡ length table.names
  pub system : HasPlaces (system_of table methods) (put_kernel_methods placed_kernel_method ks bare)
  pub codes : AreCodes table methods

no_entry : (k : List ℕ) (e : Entry) → map.get (map.empty {X = Entry} {R = slice_cmp nat_cmp}) k ≡ Some e → ⊥
no_entry k e is = let bad : None ≡ Some e = sym (map.get-empty (slice_cmp nat_cmp) k) ∙ is in cc

pub none_put : (table : Table) (methods : MethodsValue Entry) → HasClassesAlone table methods → HasMethodsOf table methods []
none_put table methods alone = record {
  classes = alone.classes;
  within = alone.within;
  count = alone.count;
  system = record {
    classes = alone.classes;
    methods = λ n name s named. subst (λ e. AreSeen row_in e map.empty) (sym (alone.none n s)) (seen_empty row_in);
    others = λ name s none. refl;
  };
  codes = λ n s k e is. absurd (no_entry k e (ap (λ m. map.get m k) (sym (alone.none n s)) ∙ is));
}

module _ (items : List KernelMethod) (i : ℕ) (d : KernelMethod) (table : Table) (before : MethodsValue Entry) (lawful : All IsLawful kernel_methods) (same : list_map held_place items ≡ list_map place_of kernel_methods)
    (below : i < length items) (so_far : HasMethodsOf table before (take i kernel_methods)) where
  here : RowAt IsLawful kernel_methods i (get_or items i d)
  here = row_at IsLawful items kernel_methods i d lawful same below

  class_there : map.contains_key table.classes here.row.class ≡ true
  class_there = ap (λ (c : Classes). map.contains_key c here.row.class) so_far.classes ∙ kernel_class_there here.row.class here.holds.of_kernel

  -- its class is there
  pub method_there : map.contains_key table.classes (get_or items i d).class_name.now ≡ true
  method_there = ap (map.contains_key table.classes) (ap (λ (p : MethodPlace). p.class) here.held) ∙ class_there

  -- its source stands in the text, and is a method of its selector
  pub method_stands : (get_or items i d).position + (get_or items i d).length ≤ length kernel_text
  method_stands = let at = ap (λ (p : MethodPlace). p.position + p.size) here.held in omega (arith, at, here.holds.stands.ends)

  pub method_short : (get_or items i d).length ≤ 65535
  method_short = let size = ap (λ (p : MethodPlace). p.size) here.held in omega (arith, size, here.holds.short)

  pub method_fits : IsCheckOf (row_held (get_or items i d)).source (Ok (get_or items i d).selector.now)
  method_fits =
      subst (λ (k : List ℕ). IsCheckOf (row_held (get_or items i d)).source (Ok k)) (sym (ap (λ (p : MethodPlace). p.selector) here.held))
      (subst (λ text. IsCheckOf text (Ok here.row.selector)) (sym (source_held (get_or items i d) here.row here.held here.holds.stands)) here.holds.fits)

  pub method_more : (now : MethodsValue Entry) → length now.sides ≡ length before.sides → TakesMethod table (get_or items i d) before now → HasMethodsOf table now (take (i + 1) kernel_methods)
  method_more now count takes =
      let front : List KernelMethodRow = take i kernel_methods in
      let k : KernelMethodRow = here.row in
      let more : take (i + 1) kernel_methods ≡ front ++ k ∷ [] =
      take_more kernel_methods i k (slice_get_within kernel_methods i k here.is) ∙ (λ j. front ++ get_or_from_slice_get kernel_methods i k k here.is j ∷ []) in
      record {
        classes = so_far.classes;
        within = so_far.within;
        count = count ∙ so_far.count;
        system = subst (HasPlaces (system_of table now)) (sym (ap (λ ks. put_kernel_methods placed_kernel_method ks bare) more ∙ put_more front k bare))
            (method_taken table (get_or items i d) k before now (put_kernel_methods placed_kernel_method front bare) here.held here.holds.stands takes class_there so_far.count so_far.system);
        codes = codes_put table before now takes.number (side_of (get_or items i d).on_class_side) (get_or items i d).selector.now takes.entry (record { class = (get_or items i d).class_name.now; named = takes.named; has_code = takes.code }) takes.methods so_far.codes;
      }

-- ---- all of them

pub all_put : (items : List KernelMethod) (n : ℕ) (table : Table) (methods : MethodsValue Entry) → list_map held_place items ≡ list_map place_of kernel_methods → length items ≤ n → HasMethodsOf table methods (take n kernel_methods) → HasPlaces (system_of table methods) placed_kernel_state
unfolding placed_kernel_state
all_put items n table methods same past so_far =
    let size : length items ≡ length kernel_methods = sym (length-map items held_place) ∙ ap length same ∙ length-map kernel_methods place_of in
    subst (HasPlaces (system_of table methods)) (ap (λ ks. put_kernel_methods placed_kernel_method ks bare) (take_all n kernel_methods (omega (arith, past, size)))) so_far.system
