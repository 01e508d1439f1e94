-- The classes of the kernel, put into the map one after the other.
use Rattle.std.proofs.Common.{◌≡◌, ◌≤◌, ◌<◌, ◌+◌, ◌∙◌, ◌&&◌, ◌||◌, ◌++◌, ℕ, zero, suc, Bool, cond, true, false, not, refl, sym, ap, subst, List, [], ◌∷◌, length, take, get_or, Option, Some, None, is_some, map as list_map, true≢false, arith, append_assoc, length-append}
use Rattle.std.specs.List.{slice_get, sum_by}
use Rattle.std.specs.Option.{option_and_then}
use Rattle.std.specs.Ordering.{nat_cmp}
use Rattle.std.specs.Str.{bytes_eq}
use Rattle.std.specs.Cmp.Lexicographic.{slice_cmp, nat_list_cmp_total}
use Rattle.std.specs.FinMap as map
use Rattle.std.specs.FinMap.{nat_cmp-IsAntisymmetric, slice_cmp-IsAntisymmetric}
use Rattle.std.proofs.lemmas.List.{append-nil, map-append, take_more, take_all, length-map}
use Rattle.std.proofs.lemmas.Option.{slice_get_within, get_or_from_slice_get}
use Rattle.std.proofs.lemmas.List.Sums.{sum_by-cons, sum_by_push}
use Rattle.s80_kernel.specs.declared.rows.KernelClass.{KernelClass}
use Rattle.s80_kernel.specs.Rows.{KernelRow, kernel_rows, has_name, row_of as kernel_row_of}
use Rattle.s80_form.specs.Definition.{split_names}
use Rattle.s80_class.specs.declared.entry.ClassEntry.{ClassEntry}
use Rattle.s80_class.specs.Classes.{Name, ClassRow, Classes, IsLine, IsValid, lineage, is_under, Inherited, inherited_in, inherited_of}
use Rattle.s80_class.specs.Table.{Table, IsSuperclass, name_of, row_of}
use Rattle.s80_class.proofs.lemmas.Lines.{Entry, IsOver, get-inserted, lineage_line, absent_passed}
use Rattle.s80_apply.specs.Kernel.{kernel_row, superclass_of, kernel_classes}
use Rattle.s80_apply.specs.Boot.{IsFoundAbove, IsKernelEntry}
use Rattle.s80_apply.specs.Limits.{IsWithin}
use Rattle.s80_apply.proofs.Seen.{words_turned}
use Rattle.s80_apply.proofs.Looked.{count_new}
use Rattle.s80_class.proofs.lemmas.Most.{some_row}
use Rattle.s80_apply.proofs.Defined.{line_of, valid_defined, lineage_defined, alone_under, unmoved, head_row}

-- ---- the rows stand in order

-- the superclass is none, or one of these
abbrev pub stands_on : List KernelRow → Name → Bool
stands_on before [] = true
stands_on before (b ∷ bytes) = has_name before (b ∷ bytes)

abbrev pub in_order : List KernelRow → List KernelRow → Bool
in_order before [] = true
in_order before (row ∷ rows) = not (has_name before row.name) && (stands_on before row.superclass && in_order (before ++ row ∷ []) rows)

kernel_in_order : in_order [] kernel_rows ≡ true
kernel_in_order = refl

abbrev own : KernelRow → ℕ
own row = length (split_names row.inst_vars)

kernel_own : sum_by own kernel_rows ≡ 2
kernel_own = refl

parts : (a b c : Bool) → (not a && (b && c)) ≡ true → (a ≡ false) × (b ≡ true) × (c ≡ true)
parts true b c h = absurd (true≢false (sym h))
parts false true true h = (refl, refl, refl)
parts false true false h = absurd (true≢false (sym h))
parts false false c h = absurd (true≢false (sym h))

-- the class at a place is new there, and its superclass stands before it
placed_at : (before rows : List KernelRow) (i : ℕ) (row : KernelRow) → in_order before rows ≡ true → slice_get rows i ≡ Some row
    → (has_name (before ++ take i rows) row.name ≡ false) × (stands_on (before ++ take i rows) row.superclass ≡ true)
placed_at before [] i row h is = absurd (let bad : None ≡ Some row = is in cc)
placed_at before (r ∷ rows) zero row h is =
    let same : r ≡ row = cc in
    let p = parts (has_name before r.name) (stands_on before r.superclass) (in_order (before ++ r ∷ []) rows) h in
    let nil : before ≡ before ++ [] = sym (append-nil before) in
    (ap (λ b. has_name b row.name) (sym nil) ∙ ap (λ (k : KernelRow). has_name before k.name) (sym same) ∙ p.0, ap (λ b. stands_on b row.superclass) (sym nil) ∙ ap (λ (k : KernelRow). stands_on before k.superclass) (sym same) ∙ p.1)
placed_at before (r ∷ rows) (suc i) row h is =
    let p = parts (has_name before r.name) (stands_on before r.superclass) (in_order (before ++ r ∷ []) rows) h in
    subst (λ front. (has_name front row.name ≡ false) × (stands_on front row.superclass ≡ true)) (append_assoc before (r ∷ []) (take i rows)) (placed_at (before ++ r ∷ []) rows i row p.2 is)

-- ---- the map of some rows

abbrev pub built : List KernelRow → Classes
built rows = map.from_entries (list_map (λ row. (row.name, kernel_row row)) rows)

some_cond : (b : Bool) (row : ClassRow) (o : Option ClassRow) → is_some (cond b (Some row) o) ≡ (b || is_some o)
some_cond true row o = refl
some_cond false row o = refl

pub built_has : (rows : List KernelRow) (q : Name) → map.contains_key (built rows) q ≡ has_name rows q
built_has [] q = ap is_some (map.get-empty (slice_cmp nat_cmp) q)
built_has (r ∷ rows) q =
    ap is_some (get-inserted (built rows) r.name (kernel_row r) q) ∙ some_cond (bytes_eq q r.name) (kernel_row r) (map.get (built rows) q)
    ∙ (λ i. words_turned q r.name i || built_has rows q i)

none_of : (o : Option ClassRow) → is_some o ≡ false → o ≡ None
none_of None h = refl
none_of (Some row) h = absurd (true≢false h)

built_none : (rows : List KernelRow) (q : Name) → has_name rows q ≡ false → map.get (built rows) q ≡ None
built_none rows q h = none_of (map.get (built rows) q) (built_has rows q ∙ h)

built_push : (rows : List KernelRow) (row : KernelRow) → has_name rows row.name ≡ false → built (rows ++ row ∷ []) ≡ map.insert (built rows) row.name (kernel_row row)
built_push rows row h =
    let entry : KernelRow → Name × ClassRow = λ row. (row.name, kernel_row row) in
    ap map.from_entries (map-append entry rows (row ∷ []))
    ∙ map.from_entries_push nat_list_cmp_total (slice_cmp-IsAntisymmetric nat_cmp-IsAntisymmetric) (list_map entry rows) row.name (kernel_row row)
    (sym (map.get-from_entries nat_list_cmp_total (list_map entry rows) row.name) ∙ built_none rows row.name h)

-- ---- what holds of the map so far

pub record IsGood (classes : Classes) (done : List KernelRow) : Type 0 where
  pub valid : IsValid classes
  pub count : map.len classes ≡ length done
  pub inst_vars : (name : Name) (row : ClassRow) → map.get classes name ≡ Some row → (inherited_of classes name).inst_vars ≤ sum_by own done
  pub class_side_vars : (name : Name) (row : ClassRow) → map.get classes name ≡ Some row → (inherited_of classes name).class_side_vars ≤ 0

no_class : (q : Name) (row : ClassRow) → map.get (map.empty {X = ClassRow} {R = slice_cmp nat_cmp}) q ≡ Some row → ⊥
no_class q row is = let bad : None ≡ Some row = sym (map.get-empty (slice_cmp nat_cmp) q) ∙ is in cc

pub good_none : IsGood map.empty []
good_none = record {
  valid = λ q row is. absurd (no_class q row is);
  count = map.len-empty (slice_cmp nat_cmp) ClassRow;
  inst_vars = λ q row is. absurd (no_class q row is);
  class_side_vars = λ q row is. absurd (no_class q row is);
}

module _ (classes : Classes) (name : Name) (row : ClassRow) (valid : IsValid classes) (over : IsOver classes name row.superclass) (none : map.get classes name ≡ None) where
  above_bound : (count : Inherited → ℕ) (b : ℕ) → count (inherited_in []) ≡ 0 → ((q : Name) (r : ClassRow) → map.get classes q ≡ Some r → count (inherited_of classes q) ≤ b)
      → (p : Option Name) (es : List Entry) → IsLine classes p es → count (inherited_in es) ≤ b
  above_bound count b zero_none each None [] line = omega (arith, zero_none)
  above_bound count b zero_none each None (e ∷ es) line = absurd line
  above_bound count b zero_none each (Some q) es line =
      let known = head_row classes q es line in
      subst (λ (es : List Entry). count (inherited_in es) ≤ b) (lineage_line classes q es line) (each q known.0 known.1)

  -- a new class has its own beside what stands above it, and the others have what they had
  more_inherited : (of : Entry → ℕ) (count : Inherited → ℕ) → ((es : List Entry) → count (inherited_in es) ≡ sum_by of es) → (b : ℕ)
      → ((q : Name) (r : ClassRow) → map.get classes q ≡ Some r → count (inherited_of classes q) ≤ b)
      → (q : Name) (r : ClassRow) → map.get (map.insert classes name row) q ≡ Some r → count (inherited_of (map.insert classes name row) q) ≤ of (name, row) + b
  more_inherited of count sums b each q r is =
      let line : IsLine (map.insert classes name row) (Some q) (lineage (map.insert classes name row) q) = line_of (map.insert classes name row) q r (valid_defined classes name row valid over) is in
      elim (is_under (map.insert classes name row) q name) as (λ v. is_under (map.insert classes name row) q name ≡ v → count (inherited_of (map.insert classes name row) q) ≤ of (name, row) + b) [
        | true ↦ λ under.
            let same : q ≡ name = alone_under classes name row valid over none q (lineage (map.insert classes name row) q) line under in
            let mine : count (inherited_of (map.insert classes name row) name) ≡ sum_by of ((name, row) ∷ over.0) =
            ap (λ es. count (inherited_in es)) (lineage_defined classes name row valid over) ∙ sums ((name, row) ∷ over.0) in
            let at : count (inherited_of (map.insert classes name row) q) ≡ count (inherited_of (map.insert classes name row) name) = ap (λ n. count (inherited_of (map.insert classes name row) n)) same in
            let above : count (inherited_in over.0) ≤ b = above_bound count b (sums []) each row.superclass over.0 over.1 in
            omega (arith, at, mine, sum_by-cons of (name, row) over.0, sums over.0, above)
        | false ↦ λ apart.
            let old : IsLine classes (Some q) (lineage (map.insert classes name row) q) = unmoved classes name row valid over q (lineage (map.insert classes name row) q) line apart in
            let known = head_row classes q (lineage (map.insert classes name row) q) old in
            let before : count (inherited_of (map.insert classes name row) q) ≤ b = subst (λ (es : List Entry). count (inherited_in es) ≤ b) (lineage_line classes q (lineage (map.insert classes name row) q) old) (each q known.0 known.1) in
            omega (arith, before)
      ] refl

good_more : (classes : Classes) (done : List KernelRow) (row : KernelRow) → IsGood classes done → map.get classes row.name ≡ None → IsOver classes row.name (superclass_of row.superclass)
    → IsGood (map.insert classes row.name (kernel_row row)) (done ++ row ∷ [])
good_more classes done row good none over = record {
  valid = valid_defined classes row.name (kernel_row row) good.valid over;
  count = sym (count_new classes row.name (map.len classes) none refl (kernel_row row)) ∙ ap (λ n. n + 1) good.count ∙ sym (length_push done row);
  inst_vars = λ q r is.
      let most = more_inherited classes row.name (kernel_row row) good.valid over none (λ e. length e.1.inst_vars) (λ t. t.inst_vars) (λ es. refl) (sum_by own done) good.inst_vars q r is in
      omega (arith, most, sum_by_push own done row);
  class_side_vars = λ q r is. more_inherited classes row.name (kernel_row row) good.valid over none (λ e. length e.1.class_side_vars) (λ t. t.class_side_vars) (λ es. refl) 0 good.class_side_vars q r is;
}
  where
    length_push : (done : List KernelRow) (row : KernelRow) → length (done ++ row ∷ []) ≡ length done + 1
    length_push done row = length-append done (row ∷ [])

over_kernel : (classes : Classes) (name above : Name) → IsValid classes → map.get classes name ≡ None → (before : List KernelRow) → classes ≡ built before → stands_on before above ≡ true → IsOver classes name (superclass_of above)
over_kernel classes name [] valid none before same h = ([], tt, refl)
over_kernel classes name (b ∷ bytes) valid none before same h =
    let known = some_row classes (b ∷ bytes) (ap (λ (m : Classes). map.contains_key m (b ∷ bytes)) same ∙ built_has before (b ∷ bytes) ∙ h) in
    (lineage classes (b ∷ bytes), line_of classes (b ∷ bytes) known.0 valid known.1, absent_passed classes name none (Some (b ∷ bytes)) (lineage classes (b ∷ bytes)) (line_of classes (b ∷ bytes) known.0 valid known.1))

-- ---- a class more in the table

pub record IsBooted (table : Table) (done : List KernelRow) : Type 0 where
  pub classes : table.classes ≡ built done
  pub good : IsGood table.classes done

superclass_row : (table : Table) (before : List KernelRow) (above : Name) (number : Option ℕ) → table.classes ≡ built before → stands_on before above ≡ true → IsFoundAbove table above number
    → IsSuperclass table.names number × (option_and_then (name_of table.names) number ≡ superclass_of above)
superclass_row table before [] number same h none = (subst (IsSuperclass table.names) (sym none) tt, ap (option_and_then (name_of table.names)) none)
superclass_row table before (b ∷ bytes) None same h none =
    absurd (true≢false (sym (ap (λ (m : Classes). map.contains_key m (b ∷ bytes)) same ∙ built_has before (b ∷ bytes) ∙ h) ∙ ap is_some none))
superclass_row table before (b ∷ bytes) (Some c) same h named = ((b ∷ bytes, named), ap (option_and_then (λ (name : Option Name). name)) named)

module _ (rows : List KernelRow) (i : ℕ) (class : KernelClass) (table : Table) (entry : ClassEntry) (ordered : in_order [] rows ≡ true) (here : slice_get rows i ≡ Some (kernel_row_of class)) (so_far : IsBooted table (take i rows))
    (said : IsKernelEntry table class entry) where
  place : (has_name (take i rows) class.name.now ≡ false) × (stands_on (take i rows) class.superclass.now ≡ true)
  place = placed_at [] rows i (kernel_row_of class) ordered here

  none_named : map.get table.classes class.name.now ≡ None
  none_named = ap (λ (m : Classes). map.get m class.name.now) so_far.classes ∙ built_none (take i rows) class.name.now place.0

  -- it may be added
  pub new_name : map.get table.classes entry.class_name ≡ None
  new_name = ap (map.get table.classes) said.class_name ∙ none_named

  above : IsSuperclass table.names entry.superclass × (option_and_then (name_of table.names) entry.superclass ≡ superclass_of class.superclass.now)
  above = superclass_row table (take i rows) class.superclass.now entry.superclass so_far.classes place.1 said.superclass

  pub new_superclass : IsSuperclass table.names entry.superclass
  new_superclass = above.0

  row_same : row_of table.names entry ≡ kernel_row (kernel_row_of class)
  row_same = λ j. record {
    superclass = above.1 j;
    kind = said.kind j;
    inst_vars = said.inst_vars j;
    class_vars = said.class_vars j;
    pools = said.pools j;
    category = said.category j;
    comment = said.comment j;
    class_side_vars = said.class_side_vars j;
  }

  pub booted_more : (after : Table) → after.classes ≡ map.insert table.classes entry.class_name (row_of table.names entry) → IsBooted after (take (i + 1) rows)
  booted_more after is =
      let row : KernelRow = kernel_row_of class in
      let done : List KernelRow = take i rows in
      let more : take (i + 1) rows ≡ done ++ row ∷ [] = take_more rows i row (slice_get_within rows i row here) ∙ (λ j. done ++ get_or_from_slice_get rows i row row here j ∷ []) in
      let put : after.classes ≡ map.insert table.classes row.name (kernel_row row) = is ∙ (λ j. map.insert table.classes (said.class_name j) (row_same j)) in
      let good : IsGood (map.insert table.classes row.name (kernel_row row)) (done ++ row ∷ []) =
      good_more table.classes done row so_far.good none_named (over_kernel table.classes row.name row.superclass so_far.good.valid none_named done so_far.classes place.1) in
      record {
        classes = put ∙ ap (λ (m : Classes). map.insert m row.name (kernel_row row)) so_far.classes ∙ sym (built_push done row place.0) ∙ ap built (sym more);
        good = subst (IsGood after.classes) (sym more) (subst (λ (m : Classes). IsGood m (done ++ row ∷ [])) (sym put) good);
      }

-- the row of the class at a place
pub row_here : (items : List KernelClass) (i : ℕ) (d : KernelClass) → i < length items → slice_get (list_map kernel_row_of items) i ≡ Some (kernel_row_of (get_or items i d))
row_here [] i d h = absurd (omega arith)
row_here (class ∷ items) zero d h = refl
row_here (class ∷ items) (suc i) d h = row_here items i d (omega arith)

-- ---- all of them

pub booted_none : (table : Table) → table.classes ≡ map.empty → IsBooted table []
booted_none table is = record { classes = is; good = subst (λ (m : Classes). IsGood m []) (sym is) good_none }

pub ordered : (items : List KernelClass) → list_map kernel_row_of items ≡ kernel_rows → in_order [] (list_map kernel_row_of items) ≡ true
ordered items same = ap (in_order []) same ∙ kernel_in_order

pub booted_all : (items : List KernelClass) (n : ℕ) (table : Table) → list_map kernel_row_of items ≡ kernel_rows → length items ≤ n → IsBooted table (take n (list_map kernel_row_of items)) → (table.classes ≡ kernel_classes) × IsWithin table.classes
unfolding kernel_classes
booted_all items n table same le booted =
    let all : take n (list_map kernel_row_of items) ≡ kernel_rows = take_all n (list_map kernel_row_of items) (omega (arith, le, length-map items kernel_row_of)) ∙ same in
    let good : IsGood table.classes kernel_rows = subst (IsGood table.classes) all booted.good in (
      booted.classes ∙ ap built all,
      record {
        count = omega (arith, good.count);
        inst_vars = λ q row is. omega (arith, good.inst_vars q row is, kernel_own);
        class_side_vars = λ q row is. omega (arith, good.class_side_vars q row is);
      },
    )
