-- Walks from a class up: what is left of its line, and what was counted on the way.
use Rattle.std.proofs.Common.{◌≡◌, ◌≢◌, ◌≤◌, ◌<◌, ◌∙◌, ◌||◌, ◌-◌, ◌+◌, ℕ, suc, zero, true, false, refl, sym, ap, subst, List, [], ◌∷◌, length, drop, Option, Some, None, arith}
use Rattle.std.specs.List.{sum_by}
use Rattle.std.specs.Str.{bytes_eq}
use Rattle.std.specs.FinMap as map
use Rattle.std.proofs.lemmas.List.Sums.{sum_by-cons}
use Rattle.s80_form.specs.declared.definition.Kind.{Kind}
use Rattle.s80_form.specs.declared.definition.Kind.TheVariants.{Plain, Pointers, Bytes, Words}
use Rattle.s80_class.specs.declared.entry.ClassEntry.{ClassEntry}
use Rattle.s80_class.specs.declared.inherited.Totals.{Totals}
use Rattle.s80_class.specs.Classes.{Name, ClassRow, Classes, upwards, then_up, lineage, descends, inherited_in, own_or}
use Rattle.s80_class.specs.Table.{Table, IsNumberOf, IsClass, IsEntryOf, row_of}
use Rattle.s80_class.specs.Kept.{IsKept}
use Rattle.s80_class.specs.Counted.{counted, totals, nothing, over, own, own_of}
use Rattle.s80_class.proofs.lemmas.Lines.{Entry, passes, bytes_eq-self, eq_not}
use Rattle.s80_class.proofs.lemmas.Rows.{Entries, superclass_in, name_is}
use Rattle.s80_class.proofs.Keeping.{ordered_length}
use Rattle.s80_class.proofs.Calls.{shown, entry_of_class, entry_shown}

-- what a walk knows of the table
pub record IsWalked (table : Table) (end : ℕ) : Type 0 where
  pub size : end ≡ map.len table.classes
  pub one_number : (i j : ℕ) (name : Name) → IsNumberOf table.names i name → IsNumberOf table.names j name → i ≡ j
  pub known : (number : ℕ) → IsClass table.names number → (e : ClassEntry) × IsEntryOf table number e

pub walked : (es : Entries) (order : List ℕ) → IsKept es order → (spare : ℕ) (table : Table) → shown es spare ≡ table → (end : ℕ) → end ≡ length order → IsWalked table end
walked es order kept spare table shows end is = record {
  size = is ∙ ordered_length es order kept ∙ ap (λ (t : Table). map.len t.classes) shows;
  one_number = subst (λ (t : Table). (i j : ℕ) (name : Name) → IsNumberOf t.names i name → IsNumberOf t.names j name → i ≡ j) shows kept.one_number;
  known = λ number class.
      let e = entry_of_class es order kept spare table shows number class in
      (e.0, entry_shown es order kept spare table shows number e.0 e.1);
}

-- what is left of the line
abbrev pub left : Table → ℕ → ℕ → Option ℕ → List Entry
left table end counter next = upwards (end - counter) table.classes (superclass_in table.names next)

upwards_none : (count : ℕ) (classes : Classes) → upwards count classes None ≡ []
upwards_none zero classes = refl
upwards_none (suc count) classes = refl

upwards_more : (count : ℕ) (classes : Classes) (name : Name) (row : ClassRow) → map.get classes name ≡ Some row → upwards (suc count) classes (Some name) ≡ (name, row) ∷ upwards count classes row.superclass
upwards_more count classes name row is = ap (λ r. then_up name r (λ (row : ClassRow). upwards count classes row.superclass)) is

pub left_none : (table : Table) (end counter : ℕ) → left table end counter None ≡ []
left_none table end counter = upwards_none (end - counter) table.classes

pub left_end : (table : Table) (end counter : ℕ) (next : Option ℕ) → end ≤ counter → left table end counter next ≡ []
left_end table end counter next le = let none : end - counter ≡ 0 = omega arith in ap (λ n. upwards n table.classes (superclass_in table.names next)) none

pub left_more : (table : Table) (end counter number : ℕ) (e : ClassEntry) → counter < end → IsEntryOf table number e
    → left table end counter (Some number) ≡ (e.class_name, row_of table.names e) ∷ left table end (counter + 1) e.superclass
left_more table end counter number e lt is =
    let more : end - counter ≡ suc (end - (counter + 1)) = omega arith in
    ap (λ n. upwards n table.classes (superclass_in table.names (Some number))) more
    ∙ ap (upwards (suc (end - (counter + 1))) table.classes) (name_is table.names number e.class_name is.named)
    ∙ upwards_more (end - (counter + 1)) table.classes e.class_name (row_of table.names e) is.row

pub same_name : (table : Table) (number : ℕ) (a b : Name) → IsNumberOf table.names number a → IsNumberOf table.names number b → a ≡ b
same_name table number a b is_a is_b = let e : Some (Some a) ≡ Some (Some b) = sym is_a ∙ is_b in cc

-- ---- whether a class comes on the way

pub starts_above : (table : Table) (end c : ℕ) (e : ClassEntry) → IsWalked table end → IsEntryOf table c e → (name other : Name) → IsNumberOf table.names c name
    → descends table.classes name other ≡ passes other (left table end 1 e.superclass)
starts_above table end c e walk is name other named =
    let same : name ≡ e.class_name = same_name table c name e.class_name named is.named in
    ap (λ n. passes other (drop 1 (upwards n table.classes (Some name)))) (sym walk.size) ∙ ap (λ n. passes other (drop 1 (upwards end table.classes (Some n)))) same ∙ ap (passes other) (go end)
  where
    go : (n : ℕ) → drop 1 (upwards n table.classes (Some e.class_name)) ≡ upwards (n - 1) table.classes (superclass_in table.names e.superclass)
    go zero = refl
    go (suc n) =
        let less : suc n - 1 ≡ n = omega arith in
        ap (drop 1) (upwards_more n table.classes e.class_name (row_of table.names e) is.row) ∙ ap (λ k. upwards k table.classes (superclass_in table.names e.superclass)) (sym less)

pub passed_here : (table : Table) (end counter number : ℕ) (other : Name) → IsWalked table end → IsClass table.names number → counter < end → IsNumberOf table.names number other
    → passes other (left table end counter (Some number)) ≡ true
passed_here table end counter number other walk class lt is =
    let e = walk.known number class in
    let same : e.0.class_name ≡ other = same_name table number e.0.class_name other e.1.named is in
    ap (passes other) (left_more table end counter number e.0 lt e.1) ∙ ap (λ b. b || passes other (left table end (counter + 1) e.0.superclass)) (ap (bytes_eq e.0.class_name) (sym same) ∙ bytes_eq-self e.0.class_name)

pub names_differ : (table : Table) (end number of : ℕ) (e : ClassEntry) (other : Name) → IsWalked table end → IsEntryOf table number e → IsNumberOf table.names of other → number ≢ of → bytes_eq e.class_name other ≡ false
names_differ table end number of e other walk is named ne =
    eq_not e.class_name other (λ same. ne (walk.one_number number of other (subst (λ n. IsNumberOf table.names number n) same is.named) named))

pub passed_on : (table : Table) (end counter number of : ℕ) (e : ClassEntry) (other : Name) → IsWalked table end → counter < end → IsEntryOf table number e → IsNumberOf table.names of other → number ≢ of
    → passes other (left table end counter (Some number)) ≡ passes other (left table end (counter + 1) e.superclass)
passed_on table end counter number of e other walk lt is named ne =
    ap (passes other) (left_more table end counter number e lt is) ∙ ap (λ b. b || passes other (left table end (counter + 1) e.superclass)) (names_differ table end number of e other walk is named ne)

-- ---- what was counted

same_totals : (a b : Totals) → a.inst_vars ≡ b.inst_vars → a.class_side_vars ≡ b.class_side_vars → a.kind ≡ b.kind → a ≡ b
same_totals a b p q r = λ i. record { inst_vars = p i; class_side_vars = q i; kind = r i }

or_plain : (k : Kind) → own_or k Plain ≡ k
or_plain Plain = refl
or_plain Pointers = refl
or_plain Bytes = refl
or_plain Words = refl

or_assoc : (a b c : Kind) → own_or (own_or a b) c ≡ own_or a (own_or b c)
or_assoc Plain b c = refl
or_assoc Pointers b c = refl
or_assoc Bytes b c = refl
or_assoc Words b c = refl

count_assoc : (a b c : ℕ) → counted (counted (a + b) + c) ≡ counted (a + counted (b + c))
count_assoc a b c = omega arith

pub over_assoc : (a b c : Totals) → over (over a b) c ≡ over a (over b c)
over_assoc a b c = same_totals _ _ (count_assoc a.inst_vars b.inst_vars c.inst_vars) (count_assoc a.class_side_vars b.class_side_vars c.class_side_vars) (or_assoc a.kind b.kind c.kind)

pub over_nothing : (a b : Totals) → over (over a b) nothing ≡ over a b
over_nothing a b = same_totals _ _ (omega arith) (omega arith) (or_plain (own_or a.kind b.kind))

pub nothing_over : (a b : Totals) → over nothing (over a b) ≡ over a b
nothing_over a b = same_totals _ _ (omega arith) (omega arith) refl

pub totals_more : (e : Entry) (es : List Entry) → totals (inherited_in (e ∷ es)) ≡ over (own_of e.1) (totals (inherited_in es))
totals_more e es =
    same_totals _ _
    (ap counted (sum_by-cons (λ (x : Entry). length x.1.inst_vars) e es) ∙ counted_sum (length e.1.inst_vars) (sum_by (λ (x : Entry). length x.1.inst_vars) es))
    (ap counted (sum_by-cons (λ (x : Entry). length x.1.class_side_vars) e es) ∙ counted_sum (length e.1.class_side_vars) (sum_by (λ (x : Entry). length x.1.class_side_vars) es))
    refl
  where
    counted_sum : (a b : ℕ) → counted (a + b) ≡ counted (counted a + counted b)
    counted_sum a b = omega arith

pub totals_counted : (es : List Entry) → over nothing (totals (inherited_in es)) ≡ totals (inherited_in es)
totals_counted [] = refl
totals_counted (e ∷ es) = ap (over nothing) (totals_more e es) ∙ nothing_over (own_of e.1) (totals (inherited_in es)) ∙ sym (totals_more e es)

-- ---- the steps of a walk

pub counts_on : (table : Table) (end counter number : ℕ) (e : ClassEntry) (t : Totals) → counter < end → IsEntryOf table number e
    → over t (totals (inherited_in (left table end counter (Some number)))) ≡ over (over t (own e.kind e.inst_vars e.class_side_vars)) (totals (inherited_in (left table end (counter + 1) e.superclass)))
counts_on table end counter number e t lt is =
    ap (λ es. over t (totals (inherited_in es))) (left_more table end counter number e lt is)
    ∙ ap (over t) (totals_more (e.class_name, row_of table.names e) (left table end (counter + 1) e.superclass))
    ∙ sym (over_assoc t (own e.kind e.inst_vars e.class_side_vars) (totals (inherited_in (left table end (counter + 1) e.superclass))))

-- the walk begins with the whole line
pub starts_here : (table : Table) (end c : ℕ) (name : Name) → IsWalked table end → IsNumberOf table.names c name → lineage table.classes name ≡ left table end 0 (Some c)
starts_here table end c name walk named =
    ap (λ n. upwards n table.classes (Some name)) (sym walk.size ∙ whole) ∙ ap (upwards (end - 0) table.classes) (sym (name_is table.names c name named))
  where
    whole : end ≡ end - 0
    whole = omega arith
