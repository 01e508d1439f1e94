-- The greatest among a class and its descendants, where the class comes to have another row, by those that were found.
use Rattle.std.proofs.Common.{◌≡◌, ◌≤◌, ◌<◌, ◌∙◌, ◌+◌, ◌^◌, ◌-◌, inl, inr, ℕ, zero, suc, Bool, cond, true, false, refl, sym, ap, List, [], ◌∷◌, length, get_or, take, fold, max, Option, Some, is_some, arith, slice_get}
use Rattle.std.specs.Str.{bytes_eq}
use Rattle.std.specs.Cmp.Lexicographic.{bytes_decides}
use Rattle.std.specs.FinMap as map
use Rattle.std.proofs.lemmas.Bool.{cases_lt}
use Rattle.std.proofs.lemmas.List.{take_more}
use Rattle.std.proofs.lemmas.List.Sums.{fold_push}
use Rattle.s80_class.specs.declared.inherited.Totals.{Totals}
use Rattle.s80_class.specs.declared.inherited.Greatest.{Greatest}
use Rattle.s80_class.specs.Classes.{Name, ClassRow, Classes, IsLine, IsValid, Inherited, lineage, inherited_in, inherited_of, is_under, is_bits, bits_variables_of, extent_of}
use Rattle.s80_class.specs.Table.{Table, IsNumberOf}
use Rattle.s80_class.specs.Counted.{counted, totals, greatest_of, raised}
use Rattle.s80_class.specs.Family.{Found, IsFamily, least}
use Rattle.s80_class.proofs.lemmas.Lines.{Entry, passes, get-here, get-elsewhere, not_eq, lineage_line}
use Rattle.s80_class.proofs.Indexed.{none_there}
use Rattle.s80_class.proofs.lemmas.Most.{most_of, at_least, at_most, some_row, listed}
use Rattle.s80_class.specs.Known.{IsKnown}
use Rattle.s80_class.proofs.Families.{IsFound, class_found, counts, found_where}

-- ---- the greatest of those that were found

abbrev pub raised_by : List Found → Greatest
raised_by found = fold (λ most p. raised most p.1) least found

pub raised_more : (found : List Found) (index : ℕ) (p d : Found) (most : Greatest) → index < length found → p ≡ get_or found index d → most ≡ raised_by (take index found) → raised most p.1 ≡ raised_by (take (index + 1) found)
raised_more found index p d most lt is so_far =
    ap (λ (g : Greatest). raised g p.1) so_far
    ∙ ap (λ (q : Found). raised (raised_by (take index found)) q.1) is
    ∙ sym (fold_push (λ (most : Greatest) (q : Found). raised most q.1) least (take index found) (get_or found index d))
    ∙ ap raised_by (sym (take_more found index d lt))

abbrev most_in : (Totals → ℕ) → ℕ → List Found → ℕ
most_in f m found = fold (λ most p. max most (f p.1)) m found

abbrev bits_of : Totals → ℕ
bits_of t = cond (is_bits t.kind) t.inst_vars 0

most_inst_vars : (found : List Found) (g : Greatest) → (fold (λ (most : Greatest) (p : Found). raised most p.1) g found).inst_vars ≡ most_in (λ t. t.inst_vars) g.inst_vars found
most_inst_vars [] g = refl
most_inst_vars (p ∷ found) g = most_inst_vars found (raised g p.1)

most_class_side_vars : (found : List Found) (g : Greatest) → (fold (λ (most : Greatest) (p : Found). raised most p.1) g found).class_side_vars ≡ most_in (λ t. t.class_side_vars) g.class_side_vars found
most_class_side_vars [] g = refl
most_class_side_vars (p ∷ found) g = most_class_side_vars found (raised g p.1)

most_bits_variables : (found : List Found) (g : Greatest) → (fold (λ (most : Greatest) (p : Found). raised most p.1) g found).bits_variables ≡ most_in bits_of g.bits_variables found
most_bits_variables [] g = refl
most_bits_variables (p ∷ found) g = most_bits_variables found (raised g p.1)

module _ (f : Totals → ℕ) where
  begins : (found : List Found) (m : ℕ) → m ≤ most_in f m found
  begins [] m = omega arith
  begins (p ∷ found) m = let rest : max m (f p.1) ≤ most_in f (max m (f p.1)) found = begins found (max m (f p.1)) in omega (arith, rest)

  reaches : (found : List Found) (m k : ℕ) (p : Found) → slice_get found k ≡ Some p → f p.1 ≤ most_in f m found
  reaches [] m k p is = absurd (none_there k p is)
  reaches (q ∷ found) m zero p is =
      let same : q ≡ p = cc in
      let here : f q.1 ≡ f p.1 = ap (λ (x : Found). f x.1) same in
      let rest : max m (f q.1) ≤ most_in f (max m (f q.1)) found = begins found (max m (f q.1)) in omega (arith, rest, here)
  reaches (q ∷ found) m (suc k) p is = reaches found (max m (f q.1)) k p is

  stays : (bound : ℕ) (found : List Found) (m : ℕ) → m ≤ bound → ((k : ℕ) (p : Found) → slice_get found k ≡ Some p → f p.1 ≤ bound) → most_in f m found ≤ bound
  stays bound [] m le each = le
  stays bound (p ∷ found) m le each = let here : f p.1 ≤ bound = each 0 p refl in stays bound found (max m (f p.1)) (omega (arith, here)) (λ k q is. each (suc k) q is)

-- ---- the extent

same_greatest : (a b : Greatest) → a.inst_vars ≡ b.inst_vars → a.class_side_vars ≡ b.class_side_vars → a.bits_variables ≡ b.bits_variables → a ≡ b
same_greatest a b p q r = λ i. record { inst_vars = p i; class_side_vars = q i; bits_variables = r i }

counted_bits : (b : Bool) (n : ℕ) → cond b (counted n) 0 ≡ counted (cond b n 0)
counted_bits true n = refl
counted_bits false n = refl

-- ---- where all that were found were looked at, they are the class and its descendants

module _ (table : Table) (is : IsKnown table) (c : ℕ) (top : Totals) (found : List Found) (next : ℕ) (so_far : IsFound table c top found next) (done : length found ≤ next) (name : Name) (row : ClassRow)
    (named : IsNumberOf table.names c name) (valid : IsValid (map.insert table.classes name row)) (is_top : top ≡ totals (inherited_of (map.insert table.classes name row) name)) where
  abbrev new : Classes
  new = map.insert table.classes name row

  row_after : (k : Name) (r : ClassRow) → map.get table.classes k ≡ Some r → (r' : ClassRow) × (map.get new k ≡ Some r')
  row_after k r at = elim (bytes_eq k name) as (λ b. bytes_eq k name ≡ b → (r' : ClassRow) × (map.get new k ≡ Some r')) [
    | true ↦ λ t. (row, ap (map.get new) ((bytes_decides k name).0 t) ∙ get-here table.classes name row)
    | false ↦ λ t. (r, get-elsewhere table.classes name row k (not_eq k name t) ∙ at)
  ] refl

  -- one that was found, by its line
  counts_here : (k : ℕ) (p : Found) (q : Name) (es : List Entry) → slice_get found k ≡ Some p → IsNumberOf table.names p.0 q → IsLine new (Some q) es → (is_under new q name ≡ true) × (p.1 ≡ totals (inherited_of new q))
  counts_here k p q es at named_q line =
      let tops = valid name row (get-here table.classes name row) in
      let of_top : top ≡ totals (inherited_in tops.0) = is_top ∙ ap (λ xs. totals (inherited_in xs)) (lineage_line new name tops.0 tops.1) in
      let h = counts table is c top name named found next so_far new (get-elsewhere table.classes name row) k p q es at named_q line in
      let same : lineage new q ≡ es = lineage_line new q es line in
      (ap (passes name) same ∙ h.0, h.1 tops.0 tops.1 of_top ∙ ap (λ xs. totals (inherited_in xs)) (sym same))

  pub are_family : IsFamily table.names new name found
  are_family = record {
    distinct = so_far.distinct;
    each = λ k p at.
        let q = class_found table is c top name named found next so_far k p at in
        let old = is.known p.0 q.0 q.1 in
        let r = row_after q.0 old.0 old.1 in
        let line = valid q.0 r.0 r.1 in
        let h = counts_here k p q.0 line.0 at q.1 line.1 in
        (q.0, q.1, ap is_some r.1, h.0, h.1);
    all = λ q key under.
        let r = some_row new q key in
        let line = valid q r.0 r.1 in
        let passed : passes name line.0 ≡ true = ap (passes name) (sym (lineage_line new q line.0 line.1)) ∙ under in
        let h = found_where table is c top name named found next so_far new (get-elsewhere table.classes name row) done q line.0 line.1 passed in
        (h.0, h.1, h.2, h.3, (counts_here h.0 h.1 q line.0 h.2 h.3 line.1).1);
  }

-- ---- the greatest of a family

module _ (names : List (Option Name)) (classes : Classes) (name : Name) (found : List Found) (family : IsFamily names classes name found) where
  module _ (count : Inherited → ℕ) (f : Totals → ℕ) (alike : (u : Inherited) → f (totals u) ≡ counted (count u)) where
    abbrev whole : ℕ
    whole = most_of count (inherited_of classes) (λ q. is_under classes q name) 0 (map.keys classes)

    not_above : most_in f 0 found ≤ counted whole
    not_above = stays f (counted whole) found 0 (omega arith) (λ k p at.
        let q = family.each k p at in
        let is_count : f p.1 ≡ counted (count (inherited_of classes q.0)) = ap f q.4 ∙ alike (inherited_of classes q.0) in
        let le : count (inherited_of classes q.0) ≤ whole = at_least count (inherited_of classes) (λ x. is_under classes x name) q.0 (map.keys classes) 0 q.3 (listed classes q.0 ∙ q.2) in
        omega (arith, is_count, le))

    not_below : counted whole ≤ most_in f 0 found
    not_below = elim (cases_lt (most_in f 0 found) (2 ^ 64 - 1)) as (λ _. counted whole ≤ most_in f 0 found) [
      | inl lt ↦
          let le : whole ≤ most_in f 0 found = at_most count (inherited_of classes) (λ x. is_under classes x name) (most_in f 0 found) (map.keys classes) 0 (omega arith) (λ q key under.
          let p = family.all q (sym (listed classes q) ∙ key) under in
          let is_count : f p.1.1 ≡ counted (count (inherited_of classes q)) = ap f p.4 ∙ alike (inherited_of classes q) in
          let reached : f p.1.1 ≤ most_in f 0 found = reaches f found 0 p.0 p.1 p.2 in
          omega (arith, is_count, reached, lt)) in
          omega (arith, le)
      | inr ge ↦ omega arith
    ]

    one_count : most_in f 0 found ≡ counted whole
    one_count = omega (arith, not_above, not_below)

  pub greatest_found : raised_by found ≡ greatest_of (extent_of classes name)
  greatest_found =
      same_greatest _ _
      (most_inst_vars found least ∙ one_count (λ t. t.inst_vars) (λ t. t.inst_vars) (λ u. refl))
      (most_class_side_vars found least ∙ one_count (λ t. t.class_side_vars) (λ t. t.class_side_vars) (λ u. refl))
      (most_bits_variables found least ∙ one_count bits_variables_of bits_of (λ u. counted_bits (is_bits u.kind) u.inst_vars))
