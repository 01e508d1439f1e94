-- The greatest numbers of variables after a class is put into the map, and that the limits are kept.
use Rattle.std.proofs.Common.{◌≡◌, ◌≤◌, ◌+◌, ◌∙◌, ℕ, Bool, cond, true, false, refl, sym, ap, subst, List, [], ◌∷◌, length, Some, None, is_some, arith, map as list_map}
use Rattle.std.specs.List.{sum_by}
use Rattle.std.specs.FinMap as map
use Rattle.std.proofs.lemmas.List.Sums.{sum_by-cons}
use Rattle.s80_class.specs.Classes.{Name, ClassRow, Classes, IsLine, IsValid, lineage, is_under, Inherited, inherited_in, inherited_of, extent_of, bits_variables_of, is_bits, greatest, family}
use Rattle.s80_class.proofs.lemmas.Lines.{Entry, passes, IsOver, lineage_line, get-here}
use Rattle.s80_apply.specs.Limits.{IsWithin}
use Rattle.s80_class.proofs.lemmas.Most.{at_least, at_most, some_row, listed}
use Rattle.s80_apply.proofs.Defined.{line_of, top, valid_defined, top_line, lineage_defined, unmoved, grown, alone_under, head_row, self_passed}

abbrev greatest_in : (Inherited → ℕ) → Classes → Name → ℕ
greatest_in count classes name = greatest count (list_map (inherited_of classes) (family classes name))

-- a class that is under another counts for it
pub counts : (count : Inherited → ℕ) (classes : Classes) (name q : Name) (row : ClassRow) → map.get classes q ≡ Some row → is_under classes q name ≡ true
    → count (inherited_of classes q) ≤ greatest count (list_map (inherited_of classes) (family classes name))
counts count classes name q row is under = at_least count (inherited_of classes) (λ other. is_under classes other name) q (map.keys classes) 0 under (listed classes q ∙ ap is_some is)

pub bounds : (count : Inherited → ℕ) (classes : Classes) (name : Name) (b : ℕ) → ((q : Name) (row : ClassRow) → map.get classes q ≡ Some row → is_under classes q name ≡ true → count (inherited_of classes q) ≤ b)
    → greatest count (list_map (inherited_of classes) (family classes name)) ≤ b
bounds count classes name b each = at_most count (inherited_of classes) (λ other. is_under classes other name) b (map.keys classes) 0 (omega arith)
    (λ q h under. let r = some_row classes q (sym (listed classes q) ∙ h) in each q r.0 r.1 under)

-- what a class has of bits variables isn't more than its instance variables
bits_below : (t : Inherited) → bits_variables_of t ≤ t.inst_vars
bits_below t = go (is_bits t.kind)
  where
    go : (b : Bool) → cond b t.inst_vars 0 ≤ t.inst_vars
    go true = omega arith
    go false = omega arith

-- so it is over a class and its descendants too
pub bits_extent : (classes : Classes) (name : Name) → (extent_of classes name).bits_variables ≤ (extent_of classes name).inst_vars
bits_extent classes name = bounds bits_variables_of classes name (extent_of classes name).inst_vars (λ q row is under.
    let here : (inherited_of classes q).inst_vars ≤ (extent_of classes name).inst_vars = counts (λ t. t.inst_vars) classes name q row is under in
    omega (arith, bits_below (inherited_of classes q), here))

-- what a class has of its own isn't more than what it has
pub own_side : (classes : Classes) (name : Name) (row : ClassRow) → IsValid classes → map.get classes name ≡ Some row → length row.class_side_vars ≤ (inherited_of classes name).class_side_vars
own_side classes name row valid is = go (lineage classes name) (line_of classes name row valid is)
  where
    go : (es : List Entry) → IsLine classes (Some name) es → length row.class_side_vars ≤ (inherited_in es).class_side_vars
    go [] line = absurd line
    go (e ∷ es) line =
        let same : Some row ≡ Some e.1 = sym is ∙ line.1 in
        let rows : row ≡ e.1 = cc in
        let lengths : length row.class_side_vars ≡ length e.1.class_side_vars = ap (λ (r : ClassRow). length r.class_side_vars) rows in
        omega (arith, lengths, sum_by-cons (λ (e : Entry). length e.1.class_side_vars) e es)

-- ---- the map with one class put in

module _ (classes : Classes) (name : Name) (row : ClassRow) (valid : IsValid classes) (over : IsOver classes name row.superclass) where
  abbrev new : Classes
  new = map.insert classes name row

  under_self : is_under new name name ≡ true
  under_self = ap (passes name) (lineage_defined classes name row valid over) ∙ self_passed new name (top classes name row valid over) (top_line classes name row valid over)

  new_line : (q : Name) (r : ClassRow) → map.get new q ≡ Some r → IsLine new (Some q) (lineage new q)
  new_line q r is = line_of new q r (valid_defined classes name row valid over) is

  -- where the class and its descendants are within the limits, all are
  pub within_defined : IsWithin classes → map.len new ≤ 65536 → (extent_of new name).inst_vars ≤ 64 → (extent_of new name).class_side_vars ≤ 64 → IsWithin new
  within_defined within count inst side = record {
    count = count;
    inst_vars = λ q r is. each (λ t. t.inst_vars) within.inst_vars inst q r is;
    class_side_vars = λ q r is. each (λ t. t.class_side_vars) within.class_side_vars side q r is;
  }
    where
      each : (count : Inherited → ℕ) → ((q : Name) (r : ClassRow) → map.get classes q ≡ Some r → count (inherited_of classes q) ≤ 64)
          → greatest count (list_map (inherited_of new) (family new name)) ≤ 64 → (q : Name) (r : ClassRow) → map.get new q ≡ Some r → count (inherited_of new q) ≤ 64
      each count old most q r is = elim (is_under new q name) as (λ b. is_under new q name ≡ b → count (inherited_of new q) ≤ 64) [
        | true ↦ λ h. let here : count (inherited_of new q) ≤ greatest count (list_map (inherited_of new) (family new name)) = counts count new name q r is h in omega (arith, here, most)
        | false ↦ λ h.
            let line : IsLine classes (Some q) (lineage new q) = unmoved classes name row valid over q (lineage new q) (new_line q r is) h in
            let same : lineage classes q ≡ lineage new q = lineage_line classes q (lineage new q) line in
            let known = head_row classes q (lineage new q) line in
            let before : count (inherited_of classes q) ≤ 64 = old q known.0 known.1 in
            subst (λ (es : List Entry). count (inherited_in es) ≤ 64) same before
      ] refl

  -- a class that wasn't there stands alone
  pub alone_extent : map.get classes name ≡ None → (count : Inherited → ℕ) → greatest count (list_map (inherited_of new) (family new name)) ≡ count (inherited_of new name)
  alone_extent none count =
      let most : greatest count (list_map (inherited_of new) (family new name)) ≤ count (inherited_of new name) =
      bounds count new name (count (inherited_of new name)) (λ q r is h.
      let same : q ≡ name = alone_under classes name row valid over none q (lineage new q) (new_line q r is) h in
      let equal : count (inherited_of new q) ≡ count (inherited_of new name) = ap (λ n. count (inherited_of new n)) same in
      omega (arith, equal)) in
      let least : count (inherited_of new name) ≤ greatest count (list_map (inherited_of new) (family new name)) = counts count new name name row (get-here classes name row) under_self in
      omega (arith, most, least)

  -- a class of before has at most so many more, with its descendants
  pub grown_extent : (old : ClassRow) → map.get classes name ≡ Some old → (of : Entry → ℕ) (count : Inherited → ℕ) → ((es : List Entry) → count (inherited_in es) ≡ sum_by of es) → (b : ℕ)
      → ((q : Name) (r : ClassRow) → map.get classes q ≡ Some r → count (inherited_of classes q) ≤ b)
      → greatest count (list_map (inherited_of new) (family new name)) ≤ b + count (inherited_of new name)
  grown_extent old is of count sums b each = bounds count new name (b + count (inherited_of new name)) (λ q r here h.
      let g = grown classes name row valid over (lineage classes name) (line_of classes name old valid is) (Some q) (lineage new q) (new_line q r here) h in
      let known = head_row classes q g.0 g.1 in
      let same : lineage classes q ≡ g.0 = lineage_line classes q g.0 g.1 in
      let before : count (inherited_in g.0) ≤ b = subst (λ (es : List Entry). count (inherited_in es) ≤ b) same (each q known.0 known.1) in
      let more : sum_by of (lineage new q) ≤ sum_by of g.0 + sum_by of (top classes name row valid over) = g.2 of in
      let mine : count (inherited_of new name) ≡ sum_by of (top classes name row valid over) = ap (λ es. count (inherited_in es)) (lineage_defined classes name row valid over) ∙ sums (top classes name row valid over) in
      omega (arith, before, more, mine, sums (lineage new q), sums g.0))
