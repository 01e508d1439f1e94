-- What doesn't hang on the class-side variables of classes.
use Rattle.std.proofs.Common.{◌≡◌, ◌∙◌, ◌+◌, ℕ, if◌then◌else◌, refl, sym, ap, subst, List, [], ◌∷◌, length, map as list_map, Option, Some}
use Rattle.std.specs.List.{sum_by}
use Rattle.std.specs.FinMap as map
use Rattle.std.proofs.lemmas.List.Sums.{sum_by-cons}
use Rattle.s80_class.specs.Classes.{Name, ClassRow, Classes, IsLine, IsValid, bits_variables_of, change_row, effective_kind, inherited_of, is_bits, is_under, lineage, own_or, with_class_side_vars}
use Rattle.s80_class.proofs.lemmas.Lines.{Entry, IsOver, never_again}
use Rattle.s80_class.proofs.lemmas.Alike.{AreAlike, seen, alike_lineage, alike_row_back, alike_under, alike_valid}
use Rattle.s80_class.proofs.lemmas.Changed.{changed_alike}

-- a row without them
abbrev sideless : ClassRow → ClassRow
sideless row = with_class_side_vars [] row

sums_seen : (count : ClassRow → ℕ) → ((row : ClassRow) → count (sideless row) ≡ count row) → (es : List Entry) → sum_by (λ e. count e.1) (list_map (seen sideless) es) ≡ sum_by (λ e. count e.1) es
sums_seen count same [] = refl
sums_seen count same (e ∷ es) =
    sum_by-cons (λ (e : Entry). count e.1) (seen sideless e) (list_map (seen sideless) es) ∙ (λ i. same e.1 i + sums_seen count same es i) ∙ sym (sum_by-cons (λ (e : Entry). count e.1) e es)

kinds_seen : (es : List Entry) → effective_kind (list_map (seen sideless) es) ≡ effective_kind es
kinds_seen [] = refl
kinds_seen (e ∷ es) = ap (own_or e.1.kind) (kinds_seen es)

abbrev inst_sum : List Entry → ℕ
inst_sum es = sum_by (λ e. length e.1.inst_vars) es

inst_seen : (es : List Entry) → inst_sum (list_map (seen sideless) es) ≡ inst_sum es
inst_seen es = sums_seen (λ row. length row.inst_vars) (λ row. refl) es

module _ (name : Name) (names : List Name) (classes : Classes) where
  abbrev given : Classes
  given = change_row (with_class_side_vars names) name classes

  alike : AreAlike sideless classes given
  alike = changed_alike (with_class_side_vars names) name classes sideless (λ row. refl)

  abbrev above : ClassRow → Option Name
  above row = row.superclass

  -- the same classes are there
  pub given_before : (q : Name) (now : ClassRow) → map.get given q ≡ Some now → (row : ClassRow) × (map.get classes q ≡ Some row)
  given_before q now is = let row = alike_row_back sideless classes given alike q now is in (row.0, row.1)

  pub given_valid : IsValid classes → IsValid given
  given_valid valid = alike_valid sideless classes given alike above (λ row. refl) valid

  pub given_under : (q other : Name) → is_under given q other ≡ is_under classes q other
  given_under q other = alike_under sideless classes given alike above (λ row. refl) q other

  same_line : (q : Name) → list_map (seen sideless) (lineage given q) ≡ list_map (seen sideless) (lineage classes q)
  same_line q = alike_lineage sideless classes given alike above (λ row. refl) q

  pub given_inst_vars : (q : Name) → (inherited_of given q).inst_vars ≡ (inherited_of classes q).inst_vars
  given_inst_vars q = sym (inst_seen (lineage given q)) ∙ ap inst_sum (same_line q) ∙ inst_seen (lineage classes q)

  pub given_kind : (q : Name) → (inherited_of given q).kind ≡ (inherited_of classes q).kind
  given_kind q = sym (kinds_seen (lineage given q)) ∙ ap effective_kind (same_line q) ∙ kinds_seen (lineage classes q)

  pub given_bits : (q : Name) → bits_variables_of (inherited_of given q) ≡ bits_variables_of (inherited_of classes q)
  given_bits q = λ i. if is_bits (given_kind q i) then given_inst_vars q i else 0

-- a class isn't above itself
pub over_own : (classes : Classes) (name : Name) (row : ClassRow) → IsValid classes → map.get classes name ≡ Some row → IsOver classes name row.superclass
over_own classes name row valid is = let line = valid name row is in go line.0 line.1
  where
    go : (es : List Entry) → IsLine classes (Some name) es → IsOver classes name row.superclass
    go [] line = absurd line
    go (e ∷ es) line =
        let both : Some e.1 ≡ Some row = sym line.1 ∙ is in
        let rows : e.1 ≡ row = cc in
        (es, subst (λ (r : ClassRow). IsLine classes r.superclass es) rows line.2, never_again classes name e es line)
