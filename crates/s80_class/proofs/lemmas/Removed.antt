-- What stays of every other class where a class without subclasses is removed.
use Rattle.std.proofs.Common.{◌≡◌, ◌≢◌, ◌≤◌, ◌∙◌, ℕ, zero, suc, false, refl, sym, ap, List, [], drop, Option, Some, None, is_some}
use Rattle.std.specs.FinMap as map
use Rattle.s80_class.specs.Classes.{Name, ClassRow, Classes, IsLine, IsValid, upwards, then_up, lineage, is_under, descends, has_subclass, inherited_in, inherited_of}
use Rattle.s80_class.proofs.lemmas.Lines.{Entry, passes, get-left, get-gone, lineage_line, line_across, alone_passed, valid-remove}
use Rattle.s80_class.proofs.lemmas.Numbers.{value}
use Rattle.s80_class.proofs.lemmas.Subclasses.{is_alone}
use Rattle.s80_class.proofs.Settled.{not_more}

-- a class that isn't there has no line
pub absent_lineage : (classes : Classes) (q : Name) → map.get classes q ≡ None → lineage classes q ≡ []
absent_lineage classes q none = go (map.len classes)
  where
    go : (n : ℕ) → upwards n classes (Some q) ≡ []
    go zero = refl
    go (suc n) = ap (λ o. then_up q o (λ row. upwards n classes row.superclass)) none

module _ (classes : Classes) (name : Name) where
  -- ---- which classes are left

  pub left_row : (q : Name) (row : ClassRow) → map.get (map.remove classes name) q ≡ Some row → (q ≢ name) × (map.get classes q ≡ Some row)
  left_row q row is =
      let ne : q ≢ name = λ same. let bad : None ≡ Some row = sym (get-gone classes name) ∙ ap (map.get (map.remove classes name)) (sym same) ∙ is in cc in
      (ne, sym (get-left classes name q ne) ∙ is)

  pub left_contains : (q : Name) → q ≢ name → map.contains_key (map.remove classes name) q ≡ map.contains_key classes q
  left_contains q ne = ap is_some (get-left classes name q ne)

  pub left_len : map.len (map.remove classes name) ≤ map.len classes
  left_len = not_more classes name

  module _ (none : has_subclass classes name ≡ false) where
    -- ---- their superclasses

    not_passed : (q : Name) (es : List Entry) → q ≢ name → IsLine classes (Some q) es → passes name es ≡ false
    not_passed q es ne line = alone_passed classes name (is_alone classes name none) (Some q) es (λ same. ne (value same)) line

    pub left_line : (q : Name) (es : List Entry) → q ≢ name → IsLine classes (Some q) es → IsLine (map.remove classes name) (Some q) es
    left_line q es ne line = line_across classes (map.remove classes name) name (get-left classes name) (Some q) es line (not_passed q es ne line)

    module _ (valid : IsValid classes) where
      pub left_valid : IsValid (map.remove classes name)
      left_valid = valid-remove classes name valid (is_alone classes name none)

      pub left_lineage : (q : Name) → q ≢ name → lineage (map.remove classes name) q ≡ lineage classes q
      left_lineage q ne = go (map.get classes q) refl
        where
          go : (o : Option ClassRow) → map.get classes q ≡ o → lineage (map.remove classes name) q ≡ lineage classes q
          go None absent = absent_lineage (map.remove classes name) q (get-left classes name q ne ∙ absent) ∙ sym (absent_lineage classes q absent)
          go (Some row) is =
              let line = valid q row is in
              lineage_line (map.remove classes name) q line.0 (left_line q line.0 ne line.1) ∙ sym (lineage_line classes q line.0 line.1)

      pub left_under : (q other : Name) → q ≢ name → is_under (map.remove classes name) q other ≡ is_under classes q other
      left_under q other ne = ap (passes other) (left_lineage q ne)

      pub left_descends : (q other : Name) → q ≢ name → descends (map.remove classes name) q other ≡ descends classes q other
      left_descends q other ne = ap (λ es. passes other (drop 1 es)) (left_lineage q ne)

      pub left_inherited : (q : Name) → q ≢ name → inherited_of (map.remove classes name) q ≡ inherited_of classes q
      left_inherited q ne = ap inherited_in (left_lineage q ne)

      -- none of them is under it
      pub none_under : (q : Name) → q ≢ name → is_under classes q name ≡ false
      none_under q ne = go (map.get classes q) refl
        where
          go : (o : Option ClassRow) → map.get classes q ≡ o → is_under classes q name ≡ false
          go None absent = ap (passes name) (absent_lineage classes q absent)
          go (Some row) is = let line = valid q row is in ap (passes name) (lineage_line classes q line.0 line.1) ∙ not_passed q line.0 ne line.1
