-- The lines of superclasses after a class is put into the map, and what is inherited along them.
use Rattle.std.proofs.Common.{◌≡◌, ◌≢◌, ◌≤◌, ◌+◌, ◌∙◌, ◌||◌, ℕ, true, false, zero, suc, refl, sym, ap, subst, List, [], ◌∷◌, Option, Some, None, true≢false, arith}
use Rattle.std.specs.List.{sum_by}
use Rattle.std.specs.Str.{bytes_eq}
use Rattle.std.specs.Cmp.Lexicographic.{bytes_decides}
use Rattle.std.specs.FinMap as map
use Rattle.std.proofs.lemmas.List.Sums.{sum_by-cons}
use Rattle.s80_class.specs.Classes.{Name, ClassRow, Classes, IsLine, IsValid, upwards, then_up, lineage, is_under, inherited_in, inherited_of}
use Rattle.s80_class.proofs.lemmas.Lines.{Entry, passes, bytes_eq-self, not_eq, get-here, get-elsewhere, one_line, line_across, lineage_line, IsOver, valid-insert, absent_passed}

-- ---- lines of a valid map

pub line_of : (classes : Classes) (q : Name) (row : ClassRow) → IsValid classes → map.get classes q ≡ Some row → IsLine classes (Some q) (lineage classes q)
line_of classes q row valid is = let l = valid q row is in subst (λ es. IsLine classes (Some q) es) (sym (lineage_line classes q l.0 l.1)) l.1

-- a class that isn't there has no line
pub no_lineage : (classes : Classes) (q : Name) → map.get classes q ≡ None → lineage classes q ≡ []
no_lineage classes q none = go (map.len classes)
  where
    go : (n : ℕ) → upwards n classes (Some q) ≡ []
    go zero = refl
    go (suc n) = ap (λ r. then_up q r (λ row. upwards n classes row.superclass)) none

abbrev pub over_of : (classes : Classes) (name above : Name) (row : ClassRow) → IsValid classes → map.get classes above ≡ Some row → is_under classes above name ≡ false → IsOver classes name (Some above)
over_of classes name above row valid is h = (lineage classes above, line_of classes above row valid is, h)

-- the class at the head of a line
pub head_row : (classes : Classes) (q : Name) (es : List Entry) → IsLine classes (Some q) es → (row : ClassRow) × (map.get classes q ≡ Some row)
head_row classes q [] line = absurd line
head_row classes q (e ∷ es) line = (e.1, line.1)

-- a class is under itself
pub self_passed : (classes : Classes) (q : Name) (es : List Entry) → IsLine classes (Some q) es → passes q es ≡ true
self_passed classes q [] line = absurd line
self_passed classes q (e ∷ es) line = ap (λ b. b || passes q es) (ap (λ n. bytes_eq n q) line.0 ∙ bytes_eq-self q)

-- ---- the map with one class put in

module _ (classes : Classes) (name : Name) (row : ClassRow) (valid : IsValid classes) (over : IsOver classes name row.superclass) where
  abbrev pub defined : Classes
  defined = map.insert classes name row

  abbrev pub top : List Entry
  top = (name, row) ∷ over.0

  pub valid_defined : IsValid defined
  valid_defined = valid-insert classes name row valid over

  pub top_line : IsLine defined (Some name) top
  top_line = (refl, get-here classes name row, line_across classes defined name (get-elsewhere classes name row) row.superclass over.0 over.1 over.2)

  pub lineage_defined : lineage defined name ≡ top
  lineage_defined = lineage_line defined name top top_line

  pub inherited_defined : inherited_of defined name ≡ inherited_in top
  inherited_defined = ap inherited_in lineage_defined

  -- a line that doesn't come by the class is one of before
  pub unmoved : (q : Name) (es : List Entry) → IsLine defined (Some q) es → passes name es ≡ false → IsLine classes (Some q) es
  unmoved q es line h = line_across defined classes name (λ p ne. sym (get-elsewhere classes name row p ne)) (Some q) es line h

  -- a line that comes by the class goes on from there as the class's own does
  pub grown : (before : List Entry) → IsLine classes (Some name) before → (p : Option Name) (es : List Entry) → IsLine defined p es → passes name es ≡ true
      → (fs : List Entry) × IsLine classes p fs × ((count : Entry → ℕ) → sum_by count es ≤ sum_by count fs + sum_by count top)
  grown before old p [] line h = absurd (true≢false (sym h))
  grown before old None (e ∷ es) line h = absurd line
  grown before old (Some q) (e ∷ es) line h =
      elim (bytes_eq e.0 name) as (λ b. bytes_eq e.0 name ≡ b → (b || passes name es) ≡ true → (fs : List Entry) × IsLine classes (Some q) fs × ((count : Entry → ℕ) → sum_by count (e ∷ es) ≤ sum_by count fs + sum_by count top)) [
        | true ↦ λ is _.
            let same : name ≡ q = sym ((bytes_decides e.0 name).0 is) ∙ line.0 in
            let all : e ∷ es ≡ top = one_line defined (Some name) (e ∷ es) top (subst (λ (n : Name). IsLine defined (Some n) (e ∷ es)) (sym same) line) top_line in
            (before, subst (λ (n : Name). IsLine classes (Some n) before) same old, λ count. let sums : sum_by count (e ∷ es) ≡ sum_by count top = ap (sum_by count) all in omega (arith, sums))
        | false ↦ λ is h'.
            let ne : q ≢ name = λ eq. not_eq e.0 name is (line.0 ∙ eq) in
            let rest = grown before old e.1.superclass es line.2 h' in (
              e ∷ rest.0,
              (line.0, sym (get-elsewhere classes name row q ne) ∙ line.1, rest.1),
              λ count. let more : sum_by count es ≤ sum_by count rest.0 + sum_by count top = rest.2 count in omega (arith, sum_by-cons count e es, sum_by-cons count e rest.0, more),
            )
      ] refl h

  -- only a new class is under itself
  pub alone_under : map.get classes name ≡ None → (q : Name) (es : List Entry) → IsLine defined (Some q) es → passes name es ≡ true → q ≡ name
  alone_under none q es line h = elim (bytes_eq q name) as (λ b. bytes_eq q name ≡ b → q ≡ name) [
    | true ↦ λ is. (bytes_decides q name).0 is
    | false ↦ λ is.
        let ne : q ≢ name = not_eq q name is in
        let r = head_row defined q es line in
        let l = valid q r.0 (sym (get-elsewhere classes name row q ne) ∙ r.1) in
        let without : passes name l.0 ≡ false = absent_passed classes name none (Some q) l.0 l.1 in
        let again : IsLine defined (Some q) l.0 = line_across classes defined name (get-elsewhere classes name row) (Some q) l.0 l.1 without in
        let same : es ≡ l.0 = one_line defined (Some q) es l.0 line again in
        absurd (true≢false (sym h ∙ ap (passes name) same ∙ without))
  ] refl
