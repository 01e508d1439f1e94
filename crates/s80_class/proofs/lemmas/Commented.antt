-- What doesn't hang on the comments of classes.
use Rattle.std.proofs.Common.{◌≡◌, ◌∙◌, ◌+◌, ℕ, refl, sym, ap, List, [], ◌∷◌, length, map as list_map, Option}
use Rattle.std.specs.List.{filter, sum_by}
use Rattle.std.specs.FinMap as map
use Rattle.std.proofs.lemmas.List.Sums.{sum_by-cons}
use Rattle.s80_class.specs.Classes.{Name, ClassRow, Classes, IsLine, IsValid, lineage, is_under, descends, has_subclass, change_row, with_comment, own_or, effective_kind, inherited_in, inherited_of, extent_in, extent_of}
use Rattle.s80_class.proofs.lemmas.Lines.{Entry}
use Rattle.s80_class.proofs.lemmas.Alike.{AreAlike, seen, alike_len, alike_contains, alike_lineage, alike_line, alike_valid, alike_under, alike_descends, alike_has_subclass}
use Rattle.s80_class.proofs.lemmas.Changed.{changed_alike}

-- a row without its comment
abbrev pub bare : ClassRow → ClassRow
bare row = with_comment [] row

-- the classes are the same but for comments
abbrev pub AreCommented : Classes → Classes → Type 0
AreCommented classes other = AreAlike bare classes other

pub are_commented : (text : List ℕ) (name : Name) (classes : Classes) → AreCommented classes (change_row (with_comment text) name classes)
are_commented text name classes = changed_alike (with_comment text) name classes bare (λ row. refl)

sum_by-map : (count : Entry → ℕ) (f : Entry → Entry) (es : List Entry) → sum_by count (list_map f es) ≡ sum_by (λ e. count (f e)) es
sum_by-map count f [] = refl
sum_by-map count f (e ∷ es) = sum_by-cons count (f e) (list_map f es) ∙ ap (λ n. count (f e) + n) (sum_by-map count f es) ∙ sym (sum_by-cons (λ e. count (f e)) e es)

kind_bare : (es : List Entry) → effective_kind (list_map (seen bare) es) ≡ effective_kind es
kind_bare [] = refl
kind_bare (e ∷ es) = ap (own_or e.1.kind) (kind_bare es)

inherited_bare : (es : List Entry) → inherited_in (list_map (seen bare) es) ≡ inherited_in es
inherited_bare es =
    let inst_vars : sum_by (λ e. length e.1.inst_vars) (list_map (seen bare) es) ≡ sum_by (λ e. length e.1.inst_vars) es = sum_by-map (λ e. length e.1.inst_vars) (seen bare) es in
    let class_side_vars : sum_by (λ e. length e.1.class_side_vars) (list_map (seen bare) es) ≡ sum_by (λ e. length e.1.class_side_vars) es = sum_by-map (λ e. length e.1.class_side_vars) (seen bare) es in
    λ i. record { inst_vars = inst_vars i; class_side_vars = class_side_vars i; kind = kind_bare es i }

module _ (classes other : Classes) (alike : AreCommented classes other) where
  abbrev above : ClassRow → Option Name
  above row = row.superclass

  pub commented_len : map.len other ≡ map.len classes
  commented_len = alike_len bare classes other alike

  pub commented_contains : (q : Name) → map.contains_key other q ≡ map.contains_key classes q
  commented_contains q = alike_contains bare classes other alike q

  -- a class and its superclasses, without their comments
  pub commented_lineage : (q : Name) → list_map (seen bare) (lineage other q) ≡ list_map (seen bare) (lineage classes q)
  commented_lineage q = alike_lineage bare classes other alike above (λ row. refl) q

  pub commented_line : (p : Option Name) (es : List Entry) → IsLine classes p es → (fs : List Entry) × IsLine other p fs
  commented_line p es line = alike_line bare classes other alike above (λ row. refl) p es line

  pub commented_valid : IsValid classes → IsValid other
  commented_valid valid = alike_valid bare classes other alike above (λ row. refl) valid

  pub commented_under : (q name : Name) → is_under other q name ≡ is_under classes q name
  commented_under q name = alike_under bare classes other alike above (λ row. refl) q name

  pub commented_descends : (q name : Name) → descends other q name ≡ descends classes q name
  commented_descends q name = alike_descends bare classes other alike above (λ row. refl) q name

  pub commented_has_subclass : (name : Name) → has_subclass other name ≡ has_subclass classes name
  commented_has_subclass name = alike_has_subclass bare classes other alike above (λ row. refl) name

  pub commented_inherited : (q : Name) → inherited_of other q ≡ inherited_of classes q
  commented_inherited q = sym (inherited_bare (lineage other q)) ∙ ap inherited_in (commented_lineage q) ∙ inherited_bare (lineage classes q)

  pub commented_extent : (name : Name) → extent_of other name ≡ extent_of classes name
  commented_extent name = λ i. extent_in (list_map (λ q. commented_inherited q i) (filter (λ q. commented_under q name i) (alike.keys i)))
