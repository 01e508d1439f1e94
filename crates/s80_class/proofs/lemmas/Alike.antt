-- Two maps of the same classes, of which each has so much of its row in both.
use Rattle.std.proofs.Common.{◌≡◌, ◌∙◌, ◌||◌, ℕ, zero, suc, Bool, false, refl, sym, ap, subst, List, [], ◌∷◌, length, drop, map as list_map, Option, Some, None, is_some}
use Rattle.std.specs.List.{list_any}
use Rattle.std.specs.Option.{option_map, option_map_or}
use Rattle.std.specs.Str.{bytes_eq}
use Rattle.std.specs.FinMap as map
use Rattle.std.proofs.lemmas.List.{length-map, drop-map}
use Rattle.s80_class.specs.Classes.{Name, ClassRow, Classes, IsLine, IsValid, upwards, then_up, lineage, is_under, descends, is_right_below, has_subclass}
use Rattle.s80_class.proofs.lemmas.Lines.{Entry, passes}
use Rattle.s80_class.proofs.lemmas.Numbers.{value}

pub record AreAlike {V : Type 0} (view : ClassRow → V) (classes other : Classes) : Type 0 where
  pub keys : map.keys other ≡ map.keys classes
  pub rows : (q : Name) → option_map view (map.get other q) ≡ option_map view (map.get classes q)

-- a class with so much of its row
abbrev pub seen : {V : Type 0} → (ClassRow → V) → Entry → Name × V
seen view e = (e.0, view e.1)

pub alike_itself : {V : Type 0} (view : ClassRow → V) (classes : Classes) → AreAlike view classes classes
alike_itself view classes = record { keys = refl; rows = λ q. refl }

-- they are alike in less
pub alike_less : {V W : Type 0} (view : ClassRow → V) (less : V → W) (classes other : Classes) → AreAlike view classes other → AreAlike (λ row. less (view row)) classes other
alike_less view less classes other alike = record {
  keys = alike.keys;
  rows = λ q. sym (twice (map.get other q)) ∙ ap (option_map less) (alike.rows q) ∙ twice (map.get classes q);
}
  where
    twice : (o : Option ClassRow) → option_map less (option_map view o) ≡ option_map (λ row. less (view row)) o
    twice None = refl
    twice (Some row) = refl

module _ {V : Type 0} (view : ClassRow → V) (classes other : Classes) (alike : AreAlike view classes other) where
  -- ---- the classes

  pub alike_len : map.len other ≡ map.len classes
  alike_len = size other ∙ ap length alike.keys ∙ sym (size classes)
    where
      size : (m : Classes) → map.len m ≡ length (map.keys m)
      size m = map.len-entries m ∙ sym (length-map (map.entries m) (λ (e : Entry). e.0))

  pub alike_contains : (q : Name) → map.contains_key other q ≡ map.contains_key classes q
  alike_contains q = there (map.get other q) ∙ ap is_some (alike.rows q) ∙ sym (there (map.get classes q))
    where
      there : (o : Option ClassRow) → is_some o ≡ is_some (option_map view o)
      there None = refl
      there (Some row) = refl

  row_seen : (o : Option ClassRow) (v : V) → option_map view o ≡ Some v → (row : ClassRow) × (o ≡ Some row) × (view row ≡ v)
  row_seen None v is = let bad : None ≡ Some v = is in cc
  row_seen (Some row) v is = (row, refl, value is)

  pub alike_row : (q : Name) (row : ClassRow) → map.get classes q ≡ Some row → (now : ClassRow) × (map.get other q ≡ Some now) × (view now ≡ view row)
  alike_row q row is = row_seen (map.get other q) (view row) (alike.rows q ∙ ap (option_map view) is)

  pub alike_row_back : (q : Name) (now : ClassRow) → map.get other q ≡ Some now → (row : ClassRow) × (map.get classes q ≡ Some row) × (view row ≡ view now)
  alike_row_back q now is = row_seen (map.get classes q) (view now) (sym (alike.rows q) ∙ ap (option_map view) is)

  -- ---- their superclasses, where so much tells them

  module _ (above : V → Option Name) (tells : (row : ClassRow) → above (view row) ≡ row.superclass) where
    same_above : (r s : ClassRow) → view r ≡ view s → r.superclass ≡ s.superclass
    same_above r s same = sym (tells r) ∙ ap above same ∙ tells s

    one_up : (n : ℕ) (q : Name) → ((p : Option Name) → list_map (seen view) (upwards n other p) ≡ list_map (seen view) (upwards n classes p))
        → (now before : Option ClassRow) → option_map view now ≡ option_map view before
        → list_map (seen view) (then_up q now (λ row. upwards n other row.superclass)) ≡ list_map (seen view) (then_up q before (λ row. upwards n classes row.superclass))
    one_up n q up None None is = refl
    one_up n q up None (Some s) is = let bad : None ≡ Some (view s) = is in cc
    one_up n q up (Some r) None is = let bad : Some (view r) ≡ None = is in cc
    one_up n q up (Some r) (Some s) is =
        let same : view r ≡ view s = value is in
        let rest : list_map (seen view) (upwards n other r.superclass) ≡ list_map (seen view) (upwards n classes s.superclass) =
        up r.superclass ∙ ap (λ p. list_map (seen view) (upwards n classes p)) (same_above r s same) in
        λ i. (q, same i) ∷ rest i

    pub alike_upwards : (n : ℕ) (p : Option Name) → list_map (seen view) (upwards n other p) ≡ list_map (seen view) (upwards n classes p)
    alike_upwards zero p = refl
    alike_upwards (suc n) None = refl
    alike_upwards (suc n) (Some q) = one_up n q (λ p. alike_upwards n p) (map.get other q) (map.get classes q) (alike.rows q)

    -- the line of a class, so much of each
    pub alike_lineage : (q : Name) → list_map (seen view) (lineage other q) ≡ list_map (seen view) (lineage classes q)
    alike_lineage q = ap (λ n. list_map (seen view) (upwards n other (Some q))) alike_len ∙ alike_upwards (map.len classes) (Some q)

    pub alike_line : (p : Option Name) (es : List Entry) → IsLine classes p es → (fs : List Entry) × IsLine other p fs
    alike_line None es line = ([], tt)
    alike_line (Some q) [] line = absurd line
    alike_line (Some q) (e ∷ es) line =
        let now = alike_row q e.1 line.1 in
        let rest = alike_line e.1.superclass es line.2 in
        ((q, now.0) ∷ rest.0, (refl, now.1, subst (λ p. IsLine other p rest.0) (sym (same_above now.0 e.1 now.2)) rest.1))

    pub alike_valid : IsValid classes → IsValid other
    alike_valid valid q now is =
        let row = alike_row_back q now is in
        let line = valid q row.0 row.1 in
        alike_line (Some q) line.0 line.1

    -- ---- which class is under which

    passes_seen : (name : Name) (es : List Entry) → list_any (λ (e : Name × V). bytes_eq e.0 name) (list_map (seen view) es) ≡ passes name es
    passes_seen name [] = refl
    passes_seen name (e ∷ es) = ap (λ b. bytes_eq e.0 name || b) (passes_seen name es)

    passes_same : (name : Name) (fs es : List Entry) → list_map (seen view) fs ≡ list_map (seen view) es → passes name fs ≡ passes name es
    passes_same name fs es same = sym (passes_seen name fs) ∙ ap (list_any (λ (e : Name × V). bytes_eq e.0 name)) same ∙ passes_seen name es

    pub alike_under : (q name : Name) → is_under other q name ≡ is_under classes q name
    alike_under q name = passes_same name (lineage other q) (lineage classes q) (alike_lineage q)

    pub alike_descends : (q name : Name) → descends other q name ≡ descends classes q name
    alike_descends q name =
        passes_same name (drop 1 (lineage other q)) (drop 1 (lineage classes q))
        (sym (drop-map (seen view) 1 (lineage other q)) ∙ ap (drop 1) (alike_lineage q) ∙ drop-map (seen view) 1 (lineage classes q))

    abbrev is_right_above : Name → Option V → Bool
    is_right_above name o = option_map_or (λ v. option_map_or (bytes_eq name) (above v) false) o false

    told_below : (name : Name) (o : Option ClassRow) → is_right_below name o ≡ is_right_above name (option_map view o)
    told_below name None = refl
    told_below name (Some row) = ap (λ p. option_map_or (bytes_eq name) p false) (sym (tells row))

    right_below : (name q : Name) → is_right_below name (map.get other q) ≡ is_right_below name (map.get classes q)
    right_below name q = told_below name (map.get other q) ∙ ap (is_right_above name) (alike.rows q) ∙ sym (told_below name (map.get classes q))

    pub alike_has_subclass : (name : Name) → has_subclass other name ≡ has_subclass classes name
    alike_has_subclass name = λ i. list_any (λ q. right_below name q i) (alike.keys i)
