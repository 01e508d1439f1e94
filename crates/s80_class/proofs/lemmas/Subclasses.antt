-- Whether some class has a class as its superclass.
use Rattle.std.proofs.Common.{◌≡◌, ◌≢◌, ◌∙◌, ℕ, Bool, true, false, refl, sym, ap, [], get_or, Option, Some, None, true≢false}
use Rattle.std.specs.Option.{option_map_or}
use Rattle.std.specs.Str.{bytes_eq}
use Rattle.std.specs.Cmp.Lexicographic.{bytes_decides}
use Rattle.std.specs.FinMap as map
use Rattle.std.proofs.lemmas.List.Folds.{list_any_at}
use Rattle.s80_class.specs.Classes.{Name, ClassRow, Classes, is_right_below, has_subclass}
use Rattle.s80_class.specs.Table.{Table, IsNumberOf}
use Rattle.s80_class.proofs.Keys.{any_at, key_of_class}
use Rattle.s80_class.proofs.lemmas.Lines.{bytes_eq-self}
use Rattle.s80_class.proofs.lemmas.Walks.{same_name}

row_below : (name : Name) (o : Option ClassRow) → is_right_below name o ≡ true → (row : ClassRow) × (o ≡ Some row) × (row.superclass ≡ Some name)
row_below name None h = absurd (true≢false (sym h))
row_below name (Some row) h = (row, refl, go row.superclass h)
  where
    go : (p : Option Name) → option_map_or (bytes_eq name) p false ≡ true → p ≡ Some name
    go None h = absurd (true≢false (sym h))
    go (Some q) h = ap Some (sym ((bytes_decides name q).0 h))

-- ---- in a map

module _ (classes : Classes) (name : Name) where
  pub has_one : (q : Name) (row : ClassRow) → map.get classes q ≡ Some row → row.superclass ≡ Some name → has_subclass classes name ≡ true
  has_one q row is above =
      let key = key_of_class classes q row is in
      list_any_at (λ other. is_right_below name (map.get classes other)) (map.keys classes) key.0 [] key.1
      (ap (λ k. is_right_below name (map.get classes k)) key.2 ∙ ap (is_right_below name) is ∙ ap (λ p. option_map_or (bytes_eq name) p false) above ∙ bytes_eq-self name)

  pub one_of : has_subclass classes name ≡ true → (q : Name) × (row : ClassRow) × (map.get classes q ≡ Some row) × (row.superclass ≡ Some name)
  one_of has =
      let at = any_at (λ other. is_right_below name (map.get classes other)) (map.keys classes) has in
      let q : Name = get_or (map.keys classes) at.0 [] in
      let row = row_below name (map.get classes q) at.2 in
      (q, row.0, row.1, row.2)

  pub is_alone : has_subclass classes name ≡ false → (q : Name) (row : ClassRow) → map.get classes q ≡ Some row → row.superclass ≢ Some name
  is_alone none q row is above = true≢false (sym (has_one q row is above) ∙ none)

  pub has_none : ((q : Name) (row : ClassRow) → map.get classes q ≡ Some row → row.superclass ≢ Some name) → has_subclass classes name ≡ false
  has_none alone = go (has_subclass classes name) refl
    where
      go : (b : Bool) → has_subclass classes name ≡ b → has_subclass classes name ≡ false
      go true has = let one = one_of has in absurd (alone one.0 one.1 one.2 one.3)
      go false none = none

-- ---- in a table

-- the class of this number may be removed
pub alone_by_number : (table : Table) (c : ℕ) (name : Name) → IsNumberOf table.names c name → has_subclass table.classes name ≡ false
    → (q other : Name) (row : ClassRow) → IsNumberOf table.names c q → map.get table.classes other ≡ Some row → row.superclass ≢ Some q
alone_by_number table c name named none q other row named_q is above =
    is_alone table.classes name none other row is (above ∙ ap Some (same_name table c q name named_q named))
