-- A look-up under other numbers of the classes goes by the same classes.
use Rattle.std.proofs.Common.{◌≡◌, ◌∙◌, ◌++◌, ℕ, zero, suc, refl, sym, ap, List, [], ◌∷◌, codes, map, Option, Some, None}
use Rattle.std.specs.FinMap as map_of
use Rattle.std.specs.Option.{option_map}
use Rattle.s80_base.specs.declared.names.Side.{Side}
use Rattle.s80_base.specs.declared.names.Side.TheVariants.{Instance, Class}
use Rattle.s80_class.specs.Classes.{Name, ClassRow, Classes, lineage, then_up, upwards}
use Rattle.s80_class.specs.Lookup.{Found, Place, found_or, number, numbers_from, numbers_up, on_side, places_behind, places_up}
use Rattle.s80_class.specs.Table.{Table, class_name, number_of}
use Rattle.s80_meaning.proofs.RenamedNumbers.{IsRenumbering}
use Rattle.s80_meaning.proofs.RenamedObjects.{map_append}
use Rattle.s80_meaning.proofs.RenamedClasses.{class_name_same}

abbrev number_in_line : Table → Name × ClassRow → ℕ
number_in_line t e = number t e.0

module _ (r : ℕ → ℕ) where
  abbrev pub renamed_place : Place → Place
  renamed_place place = (r place.0, place.1)

  abbrev pub renamed_found : {X : Type 0} → Found X → Found X
  renamed_found found = record found { class = r found.class }

  on_side_renamed : (side : Side) (ns : List ℕ) → on_side side (map r ns) ≡ map renamed_place (on_side side ns)
  on_side_renamed side [] = refl
  on_side_renamed side (n ∷ ns) = ap (λ l. (r n, side) ∷ l) (on_side_renamed side ns)

  pub found_or_renamed : {X : Type 0} (place : Place) (o : Option X) (rest : Option (Found X)) → found_or (renamed_place place) o (option_map renamed_found rest) ≡ option_map renamed_found (found_or place o rest)
  found_or_renamed place None rest = refl
  found_or_renamed place (Some x) rest = refl

module _ (t u : Table) (r : ℕ → ℕ) (is : IsRenumbering t u r) where
  line_after : (name : Name) (o : Option ClassRow) → map_of.get t.classes name ≡ o → (up : ClassRow → List (Name × ClassRow))
      → ((row : ClassRow) → map (number_in_line u) (up row) ≡ map r (map (number_in_line t) (up row)))
      → map (number_in_line u) (then_up name o up) ≡ map r (map (number_in_line t) (then_up name o up))
  line_after name None there up h = refl
  line_after name (Some row) there up h = λ i. is.there name row there i ∷ h row i

  line_renamed : (count : ℕ) (o : Option Name) → map (number_in_line u) (upwards count t.classes o) ≡ map r (map (number_in_line t) (upwards count t.classes o))
  line_renamed zero o = refl
  line_renamed (suc count) None = refl
  line_renamed (suc count) (Some name) =
      line_after name (map_of.get t.classes name) refl (λ row. upwards count t.classes row.superclass) (λ row. line_renamed count row.superclass)

  numbers_up_renamed : (c : ℕ) → numbers_up u (r c) ≡ map r (numbers_up t c)
  numbers_up_renamed c =
      ap (λ (classes : Classes). map (number_in_line u) (lineage classes (class_name u (r c)))) is.classes
      ∙ ap (λ name. map (number_in_line u) (lineage t.classes name)) (class_name_same t u r is c)
      ∙ line_renamed (map_of.len t.classes) (Some (class_name t c))

  numbers_from_renamed : (o : Option ℕ) → numbers_from u (option_map r o) ≡ map r (numbers_from t o)
  numbers_from_renamed None = refl
  numbers_from_renamed (Some c) = numbers_up_renamed c

  behind_renamed : places_behind u ≡ map (renamed_place r) (places_behind t)
  behind_renamed =
      ap (λ o. on_side Instance (numbers_from u o)) (is.numbers (codes "Class"))
      ∙ ap (on_side Instance) (numbers_from_renamed (number_of t.names (codes "Class")))
      ∙ on_side_renamed r Instance (numbers_from t (number_of t.names (codes "Class")))

  pub places_up_renamed : (c : ℕ) (side : Side) → places_up u (r c) side ≡ map (renamed_place r) (places_up t c side)
  places_up_renamed c Instance = ap (on_side Instance) (numbers_up_renamed c) ∙ on_side_renamed r Instance (numbers_up t c)
  places_up_renamed c Class =
      ap (λ l. l ++ places_behind u) (ap (on_side Class) (numbers_up_renamed c) ∙ on_side_renamed r Class (numbers_up t c))
      ∙ ap (λ l. map (renamed_place r) (on_side Class (numbers_up t c)) ++ l) behind_renamed
      ∙ sym (map_append (renamed_place r) (on_side Class (numbers_up t c)) (places_behind t))
