-- The history of an image of a list.
use Rattle.std.proofs.Common.{◌≡◌, ◌∙◌, ◌&&◌, ◌||◌, Bool, true, false, refl, sym, ap, List, [], ◌∷◌, length, Option, Some, None, map as list_map, reverse, arith, true≢false}
use Rattle.std.specs.Prelude.{find, nat_lt, if◌then◌else◌}
use Rattle.std.specs.Option.{option_map_or}
use Rattle.std.specs.Str.{bytes_eq}
use Rattle.std.specs.Cmp.Lexicographic.{bytes_decides}
use Rattle.std.proofs.lemmas.Bool.{and_parts}
use Rattle.std.proofs.lemmas.List.{reverse-reverse}
use Rattle.s80_base.specs.declared.names.Side.{Side}
use Rattle.s80_base.specs.declared.names.Side.TheVariants.{Instance, Class}
use Rattle.s80_change.specs.declared.change.Change.{Change}
use Rattle.s80_dict.specs.Table.{same_side}
use Rattle.s80_history.specs.History.{HistoryState, IsHistoryOf}
use Rattle.s80_history.specs.Lists.{MethodName, Placed, is_same, versions_of}
use Rattle.s80_history.specs.Order.{is_among}
use Rattle.s80_image.specs.History.{VersionsView}
use Rattle.s80_image.specs.Image.{ImageView}
use Rattle.s80_snapshot.specs.OfList.{IsImageOf, versions_in}
use Rattle.s80_snapshot.specs.Restored.{IsHistoryIn, places_of}

-- ---- names

side_same : (s t : Side) → same_side s t ≡ true → s ≡ t
side_same Instance Instance e = refl
side_same Instance Class e = absurd (true≢false (sym e))
side_same Class Instance e = absurd (true≢false (sym e))
side_same Class Class e = refl

named_alike : (m n : MethodName) → m.class_name ≡ n.class_name → m.side ≡ n.side → m.selector ≡ n.selector → m ≡ n
named_alike m n class side selector = λ i. record { class_name = class i; side = side i; selector = selector i }

pub name_same : (m n : MethodName) → is_same m n ≡ true → m ≡ n
name_same m n e =
    let parts = and_parts (bytes_eq m.class_name n.class_name && same_side m.side n.side) (bytes_eq m.selector n.selector) e in
    let class_and_side = and_parts (bytes_eq m.class_name n.class_name) (same_side m.side n.side) parts.0 in
    named_alike m n ((bytes_decides m.class_name n.class_name).0 class_and_side.0) (side_same m.side n.side class_and_side.1) ((bytes_decides m.selector n.selector).0 parts.1)

-- ---- the versions of a name

module _ (changes : List Change) (name : MethodName) where
  abbrev chosen : Bool → Option VersionsView
  chosen b = if b then Some (versions_in changes name) else None

  abbrev found_in : List MethodName → Option VersionsView
  found_in names = find (λ v. is_same name v.name) (list_map (versions_in changes) names)

  at_first : (x : MethodName) (xs : List MethodName) (b : Bool) → is_same name x ≡ b → found_in xs ≡ chosen (is_among name xs) → found_in (x ∷ xs) ≡ chosen (is_among name (x ∷ xs))
  at_first x xs true same later =
      ap (λ b. if b then Some (versions_in changes x) else found_in xs) same ∙ ap (λ n. Some (versions_in changes n)) (sym (name_same name x same)) ∙ sym (ap (λ b. chosen (b || is_among name xs)) same)
  at_first x xs false other later = ap (λ b. if b then Some (versions_in changes x) else found_in xs) other ∙ later ∙ sym (ap (λ b. chosen (b || is_among name xs)) other)

  found_by_name : (names : List MethodName) → found_in names ≡ chosen (is_among name names)
  found_by_name [] = refl
  found_by_name (x ∷ xs) = at_first x xs (is_same name x) refl (found_by_name xs)

  back_again : (vs : List Placed) (b : Bool) → b ≡ nat_lt 0 (length vs)
      → reverse (option_map_or (λ (v : VersionsView). v.places) (if b then Some (record { name = name; places = reverse (list_map (λ (p : Placed). p.0) vs) }) else None) []) ≡ list_map (λ (p : Placed). p.0) vs
  back_again [] true e = refl
  back_again [] false e = refl
  back_again (v ∷ vs) true e = reverse-reverse (list_map (λ (p : Placed). p.0) (v ∷ vs))
  back_again (v ∷ vs) false e = absurd (grind arith)

pub history_of_list : (changes : List Change) (image : ImageView) (history : HistoryState) → IsImageOf changes image → IsHistoryIn image history → IsHistoryOf history changes
history_of_list changes image history of is = record {
  members = ap (list_map Some) is.members ∙ of.change_set;
  versions = λ name.
      is.versions name
      ∙ ap (λ (vs : List VersionsView). reverse (places_of vs name)) of.versions
      ∙ ap (λ (o : Option VersionsView). reverse (option_map_or (λ (v : VersionsView). v.places) o [])) (found_by_name changes name of.names)
      ∙ back_again changes name (versions_of changes name) (is_among name of.names) (of.put.those name);
}
