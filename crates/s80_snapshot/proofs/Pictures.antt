-- The picture of the system and the history that a list makes.
use Rattle.std.proofs.Common.{◌≡◌, ◌∙◌, ℕ, refl, sym, ap, subst, List, [], ◌∷◌, length, Option, Some, None, map as list_map, reverse, arith}
use Rattle.std.specs.Prelude.{nat_lt}
use Rattle.std.specs.Option.{option_map}
use Rattle.std.specs.Ordering.{nat_cmp}
use Rattle.std.specs.Cmp.Lexicographic.{slice_cmp}
use Rattle.std.specs.FinMap as map
use Rattle.std.proofs.lemmas.List.{length-map}
use Rattle.s80_base.specs.declared.names.Side.{Side}
use Rattle.s80_code.specs.declared.code.Code.{Code}
use Rattle.s80_change.specs.declared.change.Change.{Change}
use Rattle.s80_dict.specs.Dict.{Methods}
use Rattle.s80_dict.specs.Table.{methods_at}
use Rattle.s80_class.specs.Classes.{Name, ClassRow, Classes}
use Rattle.s80_class.specs.Known.{IsKnown}
use Rattle.s80_class.specs.Table.{IsNumberOf}
use Rattle.s80_history.specs.History.{HistoryState, IsHistoryOf}
use Rattle.s80_history.specs.Lists.{MethodName, Placed, versions_of}
use Rattle.s80_method.specs.Code.{IsMethodCode}
use Rattle.s80_apply.specs.Codes.{AreCodes}
use Rattle.s80_apply.specs.Entries.{Entry, row_in}
use Rattle.s80_apply.specs.Placed.{PlacedRow, PlacedState, placed_of}
use Rattle.s80_apply.specs.Seen.{AreSeen}
use Rattle.s80_apply.specs.System.{HasPlaces, IsSystemBy, SystemState}
use Rattle.s80_image.specs.Image.{ImageView}
use Rattle.s80_image.specs.Methods.{code_of}
use Rattle.s80_snapshot.specs.OfList.{HaveCodes, IsImageOf, versions_in}
use Rattle.s80_snapshot.specs.Pictured.{CodedRow, CodedState, IsPicture, coded_row, versions_view}

-- ---- methods of which less is seen

row_of_coded : (o : Option Entry) → option_map (λ (m : CodedRow). m.row) (option_map coded_row o) ≡ option_map row_in o
row_of_coded None = refl
row_of_coded (Some e) = refl

both_seen : (entries : Methods Entry) (coded : Methods CodedRow) (rows : Methods PlacedRow) → AreSeen coded_row entries coded → AreSeen row_in entries rows → AreSeen (λ (m : CodedRow). m.row) coded rows
both_seen entries coded rows a b = record {
  keys = sym a.keys ∙ b.keys;
  each = λ q. ap (option_map (λ (m : CodedRow). m.row)) (sym (a.each q)) ∙ row_of_coded (map.get entries q) ∙ b.each q;
}

module _ {X : Type 0} where
  none_of_none : (es : List (Name × X)) → length es ≡ 0 → list_map (λ (e : Name × X). e.0) es ≡ []
  none_of_none [] none = refl
  none_of_none (e ∷ es) none = absurd (omega arith)

  no_keys : (m : Methods X) → m ≡ map.empty → map.keys m ≡ []
  no_keys m none = none_of_none (map.entries m) (sym (map.len-entries m) ∙ ap (λ (m : Methods X). map.len m) none ∙ map.len-empty (slice_cmp nat_cmp) X)

  no_entry : (m : Methods X) (q : Name) → m ≡ map.empty → map.get m q ≡ None
  no_entry m q none = ap (λ (m : Methods X). map.get m q) none ∙ map.get-empty (slice_cmp nat_cmp) q

nothing_seen : (coded : Methods CodedRow) (rows : Methods PlacedRow) → coded ≡ map.empty → rows ≡ map.empty → AreSeen (λ (m : CodedRow). m.row) coded rows
nothing_seen coded rows a b = record {
  keys = no_keys coded a ∙ sym (no_keys rows b);
  each = λ q. ap (option_map (λ (m : CodedRow). m.row)) (no_entry coded q a) ∙ sym (no_entry rows q b);
}

-- ---- a system and what it shows

module _ (system : SystemState) (state : CodedState) (known : IsKnown system.table) (shown : IsSystemBy coded_row system state) where
  module _ (placed : PlacedState) (has : HasPlaces system placed) where
    rows_seen : (name : Name) (side : Side) → AreSeen (λ (m : CodedRow). m.row) (state.methods name side) (placed.methods name side)
    rows_seen name side = go (map.get system.table.classes name) refl
      where
        go : (o : Option ClassRow) → map.get system.table.classes name ≡ o → AreSeen (λ (m : CodedRow). m.row) (state.methods name side) (placed.methods name side)
        go None none =
            nothing_seen (state.methods name side) (placed.methods name side) (shown.others name side (ap (λ (cs : Classes). map.get cs name) (sym shown.classes) ∙ none))
            (has.others name side (ap (λ (cs : Classes). map.get cs name) (sym has.classes) ∙ none))
        go (Some row) there =
            let number = known.numbered name row there in
            both_seen (methods_at system.methods number.0 side) (state.methods name side) (placed.methods name side) (shown.methods number.0 name side number.1) (has.methods number.0 name side number.1)

  same_name : (number : ℕ) (class name : Name) → IsNumberOf system.table.names number class → IsNumberOf system.table.names number name → class ≡ name
  same_name number class name a b = value class name (sym a ∙ b)
    where
      value : (x y : Name) → Some (Some x) ≡ Some (Some y) → x ≡ y
      value x y e = cc

  codes_shown : AreCodes system.table system.methods → HaveCodes state
  codes_shown codes name side selector m is = in_class (map.get system.table.classes name) refl
    where
      at_entry : (number : ℕ) → IsNumberOf system.table.names number name → (o : Option Entry) → map.get (methods_at system.methods number side) selector ≡ o → option_map coded_row o ≡ Some m
          → (code : Code) × (code_of code ≡ m.code) × IsMethodCode state.classes name side selector m.row.source code
      at_entry number named None none e = absurd (cc)
      at_entry number named (Some entry) there e =
          let row : coded_row entry ≡ m = row_is (coded_row entry) m e in
          let has = codes number side selector entry there in
          let class : has.class ≡ name = same_name number has.class name has.named named in (
            entry.code,
            ap (λ (r : CodedRow). r.code) row,
            subst (λ s. IsMethodCode state.classes name side selector s entry.code) (ap (λ (r : CodedRow). r.row.source) row)
                (subst (λ (cs : Classes). IsMethodCode cs name side selector entry.source entry.code) shown.classes
                (subst (λ c. IsMethodCode system.table.classes c side selector entry.source entry.code) class has.has_code.code)),
          )
        where
          row_is : (x y : CodedRow) → Some x ≡ Some y → x ≡ y
          row_is x y e = cc

      in_class : (o : Option ClassRow) → map.get system.table.classes name ≡ o → (code : Code) × (code_of code ≡ m.code) × IsMethodCode state.classes name side selector m.row.source code
      in_class None none =
          let no = no_entry (state.methods name side) selector (shown.others name side (ap (λ (cs : Classes). map.get cs name) (sym shown.classes) ∙ none)) in
          absurd (cc (sym no ∙ is))
      in_class (Some row) there =
          let number = known.numbered name row there in
          at_entry number.0 number.1 (map.get (methods_at system.methods number.0 side) selector) refl ((shown.methods number.0 name side number.1).each selector ∙ is)

-- ---- the whole

versions_are : (history : HistoryState) (changes : List Change) → IsHistoryOf history changes → (names : List MethodName) → list_map (versions_view history) names ≡ list_map (versions_in changes) names
versions_are history changes of [] = refl
versions_are history changes of (name ∷ names) =
    λ i. (record { name = name; places = reverse (of.versions name i) }) ∷ versions_are history changes of names i

pub picture_of_list : (changes : List Change) (system : SystemState) (history : HistoryState) (image : ImageView) → IsKnown system.table → HasPlaces system (placed_of changes) → AreCodes system.table system.methods → IsHistoryOf history changes
    → IsPicture system history (length changes) image → IsImageOf changes image
picture_of_list changes system history image known has codes of picture = record {
  count = picture.count_is;
  state = picture.classes.state;
  coded = record {
    classes = sym picture.classes.shown.classes ∙ has.classes;
    methods = rows_seen system picture.classes.state known picture.classes.shown (placed_of changes) has;
    codes = codes_shown system picture.classes.state known picture.classes.shown codes;
  };
  classes = picture.classes.classes_are;
  change_set = ap (list_map Some) picture.change_set ∙ of.members;
  names = picture.names;
  put = record {
    sorted = picture.those.sorted;
    those = λ name. picture.those.those name ∙ ap (λ (places : List ℕ). nat_lt 0 (length places)) (of.versions name) ∙ ap (nat_lt 0) (length-map (versions_of changes name) (λ (p : Placed). p.0));
  };
  versions = picture.versions ∙ versions_are history changes of picture.names;
}
