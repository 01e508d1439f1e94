-- The parts of an image as they were put.
use Rattle.std.proofs.Common.{◌≡◌, ◌∙◌, ◌++◌, ℕ, sym, ap, ap₂, List, [], ◌∷◌, length, None, map as list_map, append_assoc}
use Rattle.std.specs.List.{All}
use Rattle.std.specs.FinMap as map
use Rattle.std.proofs.lemmas.List.{length-map}
use Rattle.std.proofs.lemmas.List.Elements.{All-cons, All-head, All-nil, All-tail}
use Rattle.s80_base.specs.declared.names.Side.TheVariants.{Instance, Class}
use Rattle.s80_dict.specs.Dict.{Methods}
use Rattle.s80_class.specs.Classes.{Name, ClassRow}
use Rattle.s80_apply.specs.Entries.{Entry}
use Rattle.s80_apply.specs.Seen.{AreSeen}
use Rattle.s80_image.specs.Classes.{ClassView, class, heading}
use Rattle.s80_image.specs.Methods.{MethodView, method}
use Rattle.s80_image.specs.Spelling.{listed}
use Rattle.s80_snapshot.specs.Pictured.{CodedRow, CodedState, class_view, classes_view, coded_row, heading_view, method_view, methods_view}
use Rattle.s80_snapshot.specs.Put.{class_put, entries_view, entry_view, method_put}
use Rattle.s80_snapshot.proofs.Mapped.{entries_seen}
use Rattle.s80_snapshot.proofs.Pieces.{listed_by_keys, listed_map, map_twice}

-- ---- methods

pub methods_listed : (m : Methods Entry) → listed (λ k. method_put k (map.get m k)) (map.keys m) ≡ listed (method None).spell (entries_view m)
methods_listed m = listed_by_keys method_put m ∙ sym (listed_map (method None).spell entry_view (map.entries m))

pub methods_same : (m : Methods Entry) (n : Methods CodedRow) → AreSeen coded_row m n → entries_view m ≡ methods_view n
methods_same m n are = sym (map_twice method_view (λ (e : Name × Entry). (e.0, coded_row e.1)) (map.entries m)) ∙ ap (list_map method_view) (sym (entries_seen coded_row m n are))

-- ---- classes

abbrev pub IsSpelled : Type 0
IsSpelled = (c : ClassView) → (class None).spell c ≡ (heading None).spell c.heading ++ (listed (method None).spell c.instance ++ listed (method None).spell c.class)

module _ (is_spelled : IsSpelled) (state : CodedState) (name : Name) (row : ClassRow) (instance class_side : Methods Entry) (o o1 o2 o3 : List ℕ) where
  pub class_is_put : AreSeen coded_row instance (state.methods name Instance) → AreSeen coded_row class_side (state.methods name Class) → o1 ≡ o ++ (heading None).spell (heading_view name row) → o2 ≡ o1 ++ listed (method None).spell (entries_view instance)
      → o3 ≡ o2 ++ listed (method None).spell (entries_view class_side) → o3 ≡ o ++ (class None).spell (class_view state (name, row))
  class_is_put i c a b d =
      let first = (heading None).spell (heading_view name row) in
      let second = listed (method None).spell (entries_view instance) in
      let third = listed (method None).spell (entries_view class_side) in
      d ∙ ap (λ l. l ++ third) (b ∙ ap (λ l. l ++ second) a ∙ append_assoc o first second) ∙ append_assoc o (first ++ second) third
      ∙ ap (λ l. o ++ l) (append_assoc first second third
      ∙ ap₂ (λ (x y : List MethodView). first ++ (listed (method None).spell x ++ listed (method None).spell y)) (methods_same instance (state.methods name Instance) i) (methods_same class_side (state.methods name Class) c)
      ∙ sym (is_spelled (class_view state (name, row))))

pub classes_listed : (state : CodedState) → listed (λ k. class_put state k (map.get state.classes k)) (map.keys state.classes) ≡ listed (class None).spell (classes_view state)
classes_listed state = listed_by_keys (class_put state) state.classes ∙ sym (listed_map (class None).spell (class_view state) (map.entries state.classes))

pub keys_counted : (state : CodedState) → length (map.keys state.classes) ≡ map.len state.classes
keys_counted state = length-map (map.entries state.classes) (λ (e : Name × ClassRow). e.0) ∙ sym (map.len-entries state.classes)

-- ---- four parts one behind the other

pub in_four : (o1 o2 o3 o4 a b c d : List ℕ) → o1 ≡ [] ++ a → o2 ≡ o1 ++ b → o3 ≡ o2 ++ c → o4 ≡ o3 ++ d → o4 ≡ a ++ (b ++ (c ++ d))
in_four o1 o2 o3 o4 a b c d p q r s =
    s ∙ ap (λ l. l ++ d) (r ∙ ap (λ l. l ++ c) (q ∙ ap (λ l. l ++ b) p) ∙ append_assoc a b c) ∙ append_assoc a (b ++ c) d ∙ ap (λ l. a ++ l) (append_assoc b c d)

-- ---- what holds of all that is seen

pub all_of_map : {X Y : Type 0} (P : Y → Type 0) (view : X → Y) (xs : List X) → All (λ x. P (view x)) xs → All P (list_map view xs)
all_of_map P view [] all = All-nil P
all_of_map P view (x ∷ xs) all = All-cons P (view x) (list_map view xs) (All-head (λ x. P (view x)) x xs all) (all_of_map P view xs (All-tail (λ x. P (view x)) x xs all))
