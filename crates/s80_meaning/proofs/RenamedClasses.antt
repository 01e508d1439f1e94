-- What is seen with the classes under other numbers: the classes of values, and their printed forms.
use Rattle.std.proofs.Common.{◌≡◌, ◌∙◌, ◌++◌, ℕ, Bool, true, not, refl, sym, ap, List, [], ◌∷◌, codes, map, Option, Some, None, flat_map, unwrap_or, slice_get, if◌then◌else◌}
use Rattle.std.specs.List.{list_any}
use Rattle.std.specs.Option.{option_map, option_map_or}
use Rattle.s80_base.specs.declared.literal.NumberKind.{NumberKind}
use Rattle.s80_base.specs.declared.literal.NumberKind.TheVariants.{LargePositive, LargeNegative, Float}
use Rattle.s80_base.specs.declared.names.Side.TheVariants as side
use Rattle.s80_kernel.specs.Rows as rows
use Rattle.s80_lex.specs.Spelling.{quoted}
use Rattle.s80_class.specs.Classes.{Name, Classes, Inherited, inherited_of, is_under}
use Rattle.s80_class.specs.Lookup.{number}
use Rattle.s80_class.specs.Table.{Table, class_name, number_of}
use Rattle.s80_object.specs.Body.{BodyTree, pointers, bytes, words, home, block, items_of}
use Rattle.s80_object.specs.Objects.{State as Objects, number_kind_of}
use Rattle.s80_object.specs.declared.value.Value.{Value}
use Rattle.s80_object.specs.declared.value.Value.TheVariants as value
use Rattle.s80_prims.specs.Classes.{body_class, can_be_new, class_of, is_kind_of, kernel_class, kind_of_class, made_otherwise, number_class, variables_of}
use Rattle.s80_prims.specs.Primitives.{string_bytes, string_of}
use Rattle.s80_prims.specs.Printed.{array_text, body_text, bytes_text, class_text, element, is_array, plain, plain_body, printed, shortened, whole, with_article}
use Rattle.s80_meaning.proofs.NaturalObjects.{get_map, map_or_same}
use Rattle.s80_meaning.proofs.RenamedNumbers.{IsRenumbering}
use Rattle.s80_meaning.proofs.RenamedObjects.{items_renamed, map_or_map, renamed, renamed_body, renamed_objects}

flat_map_mapped : {X Y Z : Type 0} (p : X → Y) (f : Y → List Z) (g : X → List Z) → ((x : X) → f (p x) ≡ g x) → (xs : List X) → flat_map f (map p xs) ≡ flat_map g xs
flat_map_mapped p f g h [] = refl
flat_map_mapped p f g h (x ∷ xs) = ap (λ l. l ++ flat_map f (map p xs)) (h x) ∙ ap (λ l. g x ++ l) (flat_map_mapped p f g h xs)

or_zero : (o : Option ℕ) → option_map_or (λ n. n) o 0 ≡ unwrap_or o 0
or_zero None = refl
or_zero (Some n) = refl

module _ (t u : Table) (r : ℕ → ℕ) (is : IsRenumbering t u r) where
  -- ---- a class by its number

  pub class_name_same : (c : ℕ) → class_name u (r c) ≡ class_name t c
  class_name_same c = ap (λ o. unwrap_or o []) (is.named c)

  kind_of_same : (c : ℕ) (word : Name) → is_kind_of u (r c) word ≡ is_kind_of t c word
  kind_of_same c word = ap (λ (classes : Classes). is_under classes (class_name u (r c)) word) is.classes ∙ ap (λ name. is_under t.classes name word) (class_name_same c)

  inherited_same : (c : ℕ) → inherited_of u.classes (class_name u (r c)) ≡ inherited_of t.classes (class_name t c)
  inherited_same c = ap (λ (classes : Classes). inherited_of classes (class_name u (r c))) is.classes ∙ ap (inherited_of t.classes) (class_name_same c)

  pub kind_of_class_same : (c : ℕ) → kind_of_class u (r c) ≡ kind_of_class t c
  kind_of_class_same c = ap (λ (i : Inherited). i.kind) (inherited_same c)

  pub variables_same : (c : ℕ) → variables_of u (r c) ≡ variables_of t c
  variables_same c = ap (λ (i : Inherited). i.inst_vars) (inherited_same c)

  pub can_be_new_same : (c : ℕ) → can_be_new u (r c) ≡ can_be_new t c
  can_be_new_same c = ap (λ (test : Name → Bool). not (list_any test made_otherwise)) (λ i name. kind_of_same c name i)

  -- ---- the class of a value

  kernel_renamed : (word : Name) → rows.is_kernel_class word ≡ true → kernel_class u word ≡ renamed r (kernel_class t word)
  kernel_renamed word there = ap (λ n. value.ClassRef n side.Instance) (is.kernel word there)

  body_class_renamed : (b : BodyTree) → body_class u (renamed_body r b) ≡ renamed r (body_class t b)
  unfolding rows.is_kernel_class
  body_class_renamed (home method receiver temporaries) = kernel_renamed (codes "MethodContext") refl
  body_class_renamed (block start first arguments) = kernel_renamed (codes "BlockContext") refl
  body_class_renamed _ = refl

  number_class_renamed : (k : NumberKind) → kernel_class u (number_class k) ≡ renamed r (kernel_class t (number_class k))
  unfolding rows.is_kernel_class
  number_class_renamed LargePositive = kernel_renamed (codes "LargePositiveInteger") refl
  number_class_renamed LargeNegative = kernel_renamed (codes "LargeNegativeInteger") refl
  number_class_renamed Float = kernel_renamed (codes "Float") refl

  number_renamed : (o : Option NumberKind) → option_map_or (λ k. kernel_class u (number_class k)) o value.Nil ≡ renamed r (option_map_or (λ k. kernel_class t (number_class k)) o value.Nil)
  number_renamed None = refl
  number_renamed (Some k) = number_class_renamed k

  pub class_of_renamed : (s : Objects) (v : Value) → class_of u (renamed_objects r s) (renamed r v) ≡ renamed r (class_of t s v)
  unfolding rows.is_kernel_class
  class_of_renamed s (value.Small n) = kernel_renamed (codes "SmallInteger") refl
  class_of_renamed s (value.Character c) = kernel_renamed (codes "Character") refl
  class_of_renamed s value.Nil = kernel_renamed (codes "UndefinedObject") refl
  class_of_renamed s value.True = kernel_renamed (codes "True") refl
  class_of_renamed s value.False = kernel_renamed (codes "False") refl
  class_of_renamed s (value.Symbol n) = kernel_renamed (codes "Symbol") refl
  class_of_renamed s (value.Number n) = number_renamed (number_kind_of s (value.Number n))
  class_of_renamed s (value.ClassRef c side.Instance) = refl
  class_of_renamed s (value.ClassRef c side.Class) = kernel_renamed (codes "Metaclass") refl
  class_of_renamed s (value.Object n) =
      ap (λ o. option_map_or (body_class u) o value.Nil) (get_map (renamed_body r) s.bodies n)
      ∙ map_or_map (renamed_body r) (renamed r) (body_class u) (body_class t) body_class_renamed (slice_get s.bodies n) value.Nil
  class_of_renamed s value.Context = kernel_renamed (codes "MethodContext") refl
  class_of_renamed s value.Transcript = kernel_renamed (codes "TextCollector") refl
  class_of_renamed s value.Smalltalk = kernel_renamed (codes "SystemDictionary") refl

  -- ---- strings

  pub strings_renamed : number u (codes "String") ≡ r (number t (codes "String"))
  unfolding rows.is_kernel_class
  strings_renamed = is.kernel (codes "String") refl

  pub arrays_renamed : number u (codes "Array") ≡ r (number t (codes "Array"))
  unfolding rows.is_kernel_class
  arrays_renamed = is.kernel (codes "Array") refl

  pub messages_renamed : number u (codes "Message") ≡ r (number t (codes "Message"))
  unfolding rows.is_kernel_class
  messages_renamed = is.kernel (codes "Message") refl

  pub nil_class_renamed : number u (codes "UndefinedObject") ≡ r (number t (codes "UndefinedObject"))
  unfolding rows.is_kernel_class
  nil_class_renamed = is.kernel (codes "UndefinedObject") refl

  pub string_of_renamed : (text : List ℕ) → string_of u text ≡ renamed_body r (string_of t text)
  string_of_renamed text =
      ap (λ n. bytes n text) (or_zero (number_of u.names (codes "String")) ∙ strings_renamed ∙ ap r (sym (or_zero (number_of t.names (codes "String")))))

  pub string_bytes_same : (b : BodyTree) → string_bytes u (renamed_body r b) ≡ string_bytes t b
  string_bytes_same (bytes class items) = ap (λ is_string. if is_string then Some items else None) (kind_of_same class (codes "String"))
  string_bytes_same _ = refl

  -- ---- the printed form

  if_same : (a b : Bool) (x y z v : List ℕ) → a ≡ b → x ≡ z → y ≡ v → (if a then x else y) ≡ (if b then z else v)
  if_same a b x y z v h g e = ap (λ c. if c then x else y) h ∙ ap (λ k. if b then k else y) g ∙ ap (λ k. if b then z else k) e

  bytes_text_same : (c : ℕ) (items : List ℕ) → bytes_text u (r c) items ≡ bytes_text t c items
  bytes_text_same c items =
      if_same (is_kind_of u (r c) (codes "String")) (is_kind_of t c (codes "String")) (quoted 39 items) (with_article (class_name u (r c))) (quoted 39 items) (with_article (class_name t c))
      (kind_of_same c (codes "String")) refl (ap with_article (class_name_same c))

  plain_body_same : (b : BodyTree) → plain_body u (renamed_body r b) ≡ plain_body t b
  plain_body_same (pointers class fields items) = ap with_article (class_name_same class)
  plain_body_same (bytes class items) = bytes_text_same class items
  plain_body_same (words class items) = ap with_article (class_name_same class)
  plain_body_same _ = refl

  is_array_same : (b : BodyTree) → is_array u (renamed_body r b) ≡ is_array t b
  is_array_same (pointers class fields items) = kind_of_same class (codes "Array")
  is_array_same (bytes class items) = kind_of_same class (codes "Array")
  is_array_same (words class items) = kind_of_same class (codes "Array")
  is_array_same _ = refl

  plain_same : (s : Objects) (v : Value) → plain u (renamed_objects r s) (renamed r v) ≡ plain t s v
  plain_same s (value.ClassRef c on) = ap (λ name. class_text name on) (class_name_same c)
  plain_same s (value.Object n) =
      ap (λ o. option_map_or (plain_body u) o []) (get_map (renamed_body r) s.bodies n)
      ∙ map_or_same (renamed_body r) (plain_body u) (plain_body t) plain_body_same (slice_get s.bodies n) []
  plain_same s _ = refl

  array_text_same : (s : Objects) (items : List Value) → array_text u (renamed_objects r s) (map (renamed r) items) ≡ array_text t s items
  array_text_same s items =
      ap (λ text. 40 ∷ text ++ 41 ∷ [])
      (flat_map_mapped (renamed r) (element u (renamed_objects r s)) (element t s) (λ v. ap (λ text. text ++ 32 ∷ []) (plain_same s v)) items)

  array_items_same : (s : Objects) (o : Option (List Value)) → array_text u (renamed_objects r s) (unwrap_or (option_map (map (renamed r)) o) []) ≡ array_text t s (unwrap_or o [])
  array_items_same s None = refl
  array_items_same s (Some items) = array_text_same s items

  body_text_same : (s : Objects) (b : BodyTree) → body_text u (renamed_objects r s) (renamed_body r b) ≡ body_text t s b
  body_text_same s b =
      if_same (is_array u (renamed_body r b)) (is_array t b) (array_text u (renamed_objects r s) (unwrap_or (items_of (renamed_body r b)) [])) (plain_body u (renamed_body r b))
      (array_text t s (unwrap_or (items_of b) [])) (plain_body t b) (is_array_same b)
      (ap (λ o. array_text u (renamed_objects r s) (unwrap_or o [])) (items_renamed r b) ∙ array_items_same s (items_of b)) (plain_body_same b)

  whole_same : (s : Objects) (v : Value) → whole u (renamed_objects r s) (renamed r v) ≡ whole t s v
  whole_same s (value.Object n) =
      ap (λ o. option_map_or (body_text u (renamed_objects r s)) o []) (get_map (renamed_body r) s.bodies n)
      ∙ map_or_same (renamed_body r) (body_text u (renamed_objects r s)) (body_text t s) (body_text_same s) (slice_get s.bodies n) []
  whole_same s v = plain_same s v

  pub printed_same : (s : Objects) (v : Value) → printed u (renamed_objects r s) (renamed r v) ≡ printed t s v
  printed_same s v = ap shortened (whole_same s v)
