-- Messages: the class of a receiver, and the class of a method.
use Rattle.std.proofs.Common.{◌≡◌, ◌∙◌, ap, sym, subst, refl, ℕ, ◌≤◌, List, [], ◌∷◌, codes, drop, get_or, slice_get, All, Option, Some, None, IfSome, unwrap_or, arith, ◌==◌, Bool, true, false, if◌then◌else◌, map, option_and_then, zero, suc}
use Rattle.std.specs.FinMap as map_of
use Rattle.std.specs.Option.{option_map, option_map_or}
use Rattle.std.proofs.lemmas.Option.{slice_get_within}
use Rattle.s80_base.specs.declared.literal.NumberKind.{NumberKind}
use Rattle.s80_base.specs.declared.literal.NumberKind.TheVariants.{LargePositive, LargeNegative, Float}
use Rattle.s80_base.specs.declared.names.Side.{Side}
use Rattle.s80_base.specs.declared.names.Side.TheVariants.{Instance, Class}
use Rattle.s80_kernel.specs.Rows as rows
use Rattle.s80_class.specs.Classes.{Name}
use Rattle.s80_class.specs.Table.{Table, IsClass}
use Rattle.s80_code.specs.declared.code.Code.{Code}
use Rattle.s80_code.specs.Special.{special_arguments, special_selectors}
use Rattle.s80_code.proofs.lemmas.TableLemmas.{value}
use Rattle.s80_dict.specs.Table.{MethodsValue, methods_at}
use Rattle.s80_dict.specs.declared.dict.MethodEntry.{MethodEntry}
use Rattle.s80_object.specs.Body.{BodyTree, pointers, bytes, words, home as home_body, block as block_body}
use Rattle.s80_object.specs.Objects.{State as Objects, Opaque, text_of}
use Rattle.s80_object.specs.declared.value.Value.{Value}
use Rattle.s80_object.specs.declared.value.Value.TheVariants.{Small, Character, Nil, True, False, Symbol, Number, ClassRef, Object, Context as ContextValue, Transcript, Smalltalk}
use Rattle.s80_prims.specs.Classes.{body_class, class_of, kernel_class, number_class}
use Rattle.s80_prims.specs.Known.{AreKnown, BodyIsKnown, IsKnown}
use Rattle.s80_prims.specs.Numbers.{IsNumber, class_place}
use Rattle.s80_lex.specs.Selector.{IsSelectorOf}
use Rattle.s80_machine.specs.declared.methods.Activated.{Activated}
use Rattle.s80_machine.specs.World.{Key, doit, method}
use Rattle.s80_class.specs.Lookup.{Place, number, places_up}
use Rattle.s80_machine.specs.Shared.{if_selector, parameters, selector_of}
use Rattle.s80_machine.specs.Step.{code_for}
use Rattle.s80_machine.specs.Sound.{IsSetting}
use Rattle.s80_machine.specs.Seen.{Given, IsActivated, Method, place_in}
use Rattle.s80_machine.specs.Came.{IsGiven, above}
use Rattle.s80_machine.specs.Messages.{own_place}
use Rattle.s80_machine.proofs.SoundClasses.{kernel_number}
use Rattle.s80_machine.proofs.lemmas.SoundLists.{all_got, got_there}
use Rattle.s80_machine.proofs.SoundOperands.{special_there}
use Rattle.s80_machine.proofs.Parameters.{parameters_tell, parameters_when, selects}

-- ---- the class of a known value

-- this is a side of a class
pub record IsClassValue (t : Table) (class : Value) : Type 0 where
  pub number : ℕ
  pub side : Side
  pub is : class ≡ ClassRef number side
  pub there : IsClass t.names number

module _ (t : Table) (methods : MethodsValue (MethodEntry Code)) (code : Code) (setting : IsSetting t methods code) where
  kernel_is : (word : Name) → rows.is_kernel_class word ≡ true → IsClassValue t (kernel_class t word)
  kernel_is word is = record { number = number t word; side = Instance; is = refl; there = (word, kernel_number t methods code setting word is) }

  number_is : (kind : NumberKind) → IsClassValue t (kernel_class t (number_class kind))
  unfolding rows.is_kernel_class
  number_is LargePositive = kernel_is (codes "LargePositiveInteger") refl
  number_is LargeNegative = kernel_is (codes "LargeNegativeInteger") refl
  number_is Float = kernel_is (codes "Float") refl

  module _ (s : Objects) (known : AreKnown t s) where
    body_is : (b : BodyTree) → BodyIsKnown t s b → IsClassValue t (body_class t b)
    unfolding rows.is_kernel_class
    body_is (pointers class fields items) h = record { number = class; side = Instance; is = refl; there = h.0 }
    body_is (bytes class items) h = record { number = class; side = Instance; is = refl; there = h }
    body_is (words class items) h = record { number = class; side = Instance; is = refl; there = h }
    body_is (home_body m r temporaries) h = kernel_is (codes "MethodContext") refl
    body_is (block_body whole start count) h = kernel_is (codes "BlockContext") refl

    pub has_class : (r : Value) → IsKnown t s r → IsClassValue t (class_of t s r)
    unfolding rows.is_kernel_class
    has_class (Small n) h = kernel_is (codes "SmallInteger") refl
    has_class (Character c) h = kernel_is (codes "Character") refl
    has_class Nil h = kernel_is (codes "UndefinedObject") refl
    has_class True h = kernel_is (codes "True") refl
    has_class False h = kernel_is (codes "False") refl
    has_class (Symbol n) h = kernel_is (codes "Symbol") refl
    has_class (Number n) h =
        let o = got_there s.numbers n h in
        subst (λ x. IsClassValue t (option_map_or (λ kind. kernel_class t (number_class kind)) (option_map (λ (number : Opaque). number.kind) x) Nil)) (sym o.1) (number_is (o.0).kind)
    has_class (ClassRef c Instance) h = record { number = c; side = Class; is = refl; there = h }
    has_class (ClassRef c Class) h = kernel_is (codes "Metaclass") refl
    has_class (Object n) h =
        let b = got_there s.bodies n h in
        subst (λ x. IsClassValue t (option_map_or (body_class t) x Nil)) (sym b.1) (body_is b.0 (known n b.0 b.1))
    has_class ContextValue h = kernel_is (codes "MethodContext") refl
    has_class Transcript h = kernel_is (codes "TextCollector") refl
    has_class Smalltalk h = kernel_is (codes "SystemDictionary") refl

-- the place of a class, where a value is one
pub place_there : (t : Table) (class : Value) (c : ℕ) (side : Side) → IsClassValue t class → Some (c, side) ≡ class_place class → (class ≡ ClassRef c side) × IsClass t.names c
place_there t class c side h e =
    let same : Some (c, side) ≡ Some (h.number, h.side) = e ∙ ap class_place h.is in
    let parts : (c, side) ≡ (h.number, h.side) = value same in
    (h.is ∙ ap (λ (p : Place). ClassRef p.0 p.1) (sym parts), subst (λ (p : Place). IsClass t.names p.0) (sym parts) h.there)

pub place_missing : (t : Table) (class : Value) → IsClassValue t class → None ≡ class_place class → ⊥
place_missing t class h e = none_some (e ∙ ap class_place h.is)
  where
    none_some : {A : Type 0} {x : A} → None ≡ Some x → ⊥
    none_some e = cc

-- ---- where a method stands

module _ (on : Given) (setting : IsSetting on.table on.methods on.code) where
  from_entry : (o : Option (MethodEntry Code)) (of : Code) → option_map (λ (e : MethodEntry Code). e.code) o ≡ Some of → (entry : MethodEntry Code) × (o ≡ Some entry)
  from_entry None of e = cc
  from_entry (Some entry) of e = (entry, refl)

  own_class : (key : Key) (of : Code) → code_for on.methods on.code key ≡ Some of → IsClass on.table.names (own_place on.table key).0
  unfolding rows.is_kernel_class
  own_class doit of e = (codes "UndefinedObject", kernel_number on.table on.methods on.code setting (codes "UndefinedObject") refl)
  own_class (method c side selector) of e =
      let there = from_entry (map_of.get (methods_at on.methods c side) selector) of e in
      (setting.methods_suit c side selector there.0 there.1).class

  pub place_class : (methods : List Method) (number : ℕ) (place : Option Place) → All (IsGiven on) methods → place ≡ option_map (λ m. own_place on.table m.key) (slice_get methods number)
      → IfSome place (λ place. IsClass on.table.names place.0)
  place_class methods number place given is = subst (λ o. IfSome o (λ place. IsClass on.table.names place.0)) (sym is) (go (slice_get methods number) refl)
    where
      go : (o : Option Method) → slice_get methods number ≡ o → IfSome (option_map (λ m. own_place on.table m.key) o) (λ place. IsClass on.table.names place.0)
      go None e = tt
      go (Some m) e = own_class m.key m.code (all_got (IsGiven on) methods number m given e)

pub place_is : (t : Table) (nil : ℕ) → IsNumber t (codes "UndefinedObject") nil → (o : Option Method) (a : Activated) → IsActivated o a
    → Some (unwrap_or a.place (nil, Instance)) ≡ option_map (λ m. own_place t m.key) o
place_is t nil named None a is = absurd is
place_is t nil named (Some m) a is = ap (λ p. Some (unwrap_or p (nil, Instance))) is.1.place ∙ by_key m.key
  where
    by_key : (key : Key) → Some (unwrap_or (place_in key) (nil, Instance)) ≡ Some (own_place t key)
    by_key doit = ap (λ n. Some (n, Instance)) (sym (ap (λ o. unwrap_or o 0) named))
    by_key (method c side selector) = refl

-- the places above it
pub above_own : (on : Given) (key : Key) → above on key ≡ drop 1 (places_up on.table (own_place on.table key).0 (own_place on.table key).1)
above_own on doit = refl
above_own on (method c side selector) = refl

mapped_at : {X Y : Type 0} (f : X → Y) (xs : List X) (n : ℕ) → slice_get (map f xs) n ≡ option_map f (slice_get xs n)
mapped_at f [] n = refl
mapped_at f (x ∷ xs) zero = refl
mapped_at f (x ∷ xs) (suc n) = mapped_at f xs n

mapped_twice : {X Y Z : Type 0} (f : X → Y) (g : Y → Z) (o : Option X) → option_map g (option_map f o) ≡ option_map (λ x. g (f x)) o
mapped_twice f g None = refl
mapped_twice f g (Some x) = refl

-- the places above that of the method of this number are those above its key
pub above_places : (on : Given) (methods : List Method) (keys : List Key) (n k : ℕ) (key : Key) (place : Place) → map (λ m. m.key) methods ≡ keys → slice_get keys k ≡ Some key → n ≡ k
    → Some place ≡ option_map (λ m. own_place on.table m.key) (slice_get methods n) → drop 1 (places_up on.table place.0 place.1) ≡ above on key
above_places on methods keys n k key place shows there number is =
    let of : Method → Key = λ m. m.key in
    let kept : option_map of (slice_get methods n) ≡ Some key = sym (mapped_at of methods n) ∙ ap (λ l. slice_get l n) shows ∙ ap (slice_get keys) number ∙ there in
    let same : place ≡ own_place on.table key = value (is ∙ sym (mapped_twice of (own_place on.table) (slice_get methods n)) ∙ ap (option_map (own_place on.table)) kept) in
    ap (λ (p : Place). drop 1 (places_up on.table p.0 p.1)) same ∙ sym (above_own on key)

-- ---- special messages

pub special_takes : (n : ℕ) (word : List ℕ) → Some word ≡ slice_get special_selectors n → IsSelectorOf (get_or special_arguments n 0) word
special_takes n word e =
    let below : n ≤ 31 = let within = slice_get_within special_selectors n word (sym e) in omega (arith, within) in
    let there = special_there n below in
    subst (IsSelectorOf (get_or special_arguments n 0)) (value (sym there.1 ∙ sym e)) there.2

-- ---- selectors of so many parameters

-- what counts a selector's parameters counts as many
pub counts_them : (word : List ℕ) (o : Option ℕ) → ((n : ℕ) → (o ≡ Some n → IsSelectorOf n word) × (IsSelectorOf n word → o ≡ Some n)) → o ≡ parameters word
counts_them word (Some n) h = sym (parameters_when word n ((h n).0 refl))
counts_them word None h = go (parameters word) refl
  where
    go : (o : Option ℕ) → parameters word ≡ o → None ≡ o
    go None is = refl
    go (Some n) is = (h n).1 (parameters_tell word n is)

-- a selector of so many parameters
pub takes_so : (word : List ℕ) (count : ℕ) → option_map_or (λ n. n == count) (parameters word) false ≡ true → IsSelectorOf count word
takes_so word count is = selects count word word (ap (λ (b : Bool). if b then Some word else None) is)

-- what a symbol is that is one of so many
pub selector_is : (s : Objects) (v : Value) (n count : ℕ) (text copy : List ℕ) → v ≡ Symbol n → Some text ≡ text_of s (Symbol n) → option_map_or (λ n. n == count) (parameters text) false ≡ true → copy ≡ text
    → Some copy ≡ selector_of s v count
selector_is s v n count text copy is there takes same =
    ap (λ t. Some t) same
    ∙ sym (ap (λ v. selector_of s v count) is ∙ ap (option_and_then (if_selector count)) (sym there) ∙ ap (λ (b : Bool). if b then Some text else None) takes)
