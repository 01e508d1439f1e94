-- What is known of a world holds on in one that goes on from it.
use Rattle.std.proofs.Common.{◌≡◌, ◌∙◌, ap, sym, subst, refl, ℕ, zero, suc, ◌<◌, ◌≤◌, List, [], ◌∷◌, Option, Some, None, length, slice_get, All, arith, true≢false, option_and_then}
use Rattle.std.specs.Option.{IsSome}
use Rattle.std.proofs.lemmas.List.Elements.{All-weaker}
use Rattle.s80_base.specs.declared.names.Side.TheVariants.{Instance, Class}
use Rattle.s80_class.specs.Table.{Table}
use Rattle.s80_code.specs.declared.code.Code.{Code}
use Rattle.s80_dict.specs.Table.{MethodsValue}
use Rattle.s80_dict.specs.declared.dict.MethodEntry.{MethodEntry}
use Rattle.s80_object.specs.Body.{BodyTree, pointers, bytes, words, home as home_body, block as block_body, fields_of}
use Rattle.s80_object.specs.Objects.{Made}
use Rattle.s80_object.specs.declared.value.Value.{Value}
use Rattle.s80_object.specs.declared.value.Value.TheVariants.{Small, Character, Nil, True, False, Symbol, Number, ClassRef, Object, Context as ContextValue, Transcript, Smalltalk}
use Rattle.s80_prims.specs.Known.{BodyIsKnown, IsKnown}
use Rattle.s80_verify.proofs.lemmas.ListLemmas.{get_within}
use Rattle.s80_machine.specs.World.{World, Key, Activation, own, home, block, receiver_variable}
use Rattle.s80_machine.specs.Turn.{Context}
use Rattle.s80_machine.specs.Sound.{IsMethod, IsHomeOf, IsActivationOf, IsSoundContext, IsBlockOf, IsSoundBody, IsSoundLiteral}
use Rattle.s80_machine.proofs.lemmas.SoundLists.{got_there}

-- ---- bodies that stand for others

-- a body that may come in another's place
abbrev pub IsSameAs : BodyTree → BodyTree → Type 0
IsSameAs (pointers class fields items) b = (new others : List Value) × (b ≡ pointers class new others) × (length new ≡ length fields)
IsSameAs (bytes class items) b = (new : List ℕ) × (b ≡ bytes class new)
IsSameAs (words class items) b = (new : List ℕ) × (b ≡ words class new)
IsSameAs (home_body m r temporaries) b = (new : List Value) × (b ≡ home_body m r new) × (length new ≡ length temporaries)
IsSameAs (block_body whole start count) b = b ≡ block_body whole start count

pub same_self : (b : BodyTree) → IsSameAs b b
same_self (pointers class fields items) = (fields, items, refl, refl)
same_self (bytes class items) = (items, refl)
same_self (words class items) = (items, refl)
same_self (home_body m r temporaries) = (temporaries, refl, refl)
same_self (block_body whole start count) = refl

pub same_then : (a b c : BodyTree) → IsSameAs a b → IsSameAs b c → IsSameAs a c
same_then (pointers class fields items) b c h g =
    let k = subst (λ x. IsSameAs x c) h.2 g in (k.0, k.1, k.2, k.3 ∙ h.3)
same_then (bytes class items) b c h g = subst (λ x. IsSameAs x c) h.1 g
same_then (words class items) b c h g = subst (λ x. IsSameAs x c) h.1 g
same_then (home_body m r temporaries) b c h g = let k = subst (λ x. IsSameAs x c) h.1 g in (k.0, k.1, k.2 ∙ h.2)
same_then (block_body whole start count) b c h g = subst (λ x. IsSameAs x c) h g

-- ---- worlds that go on

-- methods keep their numbers, and symbols, numbers and objects stay, each object as a like one
pub record Onward (old new : World) : Type 0 where
  pub keys : (m : ℕ) (key : Key) → slice_get old.keys m ≡ Some key → slice_get new.keys m ≡ Some key
  pub symbols : length old.objects.symbols ≤ length new.objects.symbols
  pub numbers : length old.objects.numbers ≤ length new.objects.numbers
  pub bodies : (n : ℕ) (b : BodyTree) → slice_get old.objects.bodies n ≡ Some b → (c : BodyTree) × (slice_get new.objects.bodies n ≡ Some c) × IsSameAs b c

pub onward_then : (a b c : World) → Onward a b → Onward b c → Onward a c
onward_then a b c h g = record {
  keys = λ m key e. g.keys m key (h.keys m key e);
  symbols = omega (arith, h.symbols, g.symbols);
  numbers = omega (arith, h.numbers, g.numbers);
  bodies = λ n x e.
      let p = h.bodies n x e in
      let q = g.bodies n p.0 p.1 in
      (q.0, q.1, same_then x p.0 q.0 p.2 q.2);
}

-- ---- known values

pub value_stays : (t : Table) (old new : World) → Onward old new → (v : Value) → IsKnown t old.objects v → IsKnown t new.objects v
value_stays t old new on (Symbol n) h = omega (arith, on.symbols, h)
value_stays t old new on (Number n) h = omega (arith, on.numbers, h)
value_stays t old new on (ClassRef c side) h = h
value_stays t old new on (Object n) h =
    let b = got_there old.objects.bodies n h in
    let c = on.bodies n b.0 b.1 in
    get_within new.objects.bodies n c.0 c.1
value_stays t old new on _ h = tt

pub values_stay : (t : Table) (old new : World) → Onward old new → (vs : List Value) → All (IsKnown t old.objects) vs → All (IsKnown t new.objects) vs
values_stay t old new on vs h = All-weaker (IsKnown t old.objects) (IsKnown t new.objects) (value_stays t old new on) vs h

pub known_stays : (t : Table) (old new : World) → Onward old new → (b : BodyTree) → BodyIsKnown t old.objects b → BodyIsKnown t new.objects b
known_stays t old new on (pointers class fields items) h = (h.0, (values_stay t old new on fields h.1.0, values_stay t old new on items h.1.1))
known_stays t old new on (bytes class items) h = h
known_stays t old new on (words class items) h = h
known_stays t old new on (home_body m r temporaries) h = (value_stays t old new on r h.0, values_stay t old new on temporaries h.1)
known_stays t old new on (block_body whole start count) h = value_stays t old new on whole h

-- ---- variables of a receiver

pub some_place : {A : Type 0} (xs : List A) (i : ℕ) → i < length xs → IsSome (slice_get xs i)
some_place [] i h = absurd (omega (arith, h))
some_place (x ∷ xs) zero h = refl
some_place (x ∷ xs) (suc i) h = some_place xs i (omega (arith, h))

pub place_below : {A : Type 0} (xs : List A) (i : ℕ) → IsSome (slice_get xs i) → i < length xs
place_below [] i h = absurd (true≢false (sym h))
place_below (x ∷ xs) zero h = omega arith
place_below (x ∷ xs) (suc i) h = omega (arith, place_below xs i h)

pub some_same : (xs ys : List Value) (i : ℕ) → length ys ≡ length xs → IsSome (slice_get xs i) → IsSome (slice_get ys i)
some_same xs ys i same h = some_place ys i (omega (arith, same, place_below xs i h))

abbrev pub HasField : Option BodyTree → ℕ → Type 0
HasField o i = IsSome (option_and_then (λ fields. slice_get fields i) (option_and_then fields_of o))

field_stays : (b c : BodyTree) (i : ℕ) → IsSameAs b c → HasField (Some b) i → HasField (Some c) i
field_stays (pointers class fields items) c i same h = subst (λ x. HasField (Some x) i) (sym same.2) (some_same fields same.0 i same.3 h)
field_stays (home_body m r temporaries) c i same h = subst (λ x. HasField (Some x) i) (sym same.1) (some_same temporaries same.0 i same.2 h)
field_stays (bytes class items) c i same h = absurd (true≢false (sym h))
field_stays (words class items) c i same h = absurd (true≢false (sym h))
field_stays (block_body whole start count) c i same h = absurd (true≢false (sym h))

pub variable_stays : (old new : World) → Onward old new → (r : Value) (i : ℕ) → IsSome (receiver_variable old r i) → IsSome (receiver_variable new r i)
variable_stays old new on (Object n) i h = go (slice_get old.objects.bodies n) refl h
  where
    go : (o : Option BodyTree) → slice_get old.objects.bodies n ≡ o → HasField o i → HasField (slice_get new.objects.bodies n) i
    go None e h = absurd (true≢false (sym h))
    go (Some b) e h =
        let c = on.bodies n b e in
        subst (λ o. HasField o i) (sym c.1) (field_stays b c.0 i c.2 h)
variable_stays old new on (ClassRef c Instance) i h = refl
variable_stays old new on (ClassRef c Class) i h = h
variable_stays old new on (Small n) i h = h
variable_stays old new on (Character c) i h = h
variable_stays old new on Nil i h = h
variable_stays old new on True i h = h
variable_stays old new on False i h = h
variable_stays old new on (Symbol n) i h = h
variable_stays old new on (Number n) i h = h
variable_stays old new on ContextValue i h = h
variable_stays old new on Transcript i h = h
variable_stays old new on Smalltalk i h = h

-- ---- methods, homes, blocks and activations

module _ (t : Table) (methods : MethodsValue (MethodEntry Code)) (code : Code) (old new : World) (on : Onward old new) where
  pub method_stays : (m : ℕ) (r : Value) (of : Code) → IsMethod t methods code old m r of → IsMethod t methods code new m r of
  method_stays m r of h = record {
    key = h.key;
    key_is = on.keys m h.key h.key_is;
    code_is = h.code_is;
    suits = h.suits;
    known = value_stays t old new on r h.known;
    variables = λ i below. variable_stays old new on r i (h.variables i below);
  }

  pub home_stays : (h m : ℕ) (r : Value) (of : Code) → IsHomeOf t methods code old h m r of → IsHomeOf t methods code new h m r of
  home_stays n m r of h =
      let c = on.bodies n (home_body m r h.temporaries) h.there in
      record { temporaries = c.2.0; there = c.1 ∙ ap (λ b. Some b) c.2.1; count = c.2.2 ∙ h.count }

  pub activation_stays : (f : Activation) (m : ℕ) (r : Value) (of : Code) → IsActivationOf t methods code old f m r of → IsActivationOf t methods code new f m r of
  activation_stays (own temporaries) m r of h = (h.0, (values_stay t old new on temporaries h.1.0, h.1.1))
  activation_stays (home n) m r of h = home_stays n m r of h
  activation_stays (block b n) m r of h =
      let c = on.bodies b (block_body (Object n) h.1.0 h.1.1) h.1.2 in
      (home_stays n m r of h.0, (h.1.0, h.1.1, c.1 ∙ ap (λ b. Some b) c.2))

  pub context_stays : (awaited : ℕ) (c : Context) → IsSoundContext t methods code old awaited c → IsSoundContext t methods code new awaited c
  context_stays awaited c h = record {
    of = h.of;
    method = method_stays c.method c.receiver h.of h.method;
    activation = activation_stays c.activation c.method c.receiver h.of h.activation;
    reached = h.reached;
    counted = h.counted;
    values = values_stay t old new on c.stack h.values;
  }

  pub contexts_stay : (rest : List Context) → All (IsSoundContext t methods code old 1) rest → All (IsSoundContext t methods code new 1) rest
  contexts_stay rest h = All-weaker (IsSoundContext t methods code old 1) (IsSoundContext t methods code new 1) (context_stays 1) rest h

  block_stays : (whole : Value) (start count : ℕ) → IsBlockOf t methods code old whole start count → IsBlockOf t methods code new whole start count
  block_stays whole start count h = record {
    home = h.home;
    number = h.number;
    receiver = h.receiver;
    of = h.of;
    whole_is = h.whole_is;
    method = method_stays h.number h.receiver h.of h.method;
    is_home = home_stays h.home h.number h.receiver h.of h.is_home;
    reached = h.reached;
    plain = h.plain;
  }

  pub body_stays : (b c : BodyTree) → IsSameAs b c → IsSoundBody t methods code old b → IsSoundBody t methods code new c
  body_stays (pointers class fields items) c same h = subst (IsSoundBody t methods code new) (sym same.2) (same.3 ∙ h)
  body_stays (bytes class items) c same h = subst (IsSoundBody t methods code new) (sym same.1) h
  body_stays (words class items) c same h = subst (IsSoundBody t methods code new) (sym same.1) h
  body_stays (home_body m r temporaries) c same h = subst (IsSoundBody t methods code new) (sym same.1) (h.0, method_stays m r h.0 h.1, same.2 ∙ h.2)
  body_stays (block_body whole start count) c same h = subst (IsSoundBody t methods code new) (sym same) (block_stays whole start count h)

  pub literal_stays : (made : Made) → IsSoundLiteral t methods code old made → IsSoundLiteral t methods code new made
  literal_stays made h = record {
    known = value_stays t old new on made.value h.known;
    key = h.key;
    of = h.of;
    literal = h.literal;
    key_is = on.keys made.method h.key h.key_is;
    code_is = h.code_is;
    entry_is = h.entry_is;
    object = h.object;
  }
