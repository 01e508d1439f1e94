-- Lemmas on the rows of the table.
use Rattle.std.proofs.Common.{◌≡◌, ◌≤◌, ◌<◌, ℕ, zero, suc, pos, List, [], ◌∷◌, Bool, true, false, codes, get_or, length, map, Option, Some, None, option_and_then, refl, sym, ap, subst, ◌∙◌, arith}
use Rattle.std.proofs.lemmas.Grind.{common_steps}
use Rattle.std.proofs.lemmas.Option.{slice_get-map}
use Rattle.std.specs.Option.{option_map, option_map_or}
use Rattle.s80_base.specs.declared.names.Side.TheVariants as side
use Rattle.s80_form.specs.declared.definition.Kind.TheVariants as kind
use Rattle.s80_class.specs.Table.{Table, IsClass, number_of}
use Rattle.s80_object.specs.Body.{BodyTree, pointers, bytes, words, home, block, blank, kind_of}
use Rattle.s80_object.specs.Objects.{State, body_at, text_of}
use Rattle.s80_object.specs.declared.value.BodyKind.{BodyKind}
use Rattle.s80_object.specs.declared.value.BodyKind.TheVariants as body
use Rattle.s80_object.specs.declared.value.Value.{Value}
use Rattle.s80_object.specs.declared.value.Value.TheVariants.{Small, Symbol, ClassRef, Object}
use Rattle.s80_prims.specs.declared.applied.Applied.{Applied}
use Rattle.s80_prims.specs.Classes.{can_be_new, kind_of_class}
use Rattle.s80_prims.specs.Known.{AreKnown, BodyIsKnown}
use Rattle.s80_prims.specs.Primitives.{Effect, World, at_place, makes, new_with, of_class, prints, readable, readable_bytes, primitive, string_of}
use Rattle.s80_prims.specs.Printed.{printed}
use Rattle.s80_prims.specs.Rows.{Applies, class_to_make, world_of}

-- ---- items

-- an item of numbers as values
placed : (place : Value) (items : List ℕ) → option_map (λ b. Small (pos b)) (at_place items place) ≡ at_place (map (λ b. Small (pos b)) items) place
placed (Small (pos zero)) items = refl
placed (Small (pos (suc i))) items = sym (slice_get-map (λ b. Small (pos b)) items i)
placed _ items = refl

-- a byte of a symbol as an item
pub symbol_items : (s : State) (r place : Value) (n : ℕ) → r ≡ Symbol n
    → option_map (λ b. Small (pos b)) (option_and_then (λ items. at_place items place) (readable_bytes s r)) ≡ option_and_then (λ items. at_place items place) (readable s r)
symbol_items s r place n is =
    subst (λ r. option_map (λ b. Small (pos b)) (option_and_then (λ items. at_place items place) (readable_bytes s r)) ≡ option_and_then (λ items. at_place items place) (readable s r))
    (sym is) (of (text_of s (Symbol n)))
  where
    of : (o : Option (List ℕ)) → option_map (λ b. Small (pos b)) (option_and_then (λ items. at_place items place) o)
        ≡ option_and_then (λ items. at_place items place) (option_map (map (λ b. Small (pos b))) o)
    of None = refl
    of (Some items) = placed place items

-- ---- classes of objects

body_known : (t : Table) (s : State) (v : Value) (b : BodyTree) → AreKnown t s → body_at s v ≡ Some b → BodyIsKnown t s b
body_known t s (Object n) b known e = known n b e
body_known t s _ b known e = grind arith

class_is : (t : Table) (s : State) (b : BodyTree) (c : ℕ) (k : BodyKind) → BodyIsKnown t s b → kind_of b ≡ Some (c, k) → IsClass t.names c
class_is t s (pointers class fields items) c k known e = subst (IsClass t.names) (ap (λ o. option_map_or (λ p. p.0) o 0) e) known.0
class_is t s (bytes class items) c k known e = subst (IsClass t.names) (ap (λ o. option_map_or (λ p. p.0) o 0) e) known
class_is t s (words class items) c k known e = subst (IsClass t.names) (ap (λ o. option_map_or (λ p. p.0) o 0) e) known
class_is t s (home method receiver temporaries) c k known e = grind arith
class_is t s (block whole start arguments) c k known e = grind arith

-- the class of an object that has one
pub class_known : (t : Table) (s : State) (v : Value) (c : ℕ) (k : BodyKind) → AreKnown t s → option_and_then kind_of (body_at s v) ≡ Some (c, k) → IsClass t.names c
class_known t s v c k known e = of (body_at s v) refl e
  where
    of : (o : Option BodyTree) → body_at s v ≡ o → option_and_then kind_of o ≡ Some (c, k) → IsClass t.names c
    of None at is = grind arith
    of (Some b) at is = class_is t s b c k (body_known t s v b known at) is

-- ---- new objects

of_class_is : (t : Table) (w : World) (r : Value) (go : ℕ → Effect) (c : ℕ) → class_to_make t r ≡ Some c → of_class t w r go ≡ go c
of_class_is t w (ClassRef n side.Instance) go c e = of (can_be_new t n) refl e
  where
    of : (can : Bool) → can_be_new t n ≡ can → class_to_make t (ClassRef n side.Instance) ≡ Some c → of_class t w (ClassRef n side.Instance) go ≡ go c
    of true is made = let same = rw is at made in rw is (ap go (ap (λ o. option_map_or (λ n. n) o 0) same))
    of false is made = let same = rw is at made in grind arith
of_class_is t w _ go c e = grind arith

pub bytes_are : (t : Table) (old new : State) (r : Value) (c n : ℕ) (applied : Applied) → class_to_make t r ≡ Some c → kind_of_class t c ≡ kind.Bytes
    → Applies old new applied (λ w. makes w (blank c body.Bytes 0 n)) → Applies old new applied (λ w. new_with t w r (Small (pos n)))
bytes_are t old new r c n applied e k is = λ transcript. is transcript ∙ sym (of_class_is t (world_of old transcript) r _ c e ∙ rw k refl)

pub words_are : (t : Table) (old new : State) (r : Value) (c n : ℕ) (applied : Applied) → class_to_make t r ≡ Some c → kind_of_class t c ≡ kind.Words
    → Applies old new applied (λ w. makes w (blank c body.Words 0 n)) → Applies old new applied (λ w. new_with t w r (Small (pos n)))
words_are t old new r c n applied e k is = λ transcript. is transcript ∙ sym (of_class_is t (world_of old transcript) r _ c e ∙ rw k refl)

-- ---- printed forms

pub print_is : (t : Table) (old new : State) (r : Value) (text : List ℕ) (c : ℕ) (applied : Applied) → text ≡ printed t old r → number_of t.names (codes "String") ≡ Some c
    → Applies old new applied (λ w. makes w (bytes c text)) → Applies old new applied (λ w. prints t w r)
print_is t old new r text c applied e f is =
    let of : bytes c text ≡ string_of t (printed t old r) = ap (bytes c) e ∙ ap (λ o. bytes (option_map_or (λ n. n) o 0) (printed t old r)) (sym f) in
    λ transcript. is transcript ∙ ap (makes (world_of old transcript)) of

-- ---- arguments

pub two_given : (t : Table) (n : ℕ) (r : Value) (d e : Value) (arguments : List Value) (w : World) (effect : Effect) → 2 ≤ length arguments → length arguments < 3
    → effect ≡ primitive t n r (get_or arguments 0 d ∷ get_or arguments 1 e ∷ []) w → effect ≡ primitive t n r arguments w
two_given t n r d e [] w effect l m is = absurd (omega arith)
two_given t n r d e (a ∷ []) w effect l m is = absurd (omega arith)
two_given t n r d e (a ∷ b ∷ []) w effect l m is = is
two_given t n r d e (a ∷ b ∷ c ∷ rest) w effect l m is = absurd (omega (arith, length_of rest))
  where
    length_of : (rest : List Value) → 3 ≤ length (a ∷ b ∷ c ∷ rest)
    length_of rest = grind (arith, common_steps)
