-- Each known value has a class with the variables that the class's methods name, and special messages answer known values.
use Rattle.std.proofs.Common.{◌≡◌, sym, subst, refl, ℕ, suc, ◌<◌, ◌==◌, not, ◌&&◌, ◌^◌, ℤ, pos, negsuc, ◌+ℤ◌, ◌-ℤ◌, ◌*ℤ◌, neg_ℤ, List, [], ◌∷◌, codes, find, Option, Some, None, Bool, true, false, slice_get, get_or, arith, cond, if◌then◌else◌, option_and_then, IfSome}
use Rattle.std.specs.Option.{IsSome, option_map, option_map_or}
use Rattle.std.specs.List.{AllByRecursion}
use Rattle.std.specs.Int.{w32, int_bit_and, int_bit_or, int_bit_xor, int_shr}
use Rattle.s80_base.specs.declared.literal.NumberKind.{NumberKind}
use Rattle.s80_base.specs.declared.literal.NumberKind.TheVariants.{LargePositive, LargeNegative, Float}
use Rattle.s80_base.specs.declared.names.Side.{Side}
use Rattle.s80_base.specs.declared.names.Side.TheVariants.{Instance, Class}
use Rattle.std.specs.Str.{bytes_eq}
use Rattle.s80_kernel.specs.Rows as rows
use Rattle.s80_class.specs.Classes.{Name}
use Rattle.s80_class.specs.Table.{Table, IsClass}
use Rattle.s80_code.specs.declared.code.Code.{Code}
use Rattle.s80_dict.specs.Table.{MethodsValue}
use Rattle.s80_dict.specs.declared.dict.MethodEntry.{MethodEntry}
use Rattle.s80_object.specs.Body.{BodyTree, pointers, bytes, words, home as home_body, block as block_body}
use Rattle.s80_object.specs.Objects.{State as Objects, Opaque}
use Rattle.s80_object.specs.declared.value.Value.{Value}
use Rattle.s80_object.specs.declared.value.Value.TheVariants.{Small, Character, Nil, True, False, Symbol, Number, ClassRef, Object, Context as ContextValue, Transcript, Smalltalk}
use Rattle.s80_prims.specs.Arithmetic.{Row, arithmetic, divided, exact, floor_quotient, floor_rest, is_less, is_zero, ranged, rows as number_rows, shifted, truth}
use Rattle.s80_prims.specs.Classes.{body_class, class_of, kernel_class, number_class}
use Rattle.s80_prims.specs.Known.{BodyIsKnown, IsKnown}
use Rattle.s80_prims.specs.Primitives.{same}
use Rattle.s80_machine.specs.World.{World, receiver_variable}
use Rattle.s80_class.specs.Lookup.{number}
use Rattle.s80_machine.specs.Shared.{at_once, integer_primitives, of_integers}
use Rattle.s80_machine.specs.Sound.{IsSetting, IsSoundBody, IsSoundWorld, variables_on}
use Rattle.s80_machine.proofs.lemmas.SoundLists.{got_there}
use Rattle.s80_machine.proofs.SoundClasses.{kernel_number, kernel_plain}
use Rattle.s80_machine.proofs.SoundWorlds.{HasField, some_place}

module _ (t : Table) (methods : MethodsValue (MethodEntry Code)) (code : Code) (setting : IsSetting t methods code) (w : World) (sound : IsSoundWorld t methods code w) where
  -- this is the class of a value, which has the variables that its methods name
  pub record IsClassOf (r class : Value) : Type 0 where
    pub number : ℕ
    pub side : Side
    pub is : class ≡ ClassRef number side
    pub there : IsClass t.names number
    pub variables : (i : ℕ) → i < variables_on t number side → IsSome (receiver_variable w r i)

  kernel_of : (r : Value) (word : Name) → rows.is_kernel_class word ≡ true → bytes_eq word (codes "Message") ≡ false → IsClassOf r (kernel_class t word)
  kernel_of r word is differs = record {
    number = number t word;
    side = Instance;
    is = refl;
    there = (word, kernel_number t methods code setting word is);
    variables = λ i below. absurd (omega (arith, below, kernel_plain t methods code setting word is differs));
  }

  number_of_kind : (n : ℕ) (kind : NumberKind) → IsClassOf (Number n) (kernel_class t (number_class kind))
  unfolding rows.is_kernel_class
  number_of_kind n LargePositive = kernel_of (Number n) (codes "LargePositiveInteger") refl refl
  number_of_kind n LargeNegative = kernel_of (Number n) (codes "LargeNegativeInteger") refl refl
  number_of_kind n Float = kernel_of (Number n) (codes "Float") refl refl

  body_of : (n : ℕ) (b : BodyTree) → slice_get w.objects.bodies n ≡ Some b → BodyIsKnown t w.objects b → IsSoundBody t methods code w b → IsClassOf (Object n) (body_class t b)
  unfolding rows.is_kernel_class
  body_of n (pointers class fields items) e known h = record {
    number = class;
    side = Instance;
    is = refl;
    there = known.0;
    variables = λ i below. subst (λ o. HasField o i) (sym e) (some_place fields i (omega (arith, below, h)));
  }
  body_of n (bytes class items) e known h = record { number = class; side = Instance; is = refl; there = known; variables = λ i below. absurd (omega (arith, below, h)) }
  body_of n (words class items) e known h = record { number = class; side = Instance; is = refl; there = known; variables = λ i below. absurd (omega (arith, below, h)) }
  body_of n (home_body m r temporaries) e known h = kernel_of (Object n) (codes "MethodContext") refl refl
  body_of n (block_body whole start count) e known h = kernel_of (Object n) (codes "BlockContext") refl refl

  pub has_class : (r : Value) → IsKnown t w.objects r → IsClassOf r (class_of t w.objects r)
  unfolding rows.is_kernel_class
  has_class (Small n) h = kernel_of (Small n) (codes "SmallInteger") refl refl
  has_class (Character c) h = kernel_of (Character c) (codes "Character") refl refl
  has_class Nil h = kernel_of Nil (codes "UndefinedObject") refl refl
  has_class True h = kernel_of True (codes "True") refl refl
  has_class False h = kernel_of False (codes "False") refl refl
  has_class (Symbol n) h = kernel_of (Symbol n) (codes "Symbol") refl refl
  has_class (Number n) h =
      let o = got_there w.objects.numbers n h in
      subst (λ x. IsClassOf (Number n) (option_map_or (λ kind. kernel_class t (number_class kind)) (option_map (λ (number : Opaque). number.kind) x) Nil)) (sym o.1) (number_of_kind n (o.0).kind)
  has_class (ClassRef c Instance) h = record { number = c; side = Class; is = refl; there = h; variables = λ i below. refl }
  has_class (ClassRef c Class) h = kernel_of (ClassRef c Class) (codes "Metaclass") refl refl
  has_class (Object n) h =
      let b = got_there w.objects.bodies n h in
      subst (λ x. IsClassOf (Object n) (option_map_or (body_class t) x Nil)) (sym b.1) (body_of n b.0 b.1 (sound.known n b.0 b.1) (sound.bodies n b.0 b.1))
  has_class ContextValue h = kernel_of ContextValue (codes "MethodContext") refl refl
  has_class Transcript h = kernel_of Transcript (codes "TextCollector") refl refl
  has_class Smalltalk h = kernel_of Smalltalk (codes "SystemDictionary") refl refl

  class_known : (class : Value) (number : ℕ) (side : Side) → class ≡ ClassRef number side → IsClass t.names number → IsKnown t w.objects class
  class_known class number side is known = subst (IsKnown t w.objects) (sym is) known

  pub class_of_known : (r : Value) → IsKnown t w.objects r → IsKnown t w.objects (class_of t w.objects r)
  class_of_known r h = let c = has_class r h in class_known (class_of t w.objects r) c.number c.side c.is c.there

-- ---- what is answered at once

module _ (t : Table) (s : Objects) where
  some_if : (test : Bool) (v : Value) → IsKnown t s v → IfSome (if test then Some v else None) (IsKnown t s)
  some_if true v h = h
  some_if false v h = tt

  pub truth_known : (b : Bool) → IsKnown t s (truth b)
  truth_known true = tt
  truth_known false = tt

  ranged_known : (n : ℤ) → IfSome (ranged n) (IsKnown t s)
  ranged_known n = some_if (not (is_less n (neg_ℤ (pos (2 ^ 30)))) && is_less n (pos (2 ^ 30))) (Small n) tt

  if_known : (test : Bool) (a b : Option Value) → IfSome a (IsKnown t s) → IfSome b (IsKnown t s) → IfSome (if test then a else b) (IsKnown t s)
  if_known true a b h g = h
  if_known false a b h g = g

  divided_known : (f : ℤ → ℤ → Option Value) (a b : ℤ) → IfSome (f a b) (IsKnown t s) → IfSome (divided f a b) (IsKnown t s)
  divided_known f a b h = if_known (is_zero b) None (f a b) tt h

  shifted_known : (a b : ℤ) → IfSome (shifted a b) (IsKnown t s)
  shifted_known a (pos n) = ranged_known (a *ℤ pos (2 ^ n))
  shifted_known a (negsuc n) = ranged_known (int_shr a (suc n))

  exact_known : (a b : ℤ) → IfSome (exact a b) (IsKnown t s)
  exact_known a b = if_known (is_zero (floor_rest a b)) (ranged (floor_quotient a b)) None (ranged_known (floor_quotient a b)) tt

  row_known : (a b : ℤ) (test : Row → Bool) (rs : List Row) → AllByRecursion (λ r. IfSome (r.answer a b) (IsKnown t s)) rs → IfSome (option_and_then (λ r. r.answer a b) (find test rs)) (IsKnown t s)
  row_known a b test [] h = tt
  row_known a b test (r ∷ rs) h =
      elim (test r) as (λ is. IfSome (option_and_then (λ r. r.answer a b) (cond is (Some r) (find test rs))) (IsKnown t s)) [
        | true ↦ h.0
        | false ↦ row_known a b test rs h.1
      ]

  arithmetic_known : (n : ℕ) (a b : ℤ) → IfSome (arithmetic n a b) (IsKnown t s)
  arithmetic_known n a b =
      row_known a b (λ r. r.number == n) number_rows (
        ranged_known (a +ℤ b),
        (
          ranged_known (a -ℤ b),
          (
            truth_known (is_less a b),
            (
              truth_known (is_less b a),
              (
                truth_known (not (is_less b a)),
                (
                  truth_known (not (is_less a b)),
                  (
                    truth_known (is_zero (a -ℤ b)),
                    (
                      truth_known (not (is_zero (a -ℤ b))),
                      (
                        ranged_known (a *ℤ b),
                        (
                          divided_known exact a b (exact_known a b),
                          (
                            divided_known (λ a b. ranged (floor_rest a b)) a b (ranged_known (floor_rest a b)),
                            (
                              divided_known (λ a b. ranged (floor_quotient a b)) a b (ranged_known (floor_quotient a b)),
                              (ranged_known (int_bit_and w32 a b), (ranged_known (int_bit_or w32 a b), (ranged_known (int_bit_xor w32 a b), (shifted_known a b, tt)))),
                            ),
                          ),
                        ),
                      ),
                    ),
                  ),
                ),
              ),
            ),
          ),
        ),
      )

  of_integers_known : (n : ℕ) (r a : Value) → IfSome (of_integers n r a) (IsKnown t s)
  of_integers_known n (Small a) (Small b) = arithmetic_known (get_or integer_primitives n 0) a b
  of_integers_known n _ a = tt

  pub at_once_known : (n : ℕ) (r : Value) (arguments : List Value) → IsKnown t s (class_of t s r) → IfSome (at_once t s n r arguments) (IsKnown t s)
  at_once_known n r [] h = some_if (n == 23) (class_of t s r) h
  at_once_known n r (a ∷ []) h = if_known (n == 22) (Some (truth (same r a))) (of_integers n r a) (truth_known (same r a)) (of_integers_known n r a)
  at_once_known n r (a ∷ b ∷ rest) h = tt
