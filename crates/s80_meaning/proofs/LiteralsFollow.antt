-- The machine follows literals: each is made at its first push, on both sides or on none, and small constants take no room.
use Rattle.std.proofs.Common.{◌≡◌, ◌∙◌, ap, sym, subst, refl, ℕ, zero, suc, ◌+◌, ℤ, pos, List, ◌∷◌, slice_get, Bool, true, false, ◌⊎◌, inl, inr, arith, Option, Some, None, option_and_then, if◌then◌else◌}
use Rattle.std.proofs.lemmas.Bool.Decides.{nat_tests}
use Rattle.s80_code.specs.declared.code.Code.{Code}
use Rattle.s80_code.specs.declared.instruction.Instruction.{Instruction}
use Rattle.s80_base.specs.Literal.{LiteralTree}
use Rattle.s80_base.specs.Literal as literal
use Rattle.s80_core.specs.Core as core
use Rattle.s80_code.specs.Entries.{entries_of}
use Rattle.s80_code.specs.Entries as entry
use Rattle.s80_code.specs.Spelling.{Written}
use Rattle.s80_object.specs.Body.{words_of, word_limit}
use Rattle.s80_object.specs.Literal.{built, is_object, made_before, noted}
use Rattle.s80_object.specs.Objects.{State as Objects}
use Rattle.s80_object.specs.declared.value.Value.{Value}
use Rattle.s80_class.specs.Lookup.{number}
use Rattle.s80_meaning.specs.Image.{image}
use Rattle.s80_code.proofs.lemmas.TableLemmas.{value}
use Rattle.std.specs.Option.{option_map_or}
use Rattle.std.specs.Prelude.{codes as codes_of, nat_le}
use Rattle.s80_meaning.proofs.NaturalObjects.{built_image, noted_image, words_image}
use Rattle.s80_meaning.proofs.Extends.{built_extends}
use Rattle.s80_object.specs.declared.value.Value.TheVariants as val
use Rattle.s80_prims.specs.declared.stop.Stop.TheVariants.{ObjectsFull}
use Rattle.s80_compile.specs.Rows.{Pushes, PushesConstant}
use Rattle.s80_machine.specs.World.{World, Activation, number_in, with_objects}
use Rattle.s80_machine.specs.Turn.{Context, Turn, Goes, constant_in, given, goes_on, stops}
use Rattle.s80_machine.specs.Shared.{fixed}
use Rattle.s80_machine.specs.Step.{act, first_pushed, literal_pushed}
use Rattle.s80_meaning.specs.Tree.{place_of}
use Rattle.s80_meaning.specs.Meaning.{Gives, Stopped, with_part}
use Rattle.s80_meaning.specs.Meaning as meaning
use Rattle.s80_meaning.proofs.Variables.{noted_alike, noted_shown}
use Rattle.s80_meaning.proofs.Stays.{Extends, place_in}
use Rattle.s80_meaning.proofs.Corresponds.{Active, Follows, Known, Leads, Setting, context, facts, here_of, shown, small, small_constant, st}
use Rattle.s80_meaning.proofs.Following.{does, gives}

-- ---- small constants: nought, one and two are fixed values

not_low : (n : ℕ) → nat_le (suc (suc (suc n))) 2 ≡ false
not_low n = grind (arith, nat_tests)

fixed_small : (r : Value) (n : ℕ) → nat_le n 2 ≡ true → slice_get (fixed r) (5 + n) ≡ Some (val.Small (pos n))
fixed_small r zero e = refl
fixed_small r (suc zero) e = refl
fixed_small r (suc (suc zero)) e = refl
fixed_small r (suc (suc (suc n))) e = let wrong : true ≡ false = sym e ∙ not_low n in cc

-- an object is no small constant
not_small : (l : LiteralTree) → is_object l ≡ true → small_constant (entry.constant l) ≡ false
not_small (literal.small n) e = sym e
not_small _ e = refl

module _ {on : Setting} where
  open on use {table as t, methods, meant, codes, code, budget, starts}

  -- ---- what one instruction pushes

  -- a part that is there, pushed
  pub given_pushed : (a : Active on) (f : Activation) (p mid : ℕ) (stack : List Value) (w : World) (o : Option Value) → Known a w f → Leads on (st a f p stack w) (given o (λ v. goes_on (context a f p stack) mid (v ∷ stack) a.below (shown on w)))
      → Follows a w (st a f p stack w) mid (λ v. v ∷ stack) (with_part o (λ v. Gives v w f))
  given_pushed a f p mid stack w None known l = l
  given_pushed a f p mid stack w (Some v) known l = gives a w f (st a f p stack w) mid (λ v. v ∷ stack) v known l

  small_so : (a : Active on) (k : ℕ) (e : entry.EntryTree) → slice_get (entries_of a.of.literals) k ≡ Some e → small on a.key k ≡ small_constant e
  small_so a k e there =
      ap (λ o. option_map_or (λ (of : Code). option_map_or small_constant (slice_get (entries_of of.literals) k) false) o false) a.code_is ∙ ap (λ o. option_map_or small_constant o false) there

  module _ (a : Active on) (f : Activation) (p mid : ℕ) (stack : List Value) (w : World) (k : ℕ) (l : LiteralTree) (known : Known a w f) (there : slice_get (entries_of a.of.literals) k ≡ Some (entry.constant l)) where
    abbrev at : Value → ℕ → ℕ
    at = place_in starts w

    abbrev made : Objects × Value
    made = built (number t (codes_of "String")) (number t (codes_of "Array")) l w.objects

    abbrev noting : Objects
    noting = noted a.number k (is_object l) made

    ext : Extends w.objects made.0
    ext = built_extends (number t (codes_of "String")) (number t (codes_of "Array")) l w.objects

    no_small : is_object l ≡ true → small on a.key k ≡ false
    no_small object = small_so a k (entry.constant l) there ∙ not_small l object

    shows : with_objects w (noted a.number k (is_object l) (image at made.0, made.1)) ≡ shown on (with_objects w noting)
    shows = ap (with_objects w) (noted_image at a.number k (is_object l) made) ∙ noted_shown starts (facts on) w a.number k a.key (is_object l) made known.fine ext known.number no_small

    abbrev first : Objects × Value → Turn
    first b = first_pushed t codes code budget (context a f p stack) mid a.below (shown on w) k l b

    by_room : (room : Bool)
        → Leads on (st a f p stack w) (if room then Goes (st a f mid (made.1 ∷ stack) (with_objects w (noted a.number k (is_object l) made))) else stops (ObjectsFull (words_of w.objects.bodies)) (shown on w))
        → Follows a w (st a f p stack w) mid (λ v. v ∷ stack) (if room then Gives made.1 (with_objects w (noted a.number k (is_object l) made)) f else Stopped (ObjectsFull (words_of w.objects.bodies)) w)
    by_room true leads = (noted_alike (facts on) w a.number k a.key (is_object l) made known.fine ext known.number no_small, known.seen, leads)
    by_room false leads = leads

    by_made : (o : Option Value) → Leads on (st a f p stack w) (option_map_or (λ v. goes_on (context a f p stack) mid (v ∷ stack) a.below (shown on w)) o (first (built (number t (codes_of "String")) (number t (codes_of "Array")) l (image at w.objects))))
        → Follows a w (st a f p stack w) mid (λ v. v ∷ stack)
        (option_map_or (λ v. Gives v w f) o (if nat_le (words_of made.0.bodies) word_limit then Gives made.1 (with_objects w (noted a.number k (is_object l) made)) f else Stopped (ObjectsFull (words_of w.objects.bodies)) w))
    by_made (Some v) leads = gives a w f (st a f p stack w) mid (λ v. v ∷ stack) v known leads
    by_made None leads =
        by_room (nat_le (words_of made.0.bodies) word_limit)
        (subst (Leads on (st a f p stack w))
        (ap first (built_image at (number t (codes_of "String")) (number t (codes_of "Array")) l w.objects)
        ∙ (λ i. if nat_le (words_image at made.0.bodies i) word_limit then Goes (record { contexts = context a f mid (made.1 ∷ stack) ∷ a.below; world = shows i }) else stops (ObjectsFull (words_image at w.objects.bodies i)) (shown on w)))
        leads)

    literal_pushed_so : Leads on (st a f p stack w) (literal_pushed t codes code budget (context a f p stack) mid a.below (shown on w) k l)
        → Follows a w (st a f p stack w) mid (λ v. v ∷ stack) (meaning.literal_value t methods meant budget w f a.number k l)
    literal_pushed_so leads = by_made (made_before a.number k w.objects) leads

  pub constant_pushed : (a : Active on) (f : Activation) (p mid : ℕ) (stack : List Value) (w : World) (l : LiteralTree) (i : Instruction) (o : Option ℕ) → Known a w f → PushesConstant (entries_of a.of.literals) l o i → Written a.of.bytes p i mid
      → Follows a w (st a f p stack w) mid (λ v. v ∷ stack) (meaning.constant_value t methods meant budget (here_of a) w f l o)
  constant_pushed a f p mid stack w l i (Some n) known is r =
      given_pushed a f p mid stack w (slice_get (fixed a.receiver) n) known
      (subst (λ i. Leads on (st a f p stack w) (act t codes code budget a.of (context a f p stack) mid a.below (shown on w) i)) is (does a f p stack w i mid known r))
  constant_pushed a f p mid stack w l i None known (k, is, there) r =
      let c = context a f p stack in
      let pushed : act t codes code budget a.of c mid a.below (shown on w) i ≡ literal_pushed t codes code budget c mid a.below (shown on w) k l =
      ap (act t codes code budget a.of c mid a.below (shown on w)) is ∙ ap (λ o. given (option_and_then constant_in o) (literal_pushed t codes code budget c mid a.below (shown on w) k)) there in
      subst (λ o. Follows a w (st a f p stack w) mid (λ v. v ∷ stack) (with_part o (λ m. meaning.literal_value t methods meant budget w f (number_in w a.key) (place_of l m.named) l))) (sym a.means_is)
      (subst (λ n. Follows a w (st a f p stack w) mid (λ v. v ∷ stack) (meaning.literal_value t methods meant budget w f n (place_of l a.means.named) l)) (sym (known.fine.unique a.number a.key known.number))
      (subst (λ n. Follows a w (st a f p stack w) mid (λ v. v ∷ stack) (meaning.literal_value t methods meant budget w f a.number n l)) (a.pair.activation k l there)
      (literal_pushed_so a f p mid stack w k l known there (subst (Leads on (st a f p stack w)) pushed (does a f p stack w i mid known r)))))

  -- a small constant is never noted
  pub never_noted : (a : Active on) (w : World) (f : Activation) (k : ℕ) (n : ℤ) → Known a w f → slice_get (entries_of a.of.literals) k ≡ Some (entry.constant (literal.small n)) → made_before a.number k w.objects ≡ None
  never_noted a w f k n known there = by_made (made_before a.number k w.objects) refl
    where
      by_made : (o : Option Value) → made_before a.number k w.objects ≡ o → o ≡ None
      by_made None is = refl
      by_made (Some v) is =
          let made = known.fine.made a.number k v is in
          let same : made.0 ≡ a.key = value (sym made.1 ∙ known.number) in
          let wrong : true ≡ false = sym (small_so a k (entry.constant (literal.small n)) there) ∙ ap (λ key. small on key k) (sym same) ∙ made.2 in
          cc

  -- a block's number of parameters on the stack, or no room
  abbrev CountPushed : Active on → Activation → ℕ → ℕ → List Value → World → ℕ → Type 0
  CountPushed a f p mid stack w n =
      Leads on (st a f p stack w) (Goes (st a f mid (val.Small (pos n) ∷ stack) w))
      ⊎ Leads on (st a f p stack w) (if nat_le (words_of w.objects.bodies) word_limit then Goes (st a f mid (val.Small (pos n) ∷ stack) w) else stops (ObjectsFull (words_of w.objects.bodies)) (shown on w))

  pub count_pushed : (a : Active on) (f : Activation) (p mid : ℕ) (stack : List Value) (w : World) (n : ℕ) (i : Instruction) → Known a w f → Pushes (entries_of a.of.literals) (core.constant (literal.small (pos n))) i → Written a.of.bytes p i mid
      → CountPushed a f p mid stack w n
  count_pushed a f p mid stack w n i known is r = by_small (nat_le n 2) refl is
    where
      c : Context
      c = context a f p stack

      by_small : (x : Bool) → nat_le n 2 ≡ x → PushesConstant (entries_of a.of.literals) (literal.small (pos n)) (if x then Some (5 + n) else None) i → CountPushed a f p mid stack w n
      by_small true low is =
          inl (subst (Leads on (st a f p stack w))
          (ap (act t codes code budget a.of c mid a.below (shown on w)) is ∙ ap (λ o. given o (λ v. goes_on c mid (v ∷ stack) a.below (shown on w))) (fixed_small a.receiver n low))
          (does a f p stack w i mid known r))
      by_small false low (k, is, there) =
          inr (subst (Leads on (st a f p stack w))
          (ap (act t codes code budget a.of c mid a.below (shown on w)) is
          ∙ ap (λ o. given (option_and_then constant_in o) (literal_pushed t codes code budget c mid a.below (shown on w) k)) there
          ∙ ap (λ o. option_map_or (λ v. goes_on c mid (v ∷ stack) a.below (shown on w)) o (first_pushed t codes code budget c mid a.below (shown on w) k (literal.small (pos n)) ((shown on w).objects, val.Small (pos n)))) (never_noted a w f k (pos n) known there)
          ∙ ap (λ m. if nat_le m word_limit then Goes (st a f mid (val.Small (pos n) ∷ stack) w) else stops (ObjectsFull m) (shown on w)) (words_image (place_in starts w) w.objects.bodies))
          (does a f p stack w i mid known r))
