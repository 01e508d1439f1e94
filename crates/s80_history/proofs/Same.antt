-- Tests of names, and their values.
use Rattle.std.proofs.Common.{◌≡◌, ◌∙◌, ℕ, Bool, true, false, not, ◌&&◌, List, refl, sym, ap, true≢false}
use Rattle.std.specs.Str.{bytes_eq}
use Rattle.std.specs.Cmp.Lexicographic.{bytes_decides}
use Rattle.std.proofs.lemmas.Bool.{and_parts}
use Rattle.s80_base.specs.declared.names.Side.{Side}
use Rattle.s80_base.specs.declared.names.Side.TheVariants.{Instance, Class}
use Rattle.s80_dict.specs.Table.{same_side}
use Rattle.s80_history.specs.Lists.{MethodName, is_same}

pub text_same : (x y : List ℕ) → bytes_eq x y ≡ true → x ≡ y
text_same x y e = (bytes_decides x y).0 e

pub same_text : (x : List ℕ) → bytes_eq x x ≡ true
same_text x = (bytes_decides x x).1 refl

pub side_same : (s t : Side) → same_side s t ≡ true → s ≡ t
side_same Instance Instance e = refl
side_same Instance Class e = absurd (true≢false (sym e))
side_same Class Instance e = absurd (true≢false (sym e))
side_same Class Class e = refl

pub same_as_itself : (s : Side) → same_side s s ≡ true
same_as_itself Instance = refl
same_as_itself Class = refl

named_alike : (m n : MethodName) → m.class_name ≡ n.class_name → m.side ≡ n.side → m.selector ≡ n.selector → m ≡ n
named_alike m n class side selector = λ i. record { class_name = class i; side = side i; selector = selector i }

pub name_same : (m n : MethodName) → is_same m n ≡ true → m ≡ n
name_same m n e =
    let parts = and_parts (bytes_eq m.class_name n.class_name && same_side m.side n.side) (bytes_eq m.selector n.selector) e in
    let class_and_side = and_parts (bytes_eq m.class_name n.class_name) (same_side m.side n.side) parts.0 in
    named_alike m n (text_same m.class_name n.class_name class_and_side.0) (side_same m.side n.side class_and_side.1) (text_same m.selector n.selector parts.1)

pub same_name : (m : MethodName) → is_same m m ≡ true
same_name m = (λ i. same_text m.class_name i && same_as_itself m.side i && same_text m.selector i)

-- ---- two values, by a test that tells them

pub both_true : (x : Bool) → (x && true) ≡ x
both_true true = refl
both_true false = refl

pub never_both : (x : Bool) → (x && false) ≡ false
never_both true = refl
never_both false = refl

module _ {U : Type 0} (same : U → U → Bool) (same_is : (x y : U) → same x y ≡ true → x ≡ y) (itself : (x : U) → same x x ≡ true) where
  turned : (x y : U) (b : Bool) → same x y ≡ b → same y x ≡ b
  turned x y true e = ap (λ u. same u x) (sym (same_is x y e)) ∙ itself x
  turned x y false e = other (same y x) refl
    where
      other : (b : Bool) → same y x ≡ b → same y x ≡ false
      other true is = absurd (true≢false (sym (itself x) ∙ ap (same x) (sym (same_is y x is)) ∙ e))
      other false is = is

  -- of the first that a test holds of, or of the second
  pub of_either : (f : U → Bool) (x y : U) → (not (f x) && same x y) ≡ (same y x && not (f y))
  of_either f x y = go (same x y) refl
    where
      go : (b : Bool) → same x y ≡ b → (not (f x) && same x y) ≡ (same y x && not (f y))
      go true e =
          ap (λ b. not (f x) && b) e ∙ both_true (not (f x)) ∙ ap (λ u. not (f u)) (same_is x y e)
          ∙ sym (ap (λ b. b && not (f y)) (turned x y true e))
      go false e = ap (λ b. not (f x) && b) e ∙ never_both (not (f x)) ∙ sym (ap (λ b. b && not (f y)) (turned x y false e))
