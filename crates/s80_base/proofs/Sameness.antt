-- Literals that look the same are one.
use Rattle.std.proofs.Common.{◌≡◌, ◌↔◌, ℕ, ◌==◌, ℤ, pos, negsuc, Bool, true, false, ◌&&◌, List, refl, ap, ap₂, sym, ◌∙◌, subst, true≢false, IsTrue}
use Rattle.std.specs.Str.{bytes_eq}
use Rattle.std.proofs.lemmas.Bool.Decides.{Decides-eqb}
use Rattle.std.proofs.lemmas.Slice.Eq.{bytes_eq-Decides}
use Rattle.s80_base.specs.Literal.{LiteralTree, LiteralTrees, small, character, str, symbol, array, true_literal, false_literal, nil_literal, number, no_literals, literals, kind_number}
use Rattle.s80_base.specs.declared.literal.NumberKind.{NumberKind}
use Rattle.s80_base.specs.declared.literal.NumberKind.TheVariants.{LargePositive, LargeNegative, Float}
use Rattle.s80_base.specs.SameLiteral.{same_number, same_literal, same_literals}

pub both_true : (a b : Bool) → (a && b) ≡ true → (a ≡ true) × (b ≡ true)
both_true true b e = (refl, e)
both_true false b e = absurd (true≢false (sym e))

pub word_same : (a b : List ℕ) → bytes_eq a b ≡ true → a ≡ b
word_same a b e = (bytes_eq-Decides a b).0 e

number_same : (m n : ℕ) → (m == n) ≡ true → m ≡ n
number_same m n e = (Decides-eqb m n).0 e

number_is_same : (m n : ℤ) → same_number m n ≡ true → m ≡ n
number_is_same (pos m) (pos n) e = ap pos (number_same m n e)
number_is_same (negsuc m) (negsuc n) e = ap negsuc (number_same m n e)
number_is_same (pos m) (negsuc n) e = absurd (true≢false (sym e))
number_is_same (negsuc m) (pos n) e = absurd (true≢false (sym e))

number_looks_same : (m : ℤ) → same_number m m ≡ true
number_looks_same (pos m) = (Decides-eqb m m).1 refl
number_looks_same (negsuc m) = (Decides-eqb m m).1 refl

pub word_looks_same : (a : List ℕ) → bytes_eq a a ≡ true
word_looks_same a = (bytes_eq-Decides a a).1 refl

kind_same : (k l : NumberKind) → (kind_number k == kind_number l) ≡ true → k ≡ l
kind_same LargePositive LargePositive e = refl
kind_same LargeNegative LargeNegative e = refl
kind_same Float Float e = refl
kind_same LargePositive LargeNegative e = absurd (true≢false (sym e))
kind_same LargePositive Float e = absurd (true≢false (sym e))
kind_same LargeNegative LargePositive e = absurd (true≢false (sym e))
kind_same LargeNegative Float e = absurd (true≢false (sym e))
kind_same Float LargePositive e = absurd (true≢false (sym e))
kind_same Float LargeNegative e = absurd (true≢false (sym e))

mutual
  pub literal_is_same : (v w : LiteralTree) → same_literal v w ≡ true → v ≡ w
  literal_is_same (small m) (small n) e = ap small (number_is_same m n e)
  literal_is_same (character m) (character n) e = ap character (number_same m n e)
  literal_is_same (str a) (str b) e = ap str (word_same a b e)
  literal_is_same (symbol a) (symbol b) e = ap symbol (word_same a b e)
  literal_is_same (array a) (array b) e = ap array (literals_are_same a b e)
  literal_is_same true_literal true_literal e = refl
  literal_is_same false_literal false_literal e = refl
  literal_is_same nil_literal nil_literal e = refl
  literal_is_same (number k a) (number l b) e = let h = both_true _ _ e in ap₂ number (kind_same k l h.0) (word_same a b h.1)
  literal_is_same _ _ e = cc

  literals_are_same : (vs ws : LiteralTrees) → same_literals vs ws ≡ true → vs ≡ ws
  literals_are_same no_literals no_literals e = refl
  literals_are_same (literals v vs) (literals w ws) e = let h = both_true _ _ e in ap₂ literals (literal_is_same v w h.0) (literals_are_same vs ws h.1)
  literals_are_same _ _ e = cc

pub and_true : (a b : Bool) → a ≡ true → b ≡ true → (a && b) ≡ true
and_true a b e f = ap₂ (λ x y. x && y) e f

mutual
  pub literal_looks_same : (v : LiteralTree) → same_literal v v ≡ true
  literal_looks_same (small m) = number_looks_same m
  literal_looks_same (character m) = (Decides-eqb m m).1 refl
  literal_looks_same (str a) = word_looks_same a
  literal_looks_same (symbol a) = word_looks_same a
  literal_looks_same (array a) = literals_look_same a
  literal_looks_same true_literal = refl
  literal_looks_same false_literal = refl
  literal_looks_same nil_literal = refl
  literal_looks_same (number k a) = and_true _ _ ((Decides-eqb (kind_number k) (kind_number k)).1 refl) (word_looks_same a)

  literals_look_same : (vs : LiteralTrees) → same_literals vs vs ≡ true
  literals_look_same no_literals = refl
  literals_look_same (literals v vs) = and_true _ _ (literal_looks_same v) (literals_look_same vs)

pub equal_where_same : (v w : LiteralTree) (b : Bool) → b ≡ same_literal v w → IsTrue b ↔ (v ≡ w)
equal_where_same v w b is = (
  λ h. literal_is_same v w (sym is ∙ h),
  λ e. is ∙ subst (λ x. same_literal v x ≡ true) e (literal_looks_same v),
)
