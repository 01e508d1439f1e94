-- Bytes and their tests.
use Rattle.std.proofs.Common.{◌≡◌, ◌≢◌, ℕ, ◌≤◌, List, Bool, true, false, ◌&&◌, cond, refl, ap, ◌∙◌, arith, nat_lt, nat_le}
use Rattle.std.specs.Prelude.{pos}
use Rattle.std.proofs.lemmas.Slice.Eq.{bytes_eq-Decides}
use Rattle.std.proofs.lemmas.Bool.Decides.{nat_tests}
use Rattle.s80_base.specs.Literal.{LiteralTree, small}
use Rattle.s80_syntax.specs.Lexeme.{Lexeme}
use Rattle.s80_lex.specs.Number.{number_literal}
use Rattle.std.specs.Str.{bytes_eq}
use Rattle.s80_syntax.specs.Word.{is_word, is_minus, is_primitive_number, primitive_value, minus}

pub word_true : (word : List ℕ) (l : Lexeme) → l.bytes ≡ word → is_word word l ≡ true
unfolding is_word
word_true word l e = (bytes_eq-Decides l.bytes word).1 e

pub word_bytes : (word : List ℕ) (l : Lexeme) → is_word word l ≡ true → l.bytes ≡ word
unfolding is_word
word_bytes word l e = (bytes_eq-Decides l.bytes word).0 e

not_true : (b : Bool) → (b ≡ true → ⊥) → b ≡ false
not_true true n = absurd (n refl)
not_true false n = refl

pub word_false : (word : List ℕ) (l : Lexeme) → l.bytes ≢ word → is_word word l ≡ false
word_false word l n = not_true (is_word word l) (λ e. n (word_bytes word l e))

pub primitive_true : (l : Lexeme) (n : ℕ) → number_literal false l.bytes ≡ small (pos n) → 1 ≤ n → n ≤ 255 → is_primitive_number l ≡ true
unfolding is_primitive_number
primitive_true l n e low high = ap (λ v. nat_lt 0 (primitive_value v)) e ∙ within n low high
  where
    within : (n : ℕ) → 1 ≤ n → n ≤ 255 → nat_lt 0 (cond (nat_le n 255) n 0) ≡ true
    within n low high = grind (arith, nat_tests)

-- the number of a lawful primitive
abbrev pub IsPrimitiveValue : ℕ → LiteralTree → Type 0
IsPrimitiveValue n v = (v ≡ small (pos n)) × (1 ≤ n) × (n ≤ 255)

value_within : (n : ℕ) → nat_lt 0 (cond (nat_le n 255) n 0) ≡ true → (1 ≤ n) × (n ≤ 255)
value_within n e = (grind (arith, nat_tests), grind (arith, nat_tests))

value_of : (v : LiteralTree) → nat_lt 0 (primitive_value v) ≡ true → (n : ℕ) × IsPrimitiveValue n v
value_of (small (pos n)) e = let w = value_within n e in (n, (refl, w.0, w.1))
value_of _ e = cc

pub primitive_is : (l : Lexeme) → is_primitive_number l ≡ true → (n : ℕ) × IsPrimitiveValue n (number_literal false l.bytes)
unfolding is_primitive_number
primitive_is l e = value_of (number_literal false l.bytes) e

-- a minus that begins a number is no other sign
pub minus_is : (l : Lexeme) → is_minus l ≡ true → l.bytes ≡ minus
unfolding is_minus
minus_is l e = (bytes_eq-Decides l.bytes minus).0 (left (bytes_eq l.bytes minus) l.joined e)
  where
    left : (a b : Bool) → a && b ≡ true → a ≡ true
    left true b e = refl
    left false b e = cc

pub other_word : (word other : List ℕ) → bytes_eq word other ≡ false → (l : Lexeme) → l.bytes ≡ word → is_word other l ≡ false
unfolding is_word
other_word word other d l e = ap (λ x. bytes_eq x other) e ∙ d
