-- What the class of a byte says of it.
use Rattle.std.proofs.Common.{◌≡◌, ℕ, List, [], ◌∷◌, Bool, true, false, rules, tests, ◌==◌, length, ap, subst}
use Rattle.std.proofs.lemmas.Bool.{eqb-true, false≢true}
use Rattle.std.specs.Char.{is_ascii_alphanumeric, is_ascii_digit}
use Rattle.s80_lex.specs.declared.class.Class.{Class}
use Rattle.s80_lex.specs.declared.class.Class.TheVariants.{Letter, Digit, Quote, DoubleQuote, Dollar, Hash, Underscore, Mark}
use Rattle.s80_lex.specs.declared.class.Class.TheVariants as class
use Rattle.s80_lex.specs.declared.token.TokenKind.{TokenKind}
use Rattle.s80_lex.specs.declared.token.TokenKind.TheVariants.{OpenParen, CloseParen, OpenBracket, CloseBracket, Caret, Semicolon, Period}
use Rattle.s80_lex.specs.Spelling.{IsToken}
use Rattle.s80_lex.specs.Class.{class_of}

pub letter : (b : ℕ) → class_of b ≡ Letter → is_ascii_alphanumeric b ≡ true
letter b e = search (rules, tests)

pub letter_differs : (b : ℕ) → class_of b ≡ Letter → (b == 61) ≡ false
letter_differs b e = search (rules, tests)

pub digit : (b : ℕ) → class_of b ≡ Digit → is_ascii_digit b ≡ true
digit b e = search (rules, tests)

pub quote : (b : ℕ) → class_of b ≡ Quote → b ≡ 39
quote b e = search (rules, tests)

pub double_quote : (b : ℕ) → class_of b ≡ DoubleQuote → b ≡ 34
double_quote b e = search (rules, tests)

pub dollar : (b : ℕ) → class_of b ≡ Dollar → b ≡ 36
dollar b e = search (rules, tests)

pub hash : (b : ℕ) → class_of b ≡ Hash → b ≡ 35
hash b e = search (rules, tests)

pub underscore : (b : ℕ) → class_of b ≡ Underscore → b ≡ 95
underscore b e = search (rules, tests)

pub colon : (b : ℕ) → class_of b ≡ class.Colon → b ≡ 58
colon b e = search (rules, tests)

pub digit_class : (b : ℕ) → is_ascii_digit b ≡ true → class_of b ≡ Digit
digit_class b e = search (rules, tests)

-- the byte of a mark
fits_mark : TokenKind → ℕ → Bool
fits_mark OpenParen b = b == 40
fits_mark CloseParen b = b == 41
fits_mark OpenBracket b = b == 91
fits_mark CloseBracket b = b == 93
fits_mark Caret b = b == 94
fits_mark Semicolon b = b == 59
fits_mark Period b = b == 46
fits_mark _ b = false

fits_class : Class → ℕ → Bool
unfolding fits_mark
fits_class (Mark m) b = fits_mark m b
fits_class _ b = true

class_fits : (b : ℕ) → fits_class (class_of b) b ≡ true
unfolding fits_mark fits_class
class_fits b = search (rules, tests)

mark_fits : (m : TokenKind) (b : ℕ) → class_of b ≡ Mark m → fits_mark m b ≡ true
unfolding fits_class
mark_fits m b e = subst (λ c. fits_class c b ≡ true) e (class_fits b)

-- a mark is spelled by its byte
spells : (m : TokenKind) (b : ℕ) (rest : List ℕ) → fits_mark m b ≡ true → IsToken m (b ∷ []) rest
unfolding fits_mark
spells OpenParen b rest e = ap (λ c. c ∷ []) (eqb-true b 40 e)
spells CloseParen b rest e = ap (λ c. c ∷ []) (eqb-true b 41 e)
spells OpenBracket b rest e = ap (λ c. c ∷ []) (eqb-true b 91 e)
spells CloseBracket b rest e = ap (λ c. c ∷ []) (eqb-true b 93 e)
spells Caret b rest e = ap (λ c. c ∷ []) (eqb-true b 94 e)
spells Semicolon b rest e = ap (λ c. c ∷ []) (eqb-true b 59 e)
spells Period b rest e = ap (λ c. c ∷ []) (eqb-true b 46 e)
spells _ b rest e = absurd (false≢true e)

-- and it is one byte
spelled : (m : TokenKind) (b : ℕ) (word rest : List ℕ) → fits_mark m b ≡ true → IsToken m word rest → length word ≡ 1
unfolding fits_mark
spelled OpenParen b word rest e h = ap length h
spelled CloseParen b word rest e h = ap length h
spelled OpenBracket b word rest e h = ap length h
spelled CloseBracket b word rest e h = ap length h
spelled Caret b word rest e h = ap length h
spelled Semicolon b word rest e h = ap length h
spelled Period b word rest e h = ap length h
spelled _ b word rest e h = absurd (false≢true e)

pub mark_spells : (m : TokenKind) (b : ℕ) (rest : List ℕ) → class_of b ≡ Mark m → IsToken m (b ∷ []) rest
mark_spells m b rest e = spells m b rest (mark_fits m b e)

pub mark_length : (m : TokenKind) (b : ℕ) (word rest : List ℕ) → class_of b ≡ Mark m → IsToken m word rest → length word ≡ 1
mark_length m b word rest e h = spelled m b word rest (mark_fits m b e) h
