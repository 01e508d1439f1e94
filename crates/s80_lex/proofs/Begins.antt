-- Which kinds of token a byte begins.
use Rattle.std.proofs.Common.{◌≡◌, ℕ, ◌⊎◌, inl, inr, List, [], ◌∷◌, ◌++◌, refl, ap, sym, ◌∙◌, subst, append_assoc}
use Rattle.s80_lex.specs.declared.class.Class.{Class}
use Rattle.s80_lex.specs.declared.class.Class.TheVariants as class
use Rattle.s80_lex.specs.declared.token.TokenKind.{TokenKind}
use Rattle.s80_lex.specs.declared.token.TokenKind.TheVariants.{Name, Keyword, Assign, Binary, Number, Character, Str, Symbol, ArrayStart, OpenParen, CloseParen, OpenBracket, CloseBracket, Caret, Semicolon, Period, Colon}
use Rattle.s80_lex.specs.Spelling.{IsToken, IsNumber, IsRun, IsOperator}
use Rattle.std.specs.Char.{is_ascii_digit}
use Rattle.s80_lex.specs.Front.{first_class}
use Rattle.s80_lex.proofs.Classes.{digit_class}
use Rattle.s80_lex.proofs.lemmas.Selectors.{binary_first}
use Rattle.s80_lex.proofs.Words.{name_first, keyword_shows}

-- the kinds that a class begins
abbrev pub Begins : Class → TokenKind → Type 0
Begins class.Letter kind = (kind ≡ Name) ⊎ (kind ≡ Keyword)
Begins class.Digit kind = kind ≡ Number
Begins class.Special kind = kind ≡ Binary
Begins class.Minus kind = kind ≡ Binary
Begins class.Quote kind = kind ≡ Str
Begins class.Dollar kind = kind ≡ Character
Begins class.Hash kind = (kind ≡ Symbol) ⊎ (kind ≡ ArrayStart)
Begins class.Underscore kind = kind ≡ Assign
Begins class.Colon kind = (kind ≡ Colon) ⊎ (kind ≡ Assign)
Begins (class.Mark mark) kind = kind ≡ mark
Begins class.DoubleQuote kind = ⊥
Begins class.Separator kind = ⊥
Begins class.Other kind = ⊥

operator_begins : (c : Class) → IsOperator c → Begins c Binary
operator_begins class.Special h = refl
operator_begins class.Minus h = refl
operator_begins class.Letter h = absurd h
operator_begins class.Digit h = absurd h
operator_begins class.Quote h = absurd h
operator_begins class.DoubleQuote h = absurd h
operator_begins class.Dollar h = absurd h
operator_begins class.Hash h = absurd h
operator_begins class.Underscore h = absurd h
operator_begins class.Colon h = absurd h
operator_begins (class.Mark m) h = absurd h
operator_begins class.Separator h = absurd h
operator_begins class.Other h = absurd h

run_first : (w r : List ℕ) → IsRun is_ascii_digit w → first_class (w ++ r) ≡ class.Digit
run_first [] r h = absurd h
run_first (b ∷ w) r h = digit_class b h.0

append_first : (d x w r : List ℕ) → IsRun is_ascii_digit d → w ≡ d ++ x → first_class (w ++ r) ≡ class.Digit
append_first [] x w r h e = absurd h
append_first (b ∷ d) x w r h e = ap (λ l. first_class (l ++ r)) e ∙ digit_class b h.0

pub number_first : (w r : List ℕ) → IsNumber w → first_class (w ++ r) ≡ class.Digit
number_first w r (inl h) = append_first h.0 (h.1 ++ h.2) w r h.4 (h.3 ∙ append_assoc h.0 h.1 h.2)
number_first w r (inr h) = append_first h.0 (114 ∷ h.1) w r h.3 h.2

-- a token begins with a class that begins its kind
pub token_begins : (kind : TokenKind) (w r : List ℕ) → IsToken kind w r → Begins (first_class (w ++ r)) kind
token_begins Name w r h = subst (λ c. Begins c Name) (sym (name_first w r h)) (inl refl)
token_begins Keyword w r h = subst (λ c. Begins c Keyword) (sym (keyword_shows (w ++ r) w r refl h).0) (inr refl)
token_begins Assign w r (inl e) = subst (λ l. Begins (first_class (l ++ r)) Assign) (sym e) refl
token_begins Assign w r (inr e) = subst (λ l. Begins (first_class (l ++ r)) Assign) (sym e) (inr refl)
token_begins Binary w r h = operator_begins (first_class (w ++ r)) (binary_first w r h)
token_begins Number w r h = subst (λ c. Begins c Number) (sym (number_first w r h)) refl
token_begins Character w r h = subst (λ l. Begins (first_class (l ++ r)) Character) (sym h.1) refl
token_begins Str w r h = subst (λ l. Begins (first_class (l ++ r)) Str) (sym h.spelled) refl
token_begins Symbol w r h = subst (λ l. Begins (first_class (l ++ r)) Symbol) (sym h.spelled) (inl refl)
token_begins ArrayStart w r h = subst (λ l. Begins (first_class (l ++ r)) ArrayStart) (sym h) (inr refl)
token_begins OpenParen w r h = subst (λ l. Begins (first_class (l ++ r)) OpenParen) (sym h) refl
token_begins CloseParen w r h = subst (λ l. Begins (first_class (l ++ r)) CloseParen) (sym h) refl
token_begins OpenBracket w r h = subst (λ l. Begins (first_class (l ++ r)) OpenBracket) (sym h) refl
token_begins CloseBracket w r h = subst (λ l. Begins (first_class (l ++ r)) CloseBracket) (sym h) refl
token_begins Caret w r h = subst (λ l. Begins (first_class (l ++ r)) Caret) (sym h) refl
token_begins Semicolon w r h = subst (λ l. Begins (first_class (l ++ r)) Semicolon) (sym h) refl
token_begins Period w r h = subst (λ l. Begins (first_class (l ++ r)) Period) (sym h) refl
token_begins Colon w r h = subst (λ l. Begins (first_class (l ++ r)) Colon) (sym h) (inl refl)
