-- What stands at the front of a text.
use Rattle.std.proofs.Common.{◌≡◌, ℕ, ◌≤◌, ◌<◌, ◌⊎◌, inl, inr, List, [], ◌∷◌, ◌++◌, true, None, Ok, Err, take, drop, length, refl, ap, sym, ◌∙◌, subst, arith, length-append, take-append-drop, length-take-le}
use Rattle.std.proofs.lemmas.Bool.{eq-eqb}
use Rattle.s80_lex.specs.declared.class.Class.{Class}
use Rattle.s80_lex.specs.declared.class.Class.TheVariants as class
use Rattle.s80_lex.specs.declared.front.Wrong.TheVariants as wrong
use Rattle.s80_lex.specs.declared.part.Part.{Part}
use Rattle.s80_lex.specs.declared.part.Part.TheVariants as part
use Rattle.s80_lex.specs.declared.token.TokenKind.{TokenKind}
use Rattle.s80_lex.specs.declared.token.TokenKind.TheVariants.{Name, Keyword, Assign, Binary, Number, Character, Str, Symbol, ArrayStart, OpenParen, CloseParen, OpenBracket, CloseBracket, Caret, Semicolon, Period, Colon}
use Rattle.s80_lex.specs.Spelling.{IsToken, IsOperator, IsQuoted, begins_with, unended}
use Rattle.s80_lex.specs.Number.{IsLawfulNumber}
use Rattle.s80_lex.specs.Text.{IsPart, IsUnended, IsStuck}
use Rattle.s80_lex.specs.Front.{first_class, IsMost, Takes, Stands, FindsKind, FindsQuoted}
use Rattle.s80_lex.proofs.Begins.{Begins, token_begins, number_first}
use Rattle.s80_lex.proofs.Classes.{dollar, quote, double_quote}
use Rattle.s80_lex.proofs.Words.{keyword_length}

-- a token has at least one byte
pub token_some : (kind : TokenKind) (w r : List ℕ) → IsToken kind w r → 0 < length w
token_some Name [] r h = absurd h
token_some Name (b ∷ w) r h = omega arith
token_some Keyword w r h = omega (arith, ap length h.spelled, keyword_length h.name)
token_some Assign w r (inl e) = omega (arith, ap length e)
token_some Assign w r (inr e) = omega (arith, ap length e)
token_some Binary [] r h = absurd h
token_some Binary (b ∷ w) r h = omega arith
token_some Number [] r h = let e : class.Other ≡ class.Digit = number_first [] [] h in absurd (cc)
token_some Number (b ∷ w) r h = omega arith
token_some Character w r h = omega (arith, ap length h.1)
token_some Str w r h = omega (arith, ap length h.spelled, length-append (unended 39 h.text) (39 ∷ []))
token_some Symbol w r h = omega (arith, ap length h.spelled)
token_some ArrayStart w r h = omega (arith, ap length h)
token_some OpenParen w r h = omega (arith, ap length h)
token_some CloseParen w r h = omega (arith, ap length h)
token_some OpenBracket w r h = omega (arith, ap length h)
token_some CloseBracket w r h = omega (arith, ap length h)
token_some Caret w r h = omega (arith, ap length h)
token_some Semicolon w r h = omega (arith, ap length h)
token_some Period w r h = omega (arith, ap length h)
token_some Colon w r h = omega (arith, ap length h)

-- what a part begins with
abbrev pub BeginsPart : Class → Part → Type 0
BeginsPart c part.Separator = c ≡ class.Separator
BeginsPart c part.Comment = c ≡ class.DoubleQuote
BeginsPart c (part.Token kind) = Begins c kind

pub part_begins : (p : Part) (w r : List ℕ) → IsPart p w r → BeginsPart (first_class (w ++ r)) p
part_begins part.Separator w r h = ap (λ l. first_class (l ++ r)) h.1 ∙ h.2
part_begins part.Comment w r h = ap (λ l. first_class (l ++ r)) h.spelled
part_begins (part.Token kind) w r h = token_begins kind w r h.0.token

pub part_some : (p : Part) (w r : List ℕ) → IsPart p w r → 0 < length w
part_some part.Separator w r h = omega (arith, ap length h.1)
part_some part.Comment w r h = omega (arith, ap length h.spelled, length-append (unended 34 h.text) (34 ∷ []))
part_some (part.Token kind) w r h = token_some kind w r h.0.token

-- each kind of part, by what its function found
pub separator_stands : (text : List ℕ) → first_class text ≡ class.Separator → Stands (Ok (part.Separator, 1)) text
separator_stands [] e = absurd (cc)
separator_stands (b ∷ text) e = (omega arith, omega arith, (b, refl, e))

pub comment_stands : (n : ℕ) (text : List ℕ) → IsMost (IsQuoted 34) n text → Stands (Ok (part.Comment, n)) text
comment_stands n text m = (omega (arith, part_some part.Comment (take n text) (drop n text) m.here, length-take-le n text m.fits), m.fits, m.here)

pub takes_stands : (kind : TokenKind) (n : ℕ) (text : List ℕ) → Takes kind n text → (kind ≡ Number → IsLawfulNumber (take n text)) → Stands (Ok (part.Token kind, n)) text
takes_stands kind n text t lawful =
    (omega (arith, token_some kind (take n text) (drop n text) t.longest.token, length-take-le n text t.fits), t.fits, (t.longest, lawful))

-- no kind but Number begins with a digit
pub other_stands : (kind : TokenKind) (n : ℕ) (text : List ℕ) → Takes kind n text → (first_class text ≡ class.Digit → ⊥) → Stands (Ok (part.Token kind, n)) text
other_stands kind n text t apart = takes_stands kind n text t (λ e. absurd (apart
    (ap first_class (sym (take-append-drop n text)) ∙ number_first (take n text) (drop n text) (subst (λ k. IsToken k (take n text) (drop n text)) e t.longest.token))))

pub number_wrong : (n : ℕ) (text : List ℕ) → Takes Number n text → (IsLawfulNumber (take n text) → ⊥) → Stands (Err wrong.BadNumber) text
number_wrong n text t unlawful = record {
  word = take n text;
  left = drop n text;
  spelled = sym (take-append-drop n text);
  longest = t.longest;
  unlawful = unlawful;
}

pub string_wrong : (text : List ℕ) → FindsQuoted 39 None text → Stands (Err wrong.Unended) text
string_wrong text h = inl (h.0, inl h.1)

pub comment_wrong : (text : List ℕ) → FindsQuoted 34 None text → Stands (Err wrong.Unended) text
comment_wrong text h = inl (h.0, inr h.1)

-- nothing but a dollar sign
pub dollar_wrong : (text : List ℕ) → first_class text ≡ class.Dollar → length text ≤ 1 → Stands (Err wrong.Unended) text
dollar_wrong [] e le = absurd (cc)
dollar_wrong (b ∷ []) e le = inr (ap (λ c. c ∷ []) (dollar b e))
dollar_wrong (b ∷ c ∷ text) e le = absurd (omega arith)

-- bytes that only a token may begin, and that begin no faulty one
abbrev IsPlain : Class → Type 0
IsPlain class.Hash = Unit {0}
IsPlain class.Other = Unit {0}
IsPlain _ = ⊥

pub byte_wrong : (text : List ℕ) (c : Class) → 0 < length text → first_class text ≡ c → IsPlain c → FindsKind None text → Stands (Err wrong.BadByte) text
byte_wrong text c lt e plain none = record {
  some = λ empty. omega (arith, ap length empty);
  stuck = stuck;
  ended = ended;
  lawful = λ h. not class.Digit (λ x. x) (ap first_class h.spelled ∙ number_first h.word h.left h.longest.token);
}
  where
    not : (d : Class) → (IsPlain d → ⊥) → first_class text ≡ d → ⊥
    not d faulty f = faulty (subst IsPlain (sym e ∙ f) plain)

    stuck : IsStuck text
    stuck part.Separator w r t h = not class.Separator (λ x. x) (ap first_class (sym t) ∙ part_begins part.Separator w r h)
    stuck part.Comment w r t h = not class.DoubleQuote (λ x. x) (ap first_class (sym t) ∙ part_begins part.Comment w r h)
    stuck (part.Token kind) w r t h = none kind w r t h.0.token

    ended : IsUnended text → ⊥
    ended (inl h) = elim h.1 [
      | inl q ↦ not class.Quote (λ x. x) (ap first_class q)
      | inr q ↦ not class.DoubleQuote (λ x. x) (ap first_class q)
    ]
    ended (inr h) = not class.Dollar (λ x. x) (ap first_class h)

pub other_none : (text : List ℕ) → first_class text ≡ class.Other → FindsKind None text
other_none text e kind w r t h = subst (λ c. Begins c kind) (ap first_class t ∙ e) (token_begins kind w r h)

pub operator_either : (text : List ℕ) (c : Class) → c ≡ first_class text → (c ≡ class.Special) ⊎ (c ≡ class.Minus) → IsOperator (first_class text) × (first_class text ≡ class.Digit → ⊥)
operator_either text c e (inl f) = (subst IsOperator (sym f ∙ e) tt, λ g. cc)
operator_either text c e (inr f) = (subst IsOperator (sym f ∙ e) tt, λ g. cc)

-- the quote that a text begins with
pub quote_next : (text : List ℕ) → first_class text ≡ class.Quote → begins_with 39 text ≡ true
quote_next [] e = cc
quote_next (b ∷ text) e = eq-eqb b 39 (quote b e)

pub double_quote_next : (text : List ℕ) → first_class text ≡ class.DoubleQuote → begins_with 34 text ≡ true
double_quote_next [] e = cc
double_quote_next (b ∷ text) e = eq-eqb b 34 (double_quote b e)
