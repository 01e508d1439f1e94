-- Literals that are no arrays, as they are read.
use Rattle.std.proofs.Common.{subst, ◌≡◌, ◌≢◌, ℕ, ◌<◌, ◌≤◌, List, [], ◌∷◌, ◌++◌, Bool, true, false, length, refl, ap, sym, ◌∙◌, append_assoc, arith, ◌⊎◌, inl, inr}
use Rattle.std.specs.Prelude.{Option, Some}
use Rattle.s80_base.specs.declared.literal.Literal.{Literal}
use Rattle.s80_base.specs.Literal.{LiteralTree, symbol, literal_of}
use Rattle.s80_lex.specs.Number.{number_literal}
use Rattle.s80_lex.specs.declared.token.Token.{Token}
use Rattle.s80_lex.specs.declared.token.TokenKind.{TokenKind}
use Rattle.s80_lex.specs.declared.token.TokenKind.TheVariants as kind
use Rattle.s80_syntax.specs.Lexeme.{Lexeme, Lexemes, lexeme, lexemes, is_joined}
use Rattle.s80_syntax.specs.Literals.{IsLiteralKind, token_literal, name_literal}
use Rattle.s80_syntax.specs.Grammar.{IsSingle, IsNegative, IsWord, AreJoined}
use Rattle.s80_syntax.specs.Word.{is_minus}
use Rattle.s80_syntax.specs.Reads.{AreSlices, IsNotNext, Took, bytes_of}
use Rattle.s80_syntax.specs.Literal.{IsTokenLiteral, NoMinus, KeywordNext, IsSimple, IsSimpleKind, NoSimple}
use Rattle.s80_syntax.proofs.NextToken.{tail_slices, tail_smaller, takes_next, minus_joined, number_joined, keyword_joined}

pub negative_here : (text : List ℕ) (v : LiteralTree) (ts tail after : List Token) (sign number : Token) → AreSlices text ts → ts ≡ sign ∷ tail → sign.kind ≡ kind.Binary → is_minus (lexeme text sign tail) ≡ true → tail ≡ number ∷ after → number.kind ≡ kind.Number → v ≡ number_literal true (bytes_of text number) → Took text (IsNegative v) ts after
negative_here text v ts tail after sign number w e k m f n g = record {
  read = (lexeme text sign tail, lexeme text number after, lexemes text tail, takes_next text ts tail sign kind.Binary e k, m, takes_next text tail after number kind.Number f n, g);
  slices = tail_slices text tail after number f (tail_slices text ts tail sign e w);
  shorter = omega (arith, ap length e, ap length f);
}

-- a minus that is joined has a number behind it
pub no_number : (text : List ℕ) (tail : List Token) (sign : Token) (P : Type 0) → sign.kind ≡ kind.Binary → is_minus (lexeme text sign tail) ≡ true → IsNotNext kind.Number tail → P
no_number text tail sign P k m n = absurd (number_joined sign tail k (minus_joined text sign tail m) n)

-- one keyword before others to which it is joined, and the last one
pub joined_more : (text : List ℕ) (word more : List ℕ) (start : Lexemes) (a tail : List Token) (t : Token) (end : Lexemes) → ((more : List ℕ) (end : Lexemes) → AreJoined more (lexemes text a) end → AreJoined (word ++ more) start end) → a ≡ t ∷ tail → t.kind ≡ kind.Keyword → is_joined t tail ≡ true → AreJoined more (lexemes text tail) end → AreJoined ((word ++ bytes_of text t) ++ more) start end
joined_more text word more start a tail t end h e k j g =
    subst (λ x. AreJoined x start end) (sym (append_assoc word (bytes_of text t) more))
    (h (bytes_of text t ++ more) end (subst (λ x. AreJoined (bytes_of text t ++ more) x end) (sym (ap (lexemes text) e)) (k, inr (more, j, refl, g))))

pub joined_last : (text : List ℕ) (word : List ℕ) (start : Lexemes) (a tail : List Token) (t : Token) → ((more : List ℕ) (end : Lexemes) → AreJoined more (lexemes text a) end → AreJoined (word ++ more) start end) → a ≡ t ∷ tail → t.kind ≡ kind.Keyword → is_joined t tail ≡ false → AreJoined (word ++ bytes_of text t) start (lexemes text tail)
joined_last text word start a tail t h e k j =
    h (bytes_of text t) (lexemes text tail) (subst (λ x. AreJoined (bytes_of text t) x (lexemes text tail)) (sym (ap (lexemes text) e)) (k, inl (j, refl, refl)))

pub keyword_next : (t : Token) (tail : List Token) → t.kind ≡ kind.Keyword → is_joined t tail ≡ true → KeywordNext tail
keyword_next t [] k j = keyword_joined t [] k j tt
keyword_next t (u ∷ tail) k j = by_kind u.kind refl
  where
    by_kind : (d : TokenKind) → u.kind ≡ d → u.kind ≡ kind.Keyword
    by_kind kind.Keyword e = e
    by_kind d e = absurd (keyword_joined t (u ∷ tail) k j (λ x. ne (sym e ∙ x)))
      where
        ne : d ≡ kind.Keyword → ⊥
        ne x = cc

pub no_keyword : (ts : List Token) (P : Type 0) → KeywordNext ts → IsNotNext kind.Keyword ts → P
no_keyword [] P k n = absurd k
no_keyword (t ∷ ts) P k n = absurd (n k)

-- an element that is no array
pub simple_word : (text : List ℕ) (v : LiteralTree) (ts rest : List Token) → AreSlices text rest → length rest < length ts → IsWord v (lexemes text ts) (lexemes text rest) → Took text (IsSimple v) ts rest
simple_word text v ts rest w s h = record { read = inr (inr h); slices = w; shorter = s }

pub simple_negative : (text : List ℕ) (v : LiteralTree) (ts rest : List Token) → Took text (IsNegative v) ts rest → Took text (IsSimple v) ts rest
simple_negative text v ts rest h = record { read = inr (inl h.read); slices = h.slices; shorter = h.shorter }

pub simple_name : (text : List ℕ) (v : LiteralTree) (ts tail : List Token) (t : Token) → AreSlices text ts → ts ≡ t ∷ tail → t.kind ≡ kind.Name → v ≡ name_literal (bytes_of text t) → Took text (IsSimple v) ts tail
simple_name text v ts tail t w e k g = simple_word text v ts tail (tail_slices text ts tail t e w) (tail_smaller ts tail t e) (inl (lexeme text t tail, takes_next text ts tail t kind.Name e k, g))

pub simple_binary : (text : List ℕ) (v : LiteralTree) (ts tail : List Token) (t : Token) → AreSlices text ts → ts ≡ t ∷ tail → t.kind ≡ kind.Binary → NoMinus text ts → v ≡ symbol (bytes_of text t) → Took text (IsSimple v) ts tail
simple_binary text v ts tail t w e k n g =
    simple_word text v ts tail (tail_slices text ts tail t e w) (tail_smaller ts tail t e) (inr (inl (lexeme text t tail, takes_next text ts tail t kind.Binary e k, subst (NoMinus text) e n k, g)))

pub simple_keywords : (text : List ℕ) (v : LiteralTree) (word : List ℕ) (ts rest : List Token) → Took text (AreJoined word) ts rest → v ≡ symbol word → Took text (IsSimple v) ts rest
simple_keywords text v word ts rest h g = simple_word text v ts rest h.slices h.shorter (inr (inr (word, h.read, g)))

pub simple_token : (text : List ℕ) (v : LiteralTree) (ts tail : List Token) (t : Token) → AreSlices text ts → ts ≡ t ∷ tail → IsLiteralKind t.kind → v ≡ token_literal t.kind (bytes_of text t) → Took text (IsSimple v) ts tail
simple_token text v ts tail t w e k g = record { read = inl (lexeme text t tail, ap (lexemes text) e, k, g); slices = tail_slices text ts tail t e w; shorter = tail_smaller ts tail t e }

-- the same, as a function gives it
pub token_some : (text : List ℕ) (o : Option Literal) (l : Literal) (ts tail : List Token) (t : Token) → AreSlices text ts → ts ≡ t ∷ tail → IsTokenLiteral text t o → o ≡ Some l → Took text (IsSimple (literal_of l)) ts tail
token_some text o l ts tail t w e h i = let g = subst (IsTokenLiteral text t) i h in simple_token text (literal_of l) ts tail t w e g.0 g.1

pub no_simple : (ts tail : List Token) (t : Token) → ts ≡ t ∷ tail → t.kind ≢ kind.Name → t.kind ≢ kind.Binary → t.kind ≢ kind.Keyword → (IsLiteralKind t.kind → ⊥) → NoSimple ts
no_simple ts tail t e a b c d = subst NoSimple (sym e) (by_kind t.kind a b c d)
  where
    by_kind : (k : TokenKind) → k ≢ kind.Name → k ≢ kind.Binary → k ≢ kind.Keyword → (IsLiteralKind k → ⊥) → IsSimpleKind k → ⊥
    by_kind kind.Name a b c d = λ h. a refl
    by_kind kind.Binary a b c d = λ h. b refl
    by_kind kind.Keyword a b c d = λ h. c refl
    by_kind _ a b c d = d
