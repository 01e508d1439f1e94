-- Tokens and what is left of them.
use Rattle.std.proofs.Common.{subst, ◌≡◌, ◌≢◌, ℕ, ◌<◌, ◌≤◌, List, [], ◌∷◌, ◌++◌, Bool, true, false, ◌&&◌, ◌==◌, length, refl, ap, sym, ◌∙◌, arith}
use Rattle.s80_lex.specs.declared.token.Token.{Token}
use Rattle.s80_lex.specs.declared.token.TokenKind.{TokenKind}
use Rattle.s80_lex.specs.declared.token.TokenKind.TheVariants as kind
use Rattle.s80_lex.specs.Text.{IsSlice}
use Rattle.s80_syntax.specs.Lexeme.{Lexeme, Lexemes, lexeme, lexemes, joins, is_joined}
use Rattle.s80_syntax.specs.Grammar.{Takes}
use Rattle.s80_syntax.specs.Word.{is_minus, minus}
use Rattle.std.specs.Str.{bytes_eq}
use Rattle.s80_syntax.specs.Reads.{AreSlices, IsNotNext, bytes_of}

pub tail_slices : (text : List ℕ) (a rest : List Token) (t : Token) → a ≡ t ∷ rest → AreSlices text a → AreSlices text rest
tail_slices text a rest t e h = (subst (AreSlices text) e h).1

pub first_slice : (text : List ℕ) (a rest : List Token) (t : Token) → a ≡ t ∷ rest → AreSlices text a → IsSlice text t
first_slice text a rest t e h = (subst (AreSlices text) e h).0

pub tail_smaller : (a rest : List Token) (t : Token) → a ≡ t ∷ rest → length rest < length a
tail_smaller a rest t e = omega (arith, ap length e)

-- the first token, as a letter of the grammar
pub takes_next : (text : List ℕ) (a rest : List Token) (t : Token) (k : TokenKind) → a ≡ t ∷ rest → t.kind ≡ k → Takes k (lexeme text t rest) (lexemes text a) (lexemes text rest)
takes_next text a rest t k e n = (ap (lexemes text) e, n)

and_left : (a b : Bool) → a && b ≡ true → a ≡ true
and_left true b e = refl
and_left false b e = cc

and_right : (a b : Bool) → a && b ≡ true → b ≡ true
and_right true b e = e
and_right false b e = cc

pub minus_joined : (text : List ℕ) (t : Token) (later : List Token) → is_minus (lexeme text t later) ≡ true → is_joined t later ≡ true
unfolding is_minus
minus_joined text t later e = and_right (bytes_eq (bytes_of text t) minus) (is_joined t later) e

-- what a token that is joined to the next one says of that
joins_number : (k : TokenKind) → joins kind.Binary k ≡ true → k ≡ kind.Number
joins_number kind.Number e = refl
joins_number _ e = cc

joins_keyword : (k : TokenKind) → joins kind.Keyword k ≡ true → k ≡ kind.Keyword
joins_keyword kind.Keyword e = refl
joins_keyword _ e = cc

joined_kind : (t u : Token) (later : List Token) → is_joined t (u ∷ later) ≡ true → joins t.kind u.kind ≡ true
joined_kind t u later e = and_right (t.to == u.from) (joins t.kind u.kind) e

no_more : (t : Token) → is_joined t [] ≡ true → ⊥
no_more t e = cc

pub number_joined : (t : Token) (later : List Token) → t.kind ≡ kind.Binary → is_joined t later ≡ true → IsNotNext kind.Number later → ⊥
number_joined t [] k e n = no_more t e
number_joined t (u ∷ later) k e n = n (joins_number u.kind (ap (λ x. joins x u.kind) (sym k) ∙ joined_kind t u later e))

pub keyword_joined : (t : Token) (later : List Token) → t.kind ≡ kind.Keyword → is_joined t later ≡ true → IsNotNext kind.Keyword later → ⊥
keyword_joined t [] k e n = no_more t e
keyword_joined t (u ∷ later) k e n = n (joins_keyword u.kind (ap (λ x. joins x u.kind) (sym k) ∙ joined_kind t u later e))
