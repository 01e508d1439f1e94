-- The letters of the grammar: tokens with their bytes and places.
use Rattle.std.specs.Prelude.{ℕ, List, [], ◌∷◌, Bool, true, false, ◌&&◌, ◌==◌, slice_range}
use Rattle.s80_lex.specs.declared.token.TokenKind.{TokenKind}
use Rattle.s80_lex.specs.declared.token.TokenKind.TheVariants as kind
use Rattle.s80_lex.specs.declared.token.Token.{Token}

-- joined: the next token begins where this one ends, and can be one with it
pub record Lexeme : Type 0 where
  pub kind : TokenKind
  pub bytes : List ℕ
  pub at : ℕ
  pub joined : Bool

abbrev pub Lexemes : Type 0
Lexemes = List Lexeme

-- a Number can be one with the Binary before it, and a Keyword with the Keyword before it
abbrev pub joins : TokenKind → TokenKind → Bool
joins kind.Binary kind.Number = true
joins kind.Keyword kind.Keyword = true
joins _ _ = false

abbrev pub is_joined : Token → List Token → Bool
is_joined t [] = false
is_joined t (next ∷ later) = (t.to == next.from) && joins t.kind next.kind

-- a token of a text, with those behind it
abbrev pub lexeme : List ℕ → Token → List Token → Lexeme
lexeme text t later = record { kind = t.kind; bytes = slice_range text t.from t.to; at = t.from; joined = is_joined t later }

abbrev pub lexemes : List ℕ → List Token → Lexemes
lexemes text [] = []
lexemes text (t ∷ later) = lexeme text t later ∷ lexemes text later

-- where a list of tokens begins, in a text that ends there
abbrev pub place : ℕ → Lexemes → ℕ
place end [] = end
place end (l ∷ ts) = l.at
