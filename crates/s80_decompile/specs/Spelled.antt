-- The text of tokens.
use Rattle.std.specs.Prelude.{ℕ, List, [], ◌∷◌, ◌++◌, Bool, true, false, not, ◌&&◌, ◌||◌, if◌then◌else◌}
use Rattle.s80_lex.specs.declared.token.TokenKind.{TokenKind}
use Rattle.s80_lex.specs.declared.token.TokenKind.TheVariants as kind
use Rattle.s80_syntax.specs.Lexeme.{Lexeme, Lexemes}

-- no space stands behind such a token
abbrev pub opens : TokenKind → Bool
opens kind.OpenParen = true
opens kind.OpenBracket = true
opens kind.ArrayStart = true
opens kind.Caret = true
opens kind.Colon = true
opens _ = false

-- nor before such a one
abbrev pub closes : TokenKind → Bool
closes kind.CloseParen = true
closes kind.CloseBracket = true
closes kind.Period = true
closes kind.Semicolon = true
closes _ = false

abbrev pub space_if : Bool → List ℕ
space_if due = if due then (32 ∷ []) else []

-- whether a space may stand behind a token: none does between the minus of a number and its digits
abbrev pub is_spaced : Lexeme → Bool
is_spaced l = not (opens l.kind || l.joined)

-- spaced: a space may stand before the first token
abbrev pub spelled : Bool → Lexemes → List ℕ
spelled spaced [] = []
spelled spaced (l ∷ ls) = space_if (spaced && not (closes l.kind)) ++ (l.bytes ++ spelled (is_spaced l) ls)

abbrev pub text_of_tokens : Lexemes → List ℕ
text_of_tokens ls = spelled false ls
