-- What a token spells as a literal.
use Rattle.std.specs.Prelude.{ℕ, ◌-◌, List, [], ◌∷◌, false, ◌&&◌, ◌==◌, length, take, drop, slice_index, codes, if◌then◌else◌}
use Rattle.std.specs.Str.{bytes_eq}
use Rattle.s80_lex.specs.declared.token.TokenKind.{TokenKind}
use Rattle.s80_lex.specs.declared.token.TokenKind.TheVariants as kind
use Rattle.s80_base.specs.Literal.{LiteralTree, character, str, symbol, true_literal, false_literal, nil_literal}
use Rattle.s80_lex.specs.Number.{number_literal}

-- two quotes stand for one
abbrev pub unquoted : List ℕ → List ℕ
unquoted [] = []
unquoted (b ∷ []) = b ∷ []
unquoted (b ∷ c ∷ bs) = if (b == 39) && (c == 39) then 39 ∷ unquoted bs else b ∷ unquoted (c ∷ bs)

-- what stands between the first and the last byte
abbrev pub between_ends : List ℕ → List ℕ
between_ends bytes = take (length bytes - 2) (drop 1 bytes)

-- the kinds of token that are a literal by themselves
abbrev pub IsLiteralKind : TokenKind → Type 0
IsLiteralKind kind.Number = Unit {0}
IsLiteralKind kind.Character = Unit {0}
IsLiteralKind kind.Str = Unit {0}
IsLiteralKind kind.Symbol = Unit {0}
IsLiteralKind _ = ⊥

abbrev pub token_literal : TokenKind → List ℕ → LiteralTree
token_literal kind.Character bytes = character (slice_index bytes 1)
token_literal kind.Str bytes = str (unquoted (between_ends bytes))
token_literal kind.Symbol bytes = symbol (drop 1 bytes)
token_literal _ bytes = number_literal false bytes

-- a Name in an array: one of the three objects, or a symbol
abbrev pub name_literal : List ℕ → LiteralTree
name_literal bytes =
    if bytes_eq bytes (codes "true") then true_literal
    else (if bytes_eq bytes (codes "false") then false_literal
    else (if bytes_eq bytes (codes "nil") then nil_literal else symbol bytes))
