-- The tokens of trees, each at place 0. What follows a part is its last argument.
use Rattle.std.specs.Prelude.{ℕ, zero, suc, List, [], ◌∷◌, Bool, true, false, codes, decimal, drop, if◌then◌else◌}
use Rattle.std.specs.Fmt.{signed_decimal}
use Rattle.s80_base.specs.Literal.{LiteralTree, LiteralTrees, small, character, str, symbol, array, true_literal, false_literal, nil_literal, number, no_literals, literals}
use Rattle.s80_lex.specs.declared.token.TokenKind.{TokenKind}
use Rattle.s80_lex.specs.declared.token.TokenKind.TheVariants as kind
use Rattle.s80_lex.specs.Number.{before, behind, has}
use Rattle.s80_lex.specs.Spelling.{begins_with, keyword, quoted}
use Rattle.s80_syntax.specs.Lexeme.{Lexeme, Lexemes}
use Rattle.s80_syntax.specs.Word.{bar, minus, less, greater, primitive_word}
use Rattle.s80_tree.specs.declared.name.NameAt.{NameAt}
use Rattle.s80_tree.specs.Tree.{ExprTree, PrimaryTree, ExprTrees, MessageTrees, BodyTree, MethodParts, expr, name, literal, block, paren, no_exprs, exprs, no_messages, messages, no_stmts, stmts}

abbrev pub token : TokenKind → List ℕ → Lexeme
token k bytes = record { kind = k; bytes = bytes; at = 0; joined = false }

-- the minus of a negative number
abbrev pub sign : Lexeme
sign = record { kind = kind.Binary; bytes = minus; at = 0; joined = true }

-- ---- literals

-- a number by its bytes, after a minus (45) where it is negative
abbrev pub number_tokens : List ℕ → Lexemes → Lexemes
number_tokens bytes more = if begins_with 45 bytes then (sign ∷ token kind.Number (drop 1 bytes) ∷ more) else (token kind.Number bytes ∷ more)

abbrev mutual
  pub literal_tokens : LiteralTree → Lexemes → Lexemes
  literal_tokens (small n) more = number_tokens (signed_decimal n) more
  literal_tokens (character b) more = token kind.Character (36 ∷ b ∷ []) ∷ more
  literal_tokens (str text) more = token kind.Str (quoted 39 text) ∷ more
  literal_tokens (symbol s) more = token kind.Symbol (35 ∷ s) ∷ more
  literal_tokens (array vs) more = token kind.ArrayStart (codes "#(") ∷ literals_tokens vs (token kind.CloseParen (codes ")") ∷ more)
  literal_tokens true_literal more = token kind.Name (codes "true") ∷ more
  literal_tokens false_literal more = token kind.Name (codes "false") ∷ more
  literal_tokens nil_literal more = token kind.Name (codes "nil") ∷ more
  literal_tokens (number k bytes) more = number_tokens bytes more

  pub literals_tokens : LiteralTrees → Lexemes → Lexemes
  literals_tokens no_literals more = more
  literals_tokens (literals v vs) more = literal_tokens v (literals_tokens vs more)

-- ---- expressions

abbrev pub target_tokens : List NameAt → Lexemes → Lexemes
target_tokens [] more = more
target_tokens (n ∷ ns) more = token kind.Name n.name ∷ token kind.Assign (codes "_") ∷ target_tokens ns more

-- the first keyword of a selector, or the binary selector that it is; a colon (58) ends a keyword
abbrev pub part_token : List ℕ → Lexeme
part_token s = if has 58 s then token kind.Keyword (keyword (before 58 s)) else token kind.Binary s

-- names, one after another
abbrev pub name_tokens : List NameAt → Lexemes → Lexemes
name_tokens [] more = more
name_tokens (n ∷ ns) more = token kind.Name n.name ∷ name_tokens ns more

-- the parameters of a block, each behind a colon
abbrev pub parameter_tokens : List NameAt → Lexemes → Lexemes
parameter_tokens [] more = more
parameter_tokens (n ∷ ns) more = token kind.Colon (codes ":") ∷ token kind.Name n.name ∷ parameter_tokens ns more

-- the bar between parameters and a body, where a block has both
abbrev pub bar_tokens : List NameAt → BodyTree → Lexemes → Lexemes
bar_tokens [] ss more = more
bar_tokens (n ∷ ns) no_stmts more = more
bar_tokens (n ∷ ns) (stmts r e ss) more = token kind.Binary bar ∷ more

abbrev pub caret_tokens : Bool → Lexemes → Lexemes
caret_tokens true more = token kind.Caret (codes "^") ∷ more
caret_tokens false more = more

abbrev pub period_if : Bool → Lexemes → Lexemes
period_if true more = token kind.Period (codes ".") ∷ more
period_if false more = more

-- a period between statements
abbrev pub period_tokens : BodyTree → Lexemes → Lexemes
period_tokens no_stmts more = more
period_tokens (stmts r e ss) more = period_if true more

abbrev mutual
  pub expr_tokens : ExprTree → Lexemes → Lexemes
  expr_tokens (expr ns p ms cs) more = target_tokens ns (primary_tokens p (messages_tokens ms (cascade_tokens cs more)))

  pub primary_tokens : PrimaryTree → Lexemes → Lexemes
  primary_tokens (name n) more = token kind.Name n.name ∷ more
  primary_tokens (literal v) more = literal_tokens v more
  primary_tokens (paren e) more = token kind.OpenParen (codes "(") ∷ expr_tokens e (token kind.CloseParen (codes ")") ∷ more)
  primary_tokens (block ps ss) more =
      token kind.OpenBracket (codes "[") ∷ parameter_tokens ps (bar_tokens ps ss (body_tokens ss (token kind.CloseBracket (codes "]") ∷ more)))

  pub messages_tokens : MessageTrees → Lexemes → Lexemes
  messages_tokens no_messages more = more
  messages_tokens (messages s es ms) more = message_tokens es s (messages_tokens ms more)

  pub message_tokens : ExprTrees → List ℕ → Lexemes → Lexemes
  message_tokens no_exprs s more = token kind.Name s ∷ more
  message_tokens (exprs e es) s more = part_token s ∷ expr_tokens e (parts_tokens es (behind 58 s) more)

  -- further keywords, each with its argument
  pub parts_tokens : ExprTrees → List ℕ → Lexemes → Lexemes
  parts_tokens no_exprs s more = more
  parts_tokens (exprs e es) s more = part_token s ∷ expr_tokens e (parts_tokens es (behind 58 s) more)

  pub cascade_tokens : MessageTrees → Lexemes → Lexemes
  cascade_tokens no_messages more = more
  cascade_tokens (messages s es ms) more = token kind.Semicolon (codes ";") ∷ message_tokens es s (cascade_tokens ms more)

  pub body_tokens : BodyTree → Lexemes → Lexemes
  body_tokens no_stmts more = more
  body_tokens (stmts r e ss) more = caret_tokens r (expr_tokens e (period_tokens ss (body_tokens ss more)))

-- ---- methods

-- the keywords of a pattern, each with its parameter
abbrev pub declared_tokens : List NameAt → List ℕ → Lexemes → Lexemes
declared_tokens [] s more = more
declared_tokens (n ∷ ns) s more = part_token s ∷ token kind.Name n.name ∷ declared_tokens ns (behind 58 s) more

abbrev pub pattern_tokens : List NameAt → List ℕ → Lexemes → Lexemes
pattern_tokens [] s more = token kind.Name s ∷ more
pattern_tokens (n ∷ ns) s more = declared_tokens (n ∷ ns) s more

abbrev pub primitive_tokens : ℕ → Lexemes → Lexemes
primitive_tokens zero more = more
primitive_tokens (suc n) more =
    token kind.Binary less ∷ token kind.Keyword primitive_word ∷ token kind.Number (decimal (suc n)) ∷ token kind.Binary greater ∷ more

abbrev pub temporary_tokens : List NameAt → Lexemes → Lexemes
temporary_tokens [] more = more
temporary_tokens (n ∷ ns) more = token kind.Binary bar ∷ name_tokens (n ∷ ns) (token kind.Binary bar ∷ more)

abbrev pub method_tokens : MethodParts → Lexemes
method_tokens m =
    pattern_tokens m.parameters m.selector (primitive_tokens m.primitive (temporary_tokens m.temporaries (body_tokens m.body [])))
