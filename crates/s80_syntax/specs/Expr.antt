-- Expressions and statements.
use Rattle.std.specs.Prelude.{◌≡◌, ◌≢◌, ℕ, ◌<◌, ◌≤◌, List, [], ◌∷◌, Bool, true, false, length, Result, Ok, Err}
use Rattle.s80_lex.specs.declared.token.Token.{Token}
use Rattle.s80_lex.specs.declared.token.TokenKind.{TokenKind}
use Rattle.s80_lex.specs.declared.token.TokenKind.TheVariants as kind
use Rattle.s80_tree.specs.declared.name.NameAt.{NameAt}
use Rattle.s80_tree.specs.Tree.{ExprTree, PrimaryTree, MessageTrees, MessageTree, BodyTree, block, paren, no_exprs, exprs, messages_append}
use Rattle.s80_syntax.specs.Lexeme.{Lexemes, lexeme, lexemes}
use Rattle.s80_syntax.specs.Grammar.{IsMark, IsExpr, IsOperand, IsChain, IsMessage, IsBody, AreParameters, IsBarBetween}
use Rattle.s80_syntax.specs.Stack.{Symbol, Stack, run, unary_tail, after_statement, after_return}
use Rattle.s80_syntax.specs.Word.{is_minus}
use Rattle.s80_syntax.specs.declared.fault.ParseFault.{ParseFault}
use Rattle.s80_syntax.specs.declared.fault.ParseFault.TheVariants as fault
use Rattle.s80_syntax.specs.Reads.{AreSlices, IsNotNext, place_in}

-- whether the next token may open a bracket
abbrev pub MayOpen : List ℕ → ℕ → List Token → Result (Unit {0}) ParseFault → Type 0
MayOpen text depth ts (Ok x) = depth < 64
MayOpen text depth ts (Err e) = (depth ≡ 64) × (e ≡ fault.Nested (place_in text ts))

-- what begins a message
abbrev pub IsMessageKind : TokenKind → Type 0
IsMessageKind kind.Name = Unit {0}
IsMessageKind kind.Binary = Unit {0}
IsMessageKind kind.Keyword = Unit {0}
IsMessageKind _ = ⊥

abbrev pub MessageNext : List Token → Type 0
MessageNext [] = ⊥
MessageNext (t ∷ ts) = IsMessageKind t.kind

abbrev pub NoMessage : List Token → Type 0
NoMessage [] = Unit {0}
NoMessage (t ∷ ts) = IsMessageKind t.kind → ⊥

-- where a chain goes on from here, messages of at least the low kind first, it is one from the beginning
abbrev pub GoesOn : MessageTrees → ℕ → ℕ → Lexemes → Lexemes → Type 0
GoesOn ms low high ts rest = (more : MessageTrees) (end : Lexemes) → IsChain more low high rest end → IsChain (messages_append ms more) 0 high ts end

-- unary messages were read, and none comes next
pub record TookUnaries (text : List ℕ) (ms : MessageTrees) (ts rest : List Token) : Type 0 where
  pub read : (high : ℕ) → GoesOn ms 0 high (lexemes text ts) (lexemes text rest)
  pub same : (k : Stack) → run true (lexemes text ts) (unary_tail ∷ k) ≡ run true (lexemes text rest) k
  pub slices : AreSlices text rest
  pub shorter : length rest ≤ length ts

-- unary and binary messages
abbrev pub AreBinary : MessageTrees → Lexemes → Lexemes → Type 0
AreBinary ms ts rest = (high : ℕ) → 1 ≤ high → GoesOn ms 1 high ts rest

-- a binary message behind its selector
abbrev pub IsBinaryRest : List ℕ → MessageTree → Lexemes → Lexemes → Type 0
IsBinaryRest selector m ts rest = (e : ExprTree) × (m ≡ (selector, exprs e no_exprs)) × IsOperand e 0 ts rest

abbrev pub IsKeywordMessage : MessageTree → Lexemes → Lexemes → Type 0
IsKeywordMessage m ts rest = IsMessage m.1 m.0 2 2 3 ts rest

-- a message of any kind
abbrev pub IsAnyMessage : MessageTree → Lexemes → Lexemes → Type 0
IsAnyMessage m ts rest = (next : ℕ) × IsMessage m.1 m.0 0 2 next ts rest

-- an expression in parentheses, and a block, behind the opening token
abbrev pub IsParenRest : PrimaryTree → Lexemes → Lexemes → Type 0
IsParenRest (paren e) ts rest = (a : Lexemes) × IsExpr e ts a × IsMark kind.CloseParen a rest
IsParenRest _ ts rest = ⊥

abbrev pub IsBlockBody : List NameAt → BodyTree → Lexemes → Lexemes → Type 0
IsBlockBody ps ss ts rest = (a : Lexemes) × IsBarBetween ps ss ts a × IsBody ss a rest

abbrev pub IsBlockRest : PrimaryTree → Lexemes → Lexemes → Type 0
IsBlockRest (block ps ss) ts rest = (a b : Lexemes) × AreParameters ps ts a × IsBlockBody ps ss a b × IsMark kind.CloseBracket b rest
IsBlockRest _ ts rest = ⊥

-- what begins a statement
abbrev pub begins_statement : TokenKind → Bool → Bool
begins_statement kind.Caret negative = true
begins_statement kind.Name negative = true
begins_statement kind.Number negative = true
begins_statement kind.Character negative = true
begins_statement kind.Str negative = true
begins_statement kind.Symbol negative = true
begins_statement kind.ArrayStart negative = true
begins_statement kind.OpenParen negative = true
begins_statement kind.OpenBracket negative = true
begins_statement kind.Binary negative = negative
begins_statement _ negative = false

abbrev pub statement_next : List ℕ → List Token → Bool
statement_next text [] = false
statement_next text (t ∷ ts) = begins_statement t.kind (is_minus (lexeme text t ts))

-- a caret was taken where one comes next
abbrev pub TookCaret : Bool → List Token → List Token → Type 0
TookCaret true ts rest = (t : Token) × (ts ≡ t ∷ rest) × (t.kind ≡ kind.Caret)
TookCaret false ts rest = IsNotNext kind.Caret ts × (ts ≡ rest)

-- what may follow a statement that returns, and another one
abbrev pub after : Bool → Symbol
after true = after_return
after false = after_statement
