-- The grammar, as a relation between a tree, the tokens from which it is read, and the tokens that are left.
use Rattle.std.specs.Prelude.{◌≡◌, ℕ, ◌≤◌, List, [], ◌∷◌, ◌++◌, Bool, true, false, ◌⊎◌, pos}
use Rattle.s80_lex.specs.declared.token.TokenKind.{TokenKind}
use Rattle.s80_lex.specs.declared.token.TokenKind.TheVariants as kind
use Rattle.s80_base.specs.Literal.{LiteralTree, LiteralTrees, small, symbol, array, no_literals, literals}
use Rattle.s80_tree.specs.declared.name.NameAt.{NameAt}
use Rattle.s80_tree.specs.Tree.{ExprTree, PrimaryTree, ExprTrees, MessageTrees, BodyTree, MethodParts, DoItParts, expr, name, literal, block, paren, no_exprs, exprs, no_messages, messages, no_stmts, stmts}
use Rattle.s80_lex.specs.Number.{number_literal}
use Rattle.s80_syntax.specs.Lexeme.{Lexeme, Lexemes}
use Rattle.s80_syntax.specs.Literals.{IsLiteralKind, token_literal, name_literal}
use Rattle.s80_syntax.specs.Word.{is_reserved, is_minus, bar, less, greater, primitive_word}

-- ts begins with a token of this kind, and rest is what follows it
abbrev pub Takes : TokenKind → Lexeme → Lexemes → Lexemes → Type 0
Takes k l ts rest = (ts ≡ l ∷ rest) × (l.kind ≡ k)

-- a token of this kind, whatever its bytes
abbrev pub IsMark : TokenKind → Lexemes → Lexemes → Type 0
IsMark k ts rest = (l : Lexeme) × Takes k l ts rest

-- a token of this kind, with these bytes
abbrev pub IsSign : TokenKind → List ℕ → Lexemes → Lexemes → Type 0
IsSign k word ts rest = (l : Lexeme) × Takes k l ts rest × (l.bytes ≡ word)

-- a name, with its place
abbrev pub IsName : NameAt → Lexemes → Lexemes → Type 0
IsName n ts rest = (l : Lexeme) × Takes kind.Name l ts rest × (n.name ≡ l.bytes) × (n.at ≡ l.at)

-- a name that is declared, which is no reserved word
abbrev pub IsDeclared : NameAt → Lexemes → Lexemes → Type 0
IsDeclared n ts rest = IsName n ts rest × (is_reserved n.name ≡ false)

-- assigned names: each a name and an assignment sign
abbrev pub IsTargets : List NameAt → Lexemes → Lexemes → Type 0
IsTargets [] ts rest = ts ≡ rest
IsTargets (n ∷ ns) ts rest = (mid after : Lexemes) × IsName n ts mid × IsMark kind.Assign mid after × IsTargets ns after rest

-- declared names, one after another
abbrev pub AreDeclared : List NameAt → Lexemes → Lexemes → Type 0
AreDeclared [] ts rest = ts ≡ rest
AreDeclared (n ∷ ns) ts rest = (mid : Lexemes) × IsDeclared n ts mid × AreDeclared ns mid rest

-- declared names, each behind a colon
abbrev pub AreParameters : List NameAt → Lexemes → Lexemes → Type 0
AreParameters [] ts rest = ts ≡ rest
AreParameters (n ∷ ns) ts rest = (mid after : Lexemes) × IsMark kind.Colon ts mid × IsDeclared n mid after × AreParameters ns after rest

abbrev pub IsBar : Lexemes → Lexemes → Type 0
IsBar ts rest = IsSign kind.Binary bar ts rest

-- a literal that is one token
abbrev pub IsSingle : LiteralTree → Lexemes → Lexemes → Type 0
IsSingle v ts rest = (l : Lexeme) × (ts ≡ l ∷ rest) × IsLiteralKind l.kind × (v ≡ token_literal l.kind l.bytes)

-- a minus directly before a number
abbrev pub IsNegative : LiteralTree → Lexemes → Lexemes → Type 0
IsNegative v ts rest =
    (sign l : Lexeme) × (mid : Lexemes) × Takes kind.Binary sign ts mid × (is_minus sign ≡ true) × Takes kind.Number l mid rest × (v ≡ number_literal true l.bytes)

-- keywords of which each is joined to the next, as one word
abbrev pub AreJoined : List ℕ → Lexemes → Lexemes → Type 0
AreJoined word [] rest = ⊥
AreJoined word (l ∷ ts) rest =
    (l.kind ≡ kind.Keyword)
    × (((l.joined ≡ false) × (word ≡ l.bytes) × (ts ≡ rest))
    ⊎ ((more : List ℕ) × (l.joined ≡ true) × (word ≡ l.bytes ++ more) × AreJoined more ts rest))

-- a word in an array: a name, a binary selector, or keywords
abbrev pub IsWord : LiteralTree → Lexemes → Lexemes → Type 0
IsWord v ts rest =
    ((l : Lexeme) × Takes kind.Name l ts rest × (v ≡ name_literal l.bytes))
    ⊎ ((l : Lexeme) × Takes kind.Binary l ts rest × (is_minus l ≡ false) × (v ≡ symbol l.bytes))
    ⊎ ((word : List ℕ) × AreJoined word ts rest × (v ≡ symbol word))

-- what begins an array; within another one a parenthesis may stand alone
abbrev pub IsArrayStart : Bool → Lexemes → Lexemes → Type 0
IsArrayStart false ts rest = IsMark kind.ArrayStart ts rest
IsArrayStart true ts rest = IsMark kind.ArrayStart ts rest ⊎ IsMark kind.OpenParen ts rest

abbrev mutual
  pub IsArray : Bool → LiteralTree → Lexemes → Lexemes → Type 0
  IsArray inner (array vs) ts rest = (a b : Lexemes) × IsArrayStart inner ts a × AreElements vs a b × IsMark kind.CloseParen b rest
  IsArray inner _ ts rest = ⊥

  pub AreElements : LiteralTrees → Lexemes → Lexemes → Type 0
  AreElements no_literals ts rest = ts ≡ rest
  AreElements (literals v vs) ts rest =
      (a : Lexemes) × (IsSingle v ts a ⊎ IsNegative v ts a ⊎ IsWord v ts a ⊎ IsArray true v ts a) × AreElements vs a rest

abbrev pub IsLiteral : LiteralTree → Lexemes → Lexemes → Type 0
IsLiteral v ts rest = IsSingle v ts rest ⊎ IsNegative v ts rest ⊎ IsArray false v ts rest

abbrev pub IsNone : MessageTrees → Type 0
IsNone no_messages = Unit {0}
IsNone (messages s es ms) = ⊥

-- a cascade comes only after a message
abbrev pub IsCascadeOf : MessageTrees → MessageTrees → Type 0
IsCascadeOf ms no_messages = Unit {0}
IsCascadeOf ms (messages s es cs) = IsNone ms → ⊥

abbrev pub IsEmpty : ExprTrees → Type 0
IsEmpty no_exprs = Unit {0}
IsEmpty (exprs e es) = ⊥

-- a period, or nothing
abbrev pub IsOptionalPeriod : Lexemes → Lexemes → Type 0
IsOptionalPeriod ts rest = IsMark kind.Period ts rest ⊎ (ts ≡ rest)

-- what stands between a statement and those behind it; nothing stands behind a statement that returns
abbrev pub IsBetween : Bool → BodyTree → Lexemes → Lexemes → Type 0
IsBetween returns no_stmts ts rest = IsOptionalPeriod ts rest
IsBetween false (stmts r e ss) ts rest = IsMark kind.Period ts rest
IsBetween true (stmts r e ss) ts rest = ⊥

-- a caret before a statement that returns
abbrev pub IsCaret : Bool → Lexemes → Lexemes → Type 0
IsCaret true ts rest = IsMark kind.Caret ts rest
IsCaret false ts rest = ts ≡ rest

-- what stands between a block's parameters and its body: a bar, or with parameters and no body maybe nothing
abbrev pub IsBarBetween : List NameAt → BodyTree → Lexemes → Lexemes → Type 0
IsBarBetween [] ss ts rest = ts ≡ rest
IsBarBetween (n ∷ ns) no_stmts ts rest = IsBar ts rest ⊎ (ts ≡ rest)
IsBarBetween (n ∷ ns) (stmts r e ss) ts rest = IsBar ts rest

-- Messages bind by their kind: unary 0, binary 1, keyword 2. low is the least kind that may still come, and
-- high the greatest; after a keyword message none comes.
abbrev mutual
  pub IsExpr : ExprTree → Lexemes → Lexemes → Type 0
  IsExpr (expr targets p ms cs) ts rest =
      (a b c : Lexemes) × IsTargets targets ts a × IsPrimary p a b × IsChain ms 0 2 b c × IsCascadeOf ms cs × IsCascade cs c rest

  pub IsPrimary : PrimaryTree → Lexemes → Lexemes → Type 0
  IsPrimary (name n) ts rest = IsName n ts rest
  IsPrimary (literal v) ts rest = IsLiteral v ts rest
  IsPrimary (paren e) ts rest =
      (a b : Lexemes) × IsMark kind.OpenParen ts a × IsExpr e a b × IsMark kind.CloseParen b rest
  IsPrimary (block ps ss) ts rest =
      (a b c d : Lexemes) × IsMark kind.OpenBracket ts a × AreParameters ps a b × IsBarBetween ps ss b c × IsBody ss c d × IsMark kind.CloseBracket d rest

  -- an argument: no target, no cascade, and messages up to this kind
  pub IsOperand : ExprTree → ℕ → Lexemes → Lexemes → Type 0
  IsOperand (expr targets p ms cs) high ts rest =
      (a : Lexemes) × (targets ≡ []) × IsNone cs × IsPrimary p ts a × IsChain ms 0 high a rest

  pub IsChain : MessageTrees → ℕ → ℕ → Lexemes → Lexemes → Type 0
  IsChain no_messages low high ts rest = ts ≡ rest
  IsChain (messages s es ms) low high ts rest =
      (a : Lexemes) × (next : ℕ) × IsMessage es s low high next ts a × IsChain ms next high a rest

  -- one message, after which next is the least kind
  pub IsMessage : ExprTrees → List ℕ → ℕ → ℕ → ℕ → Lexemes → Lexemes → Type 0
  IsMessage no_exprs s low high next ts rest =
      (l : Lexeme) × Takes kind.Name l ts rest × (s ≡ l.bytes) × (low ≡ 0) × (next ≡ 0)
  IsMessage (exprs e es) s low high next ts rest =
      ((l : Lexeme) × (a : Lexemes) × Takes kind.Binary l ts a × (s ≡ l.bytes) × (low ≤ 1) × (1 ≤ high) × (next ≡ 1) × IsOperand e 0 a rest × IsEmpty es)
      ⊎ ((l : Lexeme) × (a b : Lexemes) × (s' : List ℕ) × Takes kind.Keyword l ts a × (s ≡ l.bytes ++ s') × (low ≤ 2) × (2 ≤ high) × (next ≡ 3) × IsOperand e 1 a b × AreParts es s' b rest)

  -- further keywords, each with its argument
  pub AreParts : ExprTrees → List ℕ → Lexemes → Lexemes → Type 0
  AreParts no_exprs s ts rest = (ts ≡ rest) × (s ≡ [])
  AreParts (exprs e es) s ts rest =
      (l : Lexeme) × (a b : Lexemes) × (s' : List ℕ) × Takes kind.Keyword l ts a × (s ≡ l.bytes ++ s') × IsOperand e 1 a b × AreParts es s' b rest

  -- further messages to the receiver of the last, each behind a semicolon
  pub IsCascade : MessageTrees → Lexemes → Lexemes → Type 0
  IsCascade no_messages ts rest = ts ≡ rest
  IsCascade (messages s es ms) ts rest =
      (a b : Lexemes) × (next : ℕ) × IsMark kind.Semicolon ts a × IsMessage es s 0 2 next a b × IsCascade ms b rest

  pub IsBody : BodyTree → Lexemes → Lexemes → Type 0
  IsBody no_stmts ts rest = ts ≡ rest
  IsBody (stmts r e ss) ts rest =
      (a b c : Lexemes) × IsCaret r ts a × IsExpr e a b × IsBetween r ss b c × IsBody ss c rest

-- temporaries between bars
abbrev pub AreTemporaries : List NameAt → Lexemes → Lexemes → Type 0
AreTemporaries ns ts rest = (a b : Lexemes) × IsBar ts a × AreDeclared ns a b × IsBar b rest

abbrev pub AreOptionalTemporaries : List NameAt → Lexemes → Lexemes → Type 0
AreOptionalTemporaries ns ts rest = AreTemporaries ns ts rest ⊎ ((ns ≡ []) × (ts ≡ rest))

-- a primitive, with a number from 1 to 255
abbrev pub IsPrimitive : ℕ → Lexemes → Lexemes → Type 0
IsPrimitive n ts rest =
    (l : Lexeme) × (a b c : Lexemes) × IsSign kind.Binary less ts a × IsSign kind.Keyword primitive_word a b
    × Takes kind.Number l b c × (number_literal false l.bytes ≡ small (pos n)) × (1 ≤ n) × (n ≤ 255) × IsSign kind.Binary greater c rest

-- a primitive before or behind the temporaries, if any, and else 0
abbrev pub IsHead : List NameAt → ℕ → Lexemes → Lexemes → Type 0
IsHead ns n ts rest =
    ((n ≡ 0) × AreOptionalTemporaries ns ts rest)
    ⊎ ((a : Lexemes) × IsPrimitive n ts a × AreOptionalTemporaries ns a rest)
    ⊎ ((a : Lexemes) × AreTemporaries ns ts a × IsPrimitive n a rest)

-- keywords, each with its parameter
abbrev pub AreKeywords : List NameAt → List ℕ → Lexemes → Lexemes → Type 0
AreKeywords [] s ts rest = (ts ≡ rest) × (s ≡ [])
AreKeywords (n ∷ ns) s ts rest =
    (l : Lexeme) × (a b : Lexemes) × (s' : List ℕ) × Takes kind.Keyword l ts a × (s ≡ l.bytes ++ s') × IsDeclared n a b × AreKeywords ns s' b rest

-- a selector with its parameters
abbrev pub IsPattern : List ℕ → List NameAt → Lexemes → Lexemes → Type 0
IsPattern s [] ts rest = (l : Lexeme) × Takes kind.Name l ts rest × (s ≡ l.bytes)
IsPattern s (n ∷ ns) ts rest =
    ((l : Lexeme) × (a : Lexemes) × Takes kind.Binary l ts a × (s ≡ l.bytes) × IsDeclared n a rest × (ns ≡ []))
    ⊎ AreKeywords (n ∷ ns) s ts rest

-- all of a text is a method
abbrev pub IsMethod : MethodParts → Lexemes → Type 0
IsMethod m ts = (a b : Lexemes) × IsPattern m.selector m.parameters ts a × IsHead m.temporaries m.primitive a b × IsBody m.body b []

-- all of a text is a doIt
abbrev pub IsDoIt : DoItParts → Lexemes → Type 0
IsDoIt d ts = (a : Lexemes) × AreOptionalTemporaries d.temporaries ts a × IsBody d.body a []
