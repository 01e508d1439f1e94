-- Which tokens begin an operand and a body.
use Rattle.std.proofs.Common.{◌≡◌, List, [], ◌∷◌, Bool, true, false, sym, ◌∙◌, subst, inl, inr}
use Rattle.s80_lex.specs.declared.token.TokenKind.{TokenKind}
use Rattle.s80_lex.specs.declared.token.TokenKind.TheVariants as kind
use Rattle.s80_base.specs.Literal.{LiteralTree, array}
use Rattle.s80_tree.specs.declared.name.NameAt.{NameAt}
use Rattle.s80_tree.specs.Tree.{ExprTree, PrimaryTree, BodyTree, expr, name, literal, block, paren, no_stmts, stmts}
use Rattle.s80_syntax.specs.Lexeme.{Lexeme, Lexemes}
use Rattle.s80_syntax.specs.Literals.{IsLiteralKind}
use Rattle.s80_syntax.specs.Grammar.{Takes, IsMark, IsTargets, IsLiteral, IsArray, IsPrimary, IsExpr, IsBody}
use Rattle.s80_syntax.specs.Word.{is_minus}

-- the first token of a literal; a minus begins one where a number follows
abbrev pub LiteralStart : TokenKind → Bool → Type 0
LiteralStart kind.Number negative = Unit {0}
LiteralStart kind.Character negative = Unit {0}
LiteralStart kind.Str negative = Unit {0}
LiteralStart kind.Symbol negative = Unit {0}
LiteralStart kind.ArrayStart negative = Unit {0}
LiteralStart kind.Binary negative = negative ≡ true
LiteralStart _ negative = ⊥

-- and of an operand that is no name
abbrev pub NamelessStart : TokenKind → Bool → Type 0
NamelessStart kind.OpenParen negative = Unit {0}
NamelessStart kind.OpenBracket negative = Unit {0}
NamelessStart k negative = LiteralStart k negative

abbrev pub Operand : TokenKind → Bool → Type 0
Operand kind.Name negative = Unit {0}
Operand k negative = NamelessStart k negative

abbrev pub Begins : (TokenKind → Bool → Type 0) → Lexemes → Type 0
Begins P ts = (l : Lexeme) × (us : Lexemes) × (ts ≡ l ∷ us) × P l.kind (is_minus l)

pub begins_kind : (P : TokenKind → Bool → Type 0) (k : TokenKind) → ((b : Bool) → P k b) → (l : Lexeme) (ts rest : Lexemes) → Takes k l ts rest → Begins P ts
begins_kind P k p l ts rest h = (l, rest, h.0, subst (λ x. P x (is_minus l)) (sym h.1) (p (is_minus l)))

pub begins_mark : (P : TokenKind → Bool → Type 0) (k : TokenKind) → ((b : Bool) → P k b) → (ts rest : Lexemes) → IsMark k ts rest → Begins P ts
begins_mark P k p ts rest h = begins_kind P k p h.0 ts rest h.1

pub begins_all : (P Q : TokenKind → Bool → Type 0) → ((k : TokenKind) (b : Bool) → P k b → Q k b) → (ts : Lexemes) → Begins P ts → Begins Q ts
begins_all P Q f ts b = (b.0, b.1, b.2, f b.0.kind (is_minus b.0) b.3)

pub begins_same : (P : TokenKind → Bool → Type 0) (ts us : Lexemes) → ts ≡ us → Begins P us → Begins P ts
begins_same P ts us e b = (b.0, b.1, e ∙ b.2, b.3)

single_start : (k : TokenKind) (b : Bool) → IsLiteralKind k → LiteralStart k b
single_start kind.Number b h = tt
single_start kind.Character b h = tt
single_start kind.Str b h = tt
single_start kind.Symbol b h = tt
single_start _ b h = absurd h

array_start : (v : LiteralTree) (ts rest : Lexemes) → IsArray false v ts rest → Begins LiteralStart ts
array_start (array vs) ts rest h = begins_mark LiteralStart kind.ArrayStart (λ b. tt) ts h.0 h.2
array_start _ ts rest h = absurd h

pub literal_begins : (v : LiteralTree) (ts rest : Lexemes) → IsLiteral v ts rest → Begins LiteralStart ts
literal_begins v ts rest (inl h) = (h.0, rest, h.1, single_start h.0.kind (is_minus h.0) h.2)
literal_begins v ts rest (inr (inl h)) = (h.0, h.2, h.3.0, subst (λ x. LiteralStart x (is_minus h.0)) (sym h.3.1) h.4)
literal_begins v ts rest (inr (inr h)) = array_start v ts rest h

pub literal_nameless : (k : TokenKind) (b : Bool) → LiteralStart k b → NamelessStart k b
literal_nameless kind.OpenParen b h = tt
literal_nameless kind.OpenBracket b h = tt
literal_nameless _ b h = h

pub nameless_operand : (k : TokenKind) (b : Bool) → NamelessStart k b → Operand k b
nameless_operand kind.Name b h = tt
nameless_operand _ b h = h

abbrev pub IsNameless : PrimaryTree → Type 0
IsNameless (name n) = ⊥
IsNameless _ = Unit {0}

pub nameless_begins : (p : PrimaryTree) (ts rest : Lexemes) → IsNameless p → IsPrimary p ts rest → Begins NamelessStart ts
nameless_begins (name n) ts rest i h = absurd i
nameless_begins (literal v) ts rest i h = begins_all LiteralStart NamelessStart literal_nameless ts (literal_begins v ts rest h)
nameless_begins (paren e) ts rest i h = begins_mark NamelessStart kind.OpenParen (λ b. tt) ts h.0 h.2
nameless_begins (block ps ss) ts rest i h = begins_mark NamelessStart kind.OpenBracket (λ b. tt) ts h.0 h.4

pub primary_begins : (p : PrimaryTree) (ts rest : Lexemes) → IsPrimary p ts rest → Begins Operand ts
primary_begins (name n) ts rest h = begins_kind Operand kind.Name (λ b. tt) h.0 ts rest h.1
primary_begins (literal v) ts rest h = begins_all NamelessStart Operand nameless_operand ts (nameless_begins (literal v) ts rest tt h)
primary_begins (paren e) ts rest h = begins_all NamelessStart Operand nameless_operand ts (nameless_begins (paren e) ts rest tt h)
primary_begins (block ps ss) ts rest h = begins_all NamelessStart Operand nameless_operand ts (nameless_begins (block ps ss) ts rest tt h)

targets_begin : (ns : List NameAt) (ts rest : Lexemes) → IsTargets ns ts rest → Begins Operand rest → Begins Operand ts
targets_begin [] ts rest h b = begins_same Operand ts rest h b
targets_begin (n ∷ ns) ts rest h b = begins_kind Operand kind.Name (λ x. tt) h.2.0 ts h.0 h.2.1

pub expr_begins : (e : ExprTree) (ts rest : Lexemes) → IsExpr e ts rest → Begins Operand ts
expr_begins (expr t p m c) ts rest h = targets_begin t ts h.0 h.3 (primary_begins p h.0 h.1 h.4)

-- the first token of a statement
abbrev pub StatementStart : TokenKind → Bool → Type 0
StatementStart kind.Caret negative = Unit {0}
StatementStart k negative = Operand k negative

pub operand_statement : (k : TokenKind) (b : Bool) → Operand k b → StatementStart k b
operand_statement kind.Caret b h = tt
operand_statement _ b h = h

pub stmt_begins : (r : Bool) (e : ExprTree) (ss : BodyTree) (ts rest : Lexemes) → IsBody (stmts r e ss) ts rest → Begins StatementStart ts
stmt_begins true e ss ts rest h = begins_mark StatementStart kind.Caret (λ b. tt) ts h.0 h.3
stmt_begins false e ss ts rest h = begins_same StatementStart ts h.0 h.3 (begins_all Operand StatementStart operand_statement h.0 (expr_begins e h.0 h.1 h.4))

-- a body's first token, or what follows an empty body
pub body_begins : (P : TokenKind → Bool → Type 0) → ((k : TokenKind) (b : Bool) → StatementStart k b → P k b) → (ss : BodyTree) (ts rest : Lexemes) → IsBody ss ts rest → Begins P rest → Begins P ts
body_begins P f no_stmts ts rest h b = begins_same P ts rest h b
body_begins P f (stmts r e ss) ts rest h b = begins_all StatementStart P f ts (stmt_begins r e ss ts rest h)
