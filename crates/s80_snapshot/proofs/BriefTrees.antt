-- The tree of a source is brief: no word or literal in it is longer than the source.
use Rattle.std.proofs.Common.{◌≡◌, inl, inr, ◌≤◌, ◌<◌, ◌+◌, ◌^◌, ℕ, suc, Bool, true, false, sym, ap, subst, List, [], ◌∷◌, length, arith, length-append}
use Rattle.std.specs.List.{AllByRecursion}
use Rattle.s80_form.specs.Name.{IsBrief}
use Rattle.s80_lex.specs.Spelling.{IsName}
use Rattle.s80_lex.specs.declared.token.TokenKind.TheVariants as kind
use Rattle.s80_tree.specs.declared.name.NameAt.{NameAt}
use Rattle.s80_tree.specs.Tree.{ExprTree, PrimaryTree, ExprTrees, MessageTrees, BodyTree, MethodParts, expr, name, literal, block, paren, no_exprs, exprs, no_messages, messages, no_stmts, stmts}
use Rattle.s80_syntax.specs.Grammar.{AreDeclared, AreKeywords, AreOptionalTemporaries, AreParameters, AreParts, AreTemporaries, IsBarBetween, IsBetween, IsBody, IsCaret, IsCascade, IsChain, IsEmpty, IsExpr, IsHead, IsMark, IsMessage, IsMethod, IsName as IsNameRead, IsNone, IsOperand, IsPattern, IsPrimary, IsPrimitive, IsSign, IsTargets}
use Rattle.s80_syntax.specs.Lexeme.{Lexemes, lexemes}
use Rattle.s80_syntax.specs.Text.{IsMethodOf}
use Rattle.s80_syntax.specs.Word.{bar, greater, less, primitive_word}
use Rattle.s80_lex.specs.declared.token.TokenKind.{TokenKind}
use Rattle.s80_snapshot.proofs.BriefTokens.{AreNamed, IsFine, tokens_fine}
use Rattle.s80_snapshot.proofs.BriefLiterals.{IsBriefLiteral, Left, Read, fine_on, left_less, left_mark, left_none, left_one, left_then, literal_read, short_token}

-- ---- brief trees

-- a name, of fewer than 2^32 bytes
pub record IsBriefName (n : NameAt) : Type 0 where
  pub named : IsName n.name
  pub brief : IsBrief n.name

abbrev mutual
  pub IsBriefExpr : ExprTree → Type 0
  IsBriefExpr (expr targets p ms cs) = AllByRecursion IsBriefName targets × IsBriefPrimary p × AreBriefMessages ms × AreBriefMessages cs

  pub IsBriefPrimary : PrimaryTree → Type 0
  IsBriefPrimary (name n) = IsBriefName n
  IsBriefPrimary (literal v) = IsBriefLiteral v
  IsBriefPrimary (paren e) = IsBriefExpr e
  IsBriefPrimary (block ps ss) = (length ps < 2 ^ 30) × IsBriefBody ss

  pub AreBriefExprs : ExprTrees → Type 0
  AreBriefExprs no_exprs = Unit {0}
  AreBriefExprs (exprs e es) = IsBriefExpr e × AreBriefExprs es

  pub AreBriefMessages : MessageTrees → Type 0
  AreBriefMessages no_messages = Unit {0}
  AreBriefMessages (messages s es ms) = IsBrief s × AreBriefExprs es × AreBriefMessages ms

  pub IsBriefBody : BodyTree → Type 0
  IsBriefBody no_stmts = Unit {0}
  IsBriefBody (stmts r e ss) = IsBriefExpr e × IsBriefBody ss

pub record IsBriefMethod (m : MethodParts) : Type 0 where
  pub selector : IsBrief m.selector
  pub primitive : m.primitive ≤ 255
  pub body : IsBriefBody m.body

-- ---- single tokens

left_sign : (k : TokenKind) (word : List ℕ) (ts rest : Lexemes) → IsSign k word ts rest → Left 1 ts rest
left_sign k word ts rest h = left_less 1 (suc (length h.0.bytes)) ts rest (omega arith) (left_one h.0 ts rest h.1.0)

left_name : (n : NameAt) (ts rest : Lexemes) → IsNameRead n ts rest → Left 1 ts rest
left_name n ts rest h = left_less 1 (suc (length h.0.bytes)) ts rest (omega arith) (left_one h.0 ts rest h.1.0)

name_read : (n : NameAt) (ts rest : Lexemes) → IsNameRead n ts rest → IsFine ts → Read (IsBriefName n) 1 ts rest
name_read n ts rest h fine =
    let short : suc (length h.0.bytes) < 2 ^ 32 = short_token h.0 ts rest fine h.1.0 in
    let here : h.0.kind ≡ kind.Name → IsName h.0.bytes = (subst AreNamed h.1.0 fine.named).0 in
    (record { named = subst IsName (sym h.2) (here h.1.1); brief = subst IsBrief (sym h.2) (omega (arith, short)) }, left_name n ts rest h)

targets_read : (ns : List NameAt) (ts rest : Lexemes) → IsTargets ns ts rest → IsFine ts → Read (AllByRecursion IsBriefName ns) 0 ts rest
targets_read [] ts rest h fine = (tt, left_none ts rest h)
targets_read (n ∷ ns) ts rest h fine =
    let one = name_read n ts h.0 h.2 fine in
    let sign = left_then 1 1 ts h.0 h.1 one.1 (left_mark kind.Assign h.0 h.1 h.3) in
    let more = targets_read ns h.1 rest h.4 (fine_on 2 ts h.1 fine sign) in
    ((one.0, more.0), left_less 0 (2 + 0) ts rest (omega arith) (left_then 2 0 ts h.1 rest sign more.1))

declared_left : (ns : List NameAt) (ts rest : Lexemes) → AreDeclared ns ts rest → Left (length ns) ts rest
declared_left [] ts rest h = left_none ts rest h
declared_left (n ∷ ns) ts rest h = left_less (suc (length ns)) (1 + length ns) ts rest (omega arith) (left_then 1 (length ns) ts h.0 rest (left_name n ts h.0 h.1.0) (declared_left ns h.0 rest h.2))

parameters_left : (ns : List NameAt) (ts rest : Lexemes) → AreParameters ns ts rest → Left (length ns) ts rest
parameters_left [] ts rest h = left_none ts rest h
parameters_left (n ∷ ns) ts rest h =
    left_less (suc (length ns)) (1 + (1 + length ns)) ts rest (omega arith)
    (left_then 1 (1 + length ns) ts h.0 rest (left_mark kind.Colon ts h.0 h.2) (left_then 1 (length ns) h.0 h.1 rest (left_name n h.0 h.1 h.3.0) (parameters_left ns h.1 rest h.4)))

caret_left : (r : Bool) (ts rest : Lexemes) → IsCaret r ts rest → Left 0 ts rest
caret_left true ts rest h = left_less 0 1 ts rest (omega arith) (left_mark kind.Caret ts rest h)
caret_left false ts rest h = left_none ts rest h

period_left : (ts rest : Lexemes) → IsMark kind.Period ts rest → Left 0 ts rest
period_left ts rest h = left_less 0 1 ts rest (omega arith) (left_mark kind.Period ts rest h)

between_left : (r : Bool) (ss : BodyTree) (ts rest : Lexemes) → IsBetween r ss ts rest → Left 0 ts rest
between_left r no_stmts ts rest (inl h) = period_left ts rest h
between_left r no_stmts ts rest (inr h) = left_none ts rest h
between_left false (stmts r e ss) ts rest h = period_left ts rest h
between_left true (stmts r e ss) ts rest h = absurd h

one_bar : (ts rest : Lexemes) → IsSign kind.Binary bar ts rest → Left 0 ts rest
one_bar ts rest h = left_less 0 1 ts rest (omega arith) (left_sign kind.Binary bar ts rest h)

bar_left : (ps : List NameAt) (ss : BodyTree) (ts rest : Lexemes) → IsBarBetween ps ss ts rest → Left 0 ts rest
bar_left [] ss ts rest h = left_none ts rest h
bar_left (n ∷ ns) no_stmts ts rest (inl h) = one_bar ts rest h
bar_left (n ∷ ns) no_stmts ts rest (inr h) = left_none ts rest h
bar_left (n ∷ ns) (stmts r e ss) ts rest h = one_bar ts rest h

no_more : (ms : MessageTrees) → IsNone ms → AreBriefMessages ms
no_more no_messages none = tt
no_more (messages s es ms) none = absurd none

no_others : (es : ExprTrees) → IsEmpty es → AreBriefExprs es
no_others no_exprs none = tt
no_others (exprs e es) none = absurd none

-- ---- expressions

mutual
  expr_read : (e : ExprTree) (ts rest : Lexemes) → IsExpr e ts rest → IsFine ts → Read (IsBriefExpr e) 0 ts rest
  expr_read (expr targets p ms cs) ts rest h fine =
      let t = targets_read targets ts h.0 h.3 fine in
      let fine_a = fine_on 0 ts h.0 fine t.1 in
      let q = primary_read p h.0 h.1 h.4 fine_a in
      let fine_b = fine_on 0 h.0 h.1 fine_a q.1 in
      let m = chain_read ms 0 2 h.1 h.2 h.5 fine_b in
      let fine_c = fine_on 0 h.1 h.2 fine_b m.1 in
      let c = cascade_read cs h.2 rest h.7 fine_c in
      ((t.0, q.0, m.0, c.0), left_then 0 0 ts h.0 rest t.1 (left_then 0 0 h.0 h.1 rest q.1 (left_then 0 0 h.1 h.2 rest m.1 c.1)))

  primary_read : (p : PrimaryTree) (ts rest : Lexemes) → IsPrimary p ts rest → IsFine ts → Read (IsBriefPrimary p) 0 ts rest
  primary_read (name n) ts rest h fine = let one = name_read n ts rest h fine in (one.0, left_less 0 1 ts rest (omega arith) one.1)
  primary_read (literal v) ts rest h fine = let one = literal_read v ts rest h fine in (one.0, left_less 0 1 ts rest (omega arith) one.1)
  primary_read (paren e) ts rest h fine =
      let open_ = left_mark kind.OpenParen ts h.0 h.2 in
      let inside = expr_read e h.0 h.1 h.3 (fine_on 1 ts h.0 fine open_) in
      (inside.0, left_less 0 (1 + (0 + 1)) ts rest (omega arith) (left_then 1 (0 + 1) ts h.0 rest open_ (left_then 0 1 h.0 h.1 rest inside.1 (left_mark kind.CloseParen h.1 rest h.4))))
  primary_read (block ps ss) ts rest h fine =
      let open_ = left_mark kind.OpenBracket ts h.0 h.4 in
      let declared = parameters_left ps h.0 h.1 h.5 in
      let before = left_then 1 (length ps) ts h.0 h.1 open_ declared in
      let bars = left_then (1 + length ps) 0 ts h.1 h.2 before (bar_left ps ss h.1 h.2 h.6) in
      let inside = body_read ss h.2 h.3 h.7 (fine_on (1 + length ps + 0) ts h.2 fine bars) in (
        (omega (arith, fine.few, before.takes), inside.0),
        left_less 0 ((1 + length ps + 0) + (0 + 1)) ts rest (omega arith) (left_then (1 + length ps + 0) (0 + 1) ts h.2 rest bars (left_then 0 1 h.2 h.3 rest inside.1 (left_mark kind.CloseBracket h.3 rest h.8))),
      )

  operand_read : (e : ExprTree) (high : ℕ) (ts rest : Lexemes) → IsOperand e high ts rest → IsFine ts → Read (IsBriefExpr e) 0 ts rest
  operand_read (expr targets p ms cs) high ts rest h fine =
      let q = primary_read p ts h.0 h.3 fine in
      let m = chain_read ms 0 high h.0 rest h.4 (fine_on 0 ts h.0 fine q.1) in
      ((subst (AllByRecursion IsBriefName) (sym h.1) tt, q.0, m.0, no_more cs h.2), left_then 0 0 ts h.0 rest q.1 m.1)

  chain_read : (ms : MessageTrees) (low high : ℕ) (ts rest : Lexemes) → IsChain ms low high ts rest → IsFine ts → Read (AreBriefMessages ms) 0 ts rest
  chain_read no_messages low high ts rest h fine = (tt, left_none ts rest h)
  chain_read (messages s es ms) low high ts rest h fine =
      let one = message_read es s low high h.1 ts h.0 h.2 fine in
      let more = chain_read ms h.1 high h.0 rest h.3 (fine_on 0 ts h.0 fine one.1) in
      ((one.0.0, one.0.1, more.0), left_then 0 0 ts h.0 rest one.1 more.1)

  message_read : (es : ExprTrees) (s : List ℕ) (low high next : ℕ) (ts rest : Lexemes) → IsMessage es s low high next ts rest → IsFine ts
      → Read (IsBrief s × AreBriefExprs es) 0 ts rest
  message_read no_exprs s low high next ts rest h fine =
      let short : suc (length h.0.bytes) < 2 ^ 32 = short_token h.0 ts rest fine h.1.0 in
      ((subst IsBrief (sym h.2) (omega (arith, short)), tt), left_less 0 (suc (length h.0.bytes)) ts rest (omega arith) (left_one h.0 ts rest h.1.0))
  message_read (exprs e es) s low high next ts rest (inl h) fine =
      let short : suc (length h.0.bytes) < 2 ^ 32 = short_token h.0 ts h.1 fine h.2.0 in
      let first = left_one h.0 ts h.1 h.2.0 in
      let one = operand_read e 0 h.1 rest h.7 (fine_on (suc (length h.0.bytes)) ts h.1 fine first) in (
        (subst IsBrief (sym h.3) (omega (arith, short)), (one.0, no_others es h.8)),
        left_less 0 (suc (length h.0.bytes) + 0) ts rest (omega arith) (left_then (suc (length h.0.bytes)) 0 ts h.1 rest first one.1),
      )
  message_read (exprs e es) s low high next ts rest (inr h) fine =
      let first = left_one h.0 ts h.1 h.4.0 in
      let fine_a = fine_on (suc (length h.0.bytes)) ts h.1 fine first in
      let one = operand_read e 1 h.1 h.2 h.9 fine_a in
      let more = parts_read es h.3 h.2 rest h.10 (fine_on 0 h.1 h.2 fine_a one.1) in
      let whole = left_then (suc (length h.0.bytes)) (0 + length h.3) ts h.1 rest first (left_then 0 (length h.3) h.1 h.2 rest one.1 more.1) in (
        (subst IsBrief (sym h.5) (omega (arith, length-append h.0.bytes h.3, whole.takes, fine.few)), (one.0, more.0)),
        left_less 0 (suc (length h.0.bytes) + (0 + length h.3)) ts rest (omega arith) whole,
      )

  parts_read : (es : ExprTrees) (s : List ℕ) (ts rest : Lexemes) → AreParts es s ts rest → IsFine ts → Read (AreBriefExprs es) (length s) ts rest
  parts_read no_exprs s ts rest h fine = (tt, left_less (length s) 0 ts rest (omega (arith, ap length h.1)) (left_none ts rest h.0))
  parts_read (exprs e es) s ts rest h fine =
      let first = left_one h.0 ts h.1 h.4.0 in
      let fine_a = fine_on (suc (length h.0.bytes)) ts h.1 fine first in
      let one = operand_read e 1 h.1 h.2 h.6 fine_a in
      let more = parts_read es h.3 h.2 rest h.7 (fine_on 0 h.1 h.2 fine_a one.1) in (
        (one.0, more.0),
        left_less (length s) (suc (length h.0.bytes) + (0 + length h.3)) ts rest (omega (arith, ap length h.5, length-append h.0.bytes h.3))
            (left_then (suc (length h.0.bytes)) (0 + length h.3) ts h.1 rest first (left_then 0 (length h.3) h.1 h.2 rest one.1 more.1)),
      )

  cascade_read : (ms : MessageTrees) (ts rest : Lexemes) → IsCascade ms ts rest → IsFine ts → Read (AreBriefMessages ms) 0 ts rest
  cascade_read no_messages ts rest h fine = (tt, left_none ts rest h)
  cascade_read (messages s es ms) ts rest h fine =
      let mark = left_mark kind.Semicolon ts h.0 h.3 in
      let fine_a = fine_on 1 ts h.0 fine mark in
      let one = message_read es s 0 2 h.2 h.0 h.1 h.4 fine_a in
      let more = cascade_read ms h.1 rest h.5 (fine_on 0 h.0 h.1 fine_a one.1) in
      ((one.0.0, one.0.1, more.0), left_less 0 (1 + (0 + 0)) ts rest (omega arith) (left_then 1 (0 + 0) ts h.0 rest mark (left_then 0 0 h.0 h.1 rest one.1 more.1)))

  body_read : (ss : BodyTree) (ts rest : Lexemes) → IsBody ss ts rest → IsFine ts → Read (IsBriefBody ss) 0 ts rest
  body_read no_stmts ts rest h fine = (tt, left_none ts rest h)
  body_read (stmts r e ss) ts rest h fine =
      let caret = caret_left r ts h.0 h.3 in
      let fine_a = fine_on 0 ts h.0 fine caret in
      let one = expr_read e h.0 h.1 h.4 fine_a in
      let fine_b = fine_on 0 h.0 h.1 fine_a one.1 in
      let gap = between_left r ss h.1 h.2 h.5 in
      let more = body_read ss h.2 rest h.6 (fine_on 0 h.1 h.2 fine_b gap) in
      ((one.0, more.0), left_then 0 (0 + (0 + 0)) ts h.0 rest caret (left_then 0 (0 + 0) h.0 h.1 rest one.1 (left_then 0 0 h.1 h.2 rest gap more.1)))

-- ---- what stands before the body

keywords_left : (ns : List NameAt) (s : List ℕ) (ts rest : Lexemes) → AreKeywords ns s ts rest → Left (length s) ts rest
keywords_left [] s ts rest h = left_less (length s) 0 ts rest (omega (arith, ap length h.1)) (left_none ts rest h.0)
keywords_left (n ∷ ns) s ts rest h =
    left_less (length s) (suc (length h.0.bytes) + (1 + length h.3)) ts rest (omega (arith, ap length h.5, length-append h.0.bytes h.3))
    (left_then (suc (length h.0.bytes)) (1 + length h.3) ts h.1 rest (left_one h.0 ts h.1 h.4.0) (left_then 1 (length h.3) h.1 h.2 rest (left_name n h.1 h.2 h.6.0) (keywords_left ns h.3 h.2 rest h.7)))

pattern_left : (s : List ℕ) (ns : List NameAt) (ts rest : Lexemes) → IsPattern s ns ts rest → Left (length s) ts rest
pattern_left s [] ts rest h = left_less (length s) (suc (length h.0.bytes)) ts rest (omega (arith, ap length h.2)) (left_one h.0 ts rest h.1.0)
pattern_left s (n ∷ ns) ts rest (inl h) =
    left_less (length s) (suc (length h.0.bytes) + 1) ts rest (omega (arith, ap length h.3)) (left_then (suc (length h.0.bytes)) 1 ts h.1 rest (left_one h.0 ts h.1 h.2.0) (left_name n h.1 rest h.4.0))
pattern_left s (n ∷ ns) ts rest (inr h) = keywords_left (n ∷ ns) s ts rest h

temporaries_left : (ns : List NameAt) (ts rest : Lexemes) → AreTemporaries ns ts rest → Left 0 ts rest
temporaries_left ns ts rest h =
    left_less 0 (0 + (length ns + 0)) ts rest (omega arith)
    (left_then 0 (length ns + 0) ts h.0 rest (one_bar ts h.0 h.2) (left_then (length ns) 0 h.0 h.1 rest (declared_left ns h.0 h.1 h.3) (one_bar h.1 rest h.4)))

optional_left : (ns : List NameAt) (ts rest : Lexemes) → AreOptionalTemporaries ns ts rest → Left 0 ts rest
optional_left ns ts rest (inl h) = temporaries_left ns ts rest h
optional_left ns ts rest (inr h) = left_none ts rest h.1

primitive_left : (n : ℕ) (ts rest : Lexemes) → IsPrimitive n ts rest → Left 0 ts rest
primitive_left n ts rest h =
    left_less 0 (1 + (1 + (suc (length h.0.bytes) + 1))) ts rest (omega arith)
    (left_then 1 (1 + (suc (length h.0.bytes) + 1)) ts h.1 rest (left_sign kind.Binary less ts h.1 h.4)
    (left_then 1 (suc (length h.0.bytes) + 1) h.1 h.2 rest (left_sign kind.Keyword primitive_word h.1 h.2 h.5)
    (left_then (suc (length h.0.bytes)) 1 h.2 h.3 rest (left_one h.0 h.2 h.3 h.6.0) (left_sign kind.Binary greater h.3 rest h.10))))

head_read : (ns : List NameAt) (n : ℕ) (ts rest : Lexemes) → IsHead ns n ts rest → Read (n ≤ 255) 0 ts rest
head_read ns n ts rest (inl h) = (omega (arith, h.0), optional_left ns ts rest h.1)
head_read ns n ts rest (inr (inl h)) = (h.1.9, left_then 0 0 ts h.0 rest (primitive_left n ts h.0 h.1) (optional_left ns h.0 rest h.2))
head_read ns n ts rest (inr (inr h)) = (h.2.9, left_then 0 0 ts h.0 rest (temporaries_left ns ts h.0 h.1) (primitive_left n h.0 rest h.2))

method_read : (m : MethodParts) (ts : Lexemes) → IsMethod m ts → IsFine ts → IsBriefMethod m
method_read m ts h fine =
    let pattern = pattern_left m.selector m.parameters ts h.0 h.2 in
    let fine_a = fine_on (length m.selector) ts h.0 fine pattern in
    let head = head_read m.temporaries m.primitive h.0 h.1 h.3 in
    let body = body_read m.body h.1 [] h.4 (fine_on 0 h.0 h.1 fine_a head.1) in
    record { selector = omega (arith, pattern.takes, fine.few); primitive = head.0; body = body.0 }

pub method_brief : (source : List ℕ) (m : MethodParts) → length source ≤ 65535 → IsMethodOf source m → IsBriefMethod m
method_brief source m short h = method_read m (lexemes source h.tokens) h.method (tokens_fine source h.tokens short h.are_tokens)
