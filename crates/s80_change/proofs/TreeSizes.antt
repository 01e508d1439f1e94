-- A tree has no more parts than its text has bytes.
use Rattle.std.proofs.Common.{◌≡◌, ℕ, suc, ◌+◌, ◌<◌, ◌≤◌, List, [], ◌∷◌, Bool, true, false, inl, inr, ap, length, arith}
use Rattle.std.specs.List.{AllByRecursion, AllPairs}
use Rattle.std.proofs.lemmas.List.Elements.{recursion_from_All}
use Rattle.s80_base.specs.Literal.{LiteralTree, LiteralTrees, small, character, str, symbol, array, true_literal, false_literal, nil_literal, number, no_literals, literals}
use Rattle.s80_lex.specs.declared.token.Token.{Token}
use Rattle.s80_lex.specs.declared.token.TokenKind.{TokenKind}
use Rattle.s80_lex.specs.declared.token.TokenKind.TheVariants as kind
use Rattle.s80_lex.specs.Text.{AreTokens, IsSlice}
use Rattle.s80_lex.proofs.lemmas.Slices.{slices, in_order}
use Rattle.s80_tree.specs.declared.name.NameAt.{NameAt}
use Rattle.s80_tree.specs.Tree.{ExprTree, PrimaryTree, ExprTrees, MessageTrees, BodyTree, MethodParts, DoItParts, expr, name, literal, block, paren, no_exprs, exprs, no_messages, messages, no_stmts, stmts}
use Rattle.s80_syntax.specs.Lexeme.{Lexeme, Lexemes, lexemes, place}
use Rattle.s80_syntax.specs.Grammar.{IsMark, IsSign, IsName, IsDeclared, IsTargets, AreDeclared, AreParameters, IsSingle, IsNegative, AreJoined, IsWord, IsArrayStart, IsArray, AreElements, IsLiteral, IsNone, IsEmpty, IsBetween, IsCaret, IsBarBetween, IsExpr, IsPrimary, IsOperand, IsChain, IsMessage, AreParts, IsCascade, IsBody, AreTemporaries, AreOptionalTemporaries, IsPrimitive, IsHead, AreKeywords, IsPattern, IsMethod, IsDoIt}
use Rattle.s80_syntax.specs.Text.{IsMethodOf, IsDoItOf}

-- ---- how many parts a tree has

abbrev mutual
  pub expr_size : ExprTree → ℕ
  expr_size (expr targets p ms cs) = length targets + primary_size p + messages_size ms + messages_size cs

  pub primary_size : PrimaryTree → ℕ
  primary_size (name n) = 1
  primary_size (literal v) = 1
  primary_size (paren e) = 1 + expr_size e
  primary_size (block ps ss) = 1 + length ps + body_size ss

  pub messages_size : MessageTrees → ℕ
  messages_size no_messages = 0
  messages_size (messages s es ms) = 1 + exprs_size es + messages_size ms

  pub exprs_size : ExprTrees → ℕ
  exprs_size no_exprs = 0
  exprs_size (exprs e es) = expr_size e + exprs_size es

  pub body_size : BodyTree → ℕ
  body_size no_stmts = 0
  body_size (stmts r e ss) = expr_size e + body_size ss

-- with what stands before its body
abbrev pub method_size : MethodParts → ℕ
method_size m = length m.parameters + length m.temporaries + body_size m.body

-- ---- each part has a token: so many are taken before the rest

abbrev Takes : ℕ → Lexemes → Lexemes → Type 0
Takes n ts rest = n + length rest ≤ length ts

stays : (ts rest : Lexemes) → ts ≡ rest → Takes 0 ts rest
stays ts rest is = let e : length ts ≡ length rest = ap length is in omega arith

taken : (l : Lexeme) (ts rest : Lexemes) → ts ≡ l ∷ rest → Takes 1 ts rest
taken l ts rest is = let e : length ts ≡ suc (length rest) = ap length is in omega arith

mark : (k : TokenKind) (ts rest : Lexemes) → IsMark k ts rest → Takes 1 ts rest
mark k ts rest (l, t) = taken l ts rest t.0

sign : (k : TokenKind) (word : List ℕ) (ts rest : Lexemes) → IsSign k word ts rest → Takes 1 ts rest
sign k word ts rest (l, t, w) = taken l ts rest t.0

used : (n : NameAt) (ts rest : Lexemes) → IsName n ts rest → Takes 1 ts rest
used n ts rest (l, t, w, at) = taken l ts rest t.0

declared : (n : NameAt) (ts rest : Lexemes) → IsDeclared n ts rest → Takes 1 ts rest
declared n ts rest ((l, t, w, at), free) = taken l ts rest t.0

targets_take : (ns : List NameAt) (ts rest : Lexemes) → IsTargets ns ts rest → Takes (length ns) ts rest
targets_take [] ts rest is = stays ts rest is
targets_take (n ∷ ns) ts rest (mid, after, one, assign, more) =
    omega (arith, used n ts mid one, mark kind.Assign mid after assign, targets_take ns after rest more)

declared_take : (ns : List NameAt) (ts rest : Lexemes) → AreDeclared ns ts rest → Takes (length ns) ts rest
declared_take [] ts rest is = stays ts rest is
declared_take (n ∷ ns) ts rest (mid, one, more) = omega (arith, declared n ts mid one, declared_take ns mid rest more)

parameters_take : (ns : List NameAt) (ts rest : Lexemes) → AreParameters ns ts rest → Takes (length ns) ts rest
parameters_take [] ts rest is = stays ts rest is
parameters_take (n ∷ ns) ts rest (mid, after, colon, one, more) =
    omega (arith, mark kind.Colon ts mid colon, declared n mid after one, parameters_take ns after rest more)

-- ---- literals

single_takes : (v : LiteralTree) (ts rest : Lexemes) → IsSingle v ts rest → Takes 1 ts rest
single_takes v ts rest (l, t, k, is) = taken l ts rest t

negative_takes : (v : LiteralTree) (ts rest : Lexemes) → IsNegative v ts rest → Takes 1 ts rest
negative_takes v ts rest (minus, l, mid, t, m, n, is) = omega (arith, taken minus ts mid t.0, taken l mid rest n.0)

joined_takes : (word : List ℕ) (ts rest : Lexemes) → AreJoined word ts rest → Takes 0 ts rest
joined_takes word [] rest h = absurd h
joined_takes word (l ∷ ts) rest (k, inl (alone, is, end_is)) = omega (arith, stays ts rest end_is)
joined_takes word (l ∷ ts) rest (k, inr (more, j, is, others)) = omega (arith, joined_takes more ts rest others)

word_takes : (v : LiteralTree) (ts rest : Lexemes) → IsWord v ts rest → Takes 0 ts rest
word_takes v ts rest (inl (l, t, is)) = omega (arith, taken l ts rest t.0)
word_takes v ts rest (inr (inl (l, t, m, is))) = omega (arith, taken l ts rest t.0)
word_takes v ts rest (inr (inr (word, joined, is))) = joined_takes word ts rest joined

start_takes : (inner : Bool) (ts rest : Lexemes) → IsArrayStart inner ts rest → Takes 1 ts rest
start_takes false ts rest h = mark kind.ArrayStart ts rest h
start_takes true ts rest (inl h) = mark kind.ArrayStart ts rest h
start_takes true ts rest (inr h) = mark kind.OpenParen ts rest h

mutual
  array_takes : (inner : Bool) (v : LiteralTree) (ts rest : Lexemes) → IsArray inner v ts rest → Takes 1 ts rest
  array_takes inner (array vs) ts rest (a, b, start, elements, closing) =
      omega (arith, start_takes inner ts a start, elements_take vs a b elements, mark kind.CloseParen b rest closing)
  array_takes inner (small n) ts rest h = absurd h
  array_takes inner (character n) ts rest h = absurd h
  array_takes inner (str t) ts rest h = absurd h
  array_takes inner (symbol t) ts rest h = absurd h
  array_takes inner true_literal ts rest h = absurd h
  array_takes inner false_literal ts rest h = absurd h
  array_takes inner nil_literal ts rest h = absurd h
  array_takes inner (number k t) ts rest h = absurd h

  elements_take : (vs : LiteralTrees) (ts rest : Lexemes) → AreElements vs ts rest → Takes 0 ts rest
  elements_take no_literals ts rest is = stays ts rest is
  elements_take (literals v vs) ts rest (a, inl one, more) = omega (arith, single_takes v ts a one, elements_take vs a rest more)
  elements_take (literals v vs) ts rest (a, inr (inl one), more) = omega (arith, negative_takes v ts a one, elements_take vs a rest more)
  elements_take (literals v vs) ts rest (a, inr (inr (inl one)), more) = omega (arith, word_takes v ts a one, elements_take vs a rest more)
  elements_take (literals v vs) ts rest (a, inr (inr (inr one)), more) = omega (arith, array_takes true v ts a one, elements_take vs a rest more)

literal_takes : (v : LiteralTree) (ts rest : Lexemes) → IsLiteral v ts rest → Takes 1 ts rest
literal_takes v ts rest (inl h) = single_takes v ts rest h
literal_takes v ts rest (inr (inl h)) = negative_takes v ts rest h
literal_takes v ts rest (inr (inr h)) = array_takes false v ts rest h

-- ---- expressions

bar_between_takes : (ps : List NameAt) (ss : BodyTree) (ts rest : Lexemes) → IsBarBetween ps ss ts rest → Takes 0 ts rest
bar_between_takes [] ss ts rest is = stays ts rest is
bar_between_takes (p ∷ ps) no_stmts ts rest (inl h) = omega (arith, sign kind.Binary _ ts rest h)
bar_between_takes (p ∷ ps) no_stmts ts rest (inr is) = stays ts rest is
bar_between_takes (p ∷ ps) (stmts q e ss) ts rest h = omega (arith, sign kind.Binary _ ts rest h)

caret_takes : (returns : Bool) (ts rest : Lexemes) → IsCaret returns ts rest → Takes 0 ts rest
caret_takes true ts rest h = omega (arith, mark kind.Caret ts rest h)
caret_takes false ts rest is = stays ts rest is

between_takes : (returns : Bool) (ss : BodyTree) (ts rest : Lexemes) → IsBetween returns ss ts rest → Takes 0 ts rest
between_takes returns no_stmts ts rest (inl h) = omega (arith, mark kind.Period ts rest h)
between_takes returns no_stmts ts rest (inr is) = stays ts rest is
between_takes false (stmts q e ss) ts rest h = omega (arith, mark kind.Period ts rest h)
between_takes true (stmts q e ss) ts rest h = absurd h

no_more : (es : ExprTrees) → IsEmpty es → exprs_size es ≤ 0
no_more no_exprs h = omega arith
no_more (exprs e es) h = absurd h

no_cascade : (ms : MessageTrees) → IsNone ms → messages_size ms ≤ 0
no_cascade no_messages h = omega arith
no_cascade (messages s es ms) h = absurd h

mutual
  expr_takes : (e : ExprTree) (ts rest : Lexemes) → IsExpr e ts rest → Takes (expr_size e) ts rest
  expr_takes (expr ns p ms cs) ts rest (a, b, c, targets, primary, chain, after, cascade) =
      omega (arith, targets_take ns ts a targets, primary_takes p a b primary, chain_takes ms 0 2 b c chain, cascade_takes cs c rest cascade)

  primary_takes : (p : PrimaryTree) (ts rest : Lexemes) → IsPrimary p ts rest → Takes (primary_size p) ts rest
  primary_takes (name n) ts rest h = used n ts rest h
  primary_takes (literal v) ts rest h = literal_takes v ts rest h
  primary_takes (paren e) ts rest (a, b, opening, inner, closing) =
      omega (arith, mark kind.OpenParen ts a opening, expr_takes e a b inner, mark kind.CloseParen b rest closing)
  primary_takes (block ps ss) ts rest (a, b, c, d, opening, parameters, bar, body, closing) =
      omega (arith, mark kind.OpenBracket ts a opening, parameters_take ps a b parameters, bar_between_takes ps ss b c bar, body_takes ss c d body, mark kind.CloseBracket d rest closing)

  operand_takes : (e : ExprTree) (high : ℕ) (ts rest : Lexemes) → IsOperand e high ts rest → Takes (expr_size e) ts rest
  operand_takes (expr ns p ms cs) high ts rest (a, none, last, primary, chain) =
      let empty : length ns ≡ 0 = ap length none in
      omega (arith, empty, no_cascade cs last, primary_takes p ts a primary, chain_takes ms 0 high a rest chain)

  chain_takes : (ms : MessageTrees) (low high : ℕ) (ts rest : Lexemes) → IsChain ms low high ts rest → Takes (messages_size ms) ts rest
  chain_takes no_messages low high ts rest is = stays ts rest is
  chain_takes (messages s es ms) low high ts rest (a, next, one, more) =
      omega (arith, message_takes es s low high next ts a one, chain_takes ms next high a rest more)

  message_takes : (es : ExprTrees) (s : List ℕ) (low high next : ℕ) (ts rest : Lexemes) → IsMessage es s low high next ts rest → Takes (1 + exprs_size es) ts rest
  message_takes no_exprs s low high next ts rest (l, t, is, first, then) = omega (arith, taken l ts rest t.0)
  message_takes (exprs e es) s low high next ts rest (inl (l, a, t, is, first, last, then, operand, only)) =
      omega (arith, taken l ts a t.0, operand_takes e 0 a rest operand, no_more es only)
  message_takes (exprs e es) s low high next ts rest (inr (l, a, b, s', t, is, first, last, then, operand, parts)) =
      omega (arith, taken l ts a t.0, operand_takes e 1 a b operand, parts_take es s' b rest parts)

  parts_take : (es : ExprTrees) (s : List ℕ) (ts rest : Lexemes) → AreParts es s ts rest → Takes (exprs_size es) ts rest
  parts_take no_exprs s ts rest (is, none) = stays ts rest is
  parts_take (exprs e es) s ts rest (l, a, b, s', t, is, operand, parts) =
      omega (arith, taken l ts a t.0, operand_takes e 1 a b operand, parts_take es s' b rest parts)

  cascade_takes : (cs : MessageTrees) (ts rest : Lexemes) → IsCascade cs ts rest → Takes (messages_size cs) ts rest
  cascade_takes no_messages ts rest is = stays ts rest is
  cascade_takes (messages s es ms) ts rest (a, b, next, semicolon, one, more) =
      omega (arith, mark kind.Semicolon ts a semicolon, message_takes es s 0 2 next a b one, cascade_takes ms b rest more)

  body_takes : (ss : BodyTree) (ts rest : Lexemes) → IsBody ss ts rest → Takes (body_size ss) ts rest
  body_takes no_stmts ts rest is = stays ts rest is
  body_takes (stmts q e ss) ts rest (a, b, c, caret, one, period, more) =
      omega (arith, caret_takes q ts a caret, expr_takes e a b one, between_takes q ss b c period, body_takes ss c rest more)

-- ---- whole texts

temporaries_take : (ns : List NameAt) (ts rest : Lexemes) → AreTemporaries ns ts rest → Takes (length ns) ts rest
temporaries_take ns ts rest (a, b, opening, names, closing) =
    omega (arith, sign kind.Binary _ ts a opening, declared_take ns a b names, sign kind.Binary _ b rest closing)

optional_take : (ns : List NameAt) (ts rest : Lexemes) → AreOptionalTemporaries ns ts rest → Takes (length ns) ts rest
optional_take ns ts rest (inl h) = temporaries_take ns ts rest h
optional_take ns ts rest (inr (none, is)) = let empty : length ns ≡ 0 = ap length none in omega (arith, empty, stays ts rest is)

primitive_takes : (n : ℕ) (ts rest : Lexemes) → IsPrimitive n ts rest → Takes 0 ts rest
primitive_takes n ts rest (l, a, b, c, opening, word, t, is, least, most, closing) =
    omega (arith, sign kind.Binary _ ts a opening, sign kind.Keyword _ a b word, taken l b c t.0, sign kind.Binary _ c rest closing)

head_takes : (ns : List NameAt) (n : ℕ) (ts rest : Lexemes) → IsHead ns n ts rest → Takes (length ns) ts rest
head_takes ns n ts rest (inl (none, h)) = optional_take ns ts rest h
head_takes ns n ts rest (inr (inl (a, p, h))) = omega (arith, primitive_takes n ts a p, optional_take ns a rest h)
head_takes ns n ts rest (inr (inr (a, h, p))) = omega (arith, temporaries_take ns ts a h, primitive_takes n a rest p)

keywords_take : (ns : List NameAt) (s : List ℕ) (ts rest : Lexemes) → AreKeywords ns s ts rest → Takes (length ns) ts rest
keywords_take [] s ts rest (is, none) = stays ts rest is
keywords_take (n ∷ ns) s ts rest (l, a, b, s', t, is, one, more) =
    omega (arith, taken l ts a t.0, declared n a b one, keywords_take ns s' b rest more)

pattern_takes : (s : List ℕ) (ns : List NameAt) (ts rest : Lexemes) → IsPattern s ns ts rest → Takes (length ns) ts rest
pattern_takes s [] ts rest (l, t, is) = omega (arith, taken l ts rest t.0)
pattern_takes s (n ∷ ns) ts rest (inl (l, a, t, is, one, none)) =
    let empty : length ns ≡ 0 = ap length none in omega (arith, empty, taken l ts a t.0, declared n a rest one)
pattern_takes s (n ∷ ns) ts rest (inr h) = keywords_take (n ∷ ns) s ts rest h

method_takes : (m : MethodParts) (ts : Lexemes) → IsMethod m ts → method_size m ≤ length ts
method_takes m ts (a, b, pattern, head, body) =
    let rest : body_size m.body + 0 ≤ length b = body_takes m.body b [] body in
    omega (arith, pattern_takes m.selector m.parameters ts a pattern, head_takes m.temporaries m.primitive a b head, rest)

doit_takes : (d : DoItParts) (ts : Lexemes) → IsDoIt d ts → length d.temporaries + body_size d.body ≤ length ts
doit_takes d ts (a, temporaries, body) =
    let rest : body_size d.body + 0 ≤ length a = body_takes d.body a [] body in
    omega (arith, optional_take d.temporaries ts a temporaries, rest)

-- ---- each token has a byte

few : (text : List ℕ) (tokens : List Token) → AllByRecursion (IsSlice text) tokens → AllPairs (λ (a b : Token). a.to ≤ b.from) tokens → length (lexemes text tokens) + place (length text) (lexemes text tokens) ≤ length text
few text [] h order = omega arith
few text (t ∷ []) h order =
    let some : t.from < t.to = h.0.some in let within : t.to ≤ length text = h.0.within in omega arith
few text (t ∷ u ∷ more) h order =
    let after : t.to ≤ u.from = order 0 1 t (omega arith) (omega arith) in
    let some : t.from < t.to = h.0.some in
    let rest : suc (length (lexemes text more)) + u.from ≤ length text = few text (u ∷ more) h.1 (λ i j d less within. order (suc i) (suc j) d (omega arith) (omega arith)) in
    omega arith

few_tokens : (text : List ℕ) (tokens : List Token) → AreTokens tokens text → length (lexemes text tokens) ≤ length text
few_tokens text tokens h =
    omega (arith, few text tokens (recursion_from_All (IsSlice text) tokens (slices tokens text h)) (in_order tokens text h))

pub method_within : (text : List ℕ) (m : MethodParts) → IsMethodOf text m → method_size m ≤ length text
method_within text m h = omega (arith, method_takes m (lexemes text h.tokens) h.method, few_tokens text h.tokens h.are_tokens)

pub doit_within : (text : List ℕ) (d : DoItParts) → IsDoItOf text d → length d.temporaries + body_size d.body ≤ length text
doit_within text d h = omega (arith, doit_takes d (lexemes text h.tokens) h.doit, few_tokens text h.tokens h.are_tokens)
