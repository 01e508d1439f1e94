-- In the tree of a text each message fits its selector.
use Rattle.std.proofs.Common.{◌≡◌, ℕ, suc, List, [], ◌∷◌, ◌++◌, Bool, true, false, length, drop, inl, inr, refl, ap, ap₂, sym, ◌∙◌, subst, arith}
use Rattle.std.specs.List.{AllByRecursion}
use Rattle.std.specs.Prelude.{slice_range}
use Rattle.std.proofs.lemmas.List.Elements.{recursion_from_All}
use Rattle.s80_base.specs.Literal.{LiteralTree, LiteralTrees, small, character, str, symbol, array, true_literal, false_literal, nil_literal, number, no_literals, literals}
use Rattle.s80_lex.specs.declared.token.Token.{Token}
use Rattle.s80_lex.specs.declared.token.TokenKind.{TokenKind}
use Rattle.s80_lex.specs.declared.token.TokenKind.TheVariants as kind
use Rattle.s80_lex.specs.Spelling.{IsToken, IsBinary, IsKeyword, keyword, IsName as IsWordOfName}
use Rattle.s80_lex.specs.Text.{IsSlice}
use Rattle.s80_lex.proofs.lemmas.Slices.{slices}
use Rattle.s80_tree.specs.declared.name.NameAt.{NameAt}
use Rattle.s80_tree.specs.Tree.{ExprTree, PrimaryTree, ExprTrees, MessageTrees, BodyTree, MethodParts, DoItParts, expr, name, literal, block, paren, no_exprs, exprs, no_messages, messages, no_stmts, stmts}
use Rattle.s80_syntax.specs.Lexeme.{Lexeme, Lexemes, lexemes}
use Rattle.s80_syntax.specs.Grammar.{IsMark, IsSign, IsName, IsTargets, AreDeclared, AreParameters, IsSingle, IsNegative, AreJoined, IsWord, IsArrayStart, IsArray, AreElements, IsLiteral, IsNone, IsEmpty, IsBetween, IsCaret, IsBarBetween, IsExpr, IsPrimary, IsOperand, IsChain, IsMessage, AreParts, IsCascade, IsBody, AreTemporaries, AreOptionalTemporaries, IsPrimitive, IsHead, AreKeywords, IsPattern, IsMethod, IsDoIt}
use Rattle.s80_syntax.specs.Text.{IsMethodOf, IsDoItOf}
use Rattle.s80_lex.specs.Selector.{IsSelectorOf}
use Rattle.s80_lex.proofs.lemmas.SelectorLemmas.{Joined}
use Rattle.s80_core.specs.Arms.{arguments_of}
use Rattle.s80_compile.specs.Sent.{ExprIsWellSent, PrimaryIsWellSent, ExprsAreWellSent, MessagesAreWellSent, BodyIsWellSent, AreWellSent}

-- ---- tokens as they are spelled

record IsSpelled (l : Lexeme) : Type 0 where
  name : l.kind ≡ kind.Name → IsWordOfName l.bytes
  binary : l.kind ≡ kind.Binary → IsBinary l.bytes
  keywords : l.kind ≡ kind.Keyword → (word : List ℕ) × IsWordOfName word × (l.bytes ≡ keyword word)

abbrev Spelled : Lexemes → Type 0
Spelled ts = AllByRecursion IsSpelled ts

token_spelled : (k : TokenKind) (word rest : List ℕ) (at : ℕ) (joined : Bool) → IsToken k word rest → IsSpelled (record { kind = k; bytes = word; at = at; joined = joined })
token_spelled k word rest at joined t = record {
  name = λ e. subst (λ (j : TokenKind). IsToken j word rest) e t;
  binary = λ e. subst (λ (j : TokenKind). IsToken j word rest) e t;
  keywords = λ e. of_keyword (subst (λ (j : TokenKind). IsToken j word rest) e t);
}
  where
    of_keyword : IsKeyword word rest → (w : List ℕ) × IsWordOfName w × (word ≡ keyword w)
    of_keyword h = (h.name, h.named, h.spelled)

all_spelled : (text : List ℕ) (tokens : List Token) → AllByRecursion (IsSlice text) tokens → Spelled (lexemes text tokens)
all_spelled text [] h = tt
all_spelled text (t ∷ later) h = (token_spelled t.kind (slice_range text t.from t.to) (drop t.to text) t.from _ h.0.spelled, all_spelled text later h.1)

-- ---- what is left

taken : (l : Lexeme) (ts rest : Lexemes) → ts ≡ l ∷ rest → Spelled ts → IsSpelled l × Spelled rest
taken l ts rest is s = subst Spelled is s

mark : (k : TokenKind) (ts rest : Lexemes) → IsMark k ts rest → Spelled ts → Spelled rest
mark k ts rest (l, t) s = (taken l ts rest t.0 s).1

sign : (k : TokenKind) (word : List ℕ) (ts rest : Lexemes) → IsSign k word ts rest → Spelled ts → Spelled rest
sign k word ts rest (l, t, w) s = (taken l ts rest t.0 s).1

a_name : (n : NameAt) (ts rest : Lexemes) → IsName n ts rest → Spelled ts → Spelled rest
a_name n ts rest (l, t, w, at) s = (taken l ts rest t.0 s).1

stays : (ts rest : Lexemes) → ts ≡ rest → Spelled ts → Spelled rest
stays ts rest is s = subst Spelled is s

targets : (ns : List NameAt) (ts rest : Lexemes) → IsTargets ns ts rest → Spelled ts → Spelled rest
targets [] ts rest is s = stays ts rest is s
targets (n ∷ ns) ts rest (mid, after, one, assign, more) s = targets ns after rest more (mark kind.Assign mid after assign (a_name n ts mid one s))

declared : (ns : List NameAt) (ts rest : Lexemes) → AreDeclared ns ts rest → Spelled ts → Spelled rest
declared [] ts rest is s = stays ts rest is s
declared (n ∷ ns) ts rest (mid, one, more) s = declared ns mid rest more (a_name n ts mid one.0 s)

parameters : (ns : List NameAt) (ts rest : Lexemes) → AreParameters ns ts rest → Spelled ts → Spelled rest
parameters [] ts rest is s = stays ts rest is s
parameters (n ∷ ns) ts rest (mid, after, colon, one, more) s = parameters ns after rest more (a_name n mid after one.0 (mark kind.Colon ts mid colon s))

single : (v : LiteralTree) (ts rest : Lexemes) → IsSingle v ts rest → Spelled ts → Spelled rest
single v ts rest (l, t, k, is) s = (taken l ts rest t s).1

negative : (v : LiteralTree) (ts rest : Lexemes) → IsNegative v ts rest → Spelled ts → Spelled rest
negative v ts rest (minus, l, mid, t, m, n, is) s = (taken l mid rest n.0 (taken minus ts mid t.0 s).1).1

joined : (word : List ℕ) (ts rest : Lexemes) → AreJoined word ts rest → Spelled ts → Spelled rest
joined word [] rest h s = absurd h
joined word (l ∷ ts) rest (k, inl (alone, is, end_is)) s = stays ts rest end_is s.1
joined word (l ∷ ts) rest (k, inr (more, j, is, others)) s = joined more ts rest others s.1

word_left : (v : LiteralTree) (ts rest : Lexemes) → IsWord v ts rest → Spelled ts → Spelled rest
word_left v ts rest (inl (l, t, is)) s = (taken l ts rest t.0 s).1
word_left v ts rest (inr (inl (l, t, m, is))) s = (taken l ts rest t.0 s).1
word_left v ts rest (inr (inr (word, j, is))) s = joined word ts rest j s

start : (inner : Bool) (ts rest : Lexemes) → IsArrayStart inner ts rest → Spelled ts → Spelled rest
start false ts rest h s = mark kind.ArrayStart ts rest h s
start true ts rest (inl h) s = mark kind.ArrayStart ts rest h s
start true ts rest (inr h) s = mark kind.OpenParen ts rest h s

mutual
  array_left : (inner : Bool) (v : LiteralTree) (ts rest : Lexemes) → IsArray inner v ts rest → Spelled ts → Spelled rest
  array_left inner (array vs) ts rest (a, b, opening, elements, closing) s = mark kind.CloseParen b rest closing (elements_left vs a b elements (start inner ts a opening s))
  array_left inner (small n) ts rest h s = absurd h
  array_left inner (character n) ts rest h s = absurd h
  array_left inner (str t) ts rest h s = absurd h
  array_left inner (symbol t) ts rest h s = absurd h
  array_left inner true_literal ts rest h s = absurd h
  array_left inner false_literal ts rest h s = absurd h
  array_left inner nil_literal ts rest h s = absurd h
  array_left inner (number k t) ts rest h s = absurd h

  elements_left : (vs : LiteralTrees) (ts rest : Lexemes) → AreElements vs ts rest → Spelled ts → Spelled rest
  elements_left no_literals ts rest is s = stays ts rest is s
  elements_left (literals v vs) ts rest (a, inl one, more) s = elements_left vs a rest more (single v ts a one s)
  elements_left (literals v vs) ts rest (a, inr (inl one), more) s = elements_left vs a rest more (negative v ts a one s)
  elements_left (literals v vs) ts rest (a, inr (inr (inl one)), more) s = elements_left vs a rest more (word_left v ts a one s)
  elements_left (literals v vs) ts rest (a, inr (inr (inr one)), more) s = elements_left vs a rest more (array_left true v ts a one s)

literal_left : (v : LiteralTree) (ts rest : Lexemes) → IsLiteral v ts rest → Spelled ts → Spelled rest
literal_left v ts rest (inl h) s = single v ts rest h s
literal_left v ts rest (inr (inl h)) s = negative v ts rest h s
literal_left v ts rest (inr (inr h)) s = array_left false v ts rest h s

bar_between : (ps : List NameAt) (ss : BodyTree) (ts rest : Lexemes) → IsBarBetween ps ss ts rest → Spelled ts → Spelled rest
bar_between [] ss ts rest is s = stays ts rest is s
bar_between (p ∷ ps) no_stmts ts rest (inl h) s = sign kind.Binary _ ts rest h s
bar_between (p ∷ ps) no_stmts ts rest (inr is) s = stays ts rest is s
bar_between (p ∷ ps) (stmts q e ss) ts rest h s = sign kind.Binary _ ts rest h s

caret : (returns : Bool) (ts rest : Lexemes) → IsCaret returns ts rest → Spelled ts → Spelled rest
caret true ts rest h s = mark kind.Caret ts rest h s
caret false ts rest is s = stays ts rest is s

between : (returns : Bool) (ss : BodyTree) (ts rest : Lexemes) → IsBetween returns ss ts rest → Spelled ts → Spelled rest
between returns no_stmts ts rest (inl h) s = mark kind.Period ts rest h s
between returns no_stmts ts rest (inr is) s = stays ts rest is s
between false (stmts q e ss) ts rest h s = mark kind.Period ts rest h s
between true (stmts q e ss) ts rest h s = absurd h

-- ---- selectors

no_keywords : (word : List ℕ) → word ≡ [] → Joined 0 word
no_keywords word is = record { names = []; named = tt; spelled = is; counted = refl }

one_more : (l : Lexeme) (n : ℕ) (word rest : List ℕ) → IsSpelled l → l.kind ≡ kind.Keyword → word ≡ l.bytes ++ rest → Joined n rest → Joined (suc n) word
one_more l n word rest s k is j =
    let (first, named, spelled) = s.keywords k in record {
      names = first ∷ j.names;
      named = (named, j.named);
      spelled = is ∙ ap₂ (λ u v. u ++ v) spelled j.spelled;
      counted = ap (λ i. suc i) j.counted;
    }

selects : (n : ℕ) (word : List ℕ) → Joined (suc n) word → IsSelectorOf (suc n) word
selects n word j = inr (inr (record {
  names = j.names;
  some = λ none. (let e : suc n ≡ length j.names = j.counted in omega (arith, e, ap length none));
  named = j.named;
  spelled = j.spelled;
  counted = j.counted;
}))

alone : (es : ExprTrees) → IsEmpty es → suc (arguments_of es) ≡ 1
alone no_exprs h = refl
alone (exprs e es) h = absurd h

nothing_sent : (es : ExprTrees) → IsEmpty es → ExprsAreWellSent es
nothing_sent no_exprs h = tt
nothing_sent (exprs e es) h = absurd h

no_cascade : (ms : MessageTrees) → IsNone ms → MessagesAreWellSent ms
no_cascade no_messages h = tt
no_cascade (messages s es ms) h = absurd h

-- ---- expressions

mutual
  expr_sent : (e : ExprTree) (ts rest : Lexemes) → IsExpr e ts rest → Spelled ts → ExprIsWellSent e × Spelled rest
  expr_sent (expr ns p ms cs) ts rest (a, b, c, assigned, primary, chain, after, cascade) s =
      let x = primary_sent p a b primary (targets ns ts a assigned s) in
      let y = chain_sent ms 0 2 b c chain x.1 in
      let z = cascade_sent cs c rest cascade y.1 in
      ((x.0, (y.0, z.0)), z.1)

  primary_sent : (p : PrimaryTree) (ts rest : Lexemes) → IsPrimary p ts rest → Spelled ts → PrimaryIsWellSent p × Spelled rest
  primary_sent (name n) ts rest h s = (tt, a_name n ts rest h s)
  primary_sent (literal v) ts rest h s = (tt, literal_left v ts rest h s)
  primary_sent (paren e) ts rest (a, b, opening, inner, closing) s =
      let x = expr_sent e a b inner (mark kind.OpenParen ts a opening s) in (x.0, mark kind.CloseParen b rest closing x.1)
  primary_sent (block ps ss) ts rest (a, b, c, d, opening, names, bar, body, closing) s =
      let x = body_sent ss c d body (bar_between ps ss b c bar (parameters ps a b names (mark kind.OpenBracket ts a opening s))) in
      (x.0, mark kind.CloseBracket d rest closing x.1)

  operand_sent : (e : ExprTree) (high : ℕ) (ts rest : Lexemes) → IsOperand e high ts rest → Spelled ts → ExprIsWellSent e × Spelled rest
  operand_sent (expr ns p ms cs) high ts rest (a, none, last, primary, chain) s =
      let x = primary_sent p ts a primary s in
      let y = chain_sent ms 0 high a rest chain x.1 in
      ((x.0, (y.0, no_cascade cs last)), y.1)

  chain_sent : (ms : MessageTrees) (low high : ℕ) (ts rest : Lexemes) → IsChain ms low high ts rest → Spelled ts → MessagesAreWellSent ms × Spelled rest
  chain_sent no_messages low high ts rest is s = (tt, stays ts rest is s)
  chain_sent (messages word es ms) low high ts rest (a, next, one, more) s =
      let x = message_sent es word low high next ts a one s in
      let y = chain_sent ms next high a rest more x.1 in
      ((x.0, y.0), y.1)

  message_sent : (es : ExprTrees) (word : List ℕ) (low high next : ℕ) (ts rest : Lexemes) → IsMessage es word low high next ts rest → Spelled ts
      → (ExprsAreWellSent es × IsSelectorOf (arguments_of es) word) × Spelled rest
  message_sent no_exprs word low high next ts rest (l, t, is, first, then) s =
      let x = taken l ts rest t.0 s in
      ((tt, inl (subst IsWordOfName (sym is) (x.0.name t.1), refl)), x.1)
  message_sent (exprs e es) word low high next ts rest (inl (l, a, t, is, first, last, then, operand, only)) s =
      let x = taken l ts a t.0 s in
      let y = operand_sent e 0 a rest operand x.1 in
      (((y.0, nothing_sent es only), inr (inl (subst IsBinary (sym is) (x.0.binary t.1), alone es only))), y.1)
  message_sent (exprs e es) word low high next ts rest (inr (l, a, b, word', t, is, first, last, then, operand, parts)) s =
      let x = taken l ts a t.0 s in
      let y = operand_sent e 1 a b operand x.1 in
      let z = parts_sent es word' b rest parts y.1 in
      (((y.0, z.0.0), selects (arguments_of es) word (one_more l (arguments_of es) word word' x.0 t.1 is z.0.1)), z.1)

  parts_sent : (es : ExprTrees) (word : List ℕ) (ts rest : Lexemes) → AreParts es word ts rest → Spelled ts → (ExprsAreWellSent es × Joined (arguments_of es) word) × Spelled rest
  parts_sent no_exprs word ts rest (is, none) s = ((tt, no_keywords word none), stays ts rest is s)
  parts_sent (exprs e es) word ts rest (l, a, b, word', t, is, operand, parts) s =
      let x = taken l ts a t.0 s in
      let y = operand_sent e 1 a b operand x.1 in
      let z = parts_sent es word' b rest parts y.1 in
      (((y.0, z.0.0), one_more l (arguments_of es) word word' x.0 t.1 is z.0.1), z.1)

  cascade_sent : (cs : MessageTrees) (ts rest : Lexemes) → IsCascade cs ts rest → Spelled ts → MessagesAreWellSent cs × Spelled rest
  cascade_sent no_messages ts rest is s = (tt, stays ts rest is s)
  cascade_sent (messages word es ms) ts rest (a, b, next, semicolon, one, more) s =
      let x = message_sent es word 0 2 next a b one (mark kind.Semicolon ts a semicolon s) in
      let y = cascade_sent ms b rest more x.1 in
      ((x.0, y.0), y.1)

  body_sent : (ss : BodyTree) (ts rest : Lexemes) → IsBody ss ts rest → Spelled ts → BodyIsWellSent ss × Spelled rest
  body_sent no_stmts ts rest is s = (tt, stays ts rest is s)
  body_sent (stmts q e ss) ts rest (a, b, c, returns, one, period, more) s =
      let x = expr_sent e a b one (caret q ts a returns s) in
      let y = body_sent ss c rest more (between q ss b c period x.1) in
      ((x.0, y.0), y.1)

-- ---- whole texts

temporaries : (ns : List NameAt) (ts rest : Lexemes) → AreTemporaries ns ts rest → Spelled ts → Spelled rest
temporaries ns ts rest (a, b, opening, names, closing) s = sign kind.Binary _ b rest closing (declared ns a b names (sign kind.Binary _ ts a opening s))

optional : (ns : List NameAt) (ts rest : Lexemes) → AreOptionalTemporaries ns ts rest → Spelled ts → Spelled rest
optional ns ts rest (inl h) s = temporaries ns ts rest h s
optional ns ts rest (inr (none, is)) s = stays ts rest is s

primitive : (n : ℕ) (ts rest : Lexemes) → IsPrimitive n ts rest → Spelled ts → Spelled rest
primitive n ts rest (l, a, b, c, opening, word, t, is, least, most, closing) s =
    sign kind.Binary _ c rest closing (taken l b c t.0 (sign kind.Keyword _ a b word (sign kind.Binary _ ts a opening s))).1

head : (ns : List NameAt) (n : ℕ) (ts rest : Lexemes) → IsHead ns n ts rest → Spelled ts → Spelled rest
head ns n ts rest (inl (none, h)) s = optional ns ts rest h s
head ns n ts rest (inr (inl (a, p, h))) s = optional ns a rest h (primitive n ts a p s)
head ns n ts rest (inr (inr (a, h, p))) s = primitive n a rest p (temporaries ns ts a h s)

keywords_left : (ns : List NameAt) (word : List ℕ) (ts rest : Lexemes) → AreKeywords ns word ts rest → Spelled ts → Spelled rest
keywords_left [] word ts rest (is, none) s = stays ts rest is s
keywords_left (n ∷ ns) word ts rest (l, a, b, word', t, is, one, more) s = keywords_left ns word' b rest more (a_name n a b one.0 (taken l ts a t.0 s).1)

pattern_left : (word : List ℕ) (ns : List NameAt) (ts rest : Lexemes) → IsPattern word ns ts rest → Spelled ts → Spelled rest
pattern_left word [] ts rest (l, t, is) s = (taken l ts rest t.0 s).1
pattern_left word (n ∷ ns) ts rest (inl (l, a, t, is, one, none)) s = a_name n a rest one.0 (taken l ts a t.0 s).1
pattern_left word (n ∷ ns) ts rest (inr h) s = keywords_left (n ∷ ns) word ts rest h s

method_body : (m : MethodParts) (ts : Lexemes) → IsMethod m ts → Spelled ts → BodyIsWellSent m.body
method_body m ts (a, b, pattern, h, body) s = (body_sent m.body b [] body (head m.temporaries m.primitive a b h (pattern_left m.selector m.parameters ts a pattern s))).0

doit_body : (d : DoItParts) (ts : Lexemes) → IsDoIt d ts → Spelled ts → BodyIsWellSent d.body
doit_body d ts (a, names, body) s = (body_sent d.body a [] body (optional d.temporaries ts a names s)).0

pub method_sent : (text : List ℕ) (m : MethodParts) → IsMethodOf text m → AreWellSent m
method_sent text m h = method_body m (lexemes text h.tokens) h.method (all_spelled text h.tokens (recursion_from_All (IsSlice text) h.tokens (slices h.tokens text h.are_tokens)))

pub doit_sent : (text : List ℕ) (d : DoItParts) → IsDoItOf text d → BodyIsWellSent d.body
doit_sent text d h = doit_body d (lexemes text h.tokens) h.doit (all_spelled text h.tokens (recursion_from_All (IsSlice text) h.tokens (slices h.tokens text h.are_tokens)))
