-- The places of the uses of a tree rise as those of its tokens do.
use Rattle.std.proofs.Common.{◌≡◌, ℕ, suc, ◌<◌, ◌≤◌, List, [], ◌∷◌, ◌++◌, Bool, true, false, inl, inr, refl, ap, sym, subst, arith}
use Rattle.s80_base.specs.Literal.{LiteralTree, LiteralTrees, small, character, str, symbol, array, true_literal, false_literal, nil_literal, number, no_literals, literals}
use Rattle.s80_lex.specs.declared.token.TokenKind.{TokenKind}
use Rattle.s80_lex.specs.declared.token.TokenKind.TheVariants as kind
use Rattle.s80_tree.specs.declared.name.NameAt.{NameAt}
use Rattle.s80_tree.specs.Tree.{ExprTree, PrimaryTree, ExprTrees, MessageTrees, BodyTree, MethodParts, DoItParts, expr, name, literal, block, paren, no_exprs, exprs, no_messages, messages, no_stmts, stmts}
use Rattle.s80_syntax.specs.Lexeme.{Lexeme, Lexemes, place}
use Rattle.s80_syntax.specs.Grammar.{IsMark, IsSign, IsName, IsDeclared, IsTargets, AreDeclared, AreParameters, IsSingle, IsNegative, AreJoined, IsWord, IsArrayStart, IsArray, AreElements, IsLiteral, IsNone, IsEmpty, IsBetween, IsCaret, IsBarBetween, IsExpr, IsPrimary, IsOperand, IsChain, IsMessage, AreParts, IsCascade, IsBody, AreTemporaries, AreOptionalTemporaries, IsPrimitive, IsHead, AreKeywords, IsPattern, IsMethod, IsDoIt}
use Rattle.s80_scope.specs.Names.{expr_uses, primary_uses, exprs_uses, messages_uses, body_uses}

-- the places of tokens rise up to the end of their text
abbrev pub Rising : ℕ → Lexemes → Type 0
Rising end [] = Unit {0}
Rising end (l ∷ ts) = (l.at < place end ts) × Rising end ts

-- places rise from one on, and stay below another
abbrev pub Rises : ℕ → List NameAt → ℕ → Type 0
Rises low [] high = low ≤ high
Rises low (n ∷ ns) high = (low ≤ n.at) × Rises (suc n.at) ns high

-- these uses stand in the tokens up to rest
record Moves (end : ℕ) (uses : List NameAt) (ts rest : Lexemes) : Type 0 where
  rises : Rises (place end ts) uses (place end rest)
  rising : Rising end rest

pub rises_later : (low mid high : ℕ) (v : List NameAt) → low ≤ mid → Rises mid v high → Rises low v high
rises_later low mid high [] le h = omega arith
rises_later low mid high (n ∷ v) le h = (omega arith, h.1)

rises_both : (low mid high : ℕ) (u v : List NameAt) → Rises low u mid → Rises mid v high → Rises low (u ++ v) high
rises_both low mid high [] v h g = rises_later low mid high v h g
rises_both low mid high (n ∷ u) v h g = (h.0, rises_both (suc n.at) mid high u v h.1 g)

both : (end : ℕ) (u v : List NameAt) (ts mid rest : Lexemes) → Moves end u ts mid → Moves end v mid rest → Moves end (u ++ v) ts rest
both end u v ts mid rest h g = record { rises = rises_both (place end ts) (place end mid) (place end rest) u v h.rises g.rises; rising = g.rising }

-- no use is in the second part
first_of_both : (end : ℕ) (u : List NameAt) (ts mid rest : Lexemes) → Moves end u ts mid → Moves end [] mid rest → Moves end u ts rest
first_of_both end u ts mid rest h g = record { rises = further (place end ts) u h.rises; rising = g.rising }
  where
    further : (low : ℕ) (v : List NameAt) → Rises low v (place end mid) → Rises low v (place end rest)
    further low [] k = let le : place end mid ≤ place end rest = g.rises in omega arith
    further low (n ∷ v) k = (k.0, further (suc n.at) v k.1)

stays : (end : ℕ) (ts rest : Lexemes) → ts ≡ rest → Rising end ts → Moves end [] ts rest
stays end ts rest is r = subst (λ us. Moves end [] ts us) is (record { rises = omega arith; rising = r })

taken : (end : ℕ) (l : Lexeme) (ts rest : Lexemes) → ts ≡ l ∷ rest → Rising end ts → Moves end [] ts rest
taken end l ts rest is r =
    let s : Rising end (l ∷ rest) = subst (Rising end) is r in
    let here : place end ts ≡ l.at = ap (place end) is in
    let less : l.at < place end rest = s.0 in
    record { rises = omega arith; rising = s.1 }

mark : (end : ℕ) (k : TokenKind) (ts rest : Lexemes) → IsMark k ts rest → Rising end ts → Moves end [] ts rest
mark end k ts rest (l, t) r = taken end l ts rest t.0 r

sign : (end : ℕ) (k : TokenKind) (word : List ℕ) (ts rest : Lexemes) → IsSign k word ts rest → Rising end ts → Moves end [] ts rest
sign end k word ts rest (l, t, w) r = taken end l ts rest t.0 r

used : (end : ℕ) (n : NameAt) (ts rest : Lexemes) → IsName n ts rest → Rising end ts → Moves end (n ∷ []) ts rest
used end n ts rest (l, t, w, at) r =
    let s : Rising end (l ∷ rest) = subst (Rising end) t.0 r in
    let here : place end ts ≡ l.at = ap (place end) t.0 in
    let less : l.at < place end rest = s.0 in
    record { rises = (omega arith, omega arith); rising = s.1 }

declared : (end : ℕ) (n : NameAt) (ts rest : Lexemes) → IsDeclared n ts rest → Rising end ts → Moves end [] ts rest
declared end n ts rest ((l, t, w, at), free) r = taken end l ts rest t.0 r

targets_move : (end : ℕ) (ns : List NameAt) (ts rest : Lexemes) → IsTargets ns ts rest → Rising end ts → Moves end ns ts rest
targets_move end [] ts rest is r = stays end ts rest is r
targets_move end (n ∷ ns) ts rest (mid, after, one, assign, more) r =
    let a = used end n ts mid one r in
    let b = mark end kind.Assign mid after assign a.rising in
    both end (n ∷ []) ns ts after rest (first_of_both end (n ∷ []) ts mid after a b) (targets_move end ns after rest more b.rising)

declared_move : (end : ℕ) (ns : List NameAt) (ts rest : Lexemes) → AreDeclared ns ts rest → Rising end ts → Moves end [] ts rest
declared_move end [] ts rest is r = stays end ts rest is r
declared_move end (n ∷ ns) ts rest (mid, one, more) r =
    let a = declared end n ts mid one r in both end [] [] ts mid rest a (declared_move end ns mid rest more a.rising)

parameters_move : (end : ℕ) (ns : List NameAt) (ts rest : Lexemes) → AreParameters ns ts rest → Rising end ts → Moves end [] ts rest
parameters_move end [] ts rest is r = stays end ts rest is r
parameters_move end (n ∷ ns) ts rest (mid, after, colon, one, more) r =
    let a = mark end kind.Colon ts mid colon r in
    let b = declared end n mid after one a.rising in
    both end [] [] ts mid rest a (both end [] [] mid after rest b (parameters_move end ns after rest more b.rising))

-- ---- literals

single_moves : (end : ℕ) (v : LiteralTree) (ts rest : Lexemes) → IsSingle v ts rest → Rising end ts → Moves end [] ts rest
single_moves end v ts rest (l, t, k, is) r = taken end l ts rest t r

negative_moves : (end : ℕ) (v : LiteralTree) (ts rest : Lexemes) → IsNegative v ts rest → Rising end ts → Moves end [] ts rest
negative_moves end v ts rest (minus, l, mid, t, m, n, is) r =
    let a = taken end minus ts mid t.0 r in both end [] [] ts mid rest a (taken end l mid rest n.0 a.rising)

joined_moves : (end : ℕ) (word : List ℕ) (ts rest : Lexemes) → AreJoined word ts rest → Rising end ts → Moves end [] ts rest
joined_moves end word [] rest h r = absurd h
joined_moves end word (l ∷ ts) rest (k, inl (alone, is, end_is)) r =
    both end [] [] (l ∷ ts) ts rest (taken end l (l ∷ ts) ts refl r) (stays end ts rest end_is r.1)
joined_moves end word (l ∷ ts) rest (k, inr (more, j, is, others)) r =
    both end [] [] (l ∷ ts) ts rest (taken end l (l ∷ ts) ts refl r) (joined_moves end more ts rest others r.1)

word_moves : (end : ℕ) (v : LiteralTree) (ts rest : Lexemes) → IsWord v ts rest → Rising end ts → Moves end [] ts rest
word_moves end v ts rest (inl (l, t, is)) r = taken end l ts rest t.0 r
word_moves end v ts rest (inr (inl (l, t, m, is))) r = taken end l ts rest t.0 r
word_moves end v ts rest (inr (inr (word, joined, is))) r = joined_moves end word ts rest joined r

start_moves : (end : ℕ) (inner : Bool) (ts rest : Lexemes) → IsArrayStart inner ts rest → Rising end ts → Moves end [] ts rest
start_moves end false ts rest h r = mark end kind.ArrayStart ts rest h r
start_moves end true ts rest (inl h) r = mark end kind.ArrayStart ts rest h r
start_moves end true ts rest (inr h) r = mark end kind.OpenParen ts rest h r

mutual
  array_moves : (end : ℕ) (inner : Bool) (v : LiteralTree) (ts rest : Lexemes) → IsArray inner v ts rest → Rising end ts → Moves end [] ts rest
  array_moves end inner (array vs) ts rest (a, b, start, elements, closing) r =
      let x = start_moves end inner ts a start r in
      let y = elements_move end vs a b elements x.rising in
      both end [] [] ts a rest x (both end [] [] a b rest y (mark end kind.CloseParen b rest closing y.rising))
  array_moves end inner (small n) ts rest h r = absurd h
  array_moves end inner (character n) ts rest h r = absurd h
  array_moves end inner (str t) ts rest h r = absurd h
  array_moves end inner (symbol t) ts rest h r = absurd h
  array_moves end inner true_literal ts rest h r = absurd h
  array_moves end inner false_literal ts rest h r = absurd h
  array_moves end inner nil_literal ts rest h r = absurd h
  array_moves end inner (number k t) ts rest h r = absurd h

  elements_move : (end : ℕ) (vs : LiteralTrees) (ts rest : Lexemes) → AreElements vs ts rest → Rising end ts → Moves end [] ts rest
  elements_move end no_literals ts rest is r = stays end ts rest is r
  elements_move end (literals v vs) ts rest (a, inl one, more) r =
      let x = single_moves end v ts a one r in both end [] [] ts a rest x (elements_move end vs a rest more x.rising)
  elements_move end (literals v vs) ts rest (a, inr (inl one), more) r =
      let x = negative_moves end v ts a one r in both end [] [] ts a rest x (elements_move end vs a rest more x.rising)
  elements_move end (literals v vs) ts rest (a, inr (inr (inl one)), more) r =
      let x = word_moves end v ts a one r in both end [] [] ts a rest x (elements_move end vs a rest more x.rising)
  elements_move end (literals v vs) ts rest (a, inr (inr (inr one)), more) r =
      let x = array_moves end true v ts a one r in both end [] [] ts a rest x (elements_move end vs a rest more x.rising)

literal_moves : (end : ℕ) (v : LiteralTree) (ts rest : Lexemes) → IsLiteral v ts rest → Rising end ts → Moves end [] ts rest
literal_moves end v ts rest (inl h) r = single_moves end v ts rest h r
literal_moves end v ts rest (inr (inl h)) r = negative_moves end v ts rest h r
literal_moves end v ts rest (inr (inr h)) r = array_moves end false v ts rest h r

-- ---- expressions

bar_between_moves : (end : ℕ) (ps : List NameAt) (ss : BodyTree) (ts rest : Lexemes) → IsBarBetween ps ss ts rest → Rising end ts → Moves end [] ts rest
bar_between_moves end [] ss ts rest is r = stays end ts rest is r
bar_between_moves end (p ∷ ps) no_stmts ts rest (inl h) r = sign end kind.Binary _ ts rest h r
bar_between_moves end (p ∷ ps) no_stmts ts rest (inr is) r = stays end ts rest is r
bar_between_moves end (p ∷ ps) (stmts q e ss) ts rest h r = sign end kind.Binary _ ts rest h r

caret_moves : (end : ℕ) (returns : Bool) (ts rest : Lexemes) → IsCaret returns ts rest → Rising end ts → Moves end [] ts rest
caret_moves end true ts rest h r = mark end kind.Caret ts rest h r
caret_moves end false ts rest is r = stays end ts rest is r

between_moves : (end : ℕ) (returns : Bool) (ss : BodyTree) (ts rest : Lexemes) → IsBetween returns ss ts rest → Rising end ts → Moves end [] ts rest
between_moves end returns no_stmts ts rest (inl h) r = mark end kind.Period ts rest h r
between_moves end returns no_stmts ts rest (inr is) r = stays end ts rest is r
between_moves end false (stmts q e ss) ts rest h r = mark end kind.Period ts rest h r
between_moves end true (stmts q e ss) ts rest h r = absurd h

no_more : (es : ExprTrees) → IsEmpty es → exprs_uses es ≡ []
no_more no_exprs h = refl
no_more (exprs e es) h = absurd h

no_cascade : (ms : MessageTrees) → IsNone ms → messages_uses ms ≡ []
no_cascade no_messages h = refl
no_cascade (messages s es ms) h = absurd h

mutual
  expr_moves : (end : ℕ) (e : ExprTree) (ts rest : Lexemes) → IsExpr e ts rest → Rising end ts → Moves end (expr_uses e) ts rest
  expr_moves end (expr ns p ms cs) ts rest (a, b, c, targets, primary, chain, after, cascade) r =
      let x = targets_move end ns ts a targets r in
      let y = primary_moves end p a b primary x.rising in
      let z = chain_moves end ms 0 2 b c chain y.rising in
      both end ns (primary_uses p ++ (messages_uses ms ++ messages_uses cs)) ts a rest x
      (both end (primary_uses p) (messages_uses ms ++ messages_uses cs) a b rest y
      (both end (messages_uses ms) (messages_uses cs) b c rest z (cascade_moves end cs c rest cascade z.rising)))

  primary_moves : (end : ℕ) (p : PrimaryTree) (ts rest : Lexemes) → IsPrimary p ts rest → Rising end ts → Moves end (primary_uses p) ts rest
  primary_moves end (name n) ts rest h r = used end n ts rest h r
  primary_moves end (literal v) ts rest h r = literal_moves end v ts rest h r
  primary_moves end (paren e) ts rest (a, b, opening, inner, closing) r =
      let x = mark end kind.OpenParen ts a opening r in
      let y = expr_moves end e a b inner x.rising in
      both end [] (expr_uses e) ts a rest x (first_of_both end (expr_uses e) a b rest y (mark end kind.CloseParen b rest closing y.rising))
  primary_moves end (block ps ss) ts rest (a, b, c, d, opening, parameters, bar, body, closing) r =
      let x = mark end kind.OpenBracket ts a opening r in
      let y = parameters_move end ps a b parameters x.rising in
      let z = bar_between_moves end ps ss b c bar y.rising in
      let w = body_moves end ss c d body z.rising in
      both end [] (body_uses ss) ts a rest x (both end [] (body_uses ss) a b rest y (both end [] (body_uses ss) b c rest z
      (first_of_both end (body_uses ss) c d rest w (mark end kind.CloseBracket d rest closing w.rising))))

  operand_moves : (end : ℕ) (e : ExprTree) (high : ℕ) (ts rest : Lexemes) → IsOperand e high ts rest → Rising end ts → Moves end (expr_uses e) ts rest
  operand_moves end (expr ns p ms cs) high ts rest (a, none, last, primary, chain) r =
      let x = primary_moves end p ts a primary r in
      let y = chain_moves end ms 0 high a rest chain x.rising in
      let parts = both end (primary_uses p) (messages_uses ms) ts a rest x y in
      let z = both end (primary_uses p ++ messages_uses ms) (messages_uses cs) ts rest rest parts (subst (λ u. Moves end u rest rest) (sym (no_cascade cs last)) (stays end rest rest refl y.rising)) in
      subst (λ t. Moves end (t ++ (primary_uses p ++ (messages_uses ms ++ messages_uses cs))) ts rest) (sym none)
      (both end (primary_uses p) (messages_uses ms ++ messages_uses cs) ts a rest x
      (both end (messages_uses ms) (messages_uses cs) a rest rest y (subst (λ u. Moves end u rest rest) (sym (no_cascade cs last)) (stays end rest rest refl y.rising))))

  chain_moves : (end : ℕ) (ms : MessageTrees) (low high : ℕ) (ts rest : Lexemes) → IsChain ms low high ts rest → Rising end ts → Moves end (messages_uses ms) ts rest
  chain_moves end no_messages low high ts rest is r = stays end ts rest is r
  chain_moves end (messages s es ms) low high ts rest (a, next, one, more) r =
      let x = message_moves end es s low high next ts a one r in
      both end (exprs_uses es) (messages_uses ms) ts a rest x (chain_moves end ms next high a rest more x.rising)

  message_moves : (end : ℕ) (es : ExprTrees) (s : List ℕ) (low high next : ℕ) (ts rest : Lexemes) → IsMessage es s low high next ts rest → Rising end ts → Moves end (exprs_uses es) ts rest
  message_moves end no_exprs s low high next ts rest (l, t, is, first, then) r = taken end l ts rest t.0 r
  message_moves end (exprs e es) s low high next ts rest (inl (l, a, t, is, first, last, then, operand, only)) r =
      let x = taken end l ts a t.0 r in
      let y = operand_moves end e 0 a rest operand x.rising in
      both end [] (expr_uses e ++ exprs_uses es) ts a rest x
      (both end (expr_uses e) (exprs_uses es) a rest rest y (subst (λ u. Moves end u rest rest) (sym (no_more es only)) (stays end rest rest refl y.rising)))
  message_moves end (exprs e es) s low high next ts rest (inr (l, a, b, s', t, is, first, last, then, operand, parts)) r =
      let x = taken end l ts a t.0 r in
      let y = operand_moves end e 1 a b operand x.rising in
      both end [] (expr_uses e ++ exprs_uses es) ts a rest x (both end (expr_uses e) (exprs_uses es) a b rest y (parts_move end es s' b rest parts y.rising))

  parts_move : (end : ℕ) (es : ExprTrees) (s : List ℕ) (ts rest : Lexemes) → AreParts es s ts rest → Rising end ts → Moves end (exprs_uses es) ts rest
  parts_move end no_exprs s ts rest (is, none) r = stays end ts rest is r
  parts_move end (exprs e es) s ts rest (l, a, b, s', t, is, operand, parts) r =
      let x = taken end l ts a t.0 r in
      let y = operand_moves end e 1 a b operand x.rising in
      both end [] (expr_uses e ++ exprs_uses es) ts a rest x (both end (expr_uses e) (exprs_uses es) a b rest y (parts_move end es s' b rest parts y.rising))

  cascade_moves : (end : ℕ) (cs : MessageTrees) (ts rest : Lexemes) → IsCascade cs ts rest → Rising end ts → Moves end (messages_uses cs) ts rest
  cascade_moves end no_messages ts rest is r = stays end ts rest is r
  cascade_moves end (messages s es ms) ts rest (a, b, next, semicolon, one, more) r =
      let x = mark end kind.Semicolon ts a semicolon r in
      let y = message_moves end es s 0 2 next a b one x.rising in
      both end [] (exprs_uses es ++ messages_uses ms) ts a rest x (both end (exprs_uses es) (messages_uses ms) a b rest y (cascade_moves end ms b rest more y.rising))

  body_moves : (end : ℕ) (ss : BodyTree) (ts rest : Lexemes) → IsBody ss ts rest → Rising end ts → Moves end (body_uses ss) ts rest
  body_moves end no_stmts ts rest is r = stays end ts rest is r
  body_moves end (stmts q e ss) ts rest (a, b, c, caret, one, period, more) r =
      let x = caret_moves end q ts a caret r in
      let y = expr_moves end e a b one x.rising in
      let z = between_moves end q ss b c period y.rising in
      both end [] (expr_uses e ++ body_uses ss) ts a rest x
      (both end (expr_uses e) (body_uses ss) a b rest y (both end [] (body_uses ss) b c rest z (body_moves end ss c rest more z.rising)))

-- ---- whole texts

temporaries_move : (end : ℕ) (ns : List NameAt) (ts rest : Lexemes) → AreTemporaries ns ts rest → Rising end ts → Moves end [] ts rest
temporaries_move end ns ts rest (a, b, opening, names, closing) r =
    let x = sign end kind.Binary _ ts a opening r in
    let y = declared_move end ns a b names x.rising in
    both end [] [] ts a rest x (both end [] [] a b rest y (sign end kind.Binary _ b rest closing y.rising))

optional_move : (end : ℕ) (ns : List NameAt) (ts rest : Lexemes) → AreOptionalTemporaries ns ts rest → Rising end ts → Moves end [] ts rest
optional_move end ns ts rest (inl h) r = temporaries_move end ns ts rest h r
optional_move end ns ts rest (inr (none, is)) r = stays end ts rest is r

primitive_moves : (end n : ℕ) (ts rest : Lexemes) → IsPrimitive n ts rest → Rising end ts → Moves end [] ts rest
primitive_moves end n ts rest (l, a, b, c, opening, word, t, is, least, most, closing) r =
    let x = sign end kind.Binary _ ts a opening r in
    let y = sign end kind.Keyword _ a b word x.rising in
    let z = taken end l b c t.0 y.rising in
    both end [] [] ts a rest x (both end [] [] a b rest y (both end [] [] b c rest z (sign end kind.Binary _ c rest closing z.rising)))

head_moves : (end : ℕ) (ns : List NameAt) (n : ℕ) (ts rest : Lexemes) → IsHead ns n ts rest → Rising end ts → Moves end [] ts rest
head_moves end ns n ts rest (inl (none, h)) r = optional_move end ns ts rest h r
head_moves end ns n ts rest (inr (inl (a, p, h))) r = let x = primitive_moves end n ts a p r in both end [] [] ts a rest x (optional_move end ns a rest h x.rising)
head_moves end ns n ts rest (inr (inr (a, h, p))) r = let x = temporaries_move end ns ts a h r in both end [] [] ts a rest x (primitive_moves end n a rest p x.rising)

keywords_move : (end : ℕ) (ns : List NameAt) (s : List ℕ) (ts rest : Lexemes) → AreKeywords ns s ts rest → Rising end ts → Moves end [] ts rest
keywords_move end [] s ts rest (is, none) r = stays end ts rest is r
keywords_move end (n ∷ ns) s ts rest (l, a, b, s', t, is, one, more) r =
    let x = taken end l ts a t.0 r in
    let y = declared end n a b one x.rising in
    both end [] [] ts a rest x (both end [] [] a b rest y (keywords_move end ns s' b rest more y.rising))

pattern_moves : (end : ℕ) (s : List ℕ) (ns : List NameAt) (ts rest : Lexemes) → IsPattern s ns ts rest → Rising end ts → Moves end [] ts rest
pattern_moves end s [] ts rest (l, t, is) r = taken end l ts rest t.0 r
pattern_moves end s (n ∷ ns) ts rest (inl (l, a, t, is, one, none)) r =
    let x = taken end l ts a t.0 r in both end [] [] ts a rest x (declared end n a rest one x.rising)
pattern_moves end s (n ∷ ns) ts rest (inr h) r = keywords_move end (n ∷ ns) s ts rest h r

pub method_rises : (end : ℕ) (m : MethodParts) (ts : Lexemes) → IsMethod m ts → Rising end ts → Rises (place end ts) (body_uses m.body) end
method_rises end m ts (a, b, pattern, head, body) r =
    let x = pattern_moves end m.selector m.parameters ts a pattern r in
    let y = head_moves end m.temporaries m.primitive a b head x.rising in
    let z = both end [] (body_uses m.body) ts a [] x (both end [] (body_uses m.body) a b [] y (body_moves end m.body b [] body y.rising)) in z.rises

pub doit_rises : (end : ℕ) (d : DoItParts) (ts : Lexemes) → IsDoIt d ts → Rising end ts → Rises (place end ts) (body_uses d.body) end
doit_rises end d ts (a, temporaries, body) r =
    let x = optional_move end d.temporaries ts a temporaries r in
    let z = both end [] (body_uses d.body) ts a [] x (body_moves end d.body a [] body x.rising) in z.rises
