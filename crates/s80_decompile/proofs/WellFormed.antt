-- What the grammar reads from the tokens of a text is spellable: expressions, statements and methods.
use Rattle.std.proofs.Common.{◌≡◌, ℕ, suc, ◌≤◌, inl, inr, List, [], ◌∷◌, ◌++◌, Bool, true, false, length, refl, ap, sym, ◌∙◌, subst, arith}
use Rattle.std.specs.List.{AllByRecursion, flat_map}
use Rattle.s80_lex.specs.declared.token.TokenKind.TheVariants as kind
use Rattle.s80_lex.specs.Selector.{IsSelectorOf}
use Rattle.s80_lex.specs.Spelling.{IsBinary, IsKeywordSelector, IsName as IsNameWord, keyword}
use Rattle.s80_syntax.specs.Lexeme.{Lexemes, lexemes}
use Rattle.s80_syntax.specs.Grammar.{AreKeywords, AreOptionalTemporaries, AreParts, AreTemporaries, IsBarBetween, IsBetween, IsBody, IsCaret, IsCascade, IsChain, IsExpr, IsHead, IsMessage, IsOperand, IsPattern, IsPrimary, IsPrimitive}
use Rattle.s80_syntax.specs.Text.{IsMethodOf}
use Rattle.s80_syntax.specs.Word.{bar, greater, less, primitive_word}
use Rattle.s80_tree.specs.declared.name.NameAt.{NameAt}
use Rattle.s80_tree.specs.Tree.{ExprTree, PrimaryTree, ExprTrees, MessageTrees, BodyTree, MethodParts, expr, name, literal, block, paren, no_exprs, exprs, no_messages, messages, no_stmts, stmts}
use Rattle.s80_decompile.specs.Spellable.{AreDeclarable, AreSpellableMessages, AreSpellableOperands, IsSpellable, IsSpellableBody, IsSpellableCascade, IsSpellableExpr, IsSpellableMessage, IsSpellableOperand, IsSpellablePrimary, MayFollow, count}
use Rattle.s80_decompile.specs.TreeText.{HasTree}
use Rattle.s80_decompile.proofs.Moved.{spellable_stays}
use Rattle.s80_decompile.proofs.WellSpelled.{AreTokensOf, after_mark, after_sign, declared_form, literal_form, name_form, names_form, parameters_form, taken, targets_form, text_tokens}

-- ---- between parts

caret_form : (r : Bool) (ts rest : Lexemes) → IsCaret r ts rest → AreTokensOf ts → AreTokensOf rest
caret_form true ts rest m h = after_mark kind.Caret ts rest m h
caret_form false ts rest e h = subst AreTokensOf e h

between_form : (r : Bool) (ss : BodyTree) (ts rest : Lexemes) → IsBetween r ss ts rest → AreTokensOf ts → MayFollow r ss × AreTokensOf rest
between_form false no_stmts ts rest (inl m) h = (tt, after_mark kind.Period ts rest m h)
between_form false no_stmts ts rest (inr e) h = (tt, subst AreTokensOf e h)
between_form true no_stmts ts rest (inl m) h = (tt, after_mark kind.Period ts rest m h)
between_form true no_stmts ts rest (inr e) h = (tt, subst AreTokensOf e h)
between_form false (stmts r e ss) ts rest m h = (tt, after_mark kind.Period ts rest m h)
between_form true (stmts r e ss) ts rest m h = absurd m

bar_form : (ps : List NameAt) (ss : BodyTree) (ts rest : Lexemes) → IsBarBetween ps ss ts rest → AreTokensOf ts → AreTokensOf rest
bar_form [] ss ts rest e h = subst AreTokensOf e h
bar_form (p ∷ ps) no_stmts ts rest (inl m) h = after_sign kind.Binary bar ts rest m h
bar_form (p ∷ ps) no_stmts ts rest (inr e) h = subst AreTokensOf e h
bar_form (p ∷ ps) (stmts r e ss) ts rest m h = after_sign kind.Binary bar ts rest m h

-- a keyword selector from its first keyword and the others
with_first : (count : ℕ) (n bytes s more : List ℕ) (names : List (List ℕ)) → IsNameWord n → bytes ≡ keyword n → AllByRecursion IsNameWord names → s ≡ bytes ++ more → more ≡ flat_map keyword names → count ≡ length names → IsKeywordSelector (suc count) s
with_first count n bytes s more names h b named e f c = record {
  names = n ∷ names;
  some = λ i. absurd (cc);
  named = (h, named);
  spelled = e ∙ ap (λ l. l ++ more) b ∙ ap (λ l. keyword n ++ l) f;
  counted = ap suc c;
}

-- further keywords with their arguments
record Parts (es : ExprTrees) (s : List ℕ) (rest : Lexemes) : Type 0 where
  names : List (List ℕ)
  named : AllByRecursion IsNameWord names
  spelled : s ≡ flat_map keyword names
  counted : count es ≡ length names
  operands : AreSpellableOperands es 1
  behind : AreTokensOf rest

-- ---- all of it

mutual
  expr_form : (e : ExprTree) (ts rest : Lexemes) → IsExpr e ts rest → AreTokensOf ts → IsSpellableExpr e × AreTokensOf rest
  expr_form (expr ns p ms cs) ts rest (a, b, c, i, j, k, l, m) h =
      let t = targets_form ns ts a i h in
      let q = primary_form p a b j t.1 in
      let u = messages_form ms 0 2 b c k q.1 in
      let v = cascade_form cs c rest m u.1 in
      ((t.0, q.0, u.0, l, v.0), v.1)

  primary_form : (p : PrimaryTree) (ts rest : Lexemes) → IsPrimary p ts rest → AreTokensOf ts → IsSpellablePrimary p × AreTokensOf rest
  primary_form (name n) ts rest i h = name_form n ts rest i h
  primary_form (literal v) ts rest i h = literal_form v ts rest i h
  primary_form (paren e) ts rest (a, b, i, j, k) h =
      let x = expr_form e a b j (after_mark kind.OpenParen ts a i h) in
      (x.0, after_mark kind.CloseParen b rest k x.1)
  primary_form (block ps ss) ts rest (a, b, c, d, i, j, k, l, m) h =
      let x = parameters_form ps a b j (after_mark kind.OpenBracket ts a i h) in
      let y = body_form ss c d l (bar_form ps ss b c k x.1) in
      ((x.0, y.0), after_mark kind.CloseBracket d rest m y.1)

  operand_form : (e : ExprTree) (high : ℕ) (ts rest : Lexemes) → IsOperand e high ts rest → AreTokensOf ts → IsSpellableOperand e high × AreTokensOf rest
  operand_form (expr ns p ms cs) high ts rest (a, i, j, k, l) h =
      let q = primary_form p ts a k h in
      let u = messages_form ms 0 high a rest l q.1 in
      ((i, j, q.0, u.0), u.1)

  messages_form : (ms : MessageTrees) (low high : ℕ) (ts rest : Lexemes) → IsChain ms low high ts rest → AreTokensOf ts → AreSpellableMessages ms low high × AreTokensOf rest
  messages_form no_messages low high ts rest e h = (tt, subst AreTokensOf e h)
  messages_form (messages s es ms) low high ts rest (a, next, i, j) h =
      let x = message_form es s low high next ts a i h in
      let y = messages_form ms next high a rest j x.1 in
      ((next, x.0, y.0), y.1)

  message_form : (es : ExprTrees) (s : List ℕ) (low high next : ℕ) (ts rest : Lexemes) → IsMessage es s low high next ts rest → AreTokensOf ts → IsSpellableMessage es s low high next × AreTokensOf rest
  message_form no_exprs s low high next ts rest (l, t, e, lo, nx) h =
      let one = taken kind.Name l ts rest t h in
      ((subst IsNameWord (sym e) one.0.1, lo, nx), one.1)
  message_form (exprs e es) s low high next ts rest (inl (l, a, t, b, lo, hi, nx, o, n)) h =
      let one = taken kind.Binary l ts a t h in
      let x = operand_form e 0 a rest o one.1 in
      (inl (subst IsBinary (sym b) one.0.1, lo, hi, nx, x.0, n), x.1)
  message_form (exprs e es) s low high next ts rest (inr (l, a, b, more, t, k, lo, hi, nx, o, ps)) h =
      let one = taken kind.Keyword l ts a t h in
      let x = operand_form e 1 a b o one.1 in
      let y = parts_form es more b rest ps x.1 in
      (inr (with_first (count es) one.0.1.name l.bytes s more y.names one.0.1.named one.0.1.spelled y.named k y.spelled y.counted, lo, hi, nx, x.0, y.operands), y.behind)

  parts_form : (es : ExprTrees) (s : List ℕ) (ts rest : Lexemes) → AreParts es s ts rest → AreTokensOf ts → Parts es s rest
  parts_form no_exprs s ts rest (e, z) h = record { names = []; named = tt; spelled = z; counted = refl; operands = tt; behind = subst AreTokensOf e h }
  parts_form (exprs e es) s ts rest (l, a, b, more, t, k, o, ps) h =
      let one = taken kind.Keyword l ts a t h in
      let x = operand_form e 1 a b o one.1 in
      let y = parts_form es more b rest ps x.1 in
      let all = with_first (count es) one.0.1.name l.bytes s more y.names one.0.1.named one.0.1.spelled y.named k y.spelled y.counted in
      record { names = all.names; named = all.named; spelled = all.spelled; counted = all.counted; operands = (x.0, y.operands); behind = y.behind }

  cascade_form : (ms : MessageTrees) (ts rest : Lexemes) → IsCascade ms ts rest → AreTokensOf ts → IsSpellableCascade ms × AreTokensOf rest
  cascade_form no_messages ts rest e h = (tt, subst AreTokensOf e h)
  cascade_form (messages s es ms) ts rest (a, b, next, i, j, k) h =
      let x = message_form es s 0 2 next a b j (after_mark kind.Semicolon ts a i h) in
      let y = cascade_form ms b rest k x.1 in
      ((next, x.0, y.0), y.1)

  body_form : (ss : BodyTree) (ts rest : Lexemes) → IsBody ss ts rest → AreTokensOf ts → IsSpellableBody ss × AreTokensOf rest
  body_form no_stmts ts rest e h = (tt, subst AreTokensOf e h)
  body_form (stmts r e ss) ts rest (a, b, c, i, j, k, l) h =
      let x = expr_form e a b j (caret_form r ts a i h) in
      let y = between_form r ss b c k x.1 in
      let z = body_form ss c rest l y.1 in
      ((x.0, y.0, z.0), z.1)

-- ---- methods

record Keywords (ns : List NameAt) (s : List ℕ) (rest : Lexemes) : Type 0 where
  names : List (List ℕ)
  named : AllByRecursion IsNameWord names
  spelled : s ≡ flat_map keyword names
  counted : length ns ≡ length names
  declarable : AreDeclarable ns
  behind : AreTokensOf rest

keywords_form : (ns : List NameAt) (s : List ℕ) (ts rest : Lexemes) → AreKeywords ns s ts rest → AreTokensOf ts → Keywords ns s rest
keywords_form [] s ts rest (e, z) h = record { names = []; named = tt; spelled = z; counted = refl; declarable = tt; behind = subst AreTokensOf e h }
keywords_form (n ∷ ns) s ts rest (l, a, b, more, t, k, d, ks) h =
    let one = taken kind.Keyword l ts a t h in
    let x = declared_form n a b d one.1 in
    let y = keywords_form ns more b rest ks x.1 in
    let all = with_first (length ns) one.0.1.name l.bytes s more y.names one.0.1.named one.0.1.spelled y.named k y.spelled y.counted in
    record { names = all.names; named = all.named; spelled = all.spelled; counted = all.counted; declarable = (x.0, y.declarable); behind = y.behind }

pattern_form : (s : List ℕ) (ns : List NameAt) (ts rest : Lexemes) → IsPattern s ns ts rest → AreTokensOf ts → IsSelectorOf (length ns) s × AreDeclarable ns × AreTokensOf rest
pattern_form s [] ts rest (l, t, e) h =
    let one = taken kind.Name l ts rest t h in
    (inl (subst IsNameWord (sym e) one.0.1, refl), tt, one.1)
pattern_form s (n ∷ ns) ts rest (inl (l, a, t, b, d, e)) h =
    let one = taken kind.Binary l ts a t h in
    let x = declared_form n a rest d one.1 in
    (inr (inl (subst IsBinary (sym b) one.0.1, ap (λ l. suc (length l)) e)), (x.0, subst AreDeclarable (sym e) tt), x.1)
pattern_form s (n ∷ ns) ts rest (inr ks) h =
    let x = keywords_form (n ∷ ns) s ts rest ks h in
    (inr (inr (record { names = x.names; some = λ e. some x.names e x.counted; named = x.named; spelled = x.spelled; counted = x.counted })), x.declarable, x.behind)
  where
    some : (names : List (List ℕ)) → names ≡ [] → suc (length ns) ≡ length names → ⊥
    some names e c = omega (arith, c, ap length e)

primitive_form : (n : ℕ) (ts rest : Lexemes) → IsPrimitive n ts rest → AreTokensOf ts → (n ≤ 255) × AreTokensOf rest
primitive_form n ts rest (l, a, b, c, i, j, k, e, lo, hi, m) h =
    let one = taken kind.Number l b c k (after_sign kind.Keyword primitive_word a b j (after_sign kind.Binary less ts a i h)) in
    (hi, after_sign kind.Binary greater c rest m one.1)

temporaries_form : (ns : List NameAt) (ts rest : Lexemes) → AreTemporaries ns ts rest → AreTokensOf ts → AreDeclarable ns × AreTokensOf rest
temporaries_form ns ts rest (a, b, i, j, k) h =
    let x = names_form ns a b j (after_sign kind.Binary bar ts a i h) in
    (x.0, after_sign kind.Binary bar b rest k x.1)

optional_form : (ns : List NameAt) (ts rest : Lexemes) → AreOptionalTemporaries ns ts rest → AreTokensOf ts → AreDeclarable ns × AreTokensOf rest
optional_form ns ts rest (inl t) h = temporaries_form ns ts rest t h
optional_form ns ts rest (inr (e, f)) h = (subst AreDeclarable (sym e) tt, subst AreTokensOf f h)

head_form : (ns : List NameAt) (n : ℕ) (ts rest : Lexemes) → IsHead ns n ts rest → AreTokensOf ts → (n ≤ 255) × AreDeclarable ns × AreTokensOf rest
head_form ns n ts rest (inl (z, t)) h =
    let x = optional_form ns ts rest t h in
    (omega (arith, z), x.0, x.1)
head_form ns n ts rest (inr (inl (a, p, t))) h =
    let x = primitive_form n ts a p h in
    let y = optional_form ns a rest t x.1 in
    (x.0, y.0, y.1)
head_form ns n ts rest (inr (inr (a, t, p))) h =
    let y = temporaries_form ns ts a t h in
    let x = primitive_form n a rest p y.1 in
    (x.0, y.0, x.1)

method_form : (text : List ℕ) (m : MethodParts) → IsMethodOf text m → IsSpellable m
method_form text m h =
    let p = pattern_form m.selector m.parameters (lexemes text h.tokens) h.method.0 h.method.2 (text_tokens text h.tokens h.are_tokens) in
    let q = head_form m.temporaries m.primitive h.method.0 h.method.1 h.method.3 p.2 in
    let b = body_form m.body h.method.1 [] h.method.4 q.2 in
    record { selector = p.0; parameters = p.1; temporaries = q.1; primitive = q.0; body = b.0; lawful = h.lawful }

pub spellable : (text : List ℕ) (m : MethodParts) → HasTree text m → IsSpellable m
spellable text m h = spellable_stays m h.tree h.same (method_form text h.tree h.is_tree)
