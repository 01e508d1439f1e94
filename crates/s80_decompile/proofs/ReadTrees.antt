-- Expressions and statements, read from their tokens.
use Rattle.std.proofs.Common.{◌≡◌, ℕ, suc, ◌≤◌, inl, inr, List, [], ◌∷◌, ◌++◌, Bool, true, false, codes, length, refl, ap, ap₂, sym, ◌∙◌, arith}
use Rattle.std.specs.List.{AllByRecursion, flat_map}
use Rattle.s80_lex.specs.declared.token.TokenKind.TheVariants as kind
use Rattle.s80_lex.specs.Number.{behind}
use Rattle.s80_lex.specs.Spelling.{IsBinary, IsName as IsNameWord, keyword}
use Rattle.s80_syntax.specs.Lexeme.{Lexeme, Lexemes}
use Rattle.s80_syntax.specs.Grammar.{AreParts, IsBarBetween, IsBetween, IsBody, IsCaret, IsCascade, IsCascadeOf, IsChain, IsExpr, IsMessage, IsOperand, IsPrimary}
use Rattle.s80_syntax.specs.Word.{bar}
use Rattle.s80_tree.specs.declared.name.NameAt.{NameAt}
use Rattle.s80_tree.specs.Tree.{ExprTree, PrimaryTree, ExprTrees, MessageTrees, BodyTree, expr, name, literal, block, paren, no_exprs, exprs, no_messages, messages, no_stmts, stmts}
use Rattle.s80_decompile.specs.Places.{unplaced_body, unplaced_expr, unplaced_exprs, unplaced_messages, unplaced_names, unplaced_primary, unplaced_tokens}
use Rattle.s80_decompile.specs.Spellable.{AreSpellableMessages, AreSpellableOperands, IsSpellableBody, IsSpellableCascade, IsSpellableExpr, IsSpellableMessage, IsSpellableOperand, IsSpellablePrimary, MayFollow, count}
use Rattle.s80_decompile.specs.TreeTokens.{bar_tokens, body_tokens, caret_tokens, cascade_tokens, expr_tokens, message_tokens, messages_tokens, parameter_tokens, part_token, parts_tokens, period_tokens, primary_tokens, target_tokens, token}
use Rattle.s80_decompile.proofs.ReadParts.{Read, Took, alone_in, first_of, literal_read, mark_read, name_read, parameters_read, sign_read, targets_read}
use Rattle.s80_decompile.proofs.Selecting.{behind_first, binary_part, keyword_part}

-- ---- what stays of a tree whose places change

cascade_stays : (ms ks cs ds : MessageTrees) → unplaced_messages ks ≡ unplaced_messages ms → unplaced_messages ds ≡ unplaced_messages cs → IsCascadeOf ms cs → IsCascadeOf ks ds
cascade_stays ms ks cs no_messages e f h = tt
cascade_stays ms ks no_messages (messages s es ds) e f h = absurd (cc)
cascade_stays no_messages ks (messages t fs cs) (messages s es ds) e f h = absurd (h tt)
cascade_stays (messages u gs ms) no_messages (messages t fs cs) (messages s es ds) e f h = absurd (cc)
cascade_stays (messages u gs ms) (messages v hs ks) (messages t fs cs) (messages s es ds) e f h = λ none. none

between_stays : (r : Bool) (ss ds : BodyTree) (ts rest : Lexemes) → unplaced_body ds ≡ unplaced_body ss → IsBetween r ss ts rest → IsBetween r ds ts rest
between_stays r no_stmts no_stmts ts rest e h = h
between_stays r no_stmts (stmts q d ds) ts rest e h = absurd (cc)
between_stays r (stmts p c ss) no_stmts ts rest e h = absurd (cc)
between_stays true (stmts p c ss) (stmts q d ds) ts rest e h = absurd h
between_stays false (stmts p c ss) (stmts q d ds) ts rest e h = h

bar_stays : (ps ns : List NameAt) (ss ds : BodyTree) (ts rest : Lexemes) → unplaced_names ns ≡ unplaced_names ps → unplaced_body ds ≡ unplaced_body ss → IsBarBetween ps ss ts rest → IsBarBetween ns ds ts rest
bar_stays [] [] ss ds ts rest e f h = h
bar_stays [] (n ∷ ns) ss ds ts rest e f h = absurd (cc)
bar_stays (p ∷ ps) [] ss ds ts rest e f h = absurd (cc)
bar_stays (p ∷ ps) (n ∷ ns) no_stmts no_stmts ts rest e f h = h
bar_stays (p ∷ ps) (n ∷ ns) no_stmts (stmts q d ds) ts rest e f h = absurd (cc)
bar_stays (p ∷ ps) (n ∷ ns) (stmts r c ss) no_stmts ts rest e f h = absurd (cc)
bar_stays (p ∷ ps) (n ∷ ns) (stmts r c ss) (stmts q d ds) ts rest e f h = h

-- ---- signs

period_read : (r : Bool) (ss : BodyTree) (ls more : Lexemes) → MayFollow r ss → unplaced_tokens ls ≡ period_tokens ss more → Took (IsBetween r ss) ls more
period_read r no_stmts ls more h e = record { rest = ls; reads = inr refl; left = e }
period_read true (stmts q c ss) ls more h e = absurd h
period_read false (stmts q c ss) ls more h e =
    let m = mark_read kind.Period (codes ".") ls more e in
    record { rest = m.rest; reads = m.reads; left = m.left }

caret_read : (r : Bool) (ls more : Lexemes) → unplaced_tokens ls ≡ caret_tokens r more → Took (IsCaret r) ls more
caret_read true ls more e =
    let m = mark_read kind.Caret (codes "^") ls more e in
    record { rest = m.rest; reads = m.reads; left = m.left }
caret_read false ls more e = record { rest = ls; reads = refl; left = e }

bar_read : (ps : List NameAt) (ss : BodyTree) (ls more : Lexemes) → unplaced_tokens ls ≡ bar_tokens ps ss more → Took (IsBarBetween ps ss) ls more
bar_read [] ss ls more e = record { rest = ls; reads = refl; left = e }
bar_read (p ∷ ps) no_stmts ls more e = record { rest = ls; reads = inr refl; left = e }
bar_read (p ∷ ps) (stmts r c ss) ls more e =
    let m = sign_read kind.Binary bar ls more e in
    record { rest = m.rest; reads = m.reads; left = m.left }

-- ---- messages

unary_read : (s : List ℕ) (low high next : ℕ) (ls more : Lexemes) → low ≡ 0 → next ≡ 0 → unplaced_tokens ls ≡ token kind.Name s ∷ more → Read unplaced_exprs (λ fs. IsMessage fs s low high next) no_exprs ls more
unary_read s low high next ls more l n e =
    let f = first_of (token kind.Name s) ls more e in
    record { tree = no_exprs; same = refl; rest = f.rest; reads = (f.first, (f.split, f.kind_is), sym f.bytes_are, l, n); left = f.left }

abbrev ReadsOperand : ExprTree → ℕ → Type 0
ReadsOperand e high = (ls more : Lexemes) → unplaced_tokens ls ≡ expr_tokens e more → Read unplaced_expr (λ f. IsOperand f high) e ls more

abbrev ReadsParts : ExprTrees → Type 0
ReadsParts es =
    (names : List (List ℕ)) (ls more : Lexemes) → AllByRecursion IsNameWord names → count es ≡ length names → unplaced_tokens ls ≡ parts_tokens es (flat_map keyword names) more
    → Read unplaced_exprs (λ fs. AreParts fs (flat_map keyword names)) es ls more

binary_read : (e : ExprTree) (s : List ℕ) (low high next : ℕ) (ls more : Lexemes) → IsBinary s → low ≤ 1 → 1 ≤ high → next ≡ 1 → ReadsOperand e 0 → unplaced_tokens ls ≡ part_token s ∷ expr_tokens e more
    → Read unplaced_exprs (λ fs. IsMessage fs s low high next) (exprs e no_exprs) ls more
binary_read e s low high next ls more b l h n operand is =
    let f = first_of (token kind.Binary s) ls (expr_tokens e more) (is ∙ ap (λ t. t ∷ expr_tokens e more) (binary_part s b)) in
    let r = operand f.rest more f.left in
    record {
      tree = exprs r.tree no_exprs;
      same = ap (λ x. exprs x no_exprs) r.same;
      rest = r.rest;
      reads = inl (f.first, f.rest, (f.split, f.kind_is), sym f.bytes_are, l, h, n, r.reads, tt);
      left = r.left;
    }

-- a keyword with its argument, and further ones
record Parts (e : ExprTree) (es : ExprTrees) (s : List ℕ) (ls more : Lexemes) : Type 0 where
  first : Lexeme
  others : List ℕ
  mid : Lexemes
  split : ls ≡ first ∷ mid
  kind_is : first.kind ≡ kind.Keyword
  spelled : s ≡ first.bytes ++ others
  operand : ExprTree
  operand_same : unplaced_expr operand ≡ unplaced_expr e
  after : Lexemes
  operand_reads : IsOperand operand 1 mid after
  operands : ExprTrees
  operands_same : unplaced_exprs operands ≡ unplaced_exprs es
  rest : Lexemes
  operands_read : AreParts operands others after rest
  left : unplaced_tokens rest ≡ more

keywords_read : (e : ExprTree) (es : ExprTrees) (s : List ℕ) (names : List (List ℕ)) (ls more : Lexemes) → AllByRecursion IsNameWord names → s ≡ flat_map keyword names → suc (count es) ≡ length names
    → ReadsOperand e 1 → ReadsParts es → unplaced_tokens ls ≡ part_token s ∷ expr_tokens e (parts_tokens es (behind 58 s) more) → Parts e es s ls more
keywords_read e es s [] ls more named is counted one others h = absurd (omega (arith, counted))
keywords_read e es s (n ∷ ns) ls more named is counted one others h =
    let rest : List ℕ = flat_map keyword ns in
    let tokens : unplaced_tokens ls ≡ token kind.Keyword (keyword n) ∷ expr_tokens e (parts_tokens es rest more) =
    h ∙ ap (λ w. part_token w ∷ expr_tokens e (parts_tokens es (behind 58 w) more)) is
    ∙ ap (λ t. t ∷ expr_tokens e (parts_tokens es (behind 58 (keyword n ++ rest)) more)) (keyword_part n rest named.0)
    ∙ ap (λ w. token kind.Keyword (keyword n) ∷ expr_tokens e (parts_tokens es w more)) (behind_first n rest named.0) in
    let f = first_of (token kind.Keyword (keyword n)) ls (expr_tokens e (parts_tokens es rest more)) tokens in
    let r = one f.rest (parts_tokens es rest more) f.left in
    let t = others ns r.rest more named.1 (let c : count es ≡ length ns = omega (arith, counted) in c) r.left in
    record {
      first = f.first;
      others = rest;
      mid = f.rest;
      split = f.split;
      kind_is = f.kind_is;
      spelled = is ∙ ap (λ w. w ++ rest) (sym f.bytes_are);
      operand = r.tree;
      operand_same = r.same;
      after = r.rest;
      operand_reads = r.reads;
      operands = t.tree;
      operands_same = t.same;
      rest = t.rest;
      operands_read = t.reads;
      left = t.left;
    }

exprs_same : (e f : ExprTree) (es fs : ExprTrees) → unplaced_expr f ≡ unplaced_expr e → unplaced_exprs fs ≡ unplaced_exprs es → unplaced_exprs (exprs f fs) ≡ unplaced_exprs (exprs e es)
exprs_same e f es fs i j = ap₂ exprs i j

message_by_parts : (e : ExprTree) (es : ExprTrees) (s : List ℕ) (low high next : ℕ) (ls more : Lexemes) → low ≤ 2 → 2 ≤ high → next ≡ 3 → Parts e es s ls more → Read unplaced_exprs (λ fs. IsMessage fs s low high next) (exprs e es) ls more
message_by_parts e es s low high next ls more l h n p = record {
  tree = exprs p.operand p.operands;
  same = exprs_same e p.operand es p.operands p.operand_same p.operands_same;
  rest = p.rest;
  reads = inr (p.first, p.mid, p.after, p.others, (p.split, p.kind_is), p.spelled, l, h, n, p.operand_reads, p.operands_read);
  left = p.left;
}

parts_by_parts : (e : ExprTree) (es : ExprTrees) (s : List ℕ) (ls more : Lexemes) → Parts e es s ls more → Read unplaced_exprs (λ fs. AreParts fs s) (exprs e es) ls more
parts_by_parts e es s ls more p = record {
  tree = exprs p.operand p.operands;
  same = exprs_same e p.operand es p.operands p.operand_same p.operands_same;
  rest = p.rest;
  reads = (p.first, p.mid, p.after, p.others, (p.split, p.kind_is), p.spelled, p.operand_reads, p.operands_read);
  left = p.left;
}

expr_same : (ns ps : List NameAt) (p q : PrimaryTree) (ms ks cs ds : MessageTrees) → unplaced_names ns ≡ unplaced_names ps → unplaced_primary p ≡ unplaced_primary q → unplaced_messages ms ≡ unplaced_messages ks → unplaced_messages cs ≡ unplaced_messages ds
    → unplaced_expr (expr ns p ms cs) ≡ unplaced_expr (expr ps q ks ds)
expr_same ns ps p q ms ks cs ds a b c d =
    ap (λ x. expr x (unplaced_primary p) (unplaced_messages ms) (unplaced_messages cs)) a
    ∙ ap (λ x. expr (unplaced_names ps) x (unplaced_messages ms) (unplaced_messages cs)) b
    ∙ ap₂ (λ x y. expr (unplaced_names ps) (unplaced_primary q) x y) c d

-- ---- all of it

mutual
  pub expr_read : (e : ExprTree) (ls more : Lexemes) → IsSpellableExpr e → unplaced_tokens ls ≡ expr_tokens e more → Read unplaced_expr IsExpr e ls more
  expr_read (expr ns p ms cs) ls more (a, b, c, d, f) h =
      let t = targets_read ns ls (primary_tokens p (messages_tokens ms (cascade_tokens cs more))) h in
      let q = primary_read p t.rest (messages_tokens ms (cascade_tokens cs more)) b t.left in
      let k = messages_read ms 0 2 q.rest (cascade_tokens cs more) c q.left in
      let l = cascade_read cs k.rest more f k.left in
      record {
        tree = expr t.tree q.tree k.tree l.tree;
        same = expr_same t.tree ns q.tree p k.tree ms l.tree cs t.same q.same k.same l.same;
        rest = l.rest;
        reads = (t.rest, q.rest, k.rest, t.reads, q.reads, k.reads, cascade_stays ms k.tree cs l.tree k.same l.same d, l.reads);
        left = l.left;
      }

  primary_read : (p : PrimaryTree) (ls more : Lexemes) → IsSpellablePrimary p → unplaced_tokens ls ≡ primary_tokens p more → Read unplaced_primary IsPrimary p ls more
  primary_read (name n) ls more s h =
      let r = name_read n ls more h in
      record { tree = name r.tree; same = ap name r.same; rest = r.rest; reads = r.reads; left = r.left }
  primary_read (literal v) ls more s h =
      let r = literal_read false v ls more s h in
      record { tree = literal v; same = refl; rest = r.rest; reads = alone_in v ls r.rest r.reads; left = r.left }
  primary_read (paren e) ls more s h =
      let a = mark_read kind.OpenParen (codes "(") ls (expr_tokens e (token kind.CloseParen (codes ")") ∷ more)) h in
      let b = expr_read e a.rest (token kind.CloseParen (codes ")") ∷ more) s a.left in
      let c = mark_read kind.CloseParen (codes ")") b.rest more b.left in
      record { tree = paren b.tree; same = ap paren b.same; rest = c.rest; reads = (a.rest, b.rest, a.reads, b.reads, c.reads); left = c.left }
  primary_read (block ps ss) ls more s h =
      let closing : Lexemes = token kind.CloseBracket (codes "]") ∷ more in
      let a = mark_read kind.OpenBracket (codes "[") ls (parameter_tokens ps (bar_tokens ps ss (body_tokens ss closing))) h in
      let b = parameters_read ps a.rest (bar_tokens ps ss (body_tokens ss closing)) s.0 a.left in
      let c = bar_read ps ss b.rest (body_tokens ss closing) b.left in
      let d = body_read ss c.rest closing s.1 c.left in
      let f = mark_read kind.CloseBracket (codes "]") d.rest more d.left in
      record {
        tree = block b.tree d.tree;
        same = ap₂ block b.same d.same;
        rest = f.rest;
        reads = (a.rest, b.rest, c.rest, d.rest, a.reads, b.reads, bar_stays ps b.tree ss d.tree b.rest c.rest b.same d.same c.reads, d.reads, f.reads);
        left = f.left;
      }

  operand_read : (e : ExprTree) (high : ℕ) (ls more : Lexemes) → IsSpellableOperand e high → unplaced_tokens ls ≡ expr_tokens e more → Read unplaced_expr (λ f. IsOperand f high) e ls more
  operand_read (expr ns p ms (messages s es cs)) high ls more (a, b, c, d) h = absurd b
  operand_read (expr ns p ms no_messages) high ls more (a, b, c, d) h =
      let q = primary_read p ls (messages_tokens ms more) c (h ∙ ap (λ l. target_tokens l (primary_tokens p (messages_tokens ms more))) a) in
      let k = messages_read ms 0 high q.rest more d q.left in
      record {
        tree = expr [] q.tree k.tree no_messages;
        same = expr_same [] ns q.tree p k.tree ms no_messages no_messages (ap unplaced_names (sym a)) q.same k.same refl;
        rest = k.rest;
        reads = (q.rest, refl, tt, q.reads, k.reads);
        left = k.left;
      }

  messages_read : (ms : MessageTrees) (low high : ℕ) (ls more : Lexemes) → AreSpellableMessages ms low high → unplaced_tokens ls ≡ messages_tokens ms more → Read unplaced_messages (λ ks. IsChain ks low high) ms ls more
  messages_read no_messages low high ls more s h = record { tree = no_messages; same = refl; rest = ls; reads = refl; left = h }
  messages_read (messages s es ms) low high ls more (next, m, k) h =
      let a = message_read es s low high next ls (messages_tokens ms more) m h in
      let b = messages_read ms next high a.rest more k a.left in
      record { tree = messages s a.tree b.tree; same = ap₂ (messages s) a.same b.same; rest = b.rest; reads = (a.rest, next, a.reads, b.reads); left = b.left }

  message_read : (es : ExprTrees) (s : List ℕ) (low high next : ℕ) (ls more : Lexemes) → IsSpellableMessage es s low high next → unplaced_tokens ls ≡ message_tokens es s more → Read unplaced_exprs (λ fs. IsMessage fs s low high next) es ls more
  message_read no_exprs s low high next ls more m h = unary_read s low high next ls more m.1 m.2 h
  message_read (exprs e no_exprs) s low high next ls more (inl m) h =
      binary_read e s low high next ls more m.0 m.1 m.2 m.3 (λ ks after k. operand_read e 0 ks after m.4 k) h
  message_read (exprs e (exprs f es)) s low high next ls more (inl m) h = absurd m.5
  message_read (exprs e es) s low high next ls more (inr m) h =
      message_by_parts e es s low high next ls more m.1 m.2 m.3
      (keywords_read e es s m.0.names ls more m.0.named m.0.spelled m.0.counted (λ ks after k. operand_read e 1 ks after m.4 k) (λ names ks after n c k. parts_read es names ks after n c m.5 k) h)

  parts_read : (es : ExprTrees) (names : List (List ℕ)) (ls more : Lexemes) → AllByRecursion IsNameWord names → count es ≡ length names → AreSpellableOperands es 1 → unplaced_tokens ls ≡ parts_tokens es (flat_map keyword names) more
      → Read unplaced_exprs (λ fs. AreParts fs (flat_map keyword names)) es ls more
  parts_read no_exprs [] ls more named counted s h = record { tree = no_exprs; same = refl; rest = ls; reads = (refl, refl); left = h }
  parts_read no_exprs (n ∷ ns) ls more named counted s h = absurd (omega (arith, counted))
  parts_read (exprs e es) names ls more named counted s h =
      parts_by_parts e es (flat_map keyword names) ls more
      (keywords_read e es (flat_map keyword names) names ls more named refl counted (λ ks after k. operand_read e 1 ks after s.0 k) (λ others ks after n c k. parts_read es others ks after n c s.1 k) h)

  cascade_read : (ms : MessageTrees) (ls more : Lexemes) → IsSpellableCascade ms → unplaced_tokens ls ≡ cascade_tokens ms more → Read unplaced_messages IsCascade ms ls more
  cascade_read no_messages ls more s h = record { tree = no_messages; same = refl; rest = ls; reads = refl; left = h }
  cascade_read (messages s es ms) ls more (next, m, k) h =
      let a = mark_read kind.Semicolon (codes ";") ls (message_tokens es s (cascade_tokens ms more)) h in
      let b = message_read es s 0 2 next a.rest (cascade_tokens ms more) m a.left in
      let c = cascade_read ms b.rest more k b.left in
      record { tree = messages s b.tree c.tree; same = ap₂ (messages s) b.same c.same; rest = c.rest; reads = (a.rest, b.rest, next, a.reads, b.reads, c.reads); left = c.left }

  pub body_read : (ss : BodyTree) (ls more : Lexemes) → IsSpellableBody ss → unplaced_tokens ls ≡ body_tokens ss more → Read unplaced_body IsBody ss ls more
  body_read no_stmts ls more s h = record { tree = no_stmts; same = refl; rest = ls; reads = refl; left = h }
  body_read (stmts r e ss) ls more (s, f, k) h =
      let a = caret_read r ls (expr_tokens e (period_tokens ss (body_tokens ss more))) h in
      let b = expr_read e a.rest (period_tokens ss (body_tokens ss more)) s a.left in
      let c = period_read r ss b.rest (body_tokens ss more) f b.left in
      let d = body_read ss c.rest more k c.left in
      record {
        tree = stmts r b.tree d.tree;
        same = ap₂ (stmts r) b.same d.same;
        rest = d.rest;
        reads = (a.rest, b.rest, c.rest, a.reads, b.reads, between_stays r ss d.tree b.rest c.rest d.same c.reads, d.reads);
        left = d.left;
      }
