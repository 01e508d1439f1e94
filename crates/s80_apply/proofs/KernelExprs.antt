-- Expressions and bodies at the front of tokens, each with the proof that it stands there.
use Rattle.std.proofs.Common.{refl, Option, Some, None, Bool, false, true, List, [], ◌∷◌, ◌++◌, ℕ, zero, suc, ◌==◌, nat_le, inl, inr}
use Rattle.std.proofs.lemmas.Bool.{eqb-true, leb-true}
use Rattle.s80_lex.specs.declared.token.TokenKind.TheVariants as token
use Rattle.s80_tree.specs.declared.name.NameAt.{NameAt}
use Rattle.s80_tree.specs.Tree.{ExprTrees, MessageTrees, BodyTree, expr, name, literal, block, paren, no_exprs, exprs, no_messages, messages, no_stmts, stmts}
use Rattle.s80_syntax.specs.Lexeme.{Lexemes}
use Rattle.s80_syntax.specs.Grammar.{IsMark, IsExpr, IsPrimary, IsOperand, IsChain, IsMessage, AreParts, IsCascade, IsCascadeOf, IsBody, IsBetween, IsCaret, IsBarBetween}
use Rattle.s80_apply.proofs.KernelTold.{◌>>=◌, first_of, told}
use Rattle.s80_apply.proofs.KernelMarks.{Read, token_in, mark_in, bar_in, name_in, targets_in, parameters_in, literal_in}

-- arguments and a selector
abbrev Parts : Lexemes → Type 0
Parts ts = Read (λ (x : ExprTrees × List ℕ). AreParts x.0 x.1) ts

-- a message: its arguments, its selector, and the least kind that may come behind it
abbrev Message : ℕ → ℕ → Lexemes → Type 0
Message low high ts = Read (λ (x : ExprTrees × List ℕ × ℕ). IsMessage x.0 x.1 low high x.2) ts

-- statements behind one that returns or not, with what stands between
abbrev Behind : Bool → Lexemes → Type 0
Behind returns ts = Read (λ ss ts rest. (mid : Lexemes) × IsBetween returns ss ts mid × IsBody ss mid rest) ts

-- ---- parts that hold no others

abbrev name_primary : (ts : Lexemes) → Option (Read IsPrimary ts)
name_primary ts = do
  n ← name_in ts
  Some (record { tree = name n.tree; rest = n.rest; is = n.is })

abbrev literal_primary : (ts : Lexemes) → Option (Read IsPrimary ts)
literal_primary ts = do
  v ← literal_in ts
  Some (record { tree = literal v.tree; rest = v.rest; is = v.is })

-- a bar where a block has parameters
abbrev bar_between : (ps : List NameAt) (ts : Lexemes) → Option (Read (λ (u : Unit {0}) ts rest. (ss : BodyTree) → IsBarBetween ps ss ts rest) ts)
bar_between [] ts = Some (record { tree = tt; rest = ts; is = λ ss. refl })
bar_between (n ∷ ns) ts = do
  bar ← bar_in ts
  Some (record { tree = tt; rest = bar.rest; is = elim [ no_stmts ↦ inl bar.is | stmts returns e ss ↦ bar.is ] })

abbrev unary_in : (low high : ℕ) (ts : Lexemes) → Option (Message low high ts)
unary_in low high ts = do
  e ← told (low == 0)
  l ← token_in token.Name ts
  Some (record { tree = (no_exprs, l.tree.bytes, 0); rest = l.rest; is = (l.tree, l.is, refl, eqb-true low 0 e, refl) })

abbrev cascade_of : (ms cs : MessageTrees) → Option (IsCascadeOf ms cs)
cascade_of ms no_messages = Some tt
cascade_of no_messages (messages s es cs) = None
cascade_of (messages s es ms) (messages s' es' cs) = Some (λ h. h)

abbrev caret_in : (ts : Lexemes) → Read IsCaret ts
caret_in ts = elim (mark_in token.Caret ts) [
  | Some caret ↦ record { tree = true; rest = caret.rest; is = caret.is }
  | None ↦ record { tree = false; rest = ts; is = refl }
]

pub period_between : (ss : BodyTree) (ts rest : Lexemes) → IsMark token.Period ts rest → IsBetween false ss ts rest
period_between no_stmts ts rest mark = inl mark
period_between (stmts returns e ss) ts rest mark = mark

-- ---- parts that hold others

-- readers of what stands within a part
pub record Readers : Type 0 where
  pub expr_in : (ts : Lexemes) → Option (Read IsExpr ts)
  pub operand_in : (high : ℕ) (ts : Lexemes) → Option (Read (λ e. IsOperand e high) ts)
  pub chain_in : (low high : ℕ) (ts : Lexemes) → Option (Read (λ ms. IsChain ms low high) ts)
  pub parts_in : (ts : Lexemes) → Option (Parts ts)
  pub cascade_in : (ts : Lexemes) → Option (Read IsCascade ts)
  pub body_in : (ts : Lexemes) → Option (Read IsBody ts)

abbrev no_readers : Readers
no_readers = record {
  expr_in = λ ts. None;
  operand_in = λ high ts. None;
  chain_in = λ low high ts. None;
  parts_in = λ ts. None;
  cascade_in = λ ts. None;
  body_in = λ ts. None;
}

module _ (r : Readers) where
  abbrev paren_primary : (ts : Lexemes) → Option (Read IsPrimary ts)
  paren_primary ts = do
    begin ← mark_in token.OpenParen ts
    e ← r.expr_in begin.rest
    end ← mark_in token.CloseParen e.rest
    Some (record { tree = paren e.tree; rest = end.rest; is = (begin.rest, e.rest, begin.is, e.is, end.is) })

  abbrev block_primary : (ts : Lexemes) → Option (Read IsPrimary ts)
  block_primary ts = do
    begin ← mark_in token.OpenBracket ts
    let ps = parameters_in 4 begin.rest
    bar ← bar_between ps.tree ps.rest
    ss ← r.body_in bar.rest
    end ← mark_in token.CloseBracket ss.rest
    Some (record { tree = block ps.tree ss.tree; rest = end.rest; is = (begin.rest, ps.rest, bar.rest, ss.rest, begin.is, ps.is, bar.is ss.tree, ss.is, end.is) })

  abbrev primary_in : (ts : Lexemes) → Option (Read IsPrimary ts)
  primary_in ts = first_of (name_primary ts) (first_of (literal_primary ts) (first_of (paren_primary ts) (block_primary ts)))

  abbrev operand_by : (high : ℕ) (ts : Lexemes) → Option (Read (λ e. IsOperand e high) ts)
  operand_by high ts = do
    p ← primary_in ts
    ms ← r.chain_in 0 high p.rest
    Some (record { tree = expr [] p.tree ms.tree no_messages; rest = ms.rest; is = (p.rest, refl, tt, p.is, ms.is) })

  -- ---- messages

  abbrev binary_in : (low high : ℕ) (ts : Lexemes) → Option (Message low high ts)
  binary_in low high ts = do
    from ← told (nat_le low 1)
    to ← told (nat_le 1 high)
    l ← token_in token.Binary ts
    o ← r.operand_in 0 l.rest
    Some (record { tree = (exprs o.tree no_exprs, l.tree.bytes, 1); rest = o.rest; is = inl (l.tree, l.rest, l.is, refl, leb-true low 1 from, leb-true 1 high to, refl, o.is, tt) })

  abbrev keyword_in : (low high : ℕ) (ts : Lexemes) → Option (Message low high ts)
  keyword_in low high ts = do
    from ← told (nat_le low 2)
    to ← told (nat_le 2 high)
    l ← token_in token.Keyword ts
    o ← r.operand_in 1 l.rest
    more ← r.parts_in o.rest
    Some (record {
      tree = (exprs o.tree more.tree.0, l.tree.bytes ++ more.tree.1, 3);
      rest = more.rest;
      is = inr (l.tree, l.rest, o.rest, more.tree.1, l.is, refl, leb-true low 2 from, leb-true 2 high to, refl, o.is, more.is);
    })

  abbrev message_in : (low high : ℕ) (ts : Lexemes) → Option (Message low high ts)
  message_in low high ts = first_of (unary_in low high ts) (first_of (binary_in low high ts) (keyword_in low high ts))

  abbrev part_in : (ts : Lexemes) → Option (Parts ts)
  part_in ts = do
    l ← token_in token.Keyword ts
    o ← r.operand_in 1 l.rest
    more ← r.parts_in o.rest
    Some (record { tree = (exprs o.tree more.tree.0, l.tree.bytes ++ more.tree.1); rest = more.rest; is = (l.tree, l.rest, o.rest, more.tree.1, l.is, refl, o.is, more.is) })

  abbrev parts_by : (ts : Lexemes) → Option (Parts ts)
  parts_by ts = first_of (part_in ts) (Some (record { tree = (no_exprs, []); rest = ts; is = (refl, refl) }))

  abbrev link_in : (low high : ℕ) (ts : Lexemes) → Option (Read (λ ms. IsChain ms low high) ts)
  link_in low high ts = do
    m ← message_in low high ts
    more ← r.chain_in m.tree.2 high m.rest
    Some (record { tree = messages m.tree.1 m.tree.0 more.tree; rest = more.rest; is = (m.rest, m.tree.2, m.is, more.is) })

  abbrev chain_by : (low high : ℕ) (ts : Lexemes) → Option (Read (λ ms. IsChain ms low high) ts)
  chain_by low high ts = first_of (link_in low high ts) (Some (record { tree = no_messages; rest = ts; is = refl }))

  abbrev behind_semicolon : (ts : Lexemes) → Option (Read IsCascade ts)
  behind_semicolon ts = do
    semicolon ← mark_in token.Semicolon ts
    m ← message_in 0 2 semicolon.rest
    more ← r.cascade_in m.rest
    Some (record { tree = messages m.tree.1 m.tree.0 more.tree; rest = more.rest; is = (semicolon.rest, m.rest, m.tree.2, semicolon.is, m.is, more.is) })

  abbrev cascade_by : (ts : Lexemes) → Option (Read IsCascade ts)
  cascade_by ts = first_of (behind_semicolon ts) (Some (record { tree = no_messages; rest = ts; is = refl }))

  abbrev expr_by : (ts : Lexemes) → Option (Read IsExpr ts)
  expr_by ts = do
    let targets = targets_in ts
    p ← primary_in targets.rest
    ms ← r.chain_in 0 2 p.rest
    cs ← r.cascade_in ms.rest
    cascades ← cascade_of ms.tree cs.tree
    Some (record { tree = expr targets.tree p.tree ms.tree cs.tree; rest = cs.rest; is = (targets.rest, p.rest, ms.rest, targets.is, p.is, ms.is, cascades, cs.is) })

  -- ---- statements

  abbrev behind_period : (returns : Bool) (ts : Lexemes) → Option (Behind returns ts)
  behind_period true ts = do
    period ← mark_in token.Period ts
    Some (record { tree = no_stmts; rest = period.rest; is = (period.rest, inl period.is, refl) })
  behind_period false ts = do
    period ← mark_in token.Period ts
    ss ← r.body_in period.rest
    Some (record { tree = ss.tree; rest = ss.rest; is = (period.rest, period_between ss.tree ts period.rest period.is, ss.is) })

  abbrev behind_in : (returns : Bool) (ts : Lexemes) → Option (Behind returns ts)
  behind_in returns ts = first_of (behind_period returns ts) (Some (record { tree = no_stmts; rest = ts; is = (ts, inr refl, refl) }))

  abbrev statements_in : (ts : Lexemes) → Option (Read IsBody ts)
  statements_in ts = do
    let caret = caret_in ts
    e ← r.expr_in caret.rest
    more ← behind_in caret.tree e.rest
    Some (record { tree = stmts caret.tree e.tree more.tree; rest = more.rest; is = (caret.rest, e.rest, more.is.0, caret.is, e.is, more.is.1, more.is.2) })

  abbrev body_by : (ts : Lexemes) → Option (Read IsBody ts)
  body_by ts = first_of (statements_in ts) (Some (record { tree = no_stmts; rest = ts; is = refl }))

  abbrev more_readers : Readers
  more_readers = record {
    expr_in = expr_by;
    operand_in = operand_by;
    chain_in = chain_by;
    parts_in = parts_by;
    cascade_in = cascade_by;
    body_in = body_by;
  }

-- readers of parts that stand in one another up to this depth
abbrev pub readers : ℕ → Readers
readers zero = no_readers
readers (suc n) = more_readers (readers n)
