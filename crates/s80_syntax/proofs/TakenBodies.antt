-- A body's tokens are all taken.
use Rattle.std.proofs.Common.{◌≡◌, ℕ, suc, List, [], ◌∷◌, ◌++◌, Bool, true, false, refl, ap, sym, ◌∙◌, append_assoc, arith, ◌⊎◌, inl, inr}
use Rattle.s80_lex.specs.declared.token.TokenKind.{TokenKind}
use Rattle.s80_lex.specs.declared.token.TokenKind.TheVariants as kind
use Rattle.s80_tree.specs.declared.name.NameAt.{NameAt}
use Rattle.s80_tree.specs.Tree.{ExprTree, PrimaryTree, ExprTrees, MessageTrees, BodyTree, expr, name, literal, block, paren, no_exprs, exprs, no_messages, messages, no_stmts, stmts}
use Rattle.s80_syntax.specs.Lexeme.{Lexeme, Lexemes}
use Rattle.s80_syntax.specs.Grammar.{IsMark, IsBetween, IsBarBetween, IsExpr, IsPrimary, IsOperand, IsChain, IsMessage, AreParts, IsCascade, IsBody}
use Rattle.s80_syntax.specs.Word.{Names, names_in, is_word, is_minus, bar}
use Rattle.s80_syntax.specs.Limits.{may_open, block_assigns, IsLawfulExpr, IsLawfulPrimary, AreLawfulExprs, AreLawfulMessages, IsLawfulBody}
use Rattle.s80_syntax.specs.Stack.{Symbol, Stack, Action, Pushes, Pops, Refuses, run, takes, primary_takes, body_takes, cascade_takes, sign_takes, colon_takes, semicolon_takes, period_takes, body, after_statement, after_return, expr_start, primary, unary_tail, binary_tail, keyword_tail, cascade, message, close_paren, close_bracket, block_start, parameter, after_parameter, block_scope}
use Rattle.s80_syntax.proofs.Moves.{pushes, opens, pops, same_takes}
use Rattle.s80_syntax.proofs.Quiet.{Closes, Quiet, quiet_at, quiet_append, quiet_less, quiet_chain, quiet_unary, quiet_body, quiet_after, quiet_return}
use Rattle.s80_syntax.proofs.Begins.{Begins, StatementStart, begins_mark, expr_begins, body_begins}
use Rattle.s80_syntax.proofs.TakenLiterals.{at, literal_taken}
use Rattle.s80_syntax.proofs.TakenSigns.{mark_taken, sign_taken, declared_taken, targets_taken, parameters_taken}
use Rattle.s80_syntax.proofs.TakenExprs.{At, Leaves, Taken, chain_tails, at_chain, unary_chain, binary_chain, keyword_chain, keyword_token, within_binary, within_keyword, body_is_expr, first_taken, first_chain, expr_end, close_paren_taken, close_bracket_taken}

abbrev After : Bool → Symbol
After true = after_return
After false = after_statement

abbrev IsNoBody : BodyTree → Type 0
IsNoBody no_stmts = Unit {0}
IsNoBody (stmts r e ss) = ⊥

no_body_is : (ss : BodyTree) (ts rest : Lexemes) → IsNoBody ss → IsBody ss ts rest → ts ≡ rest
no_body_is no_stmts ts rest n h = h
no_body_is (stmts r e ss) ts rest n h = absurd n

-- what is left behind a statement: a body, or nothing that must come
abbrev Between : Bool → BodyTree → Stack → Symbol → Lexemes → Lexemes → Type 0
Between strict ss s a ts rest = (t : Stack) × ((t ≡ body ∷ []) ⊎ (IsNoBody ss × Quiet 0 t)) × ((k : Stack) → run strict ts (s ++ a ∷ k) ≡ run strict rest (t ++ k))

closes_period : (l : Lexeme) → l.kind ≡ kind.Period → Closes 1 l.kind
closes_period l e = rw e (omega arith)

period_taken : (strict : Bool) (s : Stack) → Quiet 1 s → (a : Symbol) (more : Stack) → ((l : Lexeme) → takes a l ≡ period_takes l.kind more) → (ts rest : Lexemes) → IsMark kind.Period ts rest → (k : Stack) → run strict ts (s ++ a ∷ k) ≡ run strict rest (more ++ k)
period_taken strict s q a more same ts rest h k =
    at strict (s ++ a ∷ k) ts (h.0 ∷ rest) h.1.0
    ∙ quiet_at strict 1 s q h.0 (closes_period h.0 h.1.1) rest (a ∷ k)
    ∙ pushes strict h.0 rest a k more (same h.0 ∙ ap (λ x. period_takes x more) h.1.1)

between_taken : (strict : Bool) (r : Bool) (ss : BodyTree) (s : Stack) → Quiet 1 s → (ts rest : Lexemes) → IsBetween r ss ts rest → Between strict ss s (After r) ts rest
between_taken strict true no_stmts s q ts rest (inl h) = ([], inr (tt, tt), period_taken strict s q after_return [] (λ l. refl) ts rest h)
between_taken strict true no_stmts s q ts rest (inr h) = (s ++ after_return ∷ [], inr (tt, quiet_append 0 s (after_return ∷ []) (quiet_less 0 1 (omega arith) s q) quiet_return), λ k. at strict (s ++ after_return ∷ k) ts rest h ∙ ap (run strict rest) (sym (append_assoc s (after_return ∷ []) k)))
between_taken strict true (stmts r e ss) s q ts rest h = absurd h
between_taken strict false no_stmts s q ts rest (inl h) = (body ∷ [], inl refl, period_taken strict s q after_statement (body ∷ []) (λ l. refl) ts rest h)
between_taken strict false no_stmts s q ts rest (inr h) = (s ++ after_statement ∷ [], inr (tt, quiet_append 0 s (after_statement ∷ []) (quiet_less 0 1 (omega arith) s q) quiet_after), λ k. at strict (s ++ after_statement ∷ k) ts rest h ∙ ap (run strict rest) (sym (append_assoc s (after_statement ∷ []) k)))
between_taken strict false (stmts r e ss) s q ts rest h = (body ∷ [], inl refl, period_taken strict s q after_statement (body ∷ []) (λ l. refl) ts rest h)

body_goes_on : (strict : Bool) (ss : BodyTree) (s : Stack) (a : Symbol) (depth : ℕ) (names : List ℕ → Bool) (b c rest : Lexemes) → Between strict ss s a b c → IsBody ss c rest → Leaves strict 0 body depth names c rest → (u : Stack) × Quiet 0 u × ((k : Stack) → At depth names k → run strict b (s ++ a ∷ k) ≡ run strict rest (u ++ k))
body_goes_on strict ss s a depth names b c rest (t, inl e, same) h ih = (ih.0, ih.1, λ k w. same k ∙ ap (λ x. run strict c (x ++ k)) e ∙ ih.2 k w)
body_goes_on strict ss s a depth names b c rest (t, inr q, same) h ih = (t, q.1, λ k w. same k ∙ at strict (t ++ k) c rest (no_body_is ss c rest q.0 h))

closes_semicolon : (l : Lexeme) → l.kind ≡ kind.Semicolon → Closes 2 l.kind
closes_semicolon l e = rw e (omega arith)

-- a colon is taken at the beginning of a block alone
abbrev pub NotColon : TokenKind → Bool → Type 0
NotColon kind.Colon negative = ⊥
NotColon _ negative = Unit {0}

pub statement_no_colon : (k : TokenKind) (b : Bool) → StatementStart k b → NotColon k b
statement_no_colon kind.Colon b h = absurd h
statement_no_colon _ b h = tt

no_colon : (kd : TokenKind) (b : Bool) (p : Stack) (a : Action) → NotColon kd b → colon_takes kd p a ≡ a
no_colon kind.Colon b p a n = absurd n
no_colon _ b p a n = refl

block_is_body : (strict : Bool) (ts : Lexemes) → Begins NotColon ts → (k : Stack) → run strict ts (block_start ∷ k) ≡ run strict ts (body ∷ k)
block_is_body strict ts (l, us, e, n) k =
    at strict (block_start ∷ k) ts (l ∷ us) e
    ∙ same_takes strict l us block_start body k (no_colon l.kind (is_minus l) (parameter [] ∷ []) (body_takes l.kind (is_minus l) l) n)
    ∙ sym (at strict (body ∷ k) ts (l ∷ us) e)

-- a body behind a block's parameters, up to the closing bracket
scoped_taken : (strict : Bool) (names : Names) (depth : ℕ) (free : List ℕ → Bool) (ts d rest : Lexemes) → Leaves strict 0 body (suc depth) (block_assigns names free) ts d → IsMark kind.CloseBracket d rest → (k : Stack) → At depth free k → run strict ts (body ∷ block_scope names ∷ close_bracket ∷ k) ≡ run strict rest k
scoped_taken strict names depth free ts d rest g m k w =
    g.2 (block_scope names ∷ close_bracket ∷ k) (ap suc w.0, ap (block_assigns names) w.1)
    ∙ ap (run strict d) (sym (append_assoc g.0 (block_scope names ∷ []) (close_bracket ∷ k)))
    ∙ close_bracket_taken strict (g.0 ++ block_scope names ∷ []) (quiet_append 0 g.0 (block_scope names ∷ []) g.1 (λ l c. refl, refl, tt)) d rest m k

pub bar_row : (names : Names) (l : Lexeme) → l.kind ≡ kind.Binary → is_word bar l ≡ true → takes (after_parameter names) l ≡ Pushes (body ∷ block_scope names ∷ [])
bar_row names l e h =
    ap (λ x. colon_takes x (parameter names ∷ []) (sign_takes x (is_word bar l) (body ∷ block_scope names ∷ []) Pops)) e
    ∙ ap (λ x. sign_takes kind.Binary x (body ∷ block_scope names ∷ []) Pops) h

-- behind a block's parameters
bar_between : (strict : Bool) (n : NameAt) (ns : List NameAt) (ss : BodyTree) (names : Names) (depth : ℕ) (free : List ℕ → Bool) (b c d rest : Lexemes) → IsBarBetween (n ∷ ns) ss b c → IsBody ss c d → Leaves strict 0 body (suc depth) (block_assigns names free) c d → IsMark kind.CloseBracket d rest → (k : Stack) → At depth free k → run strict b (after_parameter names ∷ close_bracket ∷ k) ≡ run strict rest k
bar_between strict n ns no_stmts names depth free b c d rest (inl x) h g m k w =
    sign_taken strict (after_parameter names) (body ∷ block_scope names ∷ []) kind.Binary bar (bar_row names) b c x (close_bracket ∷ k)
    ∙ scoped_taken strict names depth free c d rest g m k w
bar_between strict n ns no_stmts names depth free b c d rest (inr e) h g m k w =
    at strict (after_parameter names ∷ close_bracket ∷ k) b (m.0 ∷ rest) (e ∙ h ∙ m.1.0)
    ∙ pops strict m.0 rest (after_parameter names) (close_bracket ∷ k) (ap (λ x. colon_takes x (parameter names ∷ []) (sign_takes x (is_word bar m.0) (body ∷ block_scope names ∷ []) Pops)) m.1.1)
    ∙ ap (λ x. run strict x (close_bracket ∷ k)) (sym m.1.0)
    ∙ close_bracket_taken strict [] tt d rest m k
bar_between strict n ns (stmts r e ss) names depth free b c d rest x h g m k w =
    sign_taken strict (after_parameter names) (body ∷ block_scope names ∷ []) kind.Binary bar (bar_row names) b c x (close_bracket ∷ k)
    ∙ scoped_taken strict names depth free c d rest g m k w

block_taken : (strict : Bool) (ps : List NameAt) (ss : BodyTree) (ts rest : Lexemes) (depth : ℕ) (free : List ℕ → Bool) → (h : IsPrimary (block ps ss) ts rest) → Leaves strict 0 body (suc depth) (block_assigns (names_in ps) free) h.2 h.3 → (k : Stack) → At depth free k → run strict h.0 (block_start ∷ close_bracket ∷ k) ≡ run strict rest k
block_taken strict [] ss ts rest depth free h g k w =
    at strict (block_start ∷ close_bracket ∷ k) h.0 h.2 (h.5 ∙ h.6)
    ∙ block_is_body strict h.2 (body_begins NotColon statement_no_colon ss h.2 h.3 h.7 (begins_mark NotColon kind.CloseBracket (λ b. tt) h.3 rest h.8)) (close_bracket ∷ k)
    ∙ g.2 (close_bracket ∷ k) (ap suc w.0, w.1)
    ∙ close_bracket_taken strict g.0 g.1 h.3 rest h.8 k
block_taken strict (n ∷ ns) ss ts rest depth free h g k w =
    mark_taken strict block_start (parameter [] ∷ []) kind.Colon (λ l e. ap (λ x. colon_takes x (parameter [] ∷ []) (body_takes x (is_minus l) l)) e) h.0 h.5.0 h.5.2 (close_bracket ∷ k)
    ∙ declared_taken strict (parameter []) (λ x. after_parameter (x ∷ []) ∷ []) (λ l. Refuses) (λ l. refl) n h.5.0 h.5.1 h.5.3 (close_bracket ∷ k)
    ∙ parameters_taken strict ns (n.name ∷ []) h.5.1 h.1 h.5.4 (close_bracket ∷ k)
    ∙ bar_between strict n ns ss (names_in (n ∷ ns)) depth free h.1 h.2 h.3 rest h.6 h.7 g h.8 k w

mutual
  primary_taken : (strict : Bool) (p : PrimaryTree) (ts rest : Lexemes) → IsPrimary p ts rest → (depth : ℕ) (names : List ℕ → Bool) → IsLawfulPrimary strict depth names p → Taken strict primary depth names ts rest
  primary_taken strict (name n) ts rest h depth names w k e = at strict (primary ∷ k) ts (h.0 ∷ rest) h.1.0 ∙ pushes strict h.0 rest primary k [] (ap (λ x. primary_takes x (is_minus h.0) [] Refuses) h.1.1)
  primary_taken strict (literal v) ts rest h depth names w k e = literal_taken strict v ts rest h depth w k e.0
  primary_taken strict (paren f) ts rest h depth names w k e =
      let got = expr_taken strict f h.0 h.1 h.3 (suc depth) names w.1 in
      at strict (primary ∷ k) ts (h.2.0 ∷ h.0) h.2.1.0
      ∙ opens strict h.2.0 h.0 primary k (expr_start ∷ close_paren ∷ []) (ap (λ x. primary_takes x (is_minus h.2.0) [] Refuses) h.2.1.1) (ap (may_open strict) e.0 ∙ w.0)
      ∙ got.2 (close_paren ∷ k) (ap suc e.0, e.1)
      ∙ close_paren_taken strict got.0 got.1 h.1 rest h.4 k
  primary_taken strict (block ps ss) ts rest h depth names w k e =
      at strict (primary ∷ k) ts (h.4.0 ∷ h.0) h.4.1.0
      ∙ opens strict h.4.0 h.0 primary k (block_start ∷ close_bracket ∷ []) (ap (λ x. primary_takes x (is_minus h.4.0) [] Refuses) h.4.1.1) (ap (may_open strict) e.0 ∙ w.0)
      ∙ block_taken strict ps ss ts rest depth names h (body_taken strict ss h.2 h.3 h.7 (suc depth) (block_assigns (names_in ps) names) w.1) k e

  expr_taken : (strict : Bool) (e : ExprTree) (ts rest : Lexemes) → IsExpr e ts rest → (depth : ℕ) (names : List ℕ → Bool) → IsLawfulExpr strict depth names e → Leaves strict 1 expr_start depth names ts rest
  expr_taken strict (expr t p m c) ts rest h depth names w =
      let f = first_taken strict p h.0 h.1 depth names h.4 (primary_taken strict p h.0 h.1 h.4 depth names w.1) in
      let g = first_chain strict m f.0 f.1 depth names h.1 h.2 h.5 (chain_taken strict m 0 2 h.1 h.2 h.5 depth names w.2) in
      let x = expr_end strict m c f.0 f.1 depth names h.1 h.2 rest h.6 h.7 (cascade_taken strict c h.2 rest h.7 depth names w.3) g in
      (x.0, x.1, λ k e. targets_taken strict t ts h.0 h.3 names w.0 k e.1 ∙ f.2 k e ∙ x.2 k e)

  operand_taken : (strict : Bool) (e : ExprTree) (high : ℕ) (ts rest : Lexemes) → IsOperand e high ts rest → (depth : ℕ) (names : List ℕ → Bool) → IsLawfulExpr strict depth names e → (k : Stack) → At depth names k → run strict ts (primary ∷ chain_tails high k) ≡ run strict rest (chain_tails high k)
  operand_taken strict (expr t p m c) high ts rest h depth names w k e =
      primary_taken strict p ts h.0 h.3 depth names w.1 (chain_tails high k) (at_chain high depth names k e)
      ∙ chain_taken strict m 0 high h.0 rest h.4 depth names w.2 k e

  chain_taken : (strict : Bool) (m : MessageTrees) (low high : ℕ) (ts rest : Lexemes) → IsChain m low high ts rest → (depth : ℕ) (names : List ℕ → Bool) → AreLawfulMessages strict depth names m → (k : Stack) → At depth names k → run strict ts (chain_tails high k) ≡ run strict rest (chain_tails high k)
  chain_taken strict no_messages low high ts rest h depth names w k e = at strict (chain_tails high k) ts rest h
  chain_taken strict (messages s es m) low high ts rest h depth names w k e =
      message_taken strict es s low high h.1 ts h.0 h.2 depth names w.0 k e ∙ chain_taken strict m h.1 high h.0 rest h.3 depth names w.1 k e

  message_taken : (strict : Bool) (es : ExprTrees) (s : List ℕ) (low high next : ℕ) (ts rest : Lexemes) → IsMessage es s low high next ts rest → (depth : ℕ) (names : List ℕ → Bool) → AreLawfulExprs strict depth names es → (k : Stack) → At depth names k → run strict ts (chain_tails high k) ≡ run strict rest (chain_tails high k)
  message_taken strict no_exprs s low high next ts rest h depth names w k e = at strict (chain_tails high k) ts (h.0 ∷ rest) h.1.0 ∙ unary_chain strict high h.0 rest k h.1.1
  message_taken strict (exprs f es) s low high next ts rest (inl h) depth names w k e =
      let i = within_binary high h.5 depth names k e in
      at strict (chain_tails high k) ts (h.0 ∷ h.1) h.2.0 ∙ binary_chain strict high h.5 h.0 h.1 k h.2.1
      ∙ ap (λ x. run strict h.1 (primary ∷ x)) i.same ∙ operand_taken strict f 0 h.1 rest h.7 depth names w.0 i.below i.stands ∙ ap (run strict rest) (sym i.same)
  message_taken strict (exprs f es) s low high next ts rest (inr h) depth names w k e =
      let i = within_keyword high h.7 k in
      at strict (chain_tails high k) ts (h.0 ∷ h.1) h.4.0 ∙ keyword_chain strict high h.7 h.0 h.1 k h.4.1
      ∙ ap (λ x. run strict h.1 (primary ∷ x)) i ∙ operand_taken strict f 1 h.1 h.2 h.9 depth names w.0 (keyword_tail ∷ k) e ∙ parts_taken strict es h.3 h.2 rest h.10 depth names w.1 k e ∙ ap (run strict rest) (sym i)

  parts_taken : (strict : Bool) (es : ExprTrees) (s : List ℕ) (ts rest : Lexemes) → AreParts es s ts rest → (depth : ℕ) (names : List ℕ → Bool) → AreLawfulExprs strict depth names es → (k : Stack) → At depth names k → run strict ts (chain_tails 2 k) ≡ run strict rest (chain_tails 2 k)
  parts_taken strict no_exprs s ts rest h depth names w k e = at strict (chain_tails 2 k) ts rest h.0
  parts_taken strict (exprs f es) s ts rest h depth names w k e =
      at strict (chain_tails 2 k) ts (h.0 ∷ h.1) h.4.0 ∙ keyword_token strict h.0 h.1 k h.4.1
      ∙ operand_taken strict f 1 h.1 h.2 h.6 depth names w.0 (keyword_tail ∷ k) e ∙ parts_taken strict es h.3 h.2 rest h.7 depth names w.1 k e

  cascade_taken : (strict : Bool) (c : MessageTrees) (ts rest : Lexemes) → IsCascade c ts rest → (depth : ℕ) (names : List ℕ → Bool) → AreLawfulMessages strict depth names c → (s : Stack) → Quiet 2 s → (t : Stack) × Quiet 2 t × ((k : Stack) → At depth names k → run strict ts (s ++ cascade ∷ k) ≡ run strict rest (t ++ cascade ∷ k))
  cascade_taken strict no_messages ts rest h depth names w s q = (s, q, λ k e. at strict (s ++ cascade ∷ k) ts rest h)
  cascade_taken strict (messages s' es c) ts rest h depth names w s q =
      let m = message_cascade strict es s' h.2 h.0 h.1 h.4 depth names w.0 in
      let g = cascade_taken strict c h.1 rest h.5 depth names w.1 m.0 m.1 in (
        g.0,
        g.1,
        λ k e.
            at strict (s ++ cascade ∷ k) ts (h.3.0 ∷ h.0) h.3.1.0
            ∙ quiet_at strict 2 s q h.3.0 (closes_semicolon h.3.0 h.3.1.1) h.0 (cascade ∷ k)
            ∙ pushes strict h.3.0 h.0 cascade k (message ∷ cascade ∷ []) (ap semicolon_takes h.3.1.1)
            ∙ m.2 (cascade ∷ k) e
            ∙ g.2 k e,
      )

  message_cascade : (strict : Bool) (es : ExprTrees) (s : List ℕ) (next : ℕ) (ts rest : Lexemes) → IsMessage es s 0 2 next ts rest → (depth : ℕ) (names : List ℕ → Bool) → AreLawfulExprs strict depth names es → Leaves strict 2 message depth names ts rest
  message_cascade strict no_exprs s next ts rest h depth names w = ([], tt, λ k e. at strict (message ∷ k) ts (h.0 ∷ rest) h.1.0 ∙ pushes strict h.0 rest message k [] (ap cascade_takes h.1.1))
  message_cascade strict (exprs f es) s next ts rest (inl h) depth names w = (
    unary_tail ∷ [],
    quiet_unary,
    λ k e.
        at strict (message ∷ k) ts (h.0 ∷ h.1) h.2.0
        ∙ pushes strict h.0 h.1 message k (primary ∷ unary_tail ∷ []) (ap cascade_takes h.2.1)
        ∙ operand_taken strict f 0 h.1 rest h.7 depth names w.0 k e,
  )
  message_cascade strict (exprs f es) s next ts rest (inr h) depth names w = (
    unary_tail ∷ binary_tail ∷ keyword_tail ∷ [],
    quiet_chain,
    λ k e.
        at strict (message ∷ k) ts (h.0 ∷ h.1) h.4.0
        ∙ pushes strict h.0 h.1 message k (primary ∷ unary_tail ∷ binary_tail ∷ keyword_tail ∷ []) (ap cascade_takes h.4.1)
        ∙ operand_taken strict f 1 h.1 h.2 h.9 depth names w.0 (keyword_tail ∷ k) e
        ∙ parts_taken strict es h.3 h.2 rest h.10 depth names w.1 k e,
  )

  pub body_taken : (strict : Bool) (ss : BodyTree) (ts rest : Lexemes) → IsBody ss ts rest → (depth : ℕ) (names : List ℕ → Bool) → IsLawfulBody strict depth names ss → Leaves strict 0 body depth names ts rest
  body_taken strict no_stmts ts rest h depth names w = (body ∷ [], quiet_body, λ k e. at strict (body ∷ k) ts rest h)
  body_taken strict (stmts true e ss) ts rest h depth names w =
      let x = expr_taken strict e h.0 h.1 h.4 depth names w.0 in
      let g = body_goes_on strict ss x.0 after_return depth names h.1 h.2 rest (between_taken strict true ss x.0 x.1 h.1 h.2 h.5) h.6 (body_taken strict ss h.2 rest h.6 depth names w.1) in (
        g.0,
        g.1,
        λ k o.
            at strict (body ∷ k) ts (h.3.0 ∷ h.0) h.3.1.0
            ∙ pushes strict h.3.0 h.0 body k (expr_start ∷ after_return ∷ []) (ap (λ y. body_takes y (is_minus h.3.0) h.3.0) h.3.1.1)
            ∙ x.2 (after_return ∷ k) o
            ∙ g.2 k o,
      )
  body_taken strict (stmts false e ss) ts rest h depth names w =
      let x = expr_taken strict e h.0 h.1 h.4 depth names w.0 in
      let g = body_goes_on strict ss x.0 after_statement depth names h.1 h.2 rest (between_taken strict false ss x.0 x.1 h.1 h.2 h.5) h.6 (body_taken strict ss h.2 rest h.6 depth names w.1) in (
        g.0,
        g.1,
        λ k o.
            at strict (body ∷ k) ts h.0 h.3
            ∙ body_is_expr strict h.0 (expr_begins e h.0 h.1 h.4) k
            ∙ x.2 (after_statement ∷ k) o
            ∙ g.2 k o,
      )
