-- The parts of trees in memory.
use Rattle.std.proofs.Common.{◌≡◌, ℕ, ◌+◌, ◌<◌, List, ap, sym, ◌∙◌, map, length, drop, get_or}
use Rattle.s80_tree.specs.Name.{names_of}
use Rattle.s80_tree.specs.declared.name.NameAt.{NameAt}
use Rattle.s80_tree.specs.Tree.{MessageTree, StmtTree, expr, exprs, exprs_from, messages, messages_from, stmts, body_from, stmt_of, expr_of, exprs_of, primary_of, message_of, messages_of}
use Rattle.s80_tree.specs.declared.expr.Expr.{Expr, out-Expr}
use Rattle.s80_tree.specs.declared.expr.Message.{Message, out-Message}
use Rattle.s80_tree.specs.declared.expr.Stmt.{Stmt, out-Stmt}
use Rattle.s80_tree.proofs.lemmas.Opens.{expr_open, message_open, stmt_open}
use Rattle.s80_scope.proofs.lemmas.Opens.{left_at}

pub body_left : (xs : List Stmt) (i : ℕ) (x : Stmt) → i < length xs → x ≡ get_or xs i x
    → body_from (map stmt_of (drop i xs)) ≡ stmts (out-Stmt x).returns (expr_of (out-Stmt x).expr) (body_from (map stmt_of (drop (i + 1) xs)))
body_left xs i x within is =
    ap (λ l. body_from (map stmt_of l)) (left_at xs i x within is)
    ∙ ap (λ (s : StmtTree). stmts s.0 s.1 (body_from (map stmt_of (drop (i + 1) xs)))) (stmt_open x)

pub messages_left : (xs : List Message) (i : ℕ) (x : Message) → i < length xs → x ≡ get_or xs i x
    → messages_from (map message_of (drop i xs)) ≡ messages (out-Message x).selector (exprs_of (out-Message x).arguments) (messages_from (map message_of (drop (i + 1) xs)))
messages_left xs i x within is =
    ap (λ l. messages_from (map message_of l)) (left_at xs i x within is)
    ∙ ap (λ (m : MessageTree). messages m.0 m.1 (messages_from (map message_of (drop (i + 1) xs)))) (message_open x)

pub exprs_left : (xs : List Expr) (i : ℕ) (x : Expr) → i < length xs → x ≡ get_or xs i x
    → exprs_from (map expr_of (drop i xs)) ≡ exprs (expr_of x) (exprs_from (map expr_of (drop (i + 1) xs)))
exprs_left xs i x within is = ap (λ l. exprs_from (map expr_of l)) (left_at xs i x within is)

-- an expression with its targets as a list
pub targets_open : (e : Expr) (ns : List NameAt) → ns ≡ names_of (out-Expr e).targets → expr_of e ≡ expr ns (primary_of (out-Expr e).receiver) (messages_of (out-Expr e).messages) (messages_of (out-Expr e).cascades)
targets_open e ns is = expr_open e ∙ ap (λ l. expr l (primary_of (out-Expr e).receiver) (messages_of (out-Expr e).messages) (messages_of (out-Expr e).cascades)) (sym is)
