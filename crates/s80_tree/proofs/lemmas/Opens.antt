-- Trees in memory, opened by one layer.
use Rattle.std.proofs.Common.{◌≡◌, ℕ, suc, arith, Bool, true, false, ◌&&◌, nat_eq, List, [], ◌∷◌, length, refl, ap, ap₂, sym, ◌∙◌}
use Rattle.std.proofs.lemmas.Bool.Decides.{nat_tests}
use Rattle.s80_tree.specs.declared.name.NameAt.{NameAt}
use Rattle.s80_tree.specs.Name.{names_of}
use Rattle.s80_tree.specs.Tree.{PrimaryTree, BlockTree, BodyTree, ExprTree, ExprTrees, MessageTree, MessageTrees, StmtTree, expr, block, no_messages, messages, messages_from, messages_of, message_of, block_of, body_of, stmt_of, expr_of, exprs_of, primary_of, is_bare, primary_layer, block_layer, body_layer, expr_layer, exprs_layer, message_layer, messages_layer, stmt_layer}
use Rattle.s80_tree.specs.declared.expr.Primary.{roll-Primary, map-Primary, fold-roll-Primary}
use Rattle.s80_tree.specs.declared.expr.Primary.TheVariants as primary
use Rattle.s80_tree.specs.declared.expr.Primary.TheOpen as layer
use Rattle.s80_tree.specs.declared.expr.Expr.{Expr, out-Expr, fold_out-Expr}
use Rattle.s80_tree.specs.declared.expr.Block.{Block, out-Block, fold_out-Block}
use Rattle.s80_tree.specs.declared.expr.Message.{Message, out-Message, fold_out-Message}
use Rattle.s80_tree.specs.declared.expr.Messages.{Messages, out-Messages}
use Rattle.s80_tree.specs.declared.expr.Stmt.{Stmt, out-Stmt, fold_out-Stmt}
use Rattle.s80_tree.proofs.lemmas.Lists.{messages_open, length_map}

pub stmt_open : (s : Stmt) → stmt_of s ≡ ((out-Stmt s).returns, expr_of (out-Stmt s).expr)
stmt_open s = fold_out-Stmt PrimaryTree BlockTree BodyTree ExprTree ExprTrees MessageTree MessageTrees StmtTree primary_layer block_layer body_layer expr_layer exprs_layer message_layer messages_layer stmt_layer s

pub expr_open : (e : Expr) → expr_of e ≡ expr (names_of (out-Expr e).targets) (primary_of (out-Expr e).receiver) (messages_of (out-Expr e).messages) (messages_of (out-Expr e).cascades)
expr_open e = fold_out-Expr PrimaryTree BlockTree BodyTree ExprTree ExprTrees MessageTree MessageTrees StmtTree primary_layer block_layer body_layer expr_layer exprs_layer message_layer messages_layer stmt_layer e

pub message_open : (m : Message) → message_of m ≡ ((out-Message m).selector, exprs_of (out-Message m).arguments)
message_open m = fold_out-Message PrimaryTree BlockTree BodyTree ExprTree ExprTrees MessageTree MessageTrees StmtTree primary_layer block_layer body_layer expr_layer exprs_layer message_layer messages_layer stmt_layer m

pub block_open : (b : Block) → block_of b ≡ (names_of (out-Block b).parameters, body_of (out-Block b).body)
block_open b = fold_out-Block PrimaryTree BlockTree BodyTree ExprTree ExprTrees MessageTree MessageTrees StmtTree primary_layer block_layer body_layer expr_layer exprs_layer message_layer messages_layer stmt_layer b

primary_roll : (o : _) → primary_of (roll-Primary o) ≡ primary_layer (map-Primary _ _ _ _ _ _ _ _ _ _ _ _ _ _ _ _ primary_of block_of body_of expr_of exprs_of message_of messages_of stmt_of o)
primary_roll o = fold-roll-Primary PrimaryTree BlockTree BodyTree ExprTree ExprTrees MessageTree MessageTrees StmtTree primary_layer block_layer body_layer expr_layer exprs_layer message_layer messages_layer stmt_layer o

pub primary_block : (b : Block) → primary_of (primary.Block b) ≡ block (block_of b).0 (block_of b).1
primary_block b = ap primary_of (sym (primary.rolls-Block b)) ∙ primary_roll (layer.Block b)

-- ---- expressions that are their receiver

some_left : (n : ℕ) → false ≡ nat_eq (suc n) 0
some_left n = grind (arith, nat_tests)

-- no messages
abbrev pub is_none : MessageTrees → Bool
is_none no_messages = true
is_none (messages s es ms) = false

messages_empty : (ms : List MessageTree) → is_none (messages_from ms) ≡ nat_eq (length ms) 0
messages_empty [] = refl
messages_empty (m ∷ ms) = some_left (length ms)

pub none_is : (ms : Messages) → is_none (messages_of ms) ≡ nat_eq (length (out-Messages ms).items.items) 0
none_is ms = ap is_none (messages_open ms) ∙ messages_empty _ ∙ ap (λ n. nat_eq n 0) (length_map message_of (out-Messages ms).items.items)

bare_tests : (ns : List NameAt) (p : PrimaryTree) (ms cs : MessageTrees) → is_bare (expr ns p ms cs) ≡ (nat_eq (length ns) 0 && (is_none ms && is_none cs))
bare_tests [] p no_messages no_messages = refl
bare_tests [] p no_messages (messages s es cs) = refl
bare_tests [] p (messages s es ms) cs = refl
bare_tests (n ∷ ns) p ms cs = ap (λ b. b && (is_none ms && is_none cs)) (some_left (length ns))

pub bare_is : (e : Expr) → is_bare (expr_of e) ≡ (nat_eq (length (out-Expr e).targets.items.items) 0 && (nat_eq (length (out-Messages (out-Expr e).messages).items.items) 0 && nat_eq (length (out-Messages (out-Expr e).cascades).items.items) 0))
bare_is e =
    ap is_bare (expr_open e) ∙ bare_tests (names_of (out-Expr e).targets) (primary_of (out-Expr e).receiver) (messages_of (out-Expr e).messages) (messages_of (out-Expr e).cascades)
    ∙ ap₂ (λ a b. nat_eq (length (out-Expr e).targets.items.items) 0 && (a && b)) (none_is (out-Expr e).messages) (none_is (out-Expr e).cascades)
