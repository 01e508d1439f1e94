-- Lists of trees.
use Rattle.std.proofs.Common.{◌≡◌, ℕ, suc, ◌<◌, List, [], ◌∷◌, ◌++◌, refl, ap, sym, ◌∙◌, map, length, get_or, Some, arith}
use Rattle.std.specs.List.{slice_get}
use Rattle.std.specs.Prelude.{option_map}
use Rattle.std.proofs.lemmas.Option.{slice_get-map, slice_get-get_or}
use Rattle.s80_tree.specs.Tree.{PrimaryTree, BlockTree, BodyTree, ExprTree, ExprTrees, MessageTree, MessageTrees, StmtTree, exprs_from, exprs_list, messages_from, messages_list, body_from, body_list, exprs_append, messages_append, body_append, no_exprs, exprs, no_messages, messages, no_stmts, stmts, messages_of, message_of, body_of, stmt_of, expr_of, exprs_of, primary_layer, block_layer, body_layer, expr_layer, exprs_layer, message_layer, messages_layer, stmt_layer}
use Rattle.s80_tree.specs.declared.expr.Expr.{Expr}
use Rattle.s80_tree.specs.declared.expr.Exprs.{Exprs, out-Exprs, fold_out-Exprs, out-roll-Exprs}
use Rattle.s80_tree.specs.declared.expr.Message.{Message}
use Rattle.s80_tree.specs.declared.expr.Messages.{Messages, out-Messages, fold_out-Messages, out-roll-Messages}
use Rattle.s80_tree.specs.declared.expr.Stmt.{Stmt}
use Rattle.s80_tree.specs.declared.expr.Body.{Body, out-Body, fold_out-Body, out-roll-Body}

pub map_append : {A B : Type 0} (f : A → B) (xs ys : List A) → map f (xs ++ ys) ≡ map f xs ++ map f ys
map_append f [] ys = refl
map_append f (x ∷ xs) ys = ap (λ l. f x ∷ l) (map_append f xs ys)

pub length_map : {A B : Type 0} (f : A → B) (xs : List A) → length (map f xs) ≡ length xs
length_map f [] = refl
length_map f (x ∷ xs) = ap suc (length_map f xs)

-- a member of a list and of the list of its trees, by its place
at_place : {A B : Type 0} (f : A → B) (xs : List A) (ys : List B) (i : ℕ) (x : A) → ys ≡ map f xs → i < length ys → x ≡ get_or xs i x → slice_get ys i ≡ Some (f x)
at_place f xs ys i x same within is =
    let within_items : i < length xs = omega (arith, ap length same, length_map f xs) in
    ap (λ l. slice_get l i) same ∙ slice_get-map f xs i ∙ ap (option_map f) (slice_get-get_or xs i x within_items ∙ ap Some (sym is))

pub exprs_open : (es : Exprs) → exprs_of es ≡ exprs_from (map expr_of (out-Exprs es).items.items)
exprs_open es = fold_out-Exprs PrimaryTree BlockTree BodyTree ExprTree ExprTrees MessageTree MessageTrees StmtTree primary_layer block_layer body_layer expr_layer exprs_layer message_layer messages_layer stmt_layer es

pub messages_open : (ms : Messages) → messages_of ms ≡ messages_from (map message_of (out-Messages ms).items.items)
messages_open ms = fold_out-Messages PrimaryTree BlockTree BodyTree ExprTree ExprTrees MessageTree MessageTrees StmtTree primary_layer block_layer body_layer expr_layer exprs_layer message_layer messages_layer stmt_layer ms

pub body_open : (b : Body) → body_of b ≡ body_from (map stmt_of (out-Body b).items.items)
body_open b = fold_out-Body PrimaryTree BlockTree BodyTree ExprTree ExprTrees MessageTree MessageTrees StmtTree primary_layer block_layer body_layer expr_layer exprs_layer message_layer messages_layer stmt_layer b

pub exprs_from_push : (xs : List ExprTree) (x : ExprTree) → exprs_from (xs ++ x ∷ []) ≡ exprs_append (exprs_from xs) (exprs x no_exprs)
exprs_from_push [] x = refl
exprs_from_push (y ∷ xs) x = ap (exprs y) (exprs_from_push xs x)

pub messages_from_push : (xs : List MessageTree) (x : MessageTree) → messages_from (xs ++ x ∷ []) ≡ messages_append (messages_from xs) (messages x.0 x.1 no_messages)
messages_from_push [] x = refl
messages_from_push (y ∷ xs) x = ap (messages y.0 y.1) (messages_from_push xs x)

pub body_from_push : (xs : List StmtTree) (x : StmtTree) → body_from (xs ++ x ∷ []) ≡ body_append (body_from xs) (stmts x.0 x.1 no_stmts)
body_from_push [] x = refl
body_from_push (y ∷ xs) x = ap (stmts y.0 y.1) (body_from_push xs x)

exprs_list-from : (es : List ExprTree) → exprs_list (exprs_from es) ≡ es
exprs_list-from [] = refl
exprs_list-from (e ∷ es) = ap (λ more. e ∷ more) (exprs_list-from es)

messages_list-from : (ms : List MessageTree) → messages_list (messages_from ms) ≡ ms
messages_list-from [] = refl
messages_list-from (m ∷ ms) = ap (λ more. m ∷ more) (messages_list-from ms)

body_list-from : (ss : List StmtTree) → body_list (body_from ss) ≡ ss
body_list-from [] = refl
body_list-from (s ∷ ss) = ap (λ more. s ∷ more) (body_list-from ss)

-- the trees of a list are those of its members
pub exprs_out : (es : Exprs) → exprs_list (exprs_of es) ≡ map expr_of (out-Exprs es).items.items
exprs_out es = ap exprs_list (exprs_open es) ∙ exprs_list-from _

pub messages_out : (ms : Messages) → messages_list (messages_of ms) ≡ map message_of (out-Messages ms).items.items
messages_out ms = ap messages_list (messages_open ms) ∙ messages_list-from _

pub body_out : (b : Body) → body_list (body_of b) ≡ map stmt_of (out-Body b).items.items
body_out b = ap body_list (body_open b) ∙ body_list-from _

-- a member of a list, by its place
pub expr_at : (es : Exprs) (i : ℕ) (x : Expr) → i < length (exprs_list (exprs_of es)) → x ≡ get_or (out-Exprs es).items.items i x → slice_get (exprs_list (exprs_of es)) i ≡ Some (expr_of x)
expr_at es i x within is = at_place expr_of (out-Exprs es).items.items (exprs_list (exprs_of es)) i x (exprs_out es) within is

pub message_at : (ms : Messages) (i : ℕ) (x : Message) → i < length (messages_list (messages_of ms)) → x ≡ get_or (out-Messages ms).items.items i x → slice_get (messages_list (messages_of ms)) i ≡ Some (message_of x)
message_at ms i x within is = at_place message_of (out-Messages ms).items.items (messages_list (messages_of ms)) i x (messages_out ms) within is

pub stmt_at : (b : Body) (i : ℕ) (x : Stmt) → i < length (body_list (body_of b)) → x ≡ get_or (out-Body b).items.items i x → slice_get (body_list (body_of b)) i ≡ Some (stmt_of x)
stmt_at b i x within is = at_place stmt_of (out-Body b).items.items (body_list (body_of b)) i x (body_out b) within is

pub ruleset exprs_added = (exprs_open, map_append, out-roll-Exprs, exprs_from_push)

pub ruleset messages_added = (messages_open, map_append, out-roll-Messages, messages_from_push)

pub ruleset body_added = (body_open, map_append, out-roll-Body, body_from_push)

pub ruleset exprs_read = (exprs_out, map_append, out-roll-Exprs, length_map)

pub ruleset messages_read = (messages_out, map_append, out-roll-Messages, length_map)

pub ruleset body_read = (body_out, map_append, out-roll-Body, length_map)
