-- Lists of parts in memory, single messages, and endings.
use Rattle.std.proofs.Common.{◌≡◌, ℕ, zero, suc, arith, if◌then◌else◌, ◌-◌, ◌+◌, ◌<◌, ◌≤◌, Bool, false, ◌&&◌, nat_eq, List, [], ◌∷◌, map, length, drop, get_or, refl, ap, ap₂, sym, ◌∙◌}
use Rattle.std.proofs.lemmas.Bool.Decides.{nat_tests}
use Rattle.std.proofs.lemmas.List.{drop_all, drop_more}
use Rattle.s80_tree.proofs.lemmas.Lists.{messages_open, length_map}
use Rattle.s80_tree.proofs.lemmas.Opens.{expr_open, is_none, none_is}
use Rattle.s80_tree.specs.Tree.{PrimaryTree, BodyTree, ExprTrees, MessageTree, MessageTrees, no_exprs, exprs, no_messages, messages, no_stmts, stmts, exprs_from, messages_from, body_from, messages_of, message_of, stmt_of, expr_of, primary_of, is_super}
use Rattle.s80_tree.specs.declared.expr.Expr.{Expr, out-Expr}
use Rattle.s80_tree.specs.declared.expr.Message.{Message}
use Rattle.s80_tree.specs.declared.expr.Messages.{out-Messages}
use Rattle.s80_scope.specs.Inlined.{is_single, is_plain_block, cascade_to_super, ending, expr_ending, chain_ending, message_ending}
use Rattle.s80_scope.specs.declared.fit.ending.Ending.TheVariants.{Cascaded}
use Rattle.s80_tree.specs.declared.expr.Stmt.{Stmt}

-- ---- lists of parts

-- what is left of a list at a place: the member there, and those behind it
pub left_at : {X : Type 0} (xs : List X) (i : ℕ) (x : X) → i < length xs → x ≡ get_or xs i x → drop i xs ≡ x ∷ drop (i + 1) xs
left_at xs i x within is = drop_more xs i x within ∙ ap (λ y. y ∷ drop (i + 1) xs) (sym is)

abbrev pub exprs_left : List Expr → ℕ → ExprTrees
exprs_left xs i = exprs_from (map expr_of (drop i xs))

abbrev pub messages_left : List Message → ℕ → MessageTrees
messages_left xs i = messages_from (map message_of (drop i xs))

abbrev pub stmts_left : List Stmt → ℕ → BodyTree
stmts_left xs i = body_from (map stmt_of (drop i xs))

pub exprs_next : (xs : List Expr) (i : ℕ) (x : Expr) → i < length xs → x ≡ get_or xs i x → exprs_left xs i ≡ exprs (expr_of x) (exprs_left xs (i + 1))
exprs_next xs i x within is = ap (λ l. exprs_from (map expr_of l)) (left_at xs i x within is)

pub messages_next : (xs : List Message) (i : ℕ) (x : Message) → i < length xs → x ≡ get_or xs i x → messages_left xs i ≡ messages (message_of x).0 (message_of x).1 (messages_left xs (i + 1))
messages_next xs i x within is = ap (λ l. messages_from (map message_of l)) (left_at xs i x within is)

pub stmts_next : (xs : List Stmt) (i : ℕ) (x : Stmt) → i < length xs → x ≡ get_or xs i x → stmts_left xs i ≡ stmts (stmt_of x).0 (stmt_of x).1 (stmts_left xs (i + 1))
stmts_next xs i x within is = ap (λ l. body_from (map stmt_of l)) (left_at xs i x within is)

pub exprs_done : (xs : List Expr) (i : ℕ) → length xs ≤ i → exprs_left xs i ≡ no_exprs
exprs_done xs i past = ap (λ l. exprs_from (map expr_of l)) (drop_all i xs past)

pub messages_done : (xs : List Message) (i : ℕ) → length xs ≤ i → messages_left xs i ≡ no_messages
messages_done xs i past = ap (λ l. messages_from (map message_of l)) (drop_all i xs past)

pub stmts_done : (xs : List Stmt) (i : ℕ) → length xs ≤ i → stmts_left xs i ≡ no_stmts
stmts_done xs i past = ap (λ l. body_from (map stmt_of l)) (drop_all i xs past)

-- ---- single messages

two_left : (n : ℕ) → false ≡ nat_eq (suc (suc n)) 1
two_left n = grind (arith, nat_tests)

single_test : (ms : List MessageTree) → is_single (messages_from ms) ≡ nat_eq (length ms) 1
single_test [] = refl
single_test (m ∷ []) = refl
single_test (m ∷ n ∷ ms) = two_left (length ms)

pub single_is : (e : Expr) → cascade_to_super (expr_of e) ≡ (is_super (primary_of (out-Expr e).receiver) && nat_eq (length (out-Messages (out-Expr e).messages).items.items) 1)
single_is e =
    ap cascade_to_super (expr_open e)
    ∙ ap (λ b. is_super (primary_of (out-Expr e).receiver) && b) (ap is_single (messages_open (out-Expr e).messages) ∙ single_test _ ∙ ap (λ n. nat_eq n 1) (length_map message_of (out-Messages (out-Expr e).messages).items.items))

-- ---- endings

ending_by : (p : PrimaryTree) (ms cs : MessageTrees) → ending p ms cs ≡ (if is_none cs then chain_ending (is_super p) (is_plain_block p) ms else Cascaded)
ending_by p ms no_messages = refl
ending_by p ms (messages s es cs) = refl

pub ending_is : (e : Expr) → expr_ending (expr_of e) ≡ (if nat_eq (length (out-Messages (out-Expr e).cascades).items.items) 0
    then chain_ending (is_super (primary_of (out-Expr e).receiver)) (is_plain_block (primary_of (out-Expr e).receiver)) (messages_from (map message_of (out-Messages (out-Expr e).messages).items.items)) else Cascaded)
ending_is e =
    let p = primary_of (out-Expr e).receiver in
    ap expr_ending (expr_open e) ∙ ending_by p (messages_of (out-Expr e).messages) (messages_of (out-Expr e).cascades)
    ∙ ap₂ (λ b ms. if b then chain_ending (is_super p) (is_plain_block p) ms else Cascaded) (none_is (out-Expr e).cascades) (messages_open (out-Expr e).messages)

chain_at : (a b : Bool) (m : Message) (more : List Message) (i : ℕ) (x : Message) → suc i ≡ length more → x ≡ get_or (m ∷ more) (suc i) x
    → chain_ending a b (messages_from (map message_of (m ∷ more))) ≡ message_ending false false (message_of x).0 (message_of x).1
chain_at a b m [] i x long is = absurd (let f : ⊥ = omega (arith, long) in f)
chain_at a b m (n ∷ []) i x long is =
    let first : i ≡ 0 = omega (arith, long) in
    ap (λ y. message_ending false false (message_of y).0 (message_of y).1) (sym (is ∙ ap (λ k. get_or (n ∷ []) k x) first))
chain_at a b m (n ∷ o ∷ more) zero x long is = absurd (let f : ⊥ = omega (arith, long) in f)
chain_at a b m (n ∷ o ∷ more) (suc i) x long is = chain_at false false n (o ∷ more) i x (let e : suc i ≡ length (o ∷ more) = omega (arith, long) in e) is

-- of two messages and more, the last ends the chain
pub chain_last : (a b : Bool) (xs : List Message) (x : Message) → 2 ≤ length xs → x ≡ get_or xs (length xs - 1) x
    → chain_ending a b (messages_from (map message_of xs)) ≡ message_ending false false (message_of x).0 (message_of x).1
chain_last a b [] x two is = absurd (let f : ⊥ = omega (arith, two) in f)
chain_last a b (m ∷ more) x two is =
    let e : suc (length more - 1) ≡ length more = omega (arith, two) in
    let f : length (m ∷ more) - 1 ≡ suc (length more - 1) = omega (arith, two) in
    chain_at a b m more (length more - 1) x e (is ∙ ap (λ k. get_or (m ∷ more) k x) f)
