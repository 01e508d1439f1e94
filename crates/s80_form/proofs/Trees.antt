-- Trees with one statement, their messages, and literals.
use Rattle.std.proofs.Common.{◌≡◌, ℕ, List, [], ◌∷◌, false, ◌≤◌, length, Some, IsTrue, nat_eq, refl, ap, sym, ◌∙◌, arith}
use Rattle.std.specs.List.{slice_get}
use Rattle.std.proofs.lemmas.Bool.Decides.{nat_tests}
use Rattle.s80_base.specs.Literal.{LiteralTree, literal_of}
use Rattle.s80_base.specs.declared.literal.Literal.{Literal}
use Rattle.s80_tree.specs.Name.{names_of}
use Rattle.s80_tree.specs.Tree.{PrimaryTree, BlockTree, BodyTree, ExprTree, ExprTrees, MessageTree, MessageTrees, StmtTree, expr, name, literal, block, paren, messages_of, message_of, block_of, body_of, body_list, messages_list, exprs_list, no_messages, messages, no_stmts, stmts, no_exprs, exprs, doit_of, stmt_of, expr_of, exprs_of, primary_of, primary_layer, block_layer, body_layer, expr_layer, exprs_layer, message_layer, messages_layer, stmt_layer}
use Rattle.s80_tree.specs.declared.expr.Primary.{Primary, out-Primary, roll-Primary, roll-out-Primary, map-Primary, fold_out-Primary, fold-roll-Primary}
use Rattle.s80_tree.specs.declared.expr.Primary.TheVariants as primary
use Rattle.s80_tree.specs.declared.expr.Primary.TheOpen as layer
use Rattle.s80_tree.specs.declared.name.NameAt.{NameAt}
use Rattle.s80_tree.specs.declared.method.DoItTree.{DoItTree}
use Rattle.s80_base.specs.declared.names.Side.TheVariants.{Instance, Class}
use Rattle.s80_form.specs.TreeParts.{argument, alone, all_sent, class_message, organization_message, to_side, to_organization}
use Rattle.s80_tree.specs.declared.expr.Expr.{Expr, out-Expr, fold_out-Expr}
use Rattle.s80_tree.specs.declared.expr.Message.{Message, out-Message, fold_out-Message}
use Rattle.s80_tree.specs.declared.expr.Stmt.{Stmt, out-Stmt, fold_out-Stmt}

stmt_open : (s : Stmt) → stmt_of s ≡ ((out-Stmt s).returns, expr_of (out-Stmt s).expr)
stmt_open s = fold_out-Stmt PrimaryTree BlockTree BodyTree ExprTree ExprTrees MessageTree MessageTrees StmtTree primary_layer block_layer body_layer expr_layer exprs_layer message_layer messages_layer stmt_layer s

expr_open : (e : Expr) → expr_of e ≡ expr (names_of (out-Expr e).targets) (primary_of (out-Expr e).receiver) (messages_of (out-Expr e).messages) (messages_of (out-Expr e).cascades)
expr_open e = fold_out-Expr PrimaryTree BlockTree BodyTree ExprTree ExprTrees MessageTree MessageTrees StmtTree primary_layer block_layer body_layer expr_layer exprs_layer message_layer messages_layer stmt_layer e

pub message_open : (m : Message) → message_of m ≡ ((out-Message m).selector, exprs_of (out-Message m).arguments)
message_open m = fold_out-Message PrimaryTree BlockTree BodyTree ExprTree ExprTrees MessageTree MessageTrees StmtTree primary_layer block_layer body_layer expr_layer exprs_layer message_layer messages_layer stmt_layer m

primary_open : (p : Primary) → primary_of p ≡ primary_layer (map-Primary _ _ _ _ _ _ _ _ _ _ _ _ _ _ _ _ primary_of block_of body_of expr_of exprs_of message_of messages_of stmt_of (out-Primary p))
primary_open p = fold_out-Primary PrimaryTree BlockTree BodyTree ExprTree ExprTrees MessageTree MessageTrees StmtTree primary_layer block_layer body_layer expr_layer exprs_layer message_layer messages_layer stmt_layer p

primary_roll : (o : _) → primary_of (roll-Primary o) ≡ primary_layer (map-Primary _ _ _ _ _ _ _ _ _ _ _ _ _ _ _ _ primary_of block_of body_of expr_of exprs_of message_of messages_of stmt_of o)
primary_roll o = fold-roll-Primary PrimaryTree BlockTree BodyTree ExprTree ExprTrees MessageTree MessageTrees StmtTree primary_layer block_layer body_layer expr_layer exprs_layer message_layer messages_layer stmt_layer o

pub primary_literal : (v : Literal) → primary_of (primary.Literal v) ≡ literal (literal_of v)
primary_literal v = ap primary_of (sym (primary.rolls-Literal v)) ∙ primary_roll (layer.Literal v)

pub primary_name : (n : NameAt) → primary_of (primary.Name n) ≡ name n
primary_name n = ap primary_of (sym (primary.rolls-Name n)) ∙ primary_roll (layer.Name n)

shown : (p : Primary) (t : PrimaryTree) (o : _) → out-Primary p ≡ o → primary_of p ≡ t → primary_layer (map-Primary _ _ _ _ _ _ _ _ _ _ _ _ _ _ _ _ primary_of block_of body_of expr_of exprs_of message_of messages_of stmt_of o) ≡ t
shown p t o i e = ap (λ l. primary_layer (map-Primary _ _ _ _ _ _ _ _ _ _ _ _ _ _ _ _ primary_of block_of body_of expr_of exprs_of message_of messages_of stmt_of l)) (sym i) ∙ sym (primary_open p) ∙ e

no_literal : (p : Primary) (v : LiteralTree) → ((x : Literal) → p ≡ primary.Literal x → ⊥) → primary_of p ≡ literal v → ⊥
no_literal p v apart e = by_layer (out-Primary p) refl
  where
    by_layer : (o : _) → out-Primary p ≡ o → ⊥
    by_layer (layer.Literal x) i = apart x (sym (roll-out-Primary p) ∙ ap roll-Primary i ∙ primary.rolls-Literal x)
    by_layer (layer.Name x) i = let d : name x ≡ literal v = shown p (literal v) (layer.Name x) i e in cc
    by_layer (layer.Block x) i = let d : block (block_of x).0 (block_of x).1 ≡ literal v = shown p (literal v) (layer.Block x) i e in cc
    by_layer (layer.Paren x) i = let d : paren (expr_of x.value) ≡ literal v = shown p (literal v) (layer.Paren x) i e in cc

no_name : (p : Primary) (n : NameAt) → ((x : NameAt) → p ≡ primary.Name x → ⊥) → primary_of p ≡ name n → ⊥
no_name p n apart e = by_layer (out-Primary p) refl
  where
    by_layer : (o : _) → out-Primary p ≡ o → ⊥
    by_layer (layer.Name x) i = apart x (sym (roll-out-Primary p) ∙ ap roll-Primary i ∙ primary.rolls-Name x)
    by_layer (layer.Literal x) i = let d : literal (literal_of x) ≡ name n = shown p (name n) (layer.Literal x) i e in cc
    by_layer (layer.Block x) i = let d : block (block_of x).0 (block_of x).1 ≡ name n = shown p (name n) (layer.Block x) i e in cc
    by_layer (layer.Paren x) i = let d : paren (expr_of x.value) ≡ name n = shown p (name n) (layer.Paren x) i e in cc

-- lists by their lengths
names_none : (ns : List NameAt) → length ns ≤ 0 → ns ≡ []
names_none [] le = refl
names_none (n ∷ ns) le = absurd (omega arith)

messages_none : (ms : MessageTrees) → length (messages_list ms) ≤ 0 → ms ≡ no_messages
messages_none no_messages le = refl
messages_none (messages s es ms) le = absurd (omega arith)

pub messages_one : (ms : MessageTrees) (m : MessageTree) → length (messages_list ms) ≡ 1 → slice_get (messages_list ms) 0 ≡ Some m → ms ≡ messages m.0 m.1 no_messages
messages_one no_messages m n e = absurd (omega arith)
messages_one (messages s es no_messages) m n e = let same : (s, es) ≡ m = cc in ap (λ (x : MessageTree). messages x.0 x.1 no_messages) same
messages_one (messages s es (messages t fs ms)) m n e = absurd (omega arith)

messages_two : (ms : MessageTrees) (m o : MessageTree) → length (messages_list ms) ≡ 2 → slice_get (messages_list ms) 0 ≡ Some m → slice_get (messages_list ms) 1 ≡ Some o → ms ≡ messages m.0 m.1 (messages o.0 o.1 no_messages)
messages_two no_messages m o n e f = absurd (omega arith)
messages_two (messages s es ms) m o n e f =
    let same : (s, es) ≡ m = cc in
    ap (λ (x : MessageTree). messages x.0 x.1 ms) same ∙ ap (messages m.0 m.1) (messages_one ms o (omega arith) f)

body_one : (b : BodyTree) (s : StmtTree) → length (body_list b) ≡ 1 → slice_get (body_list b) 0 ≡ Some s → b ≡ stmts s.0 s.1 no_stmts
body_one no_stmts s n e = absurd (omega arith)
body_one (stmts r x no_stmts) s n e = let same : (r, x) ≡ s = cc in ap (λ (y : StmtTree). stmts y.0 y.1 no_stmts) same
body_one (stmts r x (stmts q y b)) s n e = absurd (omega arith)

pub exprs_none : (es : ExprTrees) → length (exprs_list es) ≡ 0 → es ≡ no_exprs
exprs_none no_exprs n = refl
exprs_none (exprs e es) n = absurd (omega arith)

pub exprs_one : (es : ExprTrees) (e : ExprTree) → length (exprs_list es) ≡ 1 → slice_get (exprs_list es) 0 ≡ Some e → es ≡ exprs e no_exprs
exprs_one no_exprs e n i = absurd (omega arith)
exprs_one (exprs x no_exprs) e n i = let same : x ≡ e = cc in ap (λ y. exprs y no_exprs) same
exprs_one (exprs x (exprs y es)) e n i = absurd (omega arith)

pub exprs_two : (es : ExprTrees) (a b v w : ExprTree) → length (exprs_list es) ≡ 2 → slice_get (exprs_list es) 0 ≡ Some a → slice_get (exprs_list es) 1 ≡ Some b → a ≡ v → b ≡ w → es ≡ exprs v (exprs w no_exprs)
exprs_two no_exprs a b v w n f g i j = absurd (omega arith)
exprs_two (exprs _ no_exprs) a b v w n f g i j = absurd (omega arith)
exprs_two (exprs q (exprs r no_exprs)) a b v w n f g i j = cc
exprs_two (exprs _ (exprs _ (exprs _ es))) a b v w n f g i j = absurd (omega arith)

pub exprs_five : (es : ExprTrees) (a b c d e v w x y z : ExprTree) → length (exprs_list es) ≡ 5
    → slice_get (exprs_list es) 0 ≡ Some a → slice_get (exprs_list es) 1 ≡ Some b → slice_get (exprs_list es) 2 ≡ Some c → slice_get (exprs_list es) 3 ≡ Some d → slice_get (exprs_list es) 4 ≡ Some e
    → a ≡ v → b ≡ w → c ≡ x → d ≡ y → e ≡ z → es ≡ exprs v (exprs w (exprs x (exprs y (exprs z no_exprs))))
exprs_five no_exprs a b c d e v w x y z n f g h i j k l m o p = absurd (omega arith)
exprs_five (exprs _ no_exprs) a b c d e v w x y z n f g h i j k l m o p = absurd (omega arith)
exprs_five (exprs _ (exprs _ no_exprs)) a b c d e v w x y z n f g h i j k l m o p = absurd (omega arith)
exprs_five (exprs _ (exprs _ (exprs _ no_exprs))) a b c d e v w x y z n f g h i j k l m o p = absurd (omega arith)
exprs_five (exprs _ (exprs _ (exprs _ (exprs _ no_exprs)))) a b c d e v w x y z n f g h i j k l m o p = absurd (omega arith)
exprs_five (exprs q (exprs r (exprs s (exprs t (exprs u no_exprs))))) a b c d e v w x y z n f g h i j k l m o p = cc
exprs_five (exprs _ (exprs _ (exprs _ (exprs _ (exprs _ (exprs _ es)))))) a b c d e v w x y z n f g h i j k l m o p = absurd (omega arith)

-- the expression of a doIt, and the messages and the literal that an expression is
pub expression_alone : (tree : DoItTree) (s : Stmt) → length (names_of tree.temporaries) ≤ 0 → length (body_list (body_of tree.body)) ≡ 1 → slice_get (body_list (body_of tree.body)) 0 ≡ Some (stmt_of s) → (out-Stmt s).returns ≡ false → doit_of tree ≡ alone (expr_of (out-Stmt s).expr)
expression_alone tree s none one at stays =
    let t : names_of tree.temporaries ≡ [] = names_none (names_of tree.temporaries) none in
    let b : body_of tree.body ≡ stmts (stmt_of s).0 (stmt_of s).1 no_stmts = body_one (body_of tree.body) (stmt_of s) one at in
    let o : stmt_of s ≡ ((out-Stmt s).returns, expr_of (out-Stmt s).expr) = stmt_open s in
    ap (λ (ns : List NameAt). record { temporaries = ns; body = body_of tree.body }) t
    ∙ ap (λ (x : BodyTree). record { temporaries = []; body = x }) (b ∙ ap (λ (y : StmtTree). stmts y.0 y.1 no_stmts) o ∙ ap (λ r. stmts r (expr_of (out-Stmt s).expr) no_stmts) stays)

pub messages_sent : (e : Expr) (n : NameAt) → length (names_of (out-Expr e).targets) ≤ 0 → length (messages_list (messages_of (out-Expr e).cascades)) ≤ 0 → (out-Expr e).receiver ≡ primary.Name n → expr_of e ≡ all_sent (n, messages_of (out-Expr e).messages)
messages_sent e n none last is =
    let t : names_of (out-Expr e).targets ≡ [] = names_none (names_of (out-Expr e).targets) none in
    let p : primary_of (out-Expr e).receiver ≡ name n = ap primary_of is ∙ primary_name n in
    let cs : messages_of (out-Expr e).cascades ≡ no_messages = messages_none (messages_of (out-Expr e).cascades) last in
    let o = expr_open e in
    cc

pub not_sent : (e : Expr) (y : NameAt × MessageTrees) → ((x : NameAt) → (out-Expr e).receiver ≡ primary.Name x → ⊥) → expr_of e ≡ all_sent y → ⊥
not_sent e y apart is =
    let o = expr_open e in
    let p : primary_of (out-Expr e).receiver ≡ name y.0 = cc in
    no_name (out-Expr e).receiver y.0 apart p

-- a message without arguments, and messages to a side and to its organization
pub is_unary : (m : Message) (selector : List ℕ) (n : ℕ) → (out-Message m).selector ≡ selector → n ≡ length (exprs_list (exprs_of (out-Message m).arguments))
    → (IsTrue (nat_eq n 0) → message_of m ≡ (selector, no_exprs)) × (message_of m ≡ (selector, no_exprs) → IsTrue (nat_eq n 0))
is_unary m selector n is count = (to, back)
  where
    to : IsTrue (nat_eq n 0) → message_of m ≡ (selector, no_exprs)
    to t =
        let z : n ≡ 0 = grind (arith, nat_tests) in
        message_open m ∙ ap (λ (s : List ℕ). (s, exprs_of (out-Message m).arguments)) is ∙ ap (λ (es : ExprTrees). (selector, es)) (exprs_none (exprs_of (out-Message m).arguments) (omega (arith, z, count)))

    back : message_of m ≡ (selector, no_exprs) → IsTrue (nat_eq n 0)
    back i =
        let none : exprs_of (out-Message m).arguments ≡ no_exprs = ap (λ (x : MessageTree). x.1) (sym (message_open m) ∙ i) in
        let z : n ≡ 0 = count ∙ ap (λ es. length (exprs_list es)) none in
        ap (λ k. nat_eq k 0) z

pub behind_class : (ms : MessageTrees) (c m : MessageTree) → length (messages_list ms) ≡ 2 → slice_get (messages_list ms) 0 ≡ Some c → slice_get (messages_list ms) 1 ≡ Some m → c ≡ class_message → ms ≡ to_side (Class, m)
behind_class ms c m n at then_at e = messages_two ms c m n at then_at ∙ ap (λ (x : MessageTree). messages x.0 x.1 (messages m.0 m.1 no_messages)) e

pub behind_organization : (ms : MessageTrees) (o m : MessageTree) → length (messages_list ms) ≡ 2 → slice_get (messages_list ms) 0 ≡ Some o → slice_get (messages_list ms) 1 ≡ Some m → o ≡ organization_message → ms ≡ to_organization (Instance, m)
behind_organization ms o m n at then_at e = messages_two ms o m n at then_at ∙ ap (λ (x : MessageTree). messages x.0 x.1 (messages m.0 m.1 no_messages)) e

pub behind_both : (ms : MessageTrees) (c o m : MessageTree) → length (messages_list ms) ≡ 3 → slice_get (messages_list ms) 0 ≡ Some c → slice_get (messages_list ms) 1 ≡ Some o → slice_get (messages_list ms) 2 ≡ Some m
    → c ≡ class_message → o ≡ organization_message → ms ≡ to_organization (Class, m)
behind_both no_messages c o m n f g h i j = absurd (omega arith)
behind_both (messages s es ms) c o m n f g h i j =
    let same : (s, es) ≡ c = cc in
    ap (λ (x : MessageTree). messages x.0 x.1 ms) (same ∙ i) ∙ ap (messages class_message.0 class_message.1) (behind_organization ms o m (omega arith) g h j)

-- the argument of a message
pub one_argument : (m : Message) (e : ExprTree) (selector : List ℕ) → (out-Message m).selector ≡ selector → length (exprs_list (exprs_of (out-Message m).arguments)) ≡ 1 → slice_get (exprs_list (exprs_of (out-Message m).arguments)) 0 ≡ Some e
    → message_of m ≡ (selector, exprs e no_exprs)
one_argument m e selector is one at =
    message_open m ∙ ap (λ (s : List ℕ). (s, exprs_of (out-Message m).arguments)) is
    ∙ ap (λ (es : ExprTrees). (selector, es)) (exprs_one (exprs_of (out-Message m).arguments) e one at)

pub literal_alone : (e : Expr) (v : Literal) → length (names_of (out-Expr e).targets) ≤ 0 → length (messages_list (messages_of (out-Expr e).messages)) ≤ 0 → length (messages_list (messages_of (out-Expr e).cascades)) ≤ 0 → (out-Expr e).receiver ≡ primary.Literal v → expr_of e ≡ argument (literal_of v)
literal_alone e v none one last is =
    let t : names_of (out-Expr e).targets ≡ [] = names_none (names_of (out-Expr e).targets) none in
    let p : primary_of (out-Expr e).receiver ≡ literal (literal_of v) = ap primary_of is ∙ primary_literal v in
    let ms : messages_of (out-Expr e).messages ≡ no_messages = messages_none (messages_of (out-Expr e).messages) one in
    let cs : messages_of (out-Expr e).cascades ≡ no_messages = messages_none (messages_of (out-Expr e).cascades) last in
    let o = expr_open e in
    cc

pub no_argument : (e : Expr) (v : LiteralTree) → ((x : Literal) → (out-Expr e).receiver ≡ primary.Literal x → ⊥) → expr_of e ≡ argument v → ⊥
no_argument e v apart is =
    let o = expr_open e in
    let p : primary_of (out-Expr e).receiver ≡ literal v = cc in
    no_literal (out-Expr e).receiver v apart p
