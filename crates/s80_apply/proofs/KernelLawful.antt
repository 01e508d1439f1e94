-- Lawful trees, tested.
use Rattle.std.proofs.Common.{Option, Some, None, Bool, true, List, [], ◌∷◌, ℕ, suc}
use Rattle.s80_base.specs.Literal.{LiteralTree, array}
use Rattle.s80_tree.specs.declared.name.NameAt.{NameAt}
use Rattle.s80_tree.specs.Tree.{ExprTree, PrimaryTree, ExprTrees, MessageTrees, BodyTree, MethodParts, expr, name, literal, block, paren, no_exprs, exprs, no_messages, messages, no_stmts, stmts}
use Rattle.s80_syntax.specs.Limits.{may_open, home_assigns, block_assigns, may_assign, AreAssignable, IsLawfulLiteral, IsLawfulExpr, IsLawfulPrimary, AreLawfulExprs, AreLawfulMessages, IsLawfulBody, IsLawfulMethod}
use Rattle.s80_syntax.specs.Word.{names_in}
use Rattle.s80_apply.proofs.KernelTold.{◌>>=◌, told}

abbrev assignable : (assigns : List ℕ → Bool) (ns : List NameAt) → Option (AreAssignable true assigns ns)
assignable assigns [] = Some tt
assignable assigns (n ∷ ns) = do
  first ← told (may_assign true assigns n.name)
  more ← assignable assigns ns
  Some (first, more)

-- none but arrays opens brackets
abbrev lawful_literal : (depth : ℕ) (v : LiteralTree) → Option (IsLawfulLiteral true depth v)
lawful_literal depth (array vs) = None
lawful_literal depth v = Some tt

abbrev mutual
  lawful_expr : (depth : ℕ) (assigns : List ℕ → Bool) (e : ExprTree) → Option (IsLawfulExpr true depth assigns e)
  lawful_expr depth assigns (expr targets p ms cs) = do
    a ← assignable assigns targets
    b ← lawful_primary depth assigns p
    c ← lawful_messages depth assigns ms
    d ← lawful_messages depth assigns cs
    Some (a, b, c, d)

  lawful_primary : (depth : ℕ) (assigns : List ℕ → Bool) (p : PrimaryTree) → Option (IsLawfulPrimary true depth assigns p)
  lawful_primary depth assigns (name n) = Some tt
  lawful_primary depth assigns (literal v) = lawful_literal depth v
  lawful_primary depth assigns (paren e) = do
    a ← told (may_open true depth)
    b ← lawful_expr (suc depth) assigns e
    Some (a, b)
  lawful_primary depth assigns (block ps ss) = do
    a ← told (may_open true depth)
    b ← lawful_body (suc depth) (block_assigns (names_in ps) assigns) ss
    Some (a, b)

  lawful_exprs : (depth : ℕ) (assigns : List ℕ → Bool) (es : ExprTrees) → Option (AreLawfulExprs true depth assigns es)
  lawful_exprs depth assigns no_exprs = Some tt
  lawful_exprs depth assigns (exprs e es) = do
    a ← lawful_expr depth assigns e
    b ← lawful_exprs depth assigns es
    Some (a, b)

  lawful_messages : (depth : ℕ) (assigns : List ℕ → Bool) (ms : MessageTrees) → Option (AreLawfulMessages true depth assigns ms)
  lawful_messages depth assigns no_messages = Some tt
  lawful_messages depth assigns (messages s es ms) = do
    a ← lawful_exprs depth assigns es
    b ← lawful_messages depth assigns ms
    Some (a, b)

  lawful_body : (depth : ℕ) (assigns : List ℕ → Bool) (ss : BodyTree) → Option (IsLawfulBody true depth assigns ss)
  lawful_body depth assigns no_stmts = Some tt
  lawful_body depth assigns (stmts r e ss) = do
    a ← lawful_expr depth assigns e
    b ← lawful_body depth assigns ss
    Some (a, b)

abbrev pub lawful_method : (m : MethodParts) → Option (IsLawfulMethod true m)
lawful_method m = lawful_body 0 (home_assigns (names_in m.parameters) (names_in m.temporaries)) m.body
