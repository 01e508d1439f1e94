-- A tree has as many declarations as it has temporaries.
use Rattle.std.proofs.Common.{◌≡◌, List, ◌++◌, length, refl, arith, length-append}
use Rattle.std.proofs.lemmas.List.{length-map}
use Rattle.s80_tree.specs.declared.name.NameAt.{NameAt}
use Rattle.s80_tree.specs.Tree.{ExprTree, PrimaryTree, ExprTrees, MessageTrees, BodyTree, MethodParts, expr, name, literal, block, paren, no_exprs, exprs, no_messages, messages, no_stmts, stmts}
use Rattle.s80_scope.specs.FitStack.{expr_parameters, primary_parameters, messages_parameters, exprs_parameters, body_parameters, temporaries}
use Rattle.s80_scope.specs.Names.{declared_over, declarations_of, body_uses, expr_declarations, primary_declarations, exprs_declarations, messages_declarations, body_declarations}

length_over : (uses names : List NameAt) → length (declared_over uses names) ≡ length names
length_over uses names = length-map names (λ n. record { word = n.name; extent = uses })

mutual
  expr_declared : (e : ExprTree) → length (expr_declarations e) ≡ expr_parameters e
  expr_declared (expr targets p ms cs) =
      omega (
        arith,
        length-append (primary_declarations p) (messages_declarations ms ++ messages_declarations cs),
        length-append (messages_declarations ms) (messages_declarations cs),
        primary_declared p,
        messages_declared ms,
        messages_declared cs,
      )

  primary_declared : (p : PrimaryTree) → length (primary_declarations p) ≡ primary_parameters p
  primary_declared (name n) = refl
  primary_declared (literal v) = refl
  primary_declared (block ps ss) = omega (arith, length-append (declared_over (body_uses ss) ps) (body_declarations ss), length_over (body_uses ss) ps, body_declared ss)
  primary_declared (paren e) = expr_declared e

  exprs_declared : (es : ExprTrees) → length (exprs_declarations es) ≡ exprs_parameters es
  exprs_declared no_exprs = refl
  exprs_declared (exprs e es) = omega (arith, length-append (expr_declarations e) (exprs_declarations es), expr_declared e, exprs_declared es)

  messages_declared : (ms : MessageTrees) → length (messages_declarations ms) ≡ messages_parameters ms
  messages_declared no_messages = refl
  messages_declared (messages s es ms) = omega (arith, length-append (exprs_declarations es) (messages_declarations ms), exprs_declared es, messages_declared ms)

  body_declared : (ss : BodyTree) → length (body_declarations ss) ≡ body_parameters ss
  body_declared no_stmts = refl
  body_declared (stmts r e ss) = omega (arith, length-append (expr_declarations e) (body_declarations ss), expr_declared e, body_declared ss)

pub declared : (m : MethodParts) → length (declarations_of m) ≡ temporaries m
declared m =
    omega (
      arith,
      length-append (declared_over (body_uses m.body) (m.parameters ++ m.temporaries)) (body_declarations m.body),
      length_over (body_uses m.body) (m.parameters ++ m.temporaries),
      length-append m.parameters m.temporaries,
      body_declared m.body,
    )
