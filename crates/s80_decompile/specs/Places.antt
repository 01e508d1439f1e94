-- Trees but for the places of their names.
use Rattle.std.specs.Prelude.{List, map}
use Rattle.s80_tree.specs.declared.name.NameAt.{NameAt}
use Rattle.s80_tree.specs.Tree.{ExprTree, PrimaryTree, ExprTrees, MessageTrees, BodyTree, MethodParts, expr, name, literal, block, paren, no_exprs, exprs, no_messages, messages, no_stmts, stmts}
use Rattle.s80_syntax.specs.Lexeme.{Lexeme, Lexemes}

-- with place 0 in the place of its own
abbrev pub unplaced_name : NameAt → NameAt
unplaced_name n = record { name = n.name; at = 0 }

abbrev pub unplaced_names : List NameAt → List NameAt
unplaced_names ns = map unplaced_name ns

abbrev mutual
  pub unplaced_expr : ExprTree → ExprTree
  unplaced_expr (expr ns p ms cs) = expr (unplaced_names ns) (unplaced_primary p) (unplaced_messages ms) (unplaced_messages cs)

  pub unplaced_primary : PrimaryTree → PrimaryTree
  unplaced_primary (name n) = name (unplaced_name n)
  unplaced_primary (literal v) = literal v
  unplaced_primary (block ps ss) = block (unplaced_names ps) (unplaced_body ss)
  unplaced_primary (paren e) = paren (unplaced_expr e)

  pub unplaced_exprs : ExprTrees → ExprTrees
  unplaced_exprs no_exprs = no_exprs
  unplaced_exprs (exprs e es) = exprs (unplaced_expr e) (unplaced_exprs es)

  pub unplaced_messages : MessageTrees → MessageTrees
  unplaced_messages no_messages = no_messages
  unplaced_messages (messages s es ms) = messages s (unplaced_exprs es) (unplaced_messages ms)

  pub unplaced_body : BodyTree → BodyTree
  unplaced_body no_stmts = no_stmts
  unplaced_body (stmts r e ss) = stmts r (unplaced_expr e) (unplaced_body ss)

abbrev pub unplaced : MethodParts → MethodParts
unplaced m = record {
  selector = m.selector;
  parameters = unplaced_names m.parameters;
  temporaries = unplaced_names m.temporaries;
  primitive = m.primitive;
  body = unplaced_body m.body;
}

-- tokens, likewise
abbrev pub unplaced_token : Lexeme → Lexeme
unplaced_token l = record { kind = l.kind; bytes = l.bytes; at = 0; joined = l.joined }

abbrev pub unplaced_tokens : Lexemes → Lexemes
unplaced_tokens ls = map unplaced_token ls
