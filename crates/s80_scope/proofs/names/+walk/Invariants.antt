use Rattle.std.proofs.Common.{ℕ, ◌+◌, ◌<◌, length, map, drop}
use Rattle.std.specs.declared.ops.ControlFlow.{ControlFlow}
use Rattle.s80_tree.specs.Tree.{BodyTree, MessageTrees, ExprTrees, body_from, body_of, stmt_of, messages_from, messages_of, message_of, exprs_from, exprs_of, expr_of}
use Rattle.s80_scope.specs.declared.names.Found.{Found}
use Rattle.s80_scope.specs.Names.{Walks, body_uses, body_declarations, messages_uses, messages_declarations, exprs_uses, exprs_declarations}
use Rattle.s80_scope.proofs.names.+walk.Given as goal

-- there are numbers for what is left, and a walk over it goes on as one over all

abbrev pub invariant-in_body-loop-statement : goal.invariant-in_body-loop-statement
invariant-in_body-loop-statement l =
    let left : BodyTree = body_from (map stmt_of (drop l.statement-index l.statement-items)) in
    record {
      room : l.next + length (body_declarations left) < 256;
      goes_on : (r : ControlFlow Found ℕ) → Walks l.at l.next (body_uses left) (body_declarations left) r → Walks l.at l.first (body_uses (body_of l.body)) (body_declarations (body_of l.body)) r;
    }

abbrev pub invariant-in_messages-loop-message : goal.invariant-in_messages-loop-message
invariant-in_messages-loop-message l =
    let left : MessageTrees = messages_from (map message_of (drop l.message-index l.message-items)) in
    record {
      room : l.next + length (messages_declarations left) < 256;
      goes_on : (r : ControlFlow Found ℕ) → Walks l.at l.next (messages_uses left) (messages_declarations left) r → Walks l.at l.first (messages_uses (messages_of l.messages)) (messages_declarations (messages_of l.messages)) r;
    }

abbrev pub invariant-in_exprs-loop-expr : goal.invariant-in_exprs-loop-expr
invariant-in_exprs-loop-expr l =
    let left : ExprTrees = exprs_from (map expr_of (drop l.expr-index l.expr-items)) in
    record {
      room : l.next + length (exprs_declarations left) < 256;
      goes_on : (r : ControlFlow Found ℕ) → Walks l.at l.next (exprs_uses left) (exprs_declarations left) r → Walks l.at l.first (exprs_uses (exprs_of l.exprs)) (exprs_declarations (exprs_of l.exprs)) r;
    }
