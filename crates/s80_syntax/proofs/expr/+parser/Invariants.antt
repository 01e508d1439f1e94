use Rattle.std.proofs.Common.{◌≡◌, ◌≤◌, ◌+◌, ◌*◌, ◌∷◌, length, true}
use Rattle.s80_syntax.specs.Grammar.{IsBody, IsCascade, AreParts}
use Rattle.s80_syntax.specs.Lexeme.{Lexemes, lexemes}
use Rattle.s80_syntax.specs.Stack.{Stack, run, unary_tail, binary_tail, keyword_tail, cascade, body as body_symbol}
use Rattle.s80_tree.specs.Tree.{BodyTree, MessageTrees, body_of, exprs_of, messages_of, body_append, messages_append}
use Rattle.s80_syntax.specs.Expr.{AreBinary}
use Rattle.s80_syntax.specs.Reads.{AreSlices, Stands}
use Rattle.s80_syntax.specs.Scope.{assigns_in}
use Rattle.s80_syntax.proofs.expr.+parser.Given as goal

abbrev pub decreases-primary : goal.decreases-primary
decreases-primary l = 16 * length l.tokens.now + 1

abbrev pub decreases-binary_message : goal.decreases-binary_message
decreases-binary_message l = 16 * length l.tokens.now + 2

abbrev pub decreases-binary_messages : goal.decreases-binary_messages
decreases-binary_messages l = 16 * length l.tokens.now + 3

abbrev pub decreases-keyword_argument : goal.decreases-keyword_argument
decreases-keyword_argument l = 16 * length l.tokens.now + 4

abbrev pub decreases-keyword_message : goal.decreases-keyword_message
decreases-keyword_message l = 16 * length l.tokens.now + 5

abbrev pub decreases-chain : goal.decreases-chain
decreases-chain l = 16 * length l.tokens.now + 6

abbrev pub decreases-message : goal.decreases-message
decreases-message l = 16 * length l.tokens.now + 6

abbrev pub decreases-cascades : goal.decreases-cascades
decreases-cascades l = 16 * length l.tokens.now + 7

abbrev pub decreases-expr : goal.decreases-expr
decreases-expr l = 16 * length l.tokens.now + 8

abbrev pub decreases-body : goal.decreases-body
decreases-body l = 16 * length l.tokens.now + 9

abbrev pub decreases-inner_body : goal.decreases-inner_body
decreases-inner_body l = 16 * length l.tokens.now + 10

abbrev pub decreases-block_body : goal.decreases-block_body
decreases-block_body l = 16 * length l.tokens.now + 11

abbrev pub decreases-block : goal.decreases-block
decreases-block l = 16 * length l.tokens.now + 12

abbrev pub decreases-paren : goal.decreases-paren
decreases-paren l = 16 * length l.tokens.now + 12

abbrev pub invariant-binary_messages-loop-token : goal.invariant-binary_messages-loop-token
invariant-binary_messages-loop-token l = record {
  read : AreBinary (messages_of l.messages) (lexemes l.text l.tokens) (lexemes l.text l.rest);
  same : (k : Stack) → Stands l.depth (assigns_in l.scope) k → run true (lexemes l.text l.tokens) (unary_tail ∷ binary_tail ∷ k) ≡ run true (lexemes l.text l.rest) (binary_tail ∷ k);
  slices : AreSlices l.text l.rest;
  shorter : length l.rest ≤ length l.tokens;
}

abbrev pub decreases-binary_messages-loop-token : goal.decreases-binary_messages-loop-token
decreases-binary_messages-loop-token l = length l.rest

abbrev pub invariant-keyword_message-loop-token : goal.invariant-keyword_message-loop-token
invariant-keyword_message-loop-token l = record {
  read : AreParts (exprs_of l.arguments) l.selector (lexemes l.text l.tokens) (lexemes l.text l.rest);
  same : (k : Stack) → Stands l.depth (assigns_in l.scope) k → run true (lexemes l.text l.tokens) (keyword_tail ∷ k) ≡ run true (lexemes l.text l.rest) (keyword_tail ∷ k);
  slices : AreSlices l.text l.rest;
  shorter : length l.rest ≤ length l.tokens;
}

abbrev pub decreases-keyword_message-loop-token : goal.decreases-keyword_message-loop-token
decreases-keyword_message-loop-token l = length l.rest

abbrev pub invariant-cascades-loop-tail : goal.invariant-cascades-loop-tail
invariant-cascades-loop-tail l = record {
  read : (more : MessageTrees) (end : Lexemes) → IsCascade more (lexemes l.text l.rest) end → IsCascade (messages_append (messages_of l.messages) more) (lexemes l.text l.tokens) end;
  same : (k : Stack) → Stands l.depth (assigns_in l.scope) k → run true (lexemes l.text l.tokens) (cascade ∷ k) ≡ run true (lexemes l.text l.rest) (cascade ∷ k);
  slices : AreSlices l.text l.rest;
  shorter : length l.rest ≤ length l.tokens;
}

abbrev pub decreases-cascades-loop-tail : goal.decreases-cascades-loop-tail
decreases-cascades-loop-tail l = length l.rest

abbrev pub invariant-body-loop-alloc : goal.invariant-body-loop-alloc
invariant-body-loop-alloc l = record {
  read : (more : BodyTree) (end : Lexemes) → IsBody more (lexemes l.text l.rest) end → IsBody (body_append (body_of l.statements) more) (lexemes l.text l.tokens) end;
  same : (k : Stack) → Stands l.depth (assigns_in l.scope) k → run true (lexemes l.text l.tokens) (body_symbol ∷ k) ≡ run true (lexemes l.text l.rest) (body_symbol ∷ k);
  slices : AreSlices l.text l.rest;
  shorter : length l.rest ≤ length l.tokens;
}

abbrev pub decreases-body-loop-alloc : goal.decreases-body-loop-alloc
decreases-body-loop-alloc l = length l.rest
