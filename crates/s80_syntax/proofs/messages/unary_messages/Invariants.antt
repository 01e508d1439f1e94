use Rattle.std.proofs.Common.{◌≡◌, ◌≤◌, ℕ, ◌∷◌, length, true}
use Rattle.s80_syntax.specs.Lexeme.{lexemes}
use Rattle.s80_syntax.specs.Stack.{Stack, run, unary_tail}
use Rattle.s80_tree.specs.Tree.{messages_of}
use Rattle.s80_syntax.specs.Expr.{GoesOn}
use Rattle.s80_syntax.specs.Reads.{AreSlices}
use Rattle.s80_syntax.proofs.messages.unary_messages.Given as goal

abbrev pub invariant-loop-token : goal.invariant-loop-token
invariant-loop-token l = record {
  read : (high : ℕ) → GoesOn (messages_of l.messages) 0 high (lexemes l.text l.tokens) (lexemes l.text l.rest);
  same : (k : Stack) → run true (lexemes l.text l.tokens) (unary_tail ∷ k) ≡ run true (lexemes l.text l.rest) (unary_tail ∷ k);
  slices : AreSlices l.text l.rest;
  shorter : length l.rest ≤ length l.tokens;
}

abbrev pub decreases-loop-token : goal.decreases-loop-token
decreases-loop-token l = length l.rest
