use Rattle.std.proofs.Common.{◌≡◌, ◌≤◌, ◌+◌, ◌*◌, ◌∷◌, length, true}
use Rattle.s80_base.specs.Literal.{LiteralTrees, literals_of, literals_append}
use Rattle.s80_syntax.specs.Grammar.{AreElements}
use Rattle.s80_syntax.specs.Lexeme.{Lexemes, lexemes}
use Rattle.s80_syntax.specs.Stack.{Stack, run, level, elements}
use Rattle.s80_syntax.specs.Reads.{AreSlices}
use Rattle.s80_syntax.proofs.literal.+array.Given as goal

abbrev pub decreases-element : goal.decreases-element
decreases-element l = 4 * length l.tokens.now + 1

abbrev pub decreases-elements : goal.decreases-elements
decreases-elements l = 4 * length l.tokens.now + 2

abbrev pub decreases-array_rest : goal.decreases-array_rest
decreases-array_rest l = 4 * length l.tokens.now + 3

abbrev pub invariant-elements-loop-items : goal.invariant-elements-loop-items
invariant-elements-loop-items l = record {
  read : (more : LiteralTrees) (end : Lexemes) → AreElements more (lexemes l.text l.rest) end → AreElements (literals_append (literals_of l.items) more) (lexemes l.text l.tokens) end;
  same : (k : Stack) → level k ≡ l.depth → run true (lexemes l.text l.tokens) (elements ∷ k) ≡ run true (lexemes l.text l.rest) (elements ∷ k);
  slices : AreSlices l.text l.rest;
  shorter : length l.rest ≤ length l.tokens;
}

abbrev pub decreases-elements-loop-items : goal.decreases-elements-loop-items
decreases-elements-loop-items l = length l.rest
