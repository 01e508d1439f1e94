use Rattle.std.proofs.Common.{◌≡◌, ◌≤◌, ◌∷◌, length, true}
use Rattle.s80_syntax.specs.Grammar.{AreParameters}
use Rattle.s80_syntax.specs.Lexeme.{lexemes}
use Rattle.s80_syntax.specs.Stack.{Stack, run, block_start}
use Rattle.s80_syntax.specs.Word.{names_in}
use Rattle.s80_tree.specs.Name.{names_of}
use Rattle.s80_syntax.specs.Names.{parameter_symbol}
use Rattle.s80_syntax.specs.Reads.{AreSlices}
use Rattle.s80_syntax.proofs.names.parameters.Given as goal

abbrev pub invariant-loop-tail : goal.invariant-loop-tail
invariant-loop-tail l = record {
  read : AreParameters (names_of l.names) (lexemes l.text l.tokens) (lexemes l.text l.rest);
  same : (k : Stack) → run true (lexemes l.text l.tokens) (block_start ∷ k) ≡ run true (lexemes l.text l.rest) (parameter_symbol (names_in (names_of l.names)) ∷ k);
  slices : AreSlices l.text l.rest;
  shorter : length l.rest ≤ length l.tokens;
}

abbrev pub decreases-loop-tail : goal.decreases-loop-tail
decreases-loop-tail l = length l.rest
