use Rattle.std.proofs.Common.{◌≡◌, ◌≤◌, ◌∷◌, length, true}
use Rattle.s80_syntax.specs.Grammar.{IsTargets}
use Rattle.s80_syntax.specs.Lexeme.{lexemes}
use Rattle.s80_syntax.specs.Stack.{Stack, run, assigns, expr_start}
use Rattle.s80_tree.specs.Name.{names_of}
use Rattle.s80_syntax.specs.Reads.{AreSlices}
use Rattle.s80_syntax.specs.Scope.{assigns_in}
use Rattle.s80_syntax.proofs.names.targets.Given as goal

abbrev pub invariant-loop-token : goal.invariant-loop-token
invariant-loop-token l = record {
  read : IsTargets (names_of l.names) (lexemes l.text l.tokens) (lexemes l.text l.rest);
  same : (k : Stack) → assigns k ≡ assigns_in l.scope → run true (lexemes l.text l.tokens) (expr_start ∷ k) ≡ run true (lexemes l.text l.rest) (expr_start ∷ k);
  slices : AreSlices l.text l.rest;
  shorter : length l.rest ≤ length l.tokens;
}

abbrev pub decreases-loop-token : goal.decreases-loop-token
decreases-loop-token l = length l.rest
