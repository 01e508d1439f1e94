use Rattle.std.proofs.Common.{◌≡◌, ◌∷◌, [], length, true}
use Rattle.s80_syntax.specs.Grammar.{AreKeywords}
use Rattle.s80_syntax.specs.Lexeme.{lexemes}
use Rattle.s80_syntax.specs.Stack.{run, method_start}
use Rattle.s80_syntax.specs.Word.{names_in}
use Rattle.s80_tree.specs.Name.{names_of}
use Rattle.s80_syntax.specs.Method.{keyword_symbol}
use Rattle.s80_syntax.specs.Reads.{AreSlices}
use Rattle.s80_syntax.proofs.pattern.keyword_pattern.Given as goal

abbrev pub invariant-loop-token : goal.invariant-loop-token
invariant-loop-token l = record {
  read : AreKeywords (names_of l.parameters) l.selector (lexemes l.text l.tokens) (lexemes l.text l.rest);
  same : run true (lexemes l.text l.tokens) (method_start ∷ []) ≡ run true (lexemes l.text l.rest) (keyword_symbol (names_in (names_of l.parameters)) ∷ []);
  slices : AreSlices l.text l.rest;
}

abbrev pub decreases-loop-token : goal.decreases-loop-token
decreases-loop-token l = length l.rest
