use Rattle.std.proofs.Common.{◌≤◌, ℕ, List, ◌++◌, length}
use Rattle.s80_syntax.specs.Grammar.{AreJoined}
use Rattle.s80_syntax.specs.Lexeme.{Lexemes, lexemes}
use Rattle.s80_syntax.specs.Literal.{KeywordNext}
use Rattle.s80_syntax.specs.Reads.{AreSlices}
use Rattle.s80_syntax.proofs.literal.joined.Given as goal

abbrev pub invariant-loop-token : goal.invariant-loop-token
invariant-loop-token l = record {
  read : (more : List ℕ) (end : Lexemes) → AreJoined more (lexemes l.text l.rest) end → AreJoined (l.word ++ more) (lexemes l.text l.tokens) end;
  slices : AreSlices l.text l.rest;
  shorter : length l.rest ≤ length l.tokens;
  keyword : KeywordNext l.rest;
}

abbrev pub decreases-loop-token : goal.decreases-loop-token
decreases-loop-token l = length l.rest
