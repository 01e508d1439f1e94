use Rattle.std.proofs.Common.{◌≡◌, ◌∷◌, [], Bool, length, true}
use Rattle.s80_syntax.specs.Grammar.{AreDeclared}
use Rattle.s80_syntax.specs.Lexeme.{lexemes}
use Rattle.s80_syntax.specs.Stack.{run, temporaries}
use Rattle.s80_syntax.specs.Word.{Names, names_in}
use Rattle.s80_tree.specs.Name.{names_of}
use Rattle.s80_syntax.specs.Reads.{AreSlices}
use Rattle.s80_syntax.proofs.head.temporaries.Given as goal

abbrev pub invariant-loop-names : goal.invariant-loop-names
invariant-loop-names l = record {
  read : AreDeclared (names_of l.names) (lexemes l.text l.tokens) (lexemes l.text l.rest);
  same : (ps : Names) (primitive : Bool) → run true (lexemes l.text l.tokens) (temporaries ps [] primitive ∷ []) ≡ run true (lexemes l.text l.rest) (temporaries ps (names_in (names_of l.names)) primitive ∷ []);
  slices : AreSlices l.text l.rest;
}

abbrev pub decreases-loop-names : goal.decreases-loop-names
decreases-loop-names l = length l.rest
