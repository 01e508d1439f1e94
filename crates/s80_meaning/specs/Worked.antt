-- Some doIts as trees.
use Rattle.std.specs.Prelude.{ℕ, pos, [], ◌∷◌, true, false, codes}
use Rattle.s80_base.specs.Literal.{small, true_literal}
use Rattle.s80_core.specs.Core.{constant, variable, temporary}
use Rattle.s80_prims.specs.declared.stop.End.{End}
use Rattle.s80_prims.specs.declared.stop.Outcome.{Outcome}
use Rattle.s80_meaning.specs.Tree.{Meant, Tree, leaf, send, trees, no_trees, answer, repeat, nothing, real, before, assign, leave, RealBlock}

-- how a run ended, and after how many ticks
abbrev pub end_of : Outcome → End × ℕ
end_of o = (o.end, o.ticks)

abbrev pub number : ℕ → Tree
number n = leaf (constant (small (pos n)))

abbrev pub doit_of : ℕ → Tree → Meant
doit_of temporaries tree = record { temporaries = temporaries; primitive = 0; body = tree; blocks = []; named = [] }

-- 3 + 4
abbrev pub sum : Meant
sum = doit_of 0 (answer (send (number 3) false (codes "+") (trees (number 4) no_trees)))

-- [true] whileTrue: []
abbrev pub endless : Meant
endless = doit_of 0 (answer (repeat true (leaf (constant true_literal)) nothing))

-- [:x | x + 1]
abbrev block : RealBlock
block = record { first = 1; parameters = 1; body = leave (send (leaf (variable (temporary 1))) false (codes "+") (trees (number 1) no_trees)) }

-- | b | b _ [:x | x + 1]. b value: (b value: 5)
abbrev pub twice : Meant
twice = record (doit_of 2 (before (assign (temporary 0) (real 0))
    (answer (send (leaf (variable (temporary 0))) false (codes "value:") (trees (send (leaf (variable (temporary 0))) false (codes "value:") (trees (number 5) no_trees)) no_trees))))) {
      blocks = block ∷ [];
    }
