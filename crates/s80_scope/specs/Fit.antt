-- Whether a method fits a machine: the first measure above its limit.
use Rattle.std.specs.Prelude.{◌<◌, ◌^◌, nat_lt, if◌then◌else◌}
use Rattle.s80_tree.specs.Tree.{MethodParts}
use Rattle.s80_scope.specs.FitLiterals.{literal_count}
use Rattle.s80_scope.specs.FitStack.{temporaries, stack}
use Rattle.s80_scope.specs.FitWeight.{weight}
use Rattle.s80_scope.specs.Walk.{cut}
use Rattle.s80_scope.specs.declared.fit.Measures.{Measures}
use Rattle.s80_scope.specs.declared.fit.Fit.{Fit}
use Rattle.s80_scope.specs.declared.fit.Fit.TheVariants.{Fits, TooMuch}
use Rattle.s80_scope.specs.declared.fit.FitKind.TheVariants as kind

abbrev pub measures : MethodParts → Measures
measures m = record { literals = literal_count m; temporaries = temporaries m; stack = stack m; weight = weight m }

abbrev pub fit : Measures → Fit
fit m =
    if nat_lt 60 m.literals then TooMuch kind.Literals m.literals
    else (if nat_lt 31 m.temporaries then TooMuch kind.Temporaries m.temporaries
    else (if nat_lt 32 m.stack then TooMuch kind.Stack m.stack
    else (if nat_lt 1000 m.weight then TooMuch kind.Weight m.weight else Fits)))

-- each as far as it can be told
abbrev pub cut_measures : Measures → Measures
cut_measures m = record { literals = cut m.literals; temporaries = cut m.temporaries; stack = cut m.stack; weight = cut m.weight }

-- each can be told
pub record AreTold (m : Measures) : Type 0 where
  pub literals : m.literals < 2 ^ 32
  pub temporaries : m.temporaries < 2 ^ 32
  pub stack : m.stack < 2 ^ 32
  pub weight : m.weight < 2 ^ 32
