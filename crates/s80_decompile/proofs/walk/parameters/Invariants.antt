-- What is left of the names, behind what was printed, is printed as all of them.
use Rattle.std.proofs.Common.{drop}
use Rattle.s80_decompile.specs.TreeTokens.{parameter_tokens}
use Rattle.s80_decompile.proofs.Printing.{Still}
use Rattle.s80_decompile.proofs.walk.parameters.Given as goal

abbrev pub invariant-loop-name : goal.invariant-loop-name
invariant-loop-name l = Still l.fn.printer l.printer (parameter_tokens (drop l.name-index l.names)) (parameter_tokens l.names)
