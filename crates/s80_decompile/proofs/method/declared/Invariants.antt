-- What is left of the parameters and of the selector, behind what was printed, is printed as all of them.
use Rattle.std.proofs.Common.{drop}
use Rattle.s80_decompile.specs.TreeTokens.{declared_tokens}
use Rattle.s80_decompile.proofs.Printing.{Still}
use Rattle.s80_decompile.proofs.method.declared.Given as goal

abbrev pub invariant-loop-name : goal.invariant-loop-name
invariant-loop-name l = Still l.fn.printer l.printer (declared_tokens (drop l.name-index l.parameters) l.rest) (declared_tokens l.parameters l.fn.selector)
