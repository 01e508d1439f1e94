-- What is left of the names, behind what was printed, is printed as all of them.
use Rattle.std.proofs.Common.{drop}
use Rattle.s80_decompile.specs.TreeTokens.{name_tokens}
use Rattle.s80_decompile.proofs.Printing.{Still}
use Rattle.s80_decompile.proofs.method.names.Given as goal

abbrev pub invariant-loop-name : goal.invariant-loop-name
invariant-loop-name l = Still l.fn.printer l.printer (name_tokens (drop l.name-index l.names)) (name_tokens l.names)
