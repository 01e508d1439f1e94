-- What is left of the elements, behind what was printed, is printed as all of them.
use Rattle.std.proofs.Common.{drop}
use Rattle.s80_base.specs.Literal.{literals_of}
use Rattle.s80_decompile.specs.TreeTokens.{literals_tokens}
use Rattle.s80_decompile.proofs.Printing.{Still, literals_in}
use Rattle.s80_decompile.proofs.literal.+literal.Given as goal

abbrev pub invariant-literals-loop-element : goal.invariant-literals-loop-element
invariant-literals-loop-element l = Still l.fn.printer l.printer (literals_tokens (literals_in (drop l.element-index l.element-items))) (literals_tokens (literals_of l.literals))
