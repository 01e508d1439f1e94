use Rattle.std.proofs.Common.{◌≡◌, ◌++◌}
use Rattle.s80_base.specs.Literal.{literals_of}
use Rattle.s80_base.proofs.lemmas.LiteralLists.{literals_left}
use Rattle.s80_image.specs.Literals.{literals_bytes}
use Rattle.s80_image.proofs.encode.+put.Given as goal

abbrev pub invariant-put_literals-loop-literal : goal.invariant-put_literals-loop-literal
invariant-put_literals-loop-literal l = l.out.items ++ literals_bytes (literals_left l.literal-items l.literal-index) ≡ l.fn.out.items ++ literals_bytes (literals_of l.literals)
