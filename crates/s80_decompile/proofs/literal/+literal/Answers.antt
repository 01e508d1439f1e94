use Rattle.std.proofs.Common.{ap, refl}
use Rattle.s80_base.specs.Literal.{literal_of, literals_of}
use Rattle.s80_decompile.specs.Printed.{printed}
use Rattle.s80_decompile.specs.TreeTokens.{literal_tokens, literals_tokens}
use Rattle.s80_decompile.proofs.Printing.{literals_all, literals_in, still_end, still_step}
use Rattle.s80_decompile.proofs.literal.+literal.Goals as goal

pub literals-loop-element-init : goal.literals-loop-element-init
literals-loop-element-init t c = λ more. ap (λ vs. printed c.args.printer.now (literals_tokens vs more)) (literals_all c.args.literals.now c.deref-element-items.result.now c.deref-element-items.ensures.value)

pub literals-loop-element-preserved : goal.literals-loop-element-preserved
literals-loop-element-preserved t c =
    still_step (λ xs. literals_tokens (literals_in xs)) c.args.printer.now c.loop-element.printer (literals_tokens (literals_of c.args.literals.now)) c.deref-element-items.result.now c.loop-element.element-index c.literal.new.printer
    (literal_tokens (literal_of c.element-item.result)) c.element-item.result (λ rest more. refl) c.loop-element-test.true c.element-item.is c.loop-element.invariant c.in_ok-literal.ensures

pub literals-returns : goal.literals-returns
literals-returns t c =
    still_end (λ xs. literals_tokens (literals_in xs)) c.args.printer.now c.loop-element.printer (literals_tokens (literals_of c.args.literals.now)) c.deref-element-items.result.now c.loop-element.element-index (λ more. refl) c.loop-element-test.false c.loop-element.invariant
