use Rattle.std.proofs.Common.{◌≡◌, ℕ, ◌+◌, ◌-◌, arith, subst}
use Rattle.s80_code.specs.declared.instruction.Storage.TheVariants.{Temporary}
use Rattle.s80_code.specs.declared.instruction.Instruction.TheVariants.{PopInto}
use Rattle.s80_compile.specs.Emitted.{Adds}
use Rattle.s80_compile.proofs.Singles.{takes_begun, takes_next, takes_all}
use Rattle.s80_compile.proofs.pieces.take_parameters.Goals as goal

pub loop-number-init : goal.loop-number-init
loop-number-init c = takes_begun (c.args.first + (c.args.parameters - 0)) c.args.code.now

pub loop-number-preserved : goal.loop-number-preserved
loop-number-preserved c =
    let f = c.args.first in
    let n = c.args.parameters in
    let k = c.loop-number.number in
    let same : ((f + n) - 1) - k ≡ f + (n - (k + 1)) = omega (arith, c.loop-number-test.true) in
    takes_next (f + (n - k)) (f + (n - (k + 1))) k c.args.code.now c.loop-number.code c.pop_into.new.code (omega (arith, c.loop-number-test.true)) c.loop-number.invariant
    (subst (λ (m : ℕ). Adds (PopInto (Temporary m)) 2 c.loop-number.code c.pop_into.new.code) same c.in_ok-pop_into.ensures)

pub returns : goal.returns
returns c =
    takes_all (c.args.first + (c.args.parameters - c.loop-number.number)) c.args.first c.loop-number.number c.args.parameters c.args.code.now c.loop-number.code
    (omega (arith, c.loop-number-test.false)) (omega (arith, c.loop-number-test.false, c.loop-number.auto.number-end)) c.loop-number.invariant
