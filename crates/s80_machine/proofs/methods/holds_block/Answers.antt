use Rattle.std.proofs.Common.{◌+◌, ◌-◌, ◌||◌, ◌∙◌, ap, arith, drop, length, sym}
use Rattle.std.specs.List.{list_any}
use Rattle.s80_machine.specs.Turn.{begins_block, instructions_in}
use Rattle.s80_machine.proofs.KeptMethods.{goes_within, some_left}
use Rattle.s80_machine.proofs.methods.holds_block.Goals as goal

pub overflow_add-at : goal.overflow_add-at
overflow_add-at c =
    let le = goes_within c.args.code.now.bytes c.loop.at c.in-Some.instruction c.in-Some.width (sym c.in-Some.ensures) c.loop.invariant.within in
    omega (arith, c.requires, le)

pub loop-preserved : goal.loop-preserved
loop-preserved c =
    let bytes = c.args.code.now.bytes in
    let end = length c.bytes-end.result.now in
    let at = c.loop.at in
    let w = c.in-Some.width in
    let is = sym c.in-Some.ensures in
    record {
      size = c.loop.invariant.size;
      within = goes_within bytes at c.in-Some.instruction w is c.loop.invariant.within;
      left = sym (some_left bytes end c.loop.counter at c.loop-test.true c.in-Some.instruction w is
          ∙ ap (λ b. b || list_any begins_block (instructions_in (end - (c.loop.counter + 1)) (drop (at + w) bytes))) (sym c.if-begins_block.ensures))
          ∙ c.loop.invariant.left;
    }
