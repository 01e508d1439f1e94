-- The instructions from a place on have a block's beginning where those of all the code have one.
use Rattle.std.proofs.Common.{◌≡◌, ◌≤◌, ◌-◌, drop, length}
use Rattle.std.specs.List.{list_any}
use Rattle.s80_machine.specs.Turn.{begins_block, holds_block, instructions_in}
use Rattle.s80_machine.proofs.methods.holds_block.Given as goal

abbrev pub invariant-loop : goal.invariant-loop
invariant-loop l = record {
  size : l.end ≡ length l.code.bytes;
  within : l.at ≤ length l.code.bytes;
  left : list_any begins_block (instructions_in (l.end - l.counter) (drop l.at l.code.bytes)) ≡ holds_block l.code;
}
