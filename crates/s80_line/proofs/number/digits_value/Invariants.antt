use Rattle.std.proofs.Common.{◌≡◌, ◌-◌, ◌^◌, min, take}
use Rattle.s80_line.specs.Line.{number_of}
use Rattle.s80_line.proofs.number.digits_value.Given as goal

abbrev pub invariant-loop-byte : goal.invariant-loop-byte
invariant-loop-byte l = l.number ≡ min (number_of (take l.byte-index l.word)) (2 ^ 64 - 1)
