use Rattle.std.proofs.Common.{◌≡◌, ◌++◌, length, take, map}
use Rattle.std.specs.Int.{w32, to_be_bytes}
use Rattle.std.specs.List.{flat_map}
use Rattle.s80_code.specs.Entries.{entry_of}
use Rattle.s80_image.specs.Literals.{entry_bytes}
use Rattle.s80_image.proofs.encode.put_frame.Given as goal

abbrev pub invariant-loop-entry : goal.invariant-loop-entry
invariant-loop-entry l = l.out.items ≡ l.fn.out.items ++ (to_be_bytes w32 (length l.entry-items) ++ flat_map entry_bytes (map entry_of (take l.entry-index l.entry-items)))
