use Rattle.std.proofs.Common.{◌≡◌, ◌++◌, length, take}
use Rattle.std.specs.Int.{w32, to_be_bytes}
use Rattle.std.specs.List.{flat_map}
use Rattle.s80_image.specs.Format.{word64}
use Rattle.s80_image.proofs.encode.put_places.Given as goal

abbrev pub invariant-loop-place : goal.invariant-loop-place
invariant-loop-place l = l.out.items ≡ l.fn.out.items ++ (to_be_bytes w32 (length l.places) ++ flat_map word64.spell (take l.place-index l.places))
