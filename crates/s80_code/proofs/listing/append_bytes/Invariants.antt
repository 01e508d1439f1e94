use Rattle.std.proofs.Common.{◌≡◌, ◌++◌, flat_map, take}
use Rattle.s80_code.specs.Listing.{spaced}
use Rattle.s80_code.proofs.listing.append_bytes.Given as goal

abbrev pub invariant-loop-byte : goal.invariant-loop-byte
invariant-loop-byte l = l.text ≡ l.fn.text ++ flat_map spaced (take l.byte-index l.bytes)
