-- The entries of the places so far.
use Rattle.std.proofs.Common.{◌≡◌, length, take}
use Rattle.s80_machine.specs.Seen.{listing}
use Rattle.s80_machine.proofs.methods.listing_of.Given as goal

abbrev pub invariant-loop-at : goal.invariant-loop-at
invariant-loop-at l = record {
  size : l.at-end ≡ length l.code.bytes;
  made : l.listing.items ≡ take l.at (listing l.code.bytes);
}
