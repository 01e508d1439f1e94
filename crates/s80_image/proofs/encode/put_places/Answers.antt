use Rattle.std.proofs.Common.{length}
use Rattle.std.specs.Int.{w32, to_be_bytes}
use Rattle.std.specs.List.{flat_map}
use Rattle.s80_image.specs.Format.{word64}
use Rattle.s80_image.specs.Parts.{places}
use Rattle.s80_image.proofs.Spelled.{whole, places_spelled}
use Rattle.s80_image.proofs.encode.put_places.Goals as goal

pub returns-clause-bytes : goal.returns-clause-bytes
returns-clause-bytes c = whole (λ l. flat_map word64.spell l) c.loop-place.out.items c.args.out.now.items (to_be_bytes w32 (length c.args.places.now)) c.args.places.now c.loop-place.place-index (places.spell c.args.places.now) c.loop-place-test.false c.loop-place.invariant (places_spelled c.args.places.now)
