use Rattle.std.proofs.Common.{◌≡◌, ◌-◌, []}
use Rattle.s80_image.specs.Format.{members}
use Rattle.s80_image.specs.Parts.{last_of, place_above}
use Rattle.s80_image.proofs.history_parts.places_from.Given as goal

abbrev pub invariant-loop : goal.invariant-loop
invariant-loop l = members (λ before. place_above (last_of before)) (l.places.items) (l.count - l.counter) l.rest ≡ members (λ before. place_above (last_of before)) [] l.count l.bytes
