use Rattle.std.proofs.Common.{refl, sym}
use Rattle.s80_verify.proofs.PlacesLemmas.{is_place, place_or_not}
use Rattle.s80_verify.proofs.places.Places.is_place.Goals as goal

pub returns-in-Some : goal.returns-in-Some
returns-in-Some c = (λ r. is_place c.args.code.now.bytes c.args.self.now.before c.args.at _ c.requires (sym c.in-Some.ensures), λ p. refl)

pub returns-in-None : goal.returns-in-None
returns-in-None c = (λ r. cc, λ p. absurd (place_or_not c.args.code.now.bytes c.args.self.now.before c.args.at c.requires c.if-at-eq0.false (sym c.in-None.ensures) p))
