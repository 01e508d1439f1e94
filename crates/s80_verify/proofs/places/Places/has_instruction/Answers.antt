use Rattle.std.proofs.Common.{refl, sym, ◌∙◌}
use Rattle.s80_verify.proofs.lemmas.LawLemmas.{none_stands}
use Rattle.s80_verify.proofs.PlacesLemmas.{stands_at}
use Rattle.s80_verify.proofs.places.Places.has_instruction.Goals as goal

pub returns-in-Some : goal.returns-in-Some
returns-in-Some c = (λ r. (c.is_place.ensures.0 c.if-not-is_place.false, (_, _, stands_at c.args.code.now.bytes c.args.at _ _ (sym c.in-Some.ensures))), λ x. refl)

pub returns-in-None : goal.returns-in-None
returns-in-None c = (λ r. cc, λ x. absurd (none_stands c.args.code.now.bytes c.args.at x.1.0 x.1.1 (sym c.in-None.ensures) x.1.2))
