use Rattle.std.proofs.Common.{sym, ◌∙◌, ap, subst, ◌+◌, ℤ, pos, ◌+ℤ◌, None, w32, rules}
use Rattle.std.proofs.lemmas.Int.{to_z-of_z}
use mir.Val.{SFits}
use Rattle.s80_verify.proofs.PlacesLemmas.{stands_at}
use Rattle.s80_verify.proofs.lemmas.JumpLemmas.{lands_between}
use Rattle.s80_verify.proofs.search.check_jump.Goals as goal

pub returns-then-is_set-clause-fault : goal.returns-then-is_set-clause-fault
returns-then-is_set-clause-fault c =
    let fits : SFits w32 c.in-Some-distance_of.distance = search rules in
    rw (c.at.ensures.kind, c.at.ensures.place)
    (lands_between c.args.code.now c.args.found.now c.args.at c.in-Some.instruction (c.args.at + c.in-Some.width) c.in-Some-place_from.to c.in-Some-distance_of.distance c.requires.sound c.requires.reached
    (stands_at c.args.code.now.bytes c.args.at c.in-Some.width c.in-Some.instruction (sym c.in-Some.ensures))
    (sym c.in-Some-distance_of.ensures)
    (c.in-Some-place_from.ensures ∙ ap (λ z. pos (c.args.at + c.in-Some.width) +ℤ z) (to_z-of_z w32 c.in-Some-distance_of.distance fits))
    ((c.requires.between c.in-Some-place_from.to).0 (c.is_set.ensures.0 c.if-is_set.true)))
