use Rattle.std.proofs.Common.{sym, ◌∙◌, ap, subst, ◌+◌, ℤ, pos, ◌+ℤ◌, None, w32, rules}
use Rattle.std.proofs.lemmas.Int.{to_z-of_z}
use mir.Val.{SFits}
use Rattle.s80_verify.specs.Found.{LandsAt}
use Rattle.s80_verify.proofs.lemmas.JumpLemmas.{lands_by}
use Rattle.s80_verify.proofs.search.place_from.Goals as goal

pub returns : goal.returns
returns c =
    let fits : SFits w32 c.args.distance = search rules in
    subst (λ (z : ℤ). LandsAt (pos c.args.next +ℤ z) c.checked_add_signed.result) (to_z-of_z w32 c.args.distance fits)
    (lands_by _ c.checked_add_signed.result c.checked_add_signed.ensures)
