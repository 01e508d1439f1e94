use Rattle.std.proofs.Common.{sym, ◌∙◌, ap, subst, ◌+◌, ℤ, pos, ◌+ℤ◌, None, w32, rules}
use Rattle.std.proofs.lemmas.Int.{to_z-of_z}
use mir.Val.{SFits}
use Rattle.s80_verify.specs.Found.{LandsAt}
use Rattle.s80_lex.proofs.lemmas.SelectorLemmas.{not_true}
use Rattle.s80_verify.proofs.lemmas.JumpLemmas.{no_target, bad_target}
use Rattle.s80_verify.proofs.search.target.Goals as goal

pub returns-in_default-place_from-clause-fault : goal.returns-in_default-place_from-clause-fault
returns-in_default-place_from-clause-fault c =
    let fits : SFits w32 c.in-Some.distance = search rules in
    rw (c.at.ensures.kind, c.at.ensures.place)
    (no_target c.args.code.now c.args.point.at c.args.point.stack c.args.point.depth c.args.instruction c.args.next c.in-Some.distance c.requires.short c.requires.reached c.requires.stands (sym c.in-Some.ensures)
    (subst (λ (z : ℤ). LandsAt (pos c.args.next +ℤ z) None) (to_z-of_z w32 c.in-Some.distance fits) c.in_default-place_from.ensures))

pub returns-then-not-has_instruction-clause-fault : goal.returns-then-not-has_instruction-clause-fault
returns-then-not-has_instruction-clause-fault c =
    let fits : SFits w32 c.in-Some.distance = search rules in
    rw (c.at-then-not-has_instruction.ensures.kind, c.at-then-not-has_instruction.ensures.place)
    (bad_target c.args.code.now c.args.point.at c.args.point.stack c.args.point.depth c.args.instruction c.args.next c.in-Some-place_from.to c.in-Some.distance c.requires.reached c.requires.stands (sym c.in-Some.ensures)
    (c.in-Some-place_from.ensures ∙ ap (λ z. pos c.args.next +ℤ z) (to_z-of_z w32 c.in-Some.distance fits))
    (λ x. not_true c.has_instruction.result _ c.if-not-has_instruction.true c.has_instruction.ensures.1 x))
