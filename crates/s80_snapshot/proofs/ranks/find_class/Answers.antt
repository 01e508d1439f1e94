use Rattle.std.proofs.Common.{◌≡◌, ◌∙◌, cond, true, false, sym, ap, subst, Some, None}
use Rattle.s80_image.specs.Classes.{classes_of}
use Rattle.s80_snapshot.specs.Resuming.{place_in}
use Rattle.s80_snapshot.proofs.ClassPlaces.{IsPoint, is_there, place_found, place_within}
use Rattle.s80_snapshot.proofs.ranks.find_class.Goals as goal
use Rattle.s80_snapshot.proofs.ranks.find_class.Goals.{After-is_at}

found_by : (c : After-is_at) → place_in (classes_of c.args.classes.now) c.args.name.now ≡ cond c.is_at.result (Some c.lower_bound-place.result) None
found_by c =
    let xs = c.args.classes.now in
    let name = c.args.name.now in
    let p = c.lower_bound-place.result in
    place_found xs name p c.requires c.lower_bound-place.ensures.bound (subst (λ n. IsPoint n xs p) c.bytes.ensures c.lower_bound-place.ensures.point)
    ∙ ap (λ b. cond b (Some p) None) (ap (λ n. is_there n xs p) (sym c.bytes-2.ensures) ∙ sym c.is_at.ensures)

pub returns-then-is_at-clause-place : goal.returns-then-is_at-clause-place
returns-then-is_at-clause-place c = sym (found_by (goal.at.returns-then-is_at-clause-place c).After-is_at ∙ ap (λ b. cond b (Some c.lower_bound-place.result) None) c.if-is_at.true)

pub returns-else-is_at-clause-place : goal.returns-else-is_at-clause-place
returns-else-is_at-clause-place c = sym (found_by (goal.at.returns-else-is_at-clause-place c).After-is_at ∙ ap (λ b. cond b (Some c.lower_bound-place.result) None) c.if-is_at.false)

pub returns-then-is_at-clause-within : goal.returns-then-is_at-clause-within
returns-then-is_at-clause-within c =
    place_within c.args.classes.now c.args.name.now c.lower_bound-place.result (found_by (goal.at.returns-then-is_at-clause-within c).After-is_at ∙ ap (λ b. cond b (Some c.lower_bound-place.result) None) c.if-is_at.true)
