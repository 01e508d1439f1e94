use Rattle.std.proofs.Common.{[], ◌∷◌, ◌++◌, ◌∙◌, ap, arith, sym}
use Rattle.s80_history.specs.Members.{gaps}
use Rattle.s80_history.proofs.Counting.{all_taken, in_gaps, places_in, places_none, places_one}
use Rattle.s80_history.proofs.members.places.Goals as goal
use Rattle.s80_history.proofs.members.places.Goals.{in-Some+in_ok-push, in_default}

pub loop-i-preserved : goal.loop-i-preserved
loop-i-preserved c =
    let within = in_gaps c.args.members.now c.loop-i.i c.loop-i-test.true in
    elim c.match-place_of.branch [
      | in-Some+in_ok-push w ↦
          ap (λ v. v.items) w.places-is ∙ w.in_ok-push.ensures.items ∙ ap (λ places. places ++ w.in-Some.place ∷ []) c.loop-i.invariant
          ∙ sym (places_one (gaps c.args.members.now) c.loop-i.i within w.in-Some.place w.in-Some.ensures)
      | in_default w ↦ ap (λ v. v.items) w.places-is ∙ c.loop-i.invariant ∙ sym (places_none (gaps c.args.members.now) c.loop-i.i within w.in_default.ensures)
    ]

pub returns : goal.returns
returns c = c.loop-i.invariant ∙ ap places_in (all_taken c.args.members.now c.loop-i.i (omega arith))
