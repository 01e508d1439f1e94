use Rattle.std.proofs.Common.{[], ◌∷◌, ◌++◌, ◌∙◌, ap, arith, map as list_map, sym}
use Rattle.std.proofs.lemmas.List.{map-append}
use Rattle.s80_history.specs.Members.{filled, gaps}
use Rattle.s80_history.proofs.Counting.{all_taken, in_gaps, members_none, members_one}
use Rattle.s80_history.proofs.members.listed.Goals as goal
use Rattle.s80_history.proofs.members.listed.Goals.{in-Some+in_ok-push, in_default}

pub loop-i-preserved : goal.loop-i-preserved
loop-i-preserved c =
    let within = in_gaps c.args.members.now c.loop-i.i c.loop-i-test.true in
    elim c.match-kept.branch [
      | in-Some+in_ok-push w ↦
          ap (λ v. list_map (λ m. m.now) v.items) w.listed-is ∙ ap (list_map (λ m. m.now)) w.in_ok-push.ensures.items ∙ map-append (λ m. m.now) c.loop-i.listed.items (w.in-Some.noted ∷ [])
          ∙ ap (λ ms. ms ++ w.in-Some.noted.now ∷ []) c.loop-i.invariant
          ∙ sym (members_one (gaps c.args.members.now) c.loop-i.i within w.in-Some.noted.now w.in-Some.ensures)
      | in_default w ↦ ap (λ v. list_map (λ m. m.now) v.items) w.listed-is ∙ c.loop-i.invariant ∙ sym (members_none (gaps c.args.members.now) c.loop-i.i within w.in_default.ensures)
    ]

pub returns : goal.returns
returns c = c.loop-i.invariant ∙ ap filled (all_taken c.args.members.now c.loop-i.i (omega arith))
