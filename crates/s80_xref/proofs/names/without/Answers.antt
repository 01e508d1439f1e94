use Rattle.std.proofs.Common.{◌≤◌, ◌∙◌, ◌++◌, [], ◌∷◌, List, ℕ, length, not, sym, ap, subst, arith}
use Rattle.std.specs.List.{Contains, list_any}
use Rattle.std.specs.Str.{bytes_eq}
use Rattle.s80_xref.specs.Places.{AreNames}
use Rattle.s80_xref.proofs.NameLists.{kept_are, lacks}
use Rattle.s80_xref.proofs.Taking.{all_passed, none_passes, one_passes}
use Rattle.s80_xref.proofs.names.without.Goals as goal
use Rattle.s80_xref.proofs.names.without.Goals.{then-not-contains+in_ok-copy+in_ok-push, else-not-contains}

pub loop-i-preserved : goal.loop-i-preserved
loop-i-preserved c =
    let others = c.args.others.now in
    let word = c.at-word.result.now in
    let now = c.loop-i.names in
    elim c.if-not-contains.branch [
      | then-not-contains+in_ok-copy+in_ok-push w ↦
          one_passes (λ v. not (list_any (bytes_eq v) others)) (λ v. v) c.in_ok-all.all c.loop-i.i word [] now c.if-not-contains.names c.at-word.ensures c.loop-i.invariant (ap not (sym c.contains.ensures ∙ w.if-not-contains.true))
          (w.names-is ∙ w.in_ok-push.ensures.ok ∙ ap (λ (t : List ℕ). now ++ t ∷ []) w.in_ok-copy.ensures)
      | else-not-contains w ↦
          none_passes (λ v. not (list_any (bytes_eq v) others)) (λ v. v) c.in_ok-all.all c.loop-i.i word [] now c.if-not-contains.names c.at-word.ensures c.loop-i.invariant (ap not (sym c.contains.ensures ∙ w.if-not-contains.false)) w.names-is
    ]

pub returns : goal.returns
returns c =
    let others = c.args.others.now in
    let past : length c.in_ok-all.all ≤ c.loop-i.i = omega (arith, c.loop-i-test.false, c.count-i-end.ensures) in
    let all = all_passed (λ v. not (list_any (bytes_eq v) others)) (λ v. v) c.in_ok-all.all c.loop-i.i [] c.loop-i.names past c.loop-i.invariant in
    subst (λ (ws : List (List ℕ)). AreNames (λ w. Contains ws w × (Contains others w → ⊥)) c.loop-i.names) c.in_ok-all.ensures.same
    (kept_are (λ v. not (list_any (bytes_eq v) others)) (λ w. Contains others w → ⊥) c.in_ok-all.all c.loop-i.names c.in_ok-all.ensures.ascending all (lacks others))
