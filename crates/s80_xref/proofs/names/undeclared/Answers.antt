use Rattle.std.proofs.Common.{◌≤◌, ◌∙◌, ◌++◌, [], ◌∷◌, List, ℕ, length, not, sym, ap, arith}
use Rattle.s80_xref.specs.Undeclared.{is_declared}
use Rattle.s80_xref.proofs.NameLists.{undeclared_are}
use Rattle.s80_xref.proofs.Taking.{all_passed, none_passes, one_passes}
use Rattle.s80_xref.proofs.names.undeclared.Goals as goal
use Rattle.s80_xref.proofs.names.undeclared.Goals.{then-not-is_declared+in_ok-copy+in_ok-push, else-not-is_declared}

pub loop-i-preserved : goal.loop-i-preserved
loop-i-preserved c =
    let classes = c.args.system.now.table.classes in
    let name = c.at-name.result.now in
    let now = c.loop-i.names in
    elim c.if-not-is_declared.branch [
      | then-not-is_declared+in_ok-copy+in_ok-push w ↦
          one_passes (λ v. not (is_declared classes v)) (λ v. v) c.in_ok-referred.referred c.loop-i.i name [] now c.if-not-is_declared.names c.at-name.ensures c.loop-i.invariant (ap not (sym c.is_declared.ensures ∙ w.if-not-is_declared.true))
          (w.names-is ∙ w.in_ok-push.ensures.ok ∙ ap (λ (t : List ℕ). now ++ t ∷ []) w.in_ok-copy.ensures)
      | else-not-is_declared w ↦
          none_passes (λ v. not (is_declared classes v)) (λ v. v) c.in_ok-referred.referred c.loop-i.i name [] now c.if-not-is_declared.names c.at-name.ensures c.loop-i.invariant (ap not (sym c.is_declared.ensures ∙ w.if-not-is_declared.false)) w.names-is
    ]

pub returns : goal.returns
returns c = λ state is.
    let classes = c.args.system.now.table.classes in
    let past : length c.in_ok-referred.referred ≤ c.loop-i.i = omega (arith, c.loop-i-test.false, c.count-i-end.ensures) in
    undeclared_are c.args.system.now state is c.in_ok-linked_words.field-0 c.in_ok-referred.referred c.loop-i.names (c.in_ok-linked_words.ensures state is) c.in_ok-referred.ensures.same c.in_ok-referred.ensures.ascending
    (all_passed (λ v. not (is_declared classes v)) (λ v. v) c.in_ok-referred.referred c.loop-i.i [] c.loop-i.names past c.loop-i.invariant)
