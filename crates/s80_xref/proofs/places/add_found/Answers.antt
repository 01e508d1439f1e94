use Rattle.std.proofs.Common.{◌≡◌, ◌∙◌, ◌≤◌, ◌++◌, [], ◌∷◌, length, Some, sym, ap, arith}
use Rattle.std.specs.Prelude.{slice_get}
use Rattle.std.specs.FinMap as finmap
use Rattle.s80_xref.specs.declared.places.MethodPlace.{MethodPlace}
use Rattle.s80_xref.specs.Links.{is_linked}
use Rattle.s80_xref.specs.Places.{place}
use Rattle.s80_xref.proofs.Taking.{all_passed, none_passes, one_passes}
use Rattle.s80_xref.proofs.places.add_found.Goals as goal
use Rattle.s80_xref.proofs.places.add_found.Goals.{then-is_linked+in_ok-place+in_ok-push, else-is_linked}

pub loop-i-preserved : goal.loop-i-preserved
loop-i-preserved c =
    let methods = c.args.methods.now.methods in
    let selector = c.at-selector.result.now in
    let now = c.loop-i.places in
    let made = place c.args.class_name.now c.args.side in
    let test = is_linked methods c.args.link c.args.word.now in
    let read : slice_get (finmap.keys methods) c.loop-i.i ≡ Some selector = cc (c.at-selector.ensures, c.in_ok-selectors.ensures) in
    elim c.if-is_linked.branch [
      | then-is_linked+in_ok-place+in_ok-push w ↦
          one_passes test made (finmap.keys methods) c.loop-i.i selector c.args.places.now now c.if-is_linked.places read c.loop-i.invariant (sym c.is_linked.ensures ∙ w.if-is_linked.true)
          (w.places-is ∙ w.in_ok-push.ensures.ok ∙ ap (λ (m : MethodPlace). now ++ m ∷ []) w.in_ok-place.ensures)
      | else-is_linked w ↦
          none_passes test made (finmap.keys methods) c.loop-i.i selector c.args.places.now now c.if-is_linked.places read c.loop-i.invariant (sym c.is_linked.ensures ∙ w.if-is_linked.false) w.places-is
    ]

pub returns : goal.returns
returns c =
    let methods = c.args.methods.now.methods in
    let past : length (finmap.keys methods) ≤ c.loop-i.i = omega (arith, c.loop-i-test.false, c.count-i-end.ensures, ap length c.in_ok-selectors.ensures) in
    all_passed (is_linked methods c.args.link c.args.word.now) (place c.args.class_name.now c.args.side) (finmap.keys methods) c.loop-i.i c.args.places.now c.loop-i.places past c.loop-i.invariant
