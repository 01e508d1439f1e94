use Rattle.std.proofs.Common.{◌≤◌, ◌∙◌, ◌++◌, length, map, sym, ap, arith}
use Rattle.std.specs.List.{flat_map}
use Rattle.std.proofs.lemmas.List.Folds.{flat_map-map}
use Rattle.s80_fileout.specs.declared.order.RankedClass.{RankedClass}
use Rattle.s80_fileout.specs.Order.{own_class}
use Rattle.s80_image.specs.Classes.{classes_of}
use Rattle.s80_image.specs.Together.{classes_by_name}
use Rattle.s80_snapshot.proofs.PiecesAdded.{pieces_added}
use Rattle.s80_snapshot.proofs.class_changes.add_own_classes.Goals as goal

pub returns : goal.returns
returns c =
    let classes = classes_by_name (classes_of c.args.classes.now) in
    let before = c.args.changes.now in
    let items = c.deref-class-items.result.now in
    let past : length items ≤ c.loop-class.class-index = omega (arith, c.loop-class-test.false) in
    pieces_added (λ (class : RankedClass). own_class classes class.class_name) items before c.loop-class.class-index c.loop-class.changes past c.loop-class.invariant
    ∙ ap (λ l. before ++ l) (sym (flat_map-map (own_class classes) (λ (class : RankedClass). class.class_name) items)
    ∙ ap (flat_map (own_class classes)) (ap (map (λ (class : RankedClass). class.class_name)) c.deref-class-items.ensures.value ∙ c.in_ok-own.ensures))
