use Rattle.std.proofs.Common.{◌∙◌, ◌++◌, ℕ, [], ◌∷◌, Option, ap}
use Rattle.s80_image.specs.Classes.{class_of, classes_of}
use Rattle.s80_snapshot.specs.Resuming.{superclass_place}
use Rattle.s80_snapshot.proofs.PiecesAdded.{item_at, map_next, map_whole}
use Rattle.s80_snapshot.proofs.ranks.superclasses.Goals as goal

pub loop-class-preserved : goal.loop-class-preserved
loop-class-preserved c =
    let xs = c.args.classes.now in
    let now = c.loop-class.above.items in
    map_next (superclass_place (classes_of xs)) class_of xs c.loop-class.class-index c.class-item.result now c.push.new.self.items
    (item_at xs c.loop-class.class-index c.class-item.result c.loop-class-test.true c.class-item.is) c.loop-class.invariant
    (c.in_ok-push.ensures.items ∙ ap (λ (p : Option ℕ). now ++ p ∷ []) c.superclass_place.ensures)

pub returns : goal.returns
returns c = map_whole (superclass_place (classes_of c.args.classes.now)) class_of c.args.classes.now c.loop-class.class-index c.loop-class.above.items c.loop-class-test.false c.loop-class.invariant
