use Rattle.std.proofs.Common.{[], map, ap, ◌∙◌}
use Rattle.s80_image.specs.Classes.{class_of}
use Rattle.s80_snapshot.specs.Resuming.{listed_of}
use Rattle.s80_snapshot.proofs.Grouping.{class_methods}
use Rattle.s80_snapshot.proofs.PiecesAdded.{all_seen, item_at, seen_added}
use Rattle.s80_snapshot.proofs.resumed_methods.listed_methods.Goals as goal

pub loop-class-init : goal.loop-class-init
loop-class-init c = ap (map listed_of) c.new-methods.ensures.items

pub loop-class-preserved : goal.loop-class-preserved
loop-class-preserved c =
    let xs = c.args.classes.now in
    seen_added class_methods class_of xs [] c.loop-class.class-index c.class-item.result (map listed_of c.loop-class.methods.items) (map listed_of c.list_class.new.methods.items)
    (item_at xs c.loop-class.class-index c.class-item.result c.loop-class-test.true c.class-item.is) c.loop-class.invariant c.in_ok-list_class.ensures

pub returns : goal.returns
returns c = all_seen class_methods class_of c.args.classes.now [] c.loop-class.class-index (map listed_of c.loop-class.methods.items) c.loop-class-test.false c.loop-class.invariant
