use Rattle.s80_image.specs.Classes.{class_of}
use Rattle.s80_snapshot.specs.Resuming.{kernel_class}
use Rattle.s80_snapshot.proofs.PiecesAdded.{all_seen, item_at, seen_added}
use Rattle.s80_snapshot.proofs.class_changes.add_kernel_classes.Goals as goal

pub loop-class-preserved : goal.loop-class-preserved
loop-class-preserved c =
    let xs = c.args.classes.now in
    seen_added kernel_class class_of xs c.args.changes.now c.loop-class.class-index c.class-item.result c.loop-class.changes c.add_kernel_class.new.changes
    (item_at xs c.loop-class.class-index c.class-item.result c.loop-class-test.true c.class-item.is) c.loop-class.invariant c.in_ok-add_kernel_class.ensures

pub returns : goal.returns
returns c = all_seen kernel_class class_of c.args.classes.now c.args.changes.now c.loop-class.class-index c.loop-class.changes c.loop-class-test.false c.loop-class.invariant
