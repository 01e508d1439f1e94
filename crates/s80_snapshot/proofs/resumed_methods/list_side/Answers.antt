use Rattle.std.proofs.Common.{refl, map}
use Rattle.s80_snapshot.specs.Resuming.{listed_of}
use Rattle.s80_snapshot.proofs.ListingMethods.{method_listed, methods_listed}
use Rattle.s80_snapshot.proofs.PiecesAdded.{item_at}
use Rattle.s80_snapshot.proofs.resumed_methods.list_side.Goals as goal

pub loop-method-preserved : goal.loop-method-preserved
loop-method-preserved c =
    let xs = c.args.on_side.now in
    method_listed c.args.class_name.now c.args.side xs (map listed_of c.args.methods.now.items) c.loop-method.method-index c.method-item.result _ c.loop-method.methods.items c.push.new.self.items
    (item_at xs c.loop-method.method-index c.method-item.result c.loop-method-test.true c.method-item.is) refl c.loop-method.invariant c.in_ok-push.ensures.items

pub returns : goal.returns
returns c =
    methods_listed c.args.class_name.now c.args.side c.args.on_side.now (map listed_of c.args.methods.now.items) c.loop-method.method-index c.loop-method.methods.items c.loop-method-test.false c.loop-method.invariant
