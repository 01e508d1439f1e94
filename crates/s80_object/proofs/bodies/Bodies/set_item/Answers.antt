use Rattle.s80_object.specs.Objects.{item_put}
use Rattle.s80_object.proofs.Words.{put_at, put_counted, items_keep}
use Rattle.s80_object.proofs.bodies.Bodies.set_item.Goals as goal

pub returns : goal.returns
returns c =
    put_at c.self.inside.list.items c.args.self.now c.self.view_is c.args.n c.in-Some.body.now c.in-Some.ensures.item.3.0 c.in-Some.ensures.value (λ b. item_put b c.args.i c.args.to) c.set_item.new.self c.set_item.result c.set_item.ensures

pub invariant_of-self-2 : goal.invariant_of-self-2
invariant_of-self-2 c =
    put_counted c.self.inside.list.items c.args.self.now c.self.view_is c.args.n c.in-Some.body.now c.in-Some.ensures.item.3.0 c.in-Some.ensures.value (λ b. item_put b c.args.i c.args.to) c.set_item.new.self c.set_item.result c.set_item.ensures
    (items_keep c.args.i c.args.to) c.self.inside.words c.self.invariant
