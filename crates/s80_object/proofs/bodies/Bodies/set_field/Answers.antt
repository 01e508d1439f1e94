use Rattle.s80_object.specs.Objects.{field_put}
use Rattle.s80_object.proofs.Words.{put_at, put_counted, fields_keep}
use Rattle.s80_object.proofs.bodies.Bodies.set_field.Goals as goal

pub returns : goal.returns
returns c =
    put_at c.self.inside.list.items c.args.self.now c.self.view_is c.args.n c.in-Some.body.now c.in-Some.ensures.item.3.0 c.in-Some.ensures.value (λ b. field_put b c.args.i c.args.to) c.set_field.new.self c.set_field.result c.set_field.ensures

pub invariant_of-self-2 : goal.invariant_of-self-2
invariant_of-self-2 c =
    put_counted c.self.inside.list.items c.args.self.now c.self.view_is c.args.n c.in-Some.body.now c.in-Some.ensures.item.3.0 c.in-Some.ensures.value (λ b. field_put b c.args.i c.args.to) c.set_field.new.self c.set_field.result c.set_field.ensures
    (fields_keep c.args.i c.args.to) c.self.inside.words c.self.invariant
