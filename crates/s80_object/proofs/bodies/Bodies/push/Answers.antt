use Rattle.std.proofs.Common.{arith, length, ap}
use Rattle.s80_base.proofs.lemmas.Lists.{length_map}
use Rattle.s80_object.proofs.Words.{few, pushed_counted}
use Rattle.s80_object.specs.Seen.{tree_of}
use Rattle.s80_object.proofs.bodies.Bodies.push.Goals as goal

pub overflow_cast-number : goal.overflow_cast-number
overflow_cast-number c =
    let at_most = few c.self.inside.list.items c.args.self.now c.self.view_is c.self.inside.words _ c.self.invariant c.self.invariant.limit in
    omega (arith, at_most, ap length c.self.view_is, c.len-number.ensures, length_map tree_of c.self.inside.list.items)

pub invariant_of-self-2 : goal.invariant_of-self-2
invariant_of-self-2 c =
    pushed_counted c.self.inside.list.items c.args.self.now c.self.view_is c.args.body c.push.new.self.items c.in_ok-push.ensures.items c.self.inside.words c.cost-cost.result c.self.invariant c.cost-cost.ensures c.requires
