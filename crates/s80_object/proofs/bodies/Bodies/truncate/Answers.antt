use Rattle.s80_object.proofs.Words.{cut, cut_counted}
use Rattle.s80_object.proofs.bodies.Bodies.truncate.Goals as goal

pub returns : goal.returns
returns c = cut c.self.inside.list.items c.args.self.now c.self.view_is c.args.count c.truncate.new.self.items c.truncate.ensures.items

pub invariant_of-self : goal.invariant_of-self
invariant_of-self c = cut_counted c.self.inside.list.items c.args.self.now c.self.view_is c.args.count c.truncate.new.self.items c.truncate.ensures.items c.args.words c.self.inside.words c.self.invariant c.requires
