use Rattle.s80_dict.proofs.Places.{methods_put}
use Rattle.s80_dict.proofs.table.MethodTable.insert.Goals as goal

pub returns-clause-methods : goal.returns-clause-methods
returns-clause-methods g c =
    methods_put c.self.inside.sides.items c.self.inside.spare c.args.self.now c.self.view_is c.args.number c.args.side c.index_mut-sides.result.now c.insert.new.self
    c.requires.number c.index_mut-sides.ensures.value c.args.selector.now c.args.entry c.insert.ensures.put
