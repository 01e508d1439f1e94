use Rattle.s80_dict.proofs.Places.{methods_taken}
use Rattle.s80_dict.proofs.table.MethodTable.remove.Goals as goal

pub returns-clause-methods : goal.returns-clause-methods
returns-clause-methods g c =
    methods_taken c.self.inside.sides.items c.self.inside.spare c.args.self.now c.self.view_is c.args.number c.args.side c.index_mut-sides.result.now c.remove.new.self
    c.requires c.index_mut-sides.ensures.value c.args.selector.now c.remove.ensures.taken
