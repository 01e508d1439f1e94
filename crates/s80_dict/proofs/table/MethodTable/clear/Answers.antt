use Rattle.s80_base.specs.declared.names.Side.TheVariants.{Instance}
use Rattle.s80_dict.proofs.Places.{dicts_cleared}
use Rattle.s80_dict.proofs.table.MethodTable.clear.Goals as goal

pub returns-clause-dicts : goal.returns-clause-dicts
returns-clause-dicts g c =
    dicts_cleared c.self.inside.sides.items c.self.inside.spare c.args.self.now c.self.view_is c.args.number Instance c.index_mut-sides.result.now c.clear.new.self
    c.requires c.index_mut-sides.ensures.value c.clear.ensures
