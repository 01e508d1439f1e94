use Rattle.std.proofs.Common.{ap}
use Rattle.s80_dict.specs.Table.{on_side}
use Rattle.s80_dict.proofs.Places.{one_added}
use Rattle.s80_dict.proofs.table.MethodTable.add.Goals as goal

pub returns-clause-methods : goal.returns-clause-methods
returns-clause-methods g c = λ n s. rw (c.push_reserved.ensures.items, ← c.self.view_is, c.empty.ensures) (ap (λ x. (on_side x s).methods) (one_added c.self.inside.sides.items n))

pub returns-clause-room : goal.returns-clause-room
returns-clause-room g c = λ n s. rw (c.push_reserved.ensures.items, ← c.self.view_is, c.empty.ensures) (ap (λ x. (on_side x s).room) (one_added c.self.inside.sides.items n))
