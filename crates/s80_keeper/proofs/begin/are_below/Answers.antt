use Rattle.s80_keeper.proofs.Below.{also_below}
use Rattle.s80_keeper.proofs.begin.are_below.Goals as goal

pub returns-then-members_are_below : goal.returns-then-members_are_below
returns-then-members_are_below c =
    also_below c.args.position c.args.image.now c.members_are_below.result c.versions_are_below.result c.deref.result.now c.deref-then-members_are_below.result.now c.deref.ensures.value c.deref-then-members_are_below.ensures.value
    c.members_are_below.ensures c.if-members_are_below.true c.versions_are_below.ensures
