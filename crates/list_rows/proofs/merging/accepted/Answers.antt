use Rattle.list_rows.proofs.merging.accepted.Goals as goal

pub returns : goal.returns
returns c = c.in-Ok.ensures.plan c.requires
