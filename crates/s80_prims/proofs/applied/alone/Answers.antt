use Rattle.s80_prims.proofs.applied.alone.Goals as goal

pub returns-in-70-clause-ok : goal.returns-in-70-clause-ok
returns-in-70-clause-ok c = rw c.in-70.is c.new_plain.ensures.ok

pub returns-in-132-clause-ok : goal.returns-in-132-clause-ok
returns-in-132-clause-ok c = rw c.in-132.is c.intern.ensures.ok

pub returns-in-133-clause-ok : goal.returns-in-133-clause-ok
returns-in-133-clause-ok c = rw c.in-133.is c.print_string.ensures.ok
