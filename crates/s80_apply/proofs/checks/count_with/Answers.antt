use Rattle.s80_apply.proofs.Looked.{count_there, count_new}
use Rattle.s80_apply.proofs.checks.count_with.Goals as goal

pub returns-in-Some : goal.returns-in-Some
returns-in-Some c = count_there c.args.classes.now.classes c.args.class_name.now _ _ c.in-Some.ensures.found.row c.count.ensures.count

pub returns-in-None : goal.returns-in-None
returns-in-None c = count_new c.args.classes.now.classes c.args.class_name.now _ c.in-None.ensures.found c.count-in-None.ensures.count
