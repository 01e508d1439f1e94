use Rattle.s80_merge.proofs.LineKeys.{is_there}
use Rattle.s80_merge.proofs.change_keys.class_named.Goals as goal

pub returns : goal.returns
returns c = is_there c.args.classes.now c.in_ok-number.number c.args.name.now c.at.result.now c.in_ok-number.ensures.found c.at.ensures
