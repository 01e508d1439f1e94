use Rattle.s80_code.proofs.lemmas.SpecialLemmas.{arguments_past, arguments_there}
use Rattle.s80_code.proofs.special.special_arguments.Goals as goal

pub returns-in-Some : goal.returns-in-Some
returns-in-Some c =
    arguments_there c.special_messages.result.now c.from.result c.args.number c.in-Some.message.now c.special_messages.ensures.rows c.from.ensures c.in-Some.ensures.lookup.3.0 c.in-Some.ensures.lookup.1

pub returns-in-None : goal.returns-in-None
returns-in-None c = arguments_past c.special_messages.result.now c.from.result c.args.number c.special_messages.ensures.count c.from.ensures c.in-None.ensures.lookup.3
