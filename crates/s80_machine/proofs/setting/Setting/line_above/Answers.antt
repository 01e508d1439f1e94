use Rattle.s80_class.proofs.lemmas.Lookups.{places_above}
use Rattle.s80_machine.proofs.setting.Setting.line_above.Goals as goal

pub returns-clause-class : goal.returns-clause-class
returns-clause-class c = c.at.ensures.superclass

pub returns-clause-places : goal.returns-clause-places
returns-clause-places c = places_above c.args.self.now.classes.now c.requires.ready.known c.args.class c.args.side c.at.result.now c.at.ensures
