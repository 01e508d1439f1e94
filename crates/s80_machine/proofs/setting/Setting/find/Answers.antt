use Rattle.std.proofs.Common.{subst}
use Rattle.s80_class.specs.Lookup.{first_found, IsFound}
use Rattle.s80_class.proofs.lemmas.Lookups.{places_from_class}
use Rattle.s80_machine.proofs.setting.Setting.find.Goals as goal

pub returns : goal.returns
returns c =
    subst (λ places. IsFound (first_found c.args.self.now.methods.now c.args.selector.now places) c.find_along.result) (places_from_class c.args.self.now.classes.now c.args.class c.args.side)
    c.find_along.ensures
