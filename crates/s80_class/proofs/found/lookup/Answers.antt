use Rattle.std.proofs.Common.{subst}
use Rattle.s80_class.specs.Lookup.{IsFound, first_found}
use Rattle.s80_class.proofs.lemmas.Lookups.{places_from_class}
use Rattle.s80_class.proofs.found.lookup.Goals as goal

pub returns : goal.returns
returns g c =
    subst (λ places. IsFound (first_found c.args.methods.now c.args.selector.now places) c.lookup_from.result) (places_from_class c.args.classes.now c.args.class c.args.side)
    c.lookup_from.ensures
