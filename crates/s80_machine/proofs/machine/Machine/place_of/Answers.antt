use Rattle.std.proofs.Common.{◌∙◌, Some, ap, slice_get}
use Rattle.s80_machine.specs.Came.{given_of}
use Rattle.s80_machine.proofs.CameClasses.{place_class, place_is}
use Rattle.s80_machine.proofs.machine.Machine.place_of.Goals as goal

pub returns-clause-class : goal.returns-clause-class
returns-clause-class c =
    let methods = c.args.self.now.methods in
    place_class (given_of c.args.on.now) c.requires.setting methods c.args.method (Some c.unwrap_or.result) c.requires.given
    (ap (λ p. Some p) c.unwrap_or.ensures
    ∙ place_is c.args.on.now.classes.now c.args.on.now.kernel.undefined_object c.requires.ready.numbers.undefined_object (slice_get methods c.args.method) c.in_ok-activated.activated c.in_ok-activated.ensures)
