use Rattle.std.proofs.Common.{refl}
use Rattle.std.proofs.lemmas.Result.{on_ok_weaker}
use Rattle.s80_machine.proofs.KeptVariables.{outer_set}
use Rattle.s80_machine.proofs.variables.Variables.set_outer.Goals as goal

pub returns : goal.returns
returns c =
    let old = c.args.self.now in
    on_ok_weaker c.set_named.result
    (λ put. outer_set old (record { of_classes = old.of_classes; outer = c.set_named.new.variables; of_class_sides = old.of_class_sides }) c.args.name.now c.args.value refl refl put) c.set_named.ensures
