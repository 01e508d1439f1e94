use Rattle.std.proofs.Common.{◌+◌, ◌*◌, refl}
use Rattle.s80_machine.proofs.KeptVariables.{number_put, side_set}
use Rattle.s80_machine.proofs.variables.Variables.set_of_class_side.Goals as goal

pub returns : goal.returns
returns c =
    let old = c.args.self.now in
    side_set old (record { of_classes = old.of_classes; outer = old.outer; of_class_sides = c.insert.new.self }) c.args.class c.args.place c.args.value c.ranges.place.fits refl refl
    (number_put old.of_class_sides.entries c.insert.new.self.entries c.class_side_key.result (c.args.class * 256 + c.args.place) c.args.value c.class_side_key.ensures c.in_ok-insert.ensures.entries)
