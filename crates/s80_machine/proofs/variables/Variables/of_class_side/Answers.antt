use Rattle.std.proofs.Common.{◌∙◌, ap}
use Rattle.s80_machine.specs.Seen.{held_by_number}
use Rattle.s80_machine.proofs.KeptVariables.{by_number, side_value}
use Rattle.s80_machine.proofs.variables.Variables.of_class_side.Goals as goal

pub returns : goal.returns
returns c =
    let es = c.args.self.now.of_class_sides.entries in
    side_value c.args.self.now c.args.class c.args.place c.copied.result c.ranges.place.fits
    (c.copied.ensures ∙ c.get.ensures.value ∙ by_number es c.class_side_key.result ∙ ap (held_by_number es) c.class_side_key.ensures)
