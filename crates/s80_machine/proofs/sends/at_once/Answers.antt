use Rattle.std.proofs.Common.{◌∙◌, sym}
use Rattle.s80_machine.proofs.CameAtOnce.{values_wait}
use Rattle.s80_machine.proofs.sends.at_once.Goals as goal

pub returns-then-is_value : goal.returns-then-is_value
returns-then-is_value c = values_wait c.args.on.now.classes.now c.args.objects.now c.args.r c.args.number c.args.arguments.now (sym c.is_value.ensures ∙ c.if-is_value.true)
