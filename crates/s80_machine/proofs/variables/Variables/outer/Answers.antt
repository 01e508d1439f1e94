use Rattle.std.proofs.Common.{◌∙◌}
use Rattle.s80_machine.proofs.KeptVariables.{found_by_name}
use Rattle.s80_machine.proofs.variables.Variables.outer.Goals as goal

pub returns : goal.returns
returns c = found_by_name c.args.self.now.outer.entries c.bytes.result.now c.args.name.now c.copied.result c.bytes.ensures (c.copied.ensures ∙ c.get.ensures.value)
