use Rattle.std.proofs.Common.{◌∙◌}
use Rattle.s80_kernel.proofs.Named.{named_in_kernel}
use Rattle.s80_kernel.proofs.rows.is_kernel_class.Goals as goal

pub returns : goal.returns
returns c = c.has_name.ensures ∙ named_in_kernel c.class_rows.result.now c.args.name.now c.class_rows.ensures
