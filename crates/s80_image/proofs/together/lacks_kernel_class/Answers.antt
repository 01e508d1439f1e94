use Rattle.std.proofs.Common.{◌∙◌}
use Rattle.std.specs.Prelude.{not}
use Rattle.std.specs.FinMap as map
use Rattle.s80_image.specs.Classes.{classes_of}
use Rattle.s80_image.specs.Together.{classes_by_name}
use Rattle.s80_image.proofs.KernelRows.{any_row}
use Rattle.s80_image.proofs.together.lacks_kernel_class.Goals as goal

pub returns : goal.returns
returns c = c.lacks_one_of.ensures ∙ any_row (λ name. not (map.contains_key (classes_by_name (classes_of c.args.classes.now)) name)) c.class_rows.result.now c.class_rows.ensures
