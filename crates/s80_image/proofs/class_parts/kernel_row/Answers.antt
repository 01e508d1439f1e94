use Rattle.s80_image.specs.Classes.{kernel_row}
use Rattle.s80_image.proofs.KernelRows.{row_found}
use Rattle.s80_image.proofs.class_parts.kernel_row.Goals as goal

pub returns : goal.returns
unfolding kernel_row
returns c = row_found (λ row. row.now) c.row_among.result c.class_rows.result.now c.args.name.now c.row_among.ensures c.class_rows.ensures
