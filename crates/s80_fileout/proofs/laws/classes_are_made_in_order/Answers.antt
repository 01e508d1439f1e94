use Rattle.std.proofs.Common.{sym}
use Rattle.s80_fileout.proofs.Made.{kernel_pieces, own_pieces}
use Rattle.s80_fileout.proofs.laws.classes_are_made_in_order.Goals as goal

pub returns-clause-kernel : goal.returns-clause-kernel
returns-clause-kernel c = λ state. sym (kernel_pieces state)

pub returns-clause-own : goal.returns-clause-own
returns-clause-own c = λ state. sym (own_pieces state)
