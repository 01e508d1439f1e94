use Rattle.std.proofs.lemmas.Result.{IfOk-weaker}
use Rattle.s80_change.specs.Blocks.{IsFirstBlock}
use Rattle.s80_change.specs.Fronts.{IsFramedBlock}
use Rattle.s80_change.proofs.FirstBlocks.{first_framed, first_absent}
use Rattle.s80_change.proofs.first.first_block.Goals as goal

pub returns-in-Ok : goal.returns-in-Ok
returns-in-Ok c =
    IfOk-weaker c.framed_block.result (IsFramedBlock c.in-Ok.framing c.in-Ok.length) (IsFirstBlock c.args.bytes.now)
    (λ found is. first_framed c.args.bytes.now c.in-Ok.framing c.in-Ok.length found c.in-Ok.ensures is) c.framed_block.ensures

pub returns-in-Err-Absent : goal.returns-in-Err-Absent
returns-in-Err-Absent c = first_absent c.args.bytes.now (rw c.in-Err-Absent.field-0-is at c.in-Err-Absent.ensures)
