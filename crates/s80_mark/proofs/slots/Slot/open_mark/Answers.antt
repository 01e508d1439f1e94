use Rattle.std.proofs.Common.{arith, rules}
use Rattle.s80_mark.proofs.Bytes.{read_behind}
use Rattle.s80_mark.proofs.slots.Slot.open_mark.Goals as goal

pub returns : goal.returns
returns c = read_behind c.args.file.now c.args.self c.place-place.result _ c.place-place.ensures.place (omega arith) (search rules) c.from_bytes.ensures
