use Rattle.s80_mark.specs.declared.slots.Slot.TheVariants.{First, Second}
use Rattle.s80_mark.specs.Mark.{later_open}
use Rattle.s80_mark.proofs.Bytes.{open_in_front}
use Rattle.s80_mark.proofs.laws.mark_stands_in_front.Goals as goal

pub returns : goal.returns
returns c = λ file i. later_open (open_in_front file First i) (open_in_front file Second i)
