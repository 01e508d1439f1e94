use Rattle.s80_base.specs.Literal.{literals_of}
use Rattle.s80_base.proofs.lemmas.LiteralLists.{literals_left}
use Rattle.s80_object.proofs.Left.{RoomGoesOn}
use Rattle.s80_object.proofs.room.+room.Given as goal

abbrev pub invariant-room_behind_array-loop-literal : goal.invariant-room_behind_array-loop-literal
invariant-room_behind_array-loop-literal l = RoomGoesOn l.fn.room (literals_of l.elements) l.left (literals_left l.literal-items l.literal-index)
