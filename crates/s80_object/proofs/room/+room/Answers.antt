use Rattle.std.proofs.Common.{◌∙◌, ◌+◌, ap, sym}
use Rattle.s80_object.proofs.Left.{room_begins, room_goes_on, room_fails, room_ends, subtracted, count_is}
use Rattle.s80_base.specs.Literal.{literals_of}
use Rattle.s80_object.specs.Steps.{left_of, words_in_all}
use Rattle.s80_object.proofs.room.+room.Goals as goal

pub room_behind_array-loop-literal-init : goal.room_behind_array-loop-literal-init
room_behind_array-loop-literal-init t c = room_begins c.args.room c.args.elements.now _ c.deref-literal-items.ensures.value

pub room_behind_array-loop-literal-preserved : goal.room_behind_array-loop-literal-preserved
room_behind_array-loop-literal-preserved t c =
    room_goes_on c.args.room (literals_of c.args.elements.now) c.loop-literal.left c.deref-literal-items.result.now c.loop-literal.literal-index c.literal-item.result
    c.loop-literal-test.true c.literal-item.is c.loop-literal.invariant _ c.in_ok-left.ensures

pub room_behind_array-returns-in_err-left : goal.room_behind_array-returns-in_err-left
room_behind_array-returns-in_err-left t c =
    c.from_residual.ensures ∙ room_fails c.args.room (literals_of c.args.elements.now) c.loop-literal.left c.deref-literal-items.result.now c.loop-literal.literal-index c.literal-item.result
    c.loop-literal-test.true c.literal-item.is c.loop-literal.invariant c.in_err-left.ensures _

pub room_behind_array-returns : goal.room_behind_array-returns
room_behind_array-returns t c =
    subtracted c.loop-literal.left _ c.checked_sub.result c.checked_sub.ensures
    ∙ sym (room_ends c.args.room (literals_of c.args.elements.now) c.loop-literal.left c.deref-literal-items.result.now c.loop-literal.literal-index c.loop-literal-test.false c.loop-literal.invariant _)
    ∙ ap (λ n. left_of c.args.room (words_in_all (literals_of c.args.elements.now) + (2 + n))) (count_is c.args.elements.now _ c.deref-literal-items.ensures.value c.len.result (c.len.ensures ∙ sym c.deref-literal-items.ensures.len))
