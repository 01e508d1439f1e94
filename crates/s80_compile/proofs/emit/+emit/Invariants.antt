use Rattle.std.proofs.Common.{◌+◌}
use Rattle.s80_code.specs.Entries.{entries_of}
use Rattle.s80_core.specs.Core.{core_of, cores_of, send_of, sends_of}
use Rattle.s80_compile.specs.Emitted.{AllGoOn, SendsGoOn}
use Rattle.s80_compile.proofs.GoingMore.{sends_left}
use Rattle.s80_compile.proofs.OpenArms.{weight, weight_all, weight_sends}
use Rattle.s80_compile.proofs.OpenCore.{cores_left}
use Rattle.s80_compile.proofs.emit.+emit.Given as goal

abbrev pub decreases-emit : goal.decreases-emit
decreases-emit l = weight (core_of l.core.now)

abbrev pub decreases-apart : goal.decreases-apart
decreases-apart l = 1 + weight (core_of l.core.now)

abbrev pub decreases-assign : goal.decreases-assign
decreases-assign l = 2 + weight (core_of l.value.now)

abbrev pub decreases-value : goal.decreases-value
decreases-value l = 2 + weight (core_of l.inner.now)

abbrev pub decreases-sent : goal.decreases-sent
decreases-sent l = 2 + weight (core_of l.receiver.now) + weight_all (send_of l.message.now).1

abbrev pub decreases-cascade : goal.decreases-cascade
decreases-cascade l = 2 + weight (core_of l.receiver.now) + weight_sends (sends_of l.messages.now)

abbrev pub decreases-real_block : goal.decreases-real_block
decreases-real_block l = 2 + weight (core_of l.body.now)

abbrev pub decreases-two_arms : goal.decreases-two_arms
decreases-two_arms l = 3 + weight (core_of l.condition.now) + weight (core_of l.first.now) + weight (core_of l.second.now)

abbrev pub decreases-arm_value : goal.decreases-arm_value
decreases-arm_value l = 3 + weight (core_of l.condition.now) + weight (core_of l.arm.now)

abbrev pub decreases-arm_effect : goal.decreases-arm_effect
decreases-arm_effect l = 3 + weight (core_of l.condition.now) + weight (core_of l.arm.now)

abbrev pub decreases-shortcut : goal.decreases-shortcut
decreases-shortcut l = 3 + weight (core_of l.condition.now) + weight (core_of l.arm.now)

abbrev pub decreases-repeat : goal.decreases-repeat
decreases-repeat l = 3 + weight (core_of l.condition.now) + weight (core_of l.body.now)

abbrev pub decreases-before : goal.decreases-before
decreases-before l = 2 + weight (core_of l.first.now) + weight (core_of l.second.now)

abbrev pub decreases-answer : goal.decreases-answer
decreases-answer l = 2 + weight (core_of l.value.now)

abbrev pub decreases-leave : goal.decreases-leave
decreases-leave l = 2 + weight (core_of l.value.now)

abbrev pub decreases-emit_message : goal.decreases-emit_message
decreases-emit_message l = 1 + weight_all (send_of l.message.now).1

abbrev pub decreases-arguments : goal.decreases-arguments
decreases-arguments l = weight_all (cores_of l.arguments.now)

abbrev pub decreases-emit_messages : goal.decreases-emit_messages
decreases-emit_messages l = weight_sends (sends_of l.messages.now)

abbrev pub invariant-arguments-loop-argument : goal.invariant-arguments-loop-argument
invariant-arguments-loop-argument l =
    AllGoOn (cores_of l.arguments) (cores_left l.argument-items l.argument-index) (entries_of l.fn.frame) (entries_of l.frame) l.fn.code l.code

abbrev pub invariant-emit_messages-loop-message : goal.invariant-emit_messages-loop-message
invariant-emit_messages-loop-message l =
    SendsGoOn l.to_super (sends_of l.messages) (sends_left l.before l.last l.message-index) (entries_of l.fn.frame) (entries_of l.frame) l.fn.code l.code
