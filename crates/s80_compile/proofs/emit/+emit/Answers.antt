use Rattle.std.proofs.Common.{◌≡◌, ℕ, ◌+◌, ◌<◌, [], length, arith, sym, ◌∙◌, pos, List, ◌++◌, ap, subst, w32, to_z, of_z, rules}
use Rattle.std.proofs.lemmas.Result.{on_ok_weaker}
use Rattle.s80_code.specs.Entries.{entries_of}
use Rattle.s80_scope.specs.declared.fit.position.Position.TheVariants.{Value, Effect}
use Rattle.s80_core.specs.Core.{core_of, cores_of, no_sends, send_of, sends_of, variable_of}
use Rattle.s80_core.specs.Measures.{size, constant_entries, entries}
use Rattle.s80_compile.specs.Emitted.{CoreRow, AddsFar, AddsTakes, HasRoom, constant_width, AddsNil, Adds}
use Rattle.s80_core.specs.declared.core_tree.CoreMessage.{out-CoreMessage}
use Rattle.s80_core.specs.declared.core_tree.Cores.{out-Cores}
use Rattle.s80_compile.proofs.OpenArms.{weight, weight_all, weight_sends, message_weight}
use Rattle.s80_compile.proofs.OpenCore.{cores_left, cores_next, cores_done}
use Rattle.std.proofs.lemmas.Int.{to_z-of_z}
use mir.Val.{SFits}
use Rattle.s80_base.specs.Literal.{LiteralTree, literal_of, small}
use Rattle.s80_base.specs.declared.literal.Literal.TheVariants.{Small}
use Rattle.s80_compile.proofs.Firsts.{room_first}
use Rattle.s80_compile.proofs.MadeArms.{count_there, small_open, shortcut_made, number_there}
use Rattle.s80_compile.proofs.Parts.{CountRow}
use Rattle.s80_compile.specs.Rows.{jump_unless, shortcut_number}
use Rattle.s80_code.specs.declared.instruction.Instruction.TheVariants.{PushFixed}
use Rattle.s80_compile.proofs.emit.+emit.Goals.{shortcut-then-on, shortcut-else-on}
use Rattle.s80_compile.proofs.Fitting as fit
use Rattle.s80_compile.proofs.Made as made
use Rattle.s80_compile.proofs.Going as going
use Rattle.s80_compile.proofs.GoingMore as more
use Rattle.s80_compile.proofs.emit.+emit.Goals as goal

pub assign-emit-requires : goal.assign-emit-requires
assign-emit-requires t c = (omega (arith, c.decreases), fit.assign_value (entries_of c.args.frame.now) (entries_of c.args.frame.now) (CoreRow (core_of c.args.value.now) Value) 0 [] [] (variable_of c.args.variable.now) (core_of c.args.value.now) c.args.position c.requires)

pub assign-returns : goal.assign-returns
assign-returns t c = on_ok_weaker c.store_into.result (made.assign_made (entries_of c.args.frame.now) (entries_of c.emit.new.frame) (entries_of c.store_into.new.frame) (entries_of c.store_into.new.frame) c.args.code.now c.emit.new.code c.store_into.new.code c.store_into.new.code c.args.position (variable_of c.args.variable.now) (core_of c.args.value.now) c.in_ok-emit.ensures) c.store_into.ensures

pub value-emit-requires : goal.value-emit-requires
value-emit-requires t c = (omega (arith, c.decreases), fit.value_part (entries_of c.args.frame.now) (entries_of c.args.frame.now) (CoreRow (core_of c.args.inner.now) Value) 0 [] [] (core_of c.args.inner.now) c.args.position c.requires)

pub value-returns : goal.value-returns
value-returns t c = on_ok_weaker c.end.result (made.value_made (entries_of c.args.frame.now) (entries_of c.emit.new.frame) (entries_of c.emit.new.frame) (entries_of c.emit.new.frame) c.args.code.now c.emit.new.code c.end.new.code c.end.new.code c.args.position (core_of c.args.inner.now) c.in_ok-emit.ensures) c.end.ensures

pub sent-emit-requires : goal.sent-emit-requires
sent-emit-requires t c = (omega (arith, c.decreases), fit.sent_receiver (entries_of c.args.frame.now) (entries_of c.args.frame.now) (CoreRow (core_of c.args.receiver.now) Value) 0 [] [] (core_of c.args.receiver.now) c.args.to_super (send_of c.args.message.now).0 (send_of c.args.message.now).1 c.args.position c.requires)

pub sent-emit_message-requires : goal.sent-emit_message-requires
sent-emit_message-requires t c = (omega (arith, c.decreases), fit.sent_message (entries_of c.args.frame.now) (entries_of c.emit.new.frame) (CoreRow (core_of c.args.receiver.now) Value) (size Value (core_of c.args.receiver.now)) c.args.code.now c.emit.new.code (core_of c.args.receiver.now) c.args.to_super (send_of c.args.message.now).0 (send_of c.args.message.now).1 c.args.position c.requires c.in_ok-emit.ensures)

pub sent-returns : goal.sent-returns
sent-returns t c = on_ok_weaker c.end.result (made.sent_made (entries_of c.args.frame.now) (entries_of c.emit.new.frame) (entries_of c.emit_message.new.frame) (entries_of c.emit_message.new.frame) c.args.code.now c.emit.new.code c.emit_message.new.code c.end.new.code c.args.position (core_of c.args.receiver.now) c.args.to_super (send_of c.args.message.now) c.in_ok-emit.ensures c.in_ok-emit_message.ensures) c.end.ensures

pub cascade-emit-requires : goal.cascade-emit-requires
cascade-emit-requires t c =
    let own : 2 + weight (core_of c.args.receiver.now) + weight_sends (sends_of c.args.messages.now) ≡ t = c.decreases in
    let down : weight (core_of c.args.receiver.now) < t = omega (arith, own) in
    (down, fit.cascade_receiver (entries_of c.args.frame.now) (entries_of c.args.frame.now) (CoreRow (core_of c.args.receiver.now) Value) 0 [] [] (core_of c.args.receiver.now) c.args.to_super (sends_of c.args.messages.now) c.args.position c.requires)

pub cascade-emit_messages-requires : goal.cascade-emit_messages-requires
cascade-emit_messages-requires t c =
    let own : 2 + weight (core_of c.args.receiver.now) + weight_sends (sends_of c.args.messages.now) ≡ t = c.decreases in
    let down : weight_sends (sends_of c.args.messages.now) < t = omega (arith, own) in
    (down, fit.cascade_messages (entries_of c.args.frame.now) (entries_of c.emit.new.frame) (CoreRow (core_of c.args.receiver.now) Value) (size Value (core_of c.args.receiver.now)) c.args.code.now c.emit.new.code (core_of c.args.receiver.now) c.args.to_super (sends_of c.args.messages.now) c.args.position c.requires c.in_ok-emit.ensures)

pub cascade-returns : goal.cascade-returns
cascade-returns t c = on_ok_weaker c.end.result (made.cascade_made (entries_of c.args.frame.now) (entries_of c.emit.new.frame) (entries_of c.emit_messages.new.frame) (entries_of c.emit_messages.new.frame) c.args.code.now c.emit.new.code c.emit_messages.new.code c.end.new.code c.args.position (core_of c.args.receiver.now) c.args.to_super (sends_of c.args.messages.now) c.in_ok-emit.ensures c.in_ok-emit_messages.ensures) c.end.ensures

pub before-emit-requires : goal.before-emit-requires
before-emit-requires t c = (omega (arith, c.decreases), fit.before_first (entries_of c.args.frame.now) (entries_of c.args.frame.now) (CoreRow (core_of c.args.first.now) Value) 0 [] [] (core_of c.args.first.now) (core_of c.args.second.now) c.args.position c.requires)

pub before-emit-requires-2 : goal.before-emit-requires-2
before-emit-requires-2 t c = (omega (arith, c.decreases), fit.before_second (entries_of c.args.frame.now) (entries_of c.emit.new.frame) (CoreRow (core_of c.args.first.now) Effect) (size Effect (core_of c.args.first.now)) c.args.code.now c.emit.new.code (core_of c.args.first.now) (core_of c.args.second.now) c.args.position c.requires c.in_ok-emit.ensures)

pub before-returns : goal.before-returns
before-returns t c = on_ok_weaker c.emit-2.result (made.before_made (entries_of c.args.frame.now) (entries_of c.emit.new.frame) (entries_of c.emit-2.new.frame) (entries_of c.emit-2.new.frame) c.args.code.now c.emit.new.code c.emit-2.new.code c.emit-2.new.code c.args.position (core_of c.args.first.now) (core_of c.args.second.now) c.in_ok-emit.ensures) c.emit-2.ensures

pub answer-emit-requires : goal.answer-emit-requires
answer-emit-requires t c = (omega (arith, c.decreases), fit.answer_value (entries_of c.args.frame.now) (entries_of c.args.frame.now) (CoreRow (core_of c.args.value.now) Value) 0 [] [] (core_of c.args.value.now) c.args.position c.requires)

pub answer-returns : goal.answer-returns
answer-returns t c = on_ok_weaker c.return_top.result (made.answer_made (entries_of c.args.frame.now) (entries_of c.emit.new.frame) (entries_of c.emit.new.frame) (entries_of c.emit.new.frame) c.args.code.now c.emit.new.code c.return_top.new.code c.return_top.new.code c.args.position (core_of c.args.value.now) c.in_ok-emit.ensures) c.return_top.ensures

pub leave-emit-requires : goal.leave-emit-requires
leave-emit-requires t c = (omega (arith, c.decreases), fit.leave_value (entries_of c.args.frame.now) (entries_of c.args.frame.now) (CoreRow (core_of c.args.value.now) Value) 0 [] [] (core_of c.args.value.now) c.args.position c.requires)

pub leave-returns : goal.leave-returns
leave-returns t c = on_ok_weaker c.return_from_block.result (made.leave_made (entries_of c.args.frame.now) (entries_of c.emit.new.frame) (entries_of c.emit.new.frame) (entries_of c.emit.new.frame) c.args.code.now c.emit.new.code c.return_from_block.new.code c.return_from_block.new.code c.args.position (core_of c.args.value.now) c.in_ok-emit.ensures) c.return_from_block.ensures

pub assign-store_into-requires-clause-room : goal.assign-store_into-requires-clause-room
assign-store_into-requires-clause-room t c = fit.assign_room (entries_of c.args.frame.now) (entries_of c.emit.new.frame) (CoreRow (core_of c.args.value.now) Value) (size Value (core_of c.args.value.now)) c.args.code.now c.emit.new.code (variable_of c.args.variable.now) (core_of c.args.value.now) c.args.position c.requires c.in_ok-emit.ensures

pub emit_message-arguments-requires : goal.emit_message-arguments-requires
emit_message-arguments-requires t c =
    let same = message_weight c.args.message.now in
    (omega (arith, c.decreases, same), more.arguments_fit (entries_of c.args.frame.now) [] [] [] c.args.to_super c.args.message.now c.requires)

pub emit_message-overflow_cast-count : goal.emit_message-overflow_cast-count
emit_message-overflow_cast-count t c =
    let few = more.few_arguments (entries_of c.args.frame.now) [] [] [] c.args.to_super c.args.message.now c.requires in
    omega (arith, few, c.len-count.ensures)

pub emit_message-send_selector-requires : goal.emit_message-send_selector-requires
emit_message-send_selector-requires t c = more.selector_room (entries_of c.args.frame.now) (entries_of c.arguments.new.frame) c.args.code.now c.arguments.new.code c.args.to_super c.args.message.now c.requires c.in_ok-arguments.ensures

pub emit_message-returns : goal.emit_message-returns
emit_message-returns t c =
    let same : c.len-count.result ≡ length (out-Cores (out-CoreMessage c.args.message.now).arguments).items.items = omega (arith, c.len-count.ensures) in
    on_ok_weaker c.send_selector.result (more.message_emitted c.args.to_super c.args.message.now c.len-count.result (entries_of c.args.frame.now) (entries_of c.arguments.new.frame) (entries_of c.send_selector.new.frame) c.args.code.now c.arguments.new.code c.send_selector.new.code same c.in_ok-arguments.ensures) c.send_selector.ensures

pub arguments-emit-requires : goal.arguments-emit-requires
arguments-emit-requires t c =
    let xs = c.deref-argument-items.result.now in
    let i = c.loop-argument.argument-index in
    let x = c.argument-item.result in
    let lighter = more.one_lighter c.args.arguments.now xs i x c.deref-argument-items.ensures.value c.loop-argument-test.true c.argument-item.is in
    (omega (arith, c.decreases, lighter), going.next_fits (cores_of c.args.arguments.now) (cores_left xs i) (cores_left xs (i + 1)) (core_of x) (entries_of c.args.frame.now) (entries_of c.loop-argument.frame) c.args.code.now c.loop-argument.code (cores_next xs i x c.loop-argument-test.true c.argument-item.is) c.loop-argument.invariant)

pub arguments-loop-argument-preserved : goal.arguments-loop-argument-preserved
arguments-loop-argument-preserved t c =
    let xs = c.deref-argument-items.result.now in
    let i = c.loop-argument.argument-index in
    let x = c.argument-item.result in
    going.all_next (cores_of c.args.arguments.now) (cores_left xs i) (cores_left xs (i + 1)) (core_of x) (entries_of c.args.frame.now) (entries_of c.loop-argument.frame) (entries_of c.emit.new.frame) c.args.code.now c.loop-argument.code c.emit.new.code (cores_next xs i x c.loop-argument-test.true c.argument-item.is) c.loop-argument.invariant c.in_ok-emit.ensures

pub arguments-returns : goal.arguments-returns
arguments-returns t c =
    let xs = c.deref-argument-items.result.now in
    let i = c.loop-argument.argument-index in
    going.all_done (cores_of c.args.arguments.now) (cores_left xs i) (entries_of c.args.frame.now) (entries_of c.loop-argument.frame) c.args.code.now c.loop-argument.code (cores_done xs i c.loop-argument-test.false) c.loop-argument.invariant

pub emit_messages-returns-in_default : goal.emit_messages-returns-in_default
emit_messages-returns-in_default t c = going.none_sent c.args.to_super (sends_of c.args.messages.now) (entries_of c.args.frame.now) c.args.code.now (more.no_messages c.args.messages.now c.deref.result.now c.deref.ensures.value c.in_default.ensures.cases)

pub emit_messages-loop-message-init : goal.emit_messages-loop-message-init
emit_messages-loop-message-init t c =
    let all = sym c.deref.ensures.value ∙ c.in-Some.ensures.cases.0 in
    going.sends_begun c.args.to_super (sends_of c.args.messages.now) (more.sends_left c.in-Some.before.now c.in-Some.last.now 0) (entries_of c.args.frame.now) c.args.code.now (more.whole_sends c.args.messages.now c.in-Some.before.now c.in-Some.last.now all) c.requires

pub emit_messages-emit_message-requires : goal.emit_messages-emit_message-requires
emit_messages-emit_message-requires t c =
    let xs = c.in-Some.before.now in
    let y = c.in-Some.last.now in
    let i = c.loop-message.message-index in
    let x = c.message-item.result in
    let split = more.sends_next xs y i x c.loop-message-test.true c.message-item.is in
    let lighter = more.message_lighter c.args.messages.now xs y i (send_of x) (more.sends_left xs y (i + 1)) (sym c.deref.ensures.value ∙ c.in-Some.ensures.cases.0) split in
    let own : weight_sends (sends_of c.args.messages.now) ≡ t = c.decreases in
    let down : 1 + weight_all (send_of x).1 < t = omega (arith, own, lighter) in
    (down, going.message_fits c.args.to_super (sends_of c.args.messages.now) (more.sends_left xs y i) (more.sends_left xs y (i + 1)) (send_of x) (entries_of c.args.frame.now) (entries_of c.loop-message.frame) c.args.code.now c.loop-message.code split c.loop-message.invariant)

pub emit_messages-loop-message-preserved : goal.emit_messages-loop-message-preserved
emit_messages-loop-message-preserved t c =
    more.one_sent c.args.to_super (sends_of c.args.messages.now) c.in-Some.before.now c.in-Some.last.now c.loop-message.message-index c.message-item.result (entries_of c.args.frame.now) (entries_of c.loop-message.frame) (entries_of c.emit_message.new.frame)
    c.args.code.now c.loop-message.code c.duplicate.new.code c.emit_message.new.code c.pop.new.code c.loop-message-test.true c.message-item.is c.loop-message.invariant c.in_ok-duplicate.ensures c.in_ok-emit_message.ensures c.in_ok-pop.ensures

pub emit_messages-emit_message-requires-2 : goal.emit_messages-emit_message-requires-2
emit_messages-emit_message-requires-2 t c =
    let xs = c.in-Some.before.now in
    let y = c.in-Some.last.now in
    let i = c.loop-message.message-index in
    let split = more.sends_last xs y i c.loop-message-test.false in
    let lighter = more.message_lighter c.args.messages.now xs y i (send_of y) no_sends (sym c.deref.ensures.value ∙ c.in-Some.ensures.cases.0) split in
    let own : weight_sends (sends_of c.args.messages.now) ≡ t = c.decreases in
    let down : 1 + weight_all (send_of y).1 < t = omega (arith, own, lighter) in
    (down, going.message_fits c.args.to_super (sends_of c.args.messages.now) (more.sends_left xs y i) no_sends (send_of y) (entries_of c.args.frame.now) (entries_of c.loop-message.frame) c.args.code.now c.loop-message.code split c.loop-message.invariant)

pub emit_messages-returns : goal.emit_messages-returns
emit_messages-returns t c =
    let xs = c.in-Some.before.now in
    let y = c.in-Some.last.now in
    let i = c.loop-message.message-index in
    on_ok_weaker c.emit_message-2.result
    (going.last_sent c.args.to_super (sends_of c.args.messages.now) (more.sends_left xs y i) (send_of y) (entries_of c.args.frame.now) (entries_of c.loop-message.frame) (entries_of c.emit_message-2.new.frame) c.args.code.now c.loop-message.code c.emit_message-2.new.code (more.sends_last xs y i c.loop-message-test.false) c.loop-message.invariant)
    c.emit_message-2.ensures

pub real_block-constant-requires : goal.real_block-constant-requires
real_block-constant-requires t c =
    let n = c.args.parameters in
    let fits : SFits w32 c.from.result = search rules in
    let number = to_z w32 (of_z w32 c.from.result) in
    let same : literal_of (Small number) ≡ small (pos n) = small_open number ∙ ap small (to_z-of_z w32 c.from.result fits ∙ c.from.ensures) in
    subst (λ (v : LiteralTree). HasRoom (entries_of c.args.frame.now) (constant_entries v)) (sym same)
    (room_first (entries_of c.args.frame.now) (constant_entries (small (pos n))) (entries (core_of c.args.body.now)) c.requires.room)

pub real_block-emit-requires : goal.real_block-emit-requires
real_block-emit-requires t c =
    let n = c.args.parameters in
    let f = entries_of c.args.frame.now in
    let g = entries_of c.constant.new.frame in
    let fits : SFits w32 c.from.result = search rules in
    let number = to_z w32 (of_z w32 c.from.result) in
    let same : literal_of (Small number) ≡ small (pos n) = small_open number ∙ ap small (to_z-of_z w32 c.from.result fits ∙ c.from.ensures) in (
      omega (arith, c.decreases),
      fit.block_body f g (CountRow n) (constant_width (small (pos n))) c.push_context.new.code c.constant.new.code c.args.first n (core_of c.args.body.now) c.args.position c.requires
          (count_there (literal_of (Small number)) n f g c.push_context.new.code c.constant.new.code same c.in_ok-constant.ensures),
    )

pub real_block-returns : goal.real_block-returns
real_block-returns t c =
    let n = c.args.parameters in
    let f = entries_of c.args.frame.now in
    let g = entries_of c.constant.new.frame in
    let h = entries_of c.emit.new.frame in
    let fits : SFits w32 c.from.result = search rules in
    let number = to_z w32 (of_z w32 c.from.result) in
    let same : literal_of (Small number) ≡ small (pos n) = small_open number ∙ ap small (to_z-of_z w32 c.from.result fits ∙ c.from.ensures) in
    on_ok_weaker c.end.result
    (made.block_made f g h h c.args.code.now c.append.new.self c.end.new.code c.end.new.code c.args.position c.args.first n (core_of c.args.body.now)
    c.push_context.new.code c.constant.new.code c.send_special.new.code c.take_parameters.new.code c.emit.new.code c.far_jump.new.code
    c.in_ok-push_context.ensures (count_there (literal_of (Small number)) n f g c.push_context.new.code c.constant.new.code same c.in_ok-constant.ensures) c.in_ok-send_special.ensures
    (subst (λ (l : List ℕ). AddsTakes c.args.first n l c.take_parameters.new.code) c.empty-inner.ensures c.in_ok-take_parameters.ensures) c.in_ok-emit.ensures
    (subst (λ (l : List ℕ). AddsFar (length l) c.send_special.new.code c.far_jump.new.code) c.bytes.ensures c.in_ok-far_jump.ensures)
    (c.in_ok-append.ensures.ok ∙ ap (λ l. c.far_jump.new.code ++ l) c.bytes-2.ensures)) c.end.ensures

pub two_arms-emit-requires : goal.two_arms-emit-requires
two_arms-emit-requires t c =
    (omega (arith, c.decreases), fit.two_condition (entries_of c.args.frame.now) (entries_of c.args.frame.now) (CoreRow (core_of c.args.condition.now) Value) 0 [] [] c.args.on (core_of c.args.condition.now) (core_of c.args.first.now) (core_of c.args.second.now) c.args.position c.requires)

pub two_arms-apart-requires : goal.two_arms-apart-requires
two_arms-apart-requires t c = (
  omega (arith, c.decreases),
  fit.two_first (entries_of c.args.frame.now) (entries_of c.emit.new.frame) (CoreRow (core_of c.args.condition.now) Value) (size Value (core_of c.args.condition.now)) c.args.code.now c.emit.new.code c.args.on
      (core_of c.args.condition.now) (core_of c.args.first.now) (core_of c.args.second.now) c.args.position c.requires c.in_ok-emit.ensures,
)

pub two_arms-apart-requires-2 : goal.two_arms-apart-requires-2
two_arms-apart-requires-2 t c = (
  omega (arith, c.decreases),
  fit.two_second (entries_of c.emit.new.frame) (entries_of c.apart.new.frame) (CoreRow (core_of c.args.first.now) c.args.position) (size c.args.position (core_of c.args.first.now)) [] c.in_ok-first.first c.args.on
      (core_of c.args.condition.now) (core_of c.args.first.now) (core_of c.args.second.now) c.args.position (entries_of c.args.frame.now) c.requires
      (fit.two_rest (entries_of c.args.frame.now) (entries_of c.emit.new.frame) (CoreRow (core_of c.args.condition.now) Value) (size Value (core_of c.args.condition.now)) c.args.code.now c.emit.new.code c.args.on
      (core_of c.args.condition.now) (core_of c.args.first.now) (core_of c.args.second.now) c.args.position c.requires c.in_ok-emit.ensures) c.in_ok-first.ensures,
)

pub two_arms-returns : goal.two_arms-returns
two_arms-returns t c =
    on_ok_weaker c.choose.result
    (made.two_made (entries_of c.args.frame.now) (entries_of c.emit.new.frame) (entries_of c.apart.new.frame) (entries_of c.apart-2.new.frame) c.args.code.now c.emit.new.code c.choose.new.code c.choose.new.code c.args.position c.args.on
    (core_of c.args.condition.now) (core_of c.args.first.now) (core_of c.args.second.now) c.in_ok-first.first c.in_ok-second.second c.in_ok-emit.ensures c.in_ok-first.ensures c.in_ok-second.ensures) c.choose.ensures

pub arm_value-emit-requires : goal.arm_value-emit-requires
arm_value-emit-requires t c =
    (omega (arith, c.decreases), fit.one_condition (entries_of c.args.frame.now) (entries_of c.args.frame.now) (CoreRow (core_of c.args.condition.now) Value) 0 [] [] c.args.on (core_of c.args.condition.now) (core_of c.args.arm.now) Value c.requires)

pub arm_value-apart-requires : goal.arm_value-apart-requires
arm_value-apart-requires t c = (
  omega (arith, c.decreases),
  fit.one_part (entries_of c.args.frame.now) (entries_of c.emit.new.frame) (CoreRow (core_of c.args.condition.now) Value) (size Value (core_of c.args.condition.now)) c.args.code.now c.emit.new.code c.args.on
      (core_of c.args.condition.now) (core_of c.args.arm.now) Value c.requires c.in_ok-emit.ensures,
)

pub arm_value-returns : goal.arm_value-returns
arm_value-returns t c =
    on_ok_weaker c.choose.result
    (made.arm_value_made c.args.on (core_of c.args.condition.now) (core_of c.args.arm.now) (entries_of c.args.frame.now) (entries_of c.emit.new.frame) (entries_of c.apart.new.frame)
    c.args.code.now c.emit.new.code c.choose.new.code c.choose.new.code c.in_ok-arm.arm c.nil_for.new.code c.in_ok-emit.ensures c.in_ok-arm.ensures
    (subst (λ (l : List ℕ). AddsNil Value l c.nil_for.new.code) c.empty-other.ensures c.in_ok-nil_for.ensures)) c.choose.ensures

pub arm_effect-emit-requires : goal.arm_effect-emit-requires
arm_effect-emit-requires t c =
    (omega (arith, c.decreases), fit.one_condition (entries_of c.args.frame.now) (entries_of c.args.frame.now) (CoreRow (core_of c.args.condition.now) Value) 0 [] [] c.args.on (core_of c.args.condition.now) (core_of c.args.arm.now) Effect c.requires)

pub arm_effect-apart-requires : goal.arm_effect-apart-requires
arm_effect-apart-requires t c = (
  omega (arith, c.decreases),
  fit.one_part (entries_of c.args.frame.now) (entries_of c.emit.new.frame) (CoreRow (core_of c.args.condition.now) Value) (size Value (core_of c.args.condition.now)) c.args.code.now c.emit.new.code c.args.on
      (core_of c.args.condition.now) (core_of c.args.arm.now) Effect c.requires c.in_ok-emit.ensures,
)

pub arm_effect-returns : goal.arm_effect-returns
arm_effect-returns t c =
    on_ok_weaker c.append.result
    (λ is. made.arm_effect_made c.args.on (core_of c.args.condition.now) (core_of c.args.arm.now) (entries_of c.args.frame.now) (entries_of c.emit.new.frame) (entries_of c.apart.new.frame)
    c.args.code.now c.emit.new.code c.append.new.self c.append.new.self c.in_ok-arm.arm c.jump_unless.new.code c.in_ok-emit.ensures c.in_ok-arm.ensures
    (subst (λ (l : List ℕ). Adds (jump_unless c.args.on (pos (length l))) 2 c.emit.new.code c.jump_unless.new.code) c.bytes.ensures c.in_ok-jump_unless.ensures) (is ∙ ap (λ l. c.jump_unless.new.code ++ l) c.bytes-2.ensures)) c.append.ensures.ok

pub shortcut-emit-requires : goal.shortcut-emit-requires
shortcut-emit-requires t c =
    (omega (arith, c.decreases), fit.shortcut_condition (entries_of c.args.frame.now) (entries_of c.args.frame.now) (CoreRow (core_of c.args.condition.now) Value) 0 [] [] c.args.on (core_of c.args.condition.now) (core_of c.args.arm.now) c.args.position c.requires)

pub shortcut-apart-requires : goal.shortcut-apart-requires
shortcut-apart-requires t c = (
  omega (arith, c.decreases),
  fit.shortcut_part (entries_of c.args.frame.now) (entries_of c.emit.new.frame) (CoreRow (core_of c.args.condition.now) Value) (size Value (core_of c.args.condition.now)) c.args.code.now c.emit.new.code c.args.on
      (core_of c.args.condition.now) (core_of c.args.arm.now) c.args.position c.requires c.in_ok-emit.ensures,
)

pub shortcut-returns : goal.shortcut-returns
shortcut-returns t c =
    let same : c.if-on.push_fixed ≡ shortcut_number c.args.on = elim c.if-on.branch [
      | shortcut-then-on w ↦ w.push_fixed-is ∙ ap shortcut_number (sym w.if-on.true)
      | shortcut-else-on w ↦ w.push_fixed-is ∙ ap shortcut_number (sym w.if-on.false)
    ] in
    on_ok_weaker c.end.result
    (shortcut_made c.args.on (core_of c.args.condition.now) (core_of c.args.arm.now) c.args.position (entries_of c.args.frame.now) (entries_of c.emit.new.frame) (entries_of c.apart.new.frame)
    c.args.code.now c.emit.new.code c.choose.new.code c.end.new.code c.in_ok-arm.arm c.push_fixed.new.code c.in_ok-emit.ensures c.in_ok-arm.ensures
    (number_there c.args.on c.if-on.push_fixed c.push_fixed.new.code same (subst (λ (l : List ℕ). Adds (PushFixed c.if-on.push_fixed) 1 l c.push_fixed.new.code) c.empty-other.ensures c.in_ok-push_fixed.ensures)) c.in_ok-choose.ensures) c.end.ensures

pub repeat-apart-requires : goal.repeat-apart-requires
repeat-apart-requires t c =
    (omega (arith, c.decreases), fit.loop_condition (entries_of c.args.frame.now) (entries_of c.args.frame.now) (CoreRow (core_of c.args.condition.now) Value) 0 [] [] c.args.on (core_of c.args.condition.now) (core_of c.args.body.now) c.args.position c.requires)

pub repeat-apart-requires-2 : goal.repeat-apart-requires-2
repeat-apart-requires-2 t c = (
  omega (arith, c.decreases),
  fit.loop_body (entries_of c.args.frame.now) (entries_of c.apart.new.frame) (CoreRow (core_of c.args.condition.now) Value) (size Value (core_of c.args.condition.now)) [] c.in_ok-turn.turn c.args.on
      (core_of c.args.condition.now) (core_of c.args.body.now) c.args.position c.requires c.in_ok-turn.ensures,
)

pub repeat-returns : goal.repeat-returns
repeat-returns t c =
    on_ok_weaker c.nil_for.result
    (made.repeat_made (entries_of c.args.frame.now) (entries_of c.apart.new.frame) (entries_of c.apart-2.new.frame) (entries_of c.apart-2.new.frame) c.args.code.now c.append.new.self c.nil_for.new.code c.nil_for.new.code c.args.position c.args.on
    (core_of c.args.condition.now) (core_of c.args.body.now) c.in_ok-turn.turn c.in_ok-body.body c.close_loop.new.turn c.in_ok-turn.ensures c.in_ok-body.ensures c.in_ok-close_loop.ensures (c.in_ok-append.ensures.ok ∙ ap (λ l. c.args.code.now ++ l) c.bytes.ensures)) c.nil_for.ensures
