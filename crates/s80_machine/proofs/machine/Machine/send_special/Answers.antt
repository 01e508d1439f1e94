use Rattle.std.proofs.Common.{◌≡◌, ◌∙◌, ◌∷◌, Err, None, Some, ap, arith, get_or, if◌then◌else◌, length, subst, sym}
use Rattle.std.specs.Option.{option_copied}
use Rattle.std.proofs.lemmas.Result.{err_from_is_err_and}
use Rattle.s80_code.specs.Special.{special_arguments}
use Rattle.s80_lex.specs.Selector.{IsSelectorOf}
use Rattle.s80_machine.specs.declared.halt.Halt.TheVariants.{Stuck}
use Rattle.s80_machine.specs.Turn.{waiting}
use Rattle.s80_machine.specs.Shared.{at_once, block_with, is_value}
use Rattle.s80_machine.specs.Step.{special_turn}
use Rattle.s80_machine.specs.Seen.{IsBlock}
use Rattle.s80_machine.specs.Came.{given_of}
use Rattle.s80_machine.proofs.CameClasses.{special_takes}
use Rattle.s80_machine.proofs.CameMethods.{special_answers, special_blocks, special_sends, special_stuck}
use Rattle.s80_machine.proofs.CameSends.{alive, missing, not_taken, pushed_came, taken, taken_known}
use Rattle.s80_machine.proofs.machine.Machine.send_special.Goals as goal

pub returns-in_err-receiver : goal.returns-in_err-receiver
returns-in_err-receiver c = λ top rest w next shows.
    let on = given_of c.args.on.now in
    let n = c.args.number in
    let p = err_from_is_err_and c.from_residual.result c.from_residual.ensures.1 in
    let same : p.0 ≡ c.in_err-receiver.field-0.0 = p.2 in
    rw (p.1, same) (not_taken (λ p. (p.0, p.1.items)) c.special_arguments-count.result (get_or special_arguments n 0) c.special_arguments-count.ensures on c.args.self.now (record c.args.self.now { contexts = c.take_message.new.self }) top rest w next c.take_message.new.self
    c.in_err-receiver.field-0.0 (special_turn on.table on.methods on.code on.budget n top next rest w) shows
    c.in_err-receiver.ensures)

pub at_once-requires-clause-receiver : goal.at_once-requires-clause-receiver
at_once-requires-clause-receiver c =
    (taken_known (λ p. (p.0, p.1.items)) c.special_arguments-count.result c.args.on.now.classes.now c.args.self.now c.take_message.new.self (c.in_ok-receiver.receiver, c.in_ok-receiver.arguments) c.requires.known
    c.in_ok-receiver.ensures).receiver

pub send_at-requires-clause-known : goal.send_at-requires-clause-known
send_at-requires-clause-known c =
    let known =
    taken_known (λ p. (p.0, p.1.items)) c.special_arguments-count.result c.args.on.now.classes.now c.args.self.now c.take_message.new.self (c.in_ok-receiver.receiver, c.in_ok-receiver.arguments) c.requires.known
    c.in_ok-receiver.ensures in
    record { objects = c.requires.known.objects; receiver = known.receiver; arguments = known.arguments }

pub send_at-requires-clause-selector : goal.send_at-requires-clause-selector
send_at-requires-clause-selector c =
    let known =
    taken_known (λ p. (p.0, p.1.items)) c.special_arguments-count.result c.args.on.now.classes.now c.args.self.now c.take_message.new.self (c.in_ok-receiver.receiver, c.in_ok-receiver.arguments) c.requires.known
    c.in_ok-receiver.ensures in
    let word = c.in_ok-selector.selector.now in
    subst (λ n. IsSelectorOf n word) (sym (known.count ∙ c.special_arguments-count.ensures))
    (special_takes c.args.number word (ap option_copied (sym c.in_ok-selector.ensures.ok_part) ∙ c.special_selector.ensures))

pub returns-in-Some : goal.returns-in-Some
returns-in-Some c = λ top rest w next shows.
    let on = given_of c.args.on.now in
    let m = c.args.self.now in
    let n = c.args.number in
    let r = c.in_ok-receiver.receiver in
    let values = c.in_ok-receiver.arguments.items in
    let end = record m { contexts = c.answer.new.self } in
    taken (λ p. (p.0, p.1.items)) c.special_arguments-count.result (get_or special_arguments n 0) c.special_arguments-count.ensures on m end top rest w next c.take_message.new.self (r, c.in_ok-receiver.arguments) c.answer.result
    (special_turn on.table on.methods on.code on.budget n top next rest w) shows
    c.in_ok-receiver.ensures
    (λ stack shows.
    special_answers on n top next rest w r values stack end c.answer.result c.in-Some.answer
    (c.in-Some.ensures ∙ ap (λ s. at_once on.table s n r c.deref.result.now) shows.world.objects ∙ ap (at_once on.table w.objects n r) c.deref.ensures.value)
    (pushed_came on (record m { contexts = c.take_message.new.self }) (waiting top next stack) rest w c.in-Some.answer c.answer.new.self c.answer.result shows c.answer.ensures))

pub returns-in-Some-valued : goal.returns-in-Some-valued
returns-in-Some-valued c = λ top rest w next shows.
    let on = given_of c.args.on.now in
    let m = c.args.self.now in
    let n = c.args.number in
    let r = c.in_ok-receiver.receiver in
    let values = c.in_ok-receiver.arguments.items in
    let count : c.len.result ≡ length values = omega (arith, c.len.ensures, c.in_ok-receiver.arguments.ok.0) in
    taken (λ p. (p.0, p.1.items)) c.special_arguments-count.result (get_or special_arguments n 0) c.special_arguments-count.ensures on m c.activate_block.new.self top rest w next c.take_message.new.self (r, c.in_ok-receiver.arguments) c.activate_block.result
    (special_turn on.table on.methods on.code on.budget n top next rest w) shows
    c.in_ok-receiver.ensures
    (λ stack shows.
    special_blocks on n top next rest w r values stack c.activate_block.new.self c.activate_block.result
    (c.in_default.ensures ∙ ap (λ s. at_once on.table s n r c.deref.result.now) shows.world.objects ∙ ap (at_once on.table w.objects n r) c.deref.ensures.value) c.in-Some-valued.block
    (subst (λ k. IsBlock (if is_value n then block_with w.objects r k else None) (Some c.in-Some-valued.block)) count
    (subst (λ s. IsBlock (if is_value n then block_with s r c.len.result else None) (Some c.in-Some-valued.block)) shows.world.objects c.in-Some-valued.ensures))
    (c.activate_block.ensures (alive (waiting top next stack ∷ rest) w) shows))

pub returns-in_err-selector : goal.returns-in_err-selector
returns-in_err-selector c = λ top rest w next shows.
    let on = given_of c.args.on.now in
    let m = c.args.self.now in
    let n = c.args.number in
    let r = c.in_ok-receiver.receiver in
    let values = c.in_ok-receiver.arguments.items in
    let end = record m { contexts = c.take_message.new.self } in
    let count : c.len.result ≡ length values = omega (arith, c.len.ensures, c.in_ok-receiver.arguments.ok.0) in
    let p = err_from_is_err_and c.from_residual-in_err-selector.result c.from_residual-in_err-selector.ensures.1 in
    let same : p.0 ≡ c.in_err-selector.field-0.0 = p.2 in
    let stuck = missing c.special_selector.result c.in_err-selector.field-0.0 c.ok_or.result c.in_err-selector.was c.ok_or.ensures.value c.in_err-selector.ensures.ok_part in
    rw (p.1, same, stuck) (taken (λ p. (p.0, p.1.items)) c.special_arguments-count.result (get_or special_arguments n 0) c.special_arguments-count.ensures on m end top rest w next c.take_message.new.self (r, c.in_ok-receiver.arguments) (Err Stuck)
    (special_turn on.table on.methods on.code on.budget n top next rest w) shows
    c.in_ok-receiver.ensures
    (λ stack shows.
    special_stuck on n top next rest w r values stack end (Err Stuck)
    (c.in_default.ensures ∙ ap (λ s. at_once on.table s n r c.deref.result.now) shows.world.objects ∙ ap (at_once on.table w.objects n r) c.deref.ensures.value)
    (subst (λ k. IsBlock (if is_value n then block_with w.objects r k else None) None) count
    (subst (λ s. IsBlock (if is_value n then block_with s r c.len.result else None) None) shows.world.objects c.in_default-valued.ensures))
    (ap option_copied (sym c.in_err-selector.ensures.ok_part) ∙ c.special_selector.ensures) tt))

pub returns : goal.returns
returns c = λ top rest w next shows.
    let on = given_of c.args.on.now in
    let m = c.args.self.now in
    let n = c.args.number in
    let r = c.in_ok-receiver.receiver in
    let values = c.in_ok-receiver.arguments.items in
    let count : c.len.result ≡ length values = omega (arith, c.len.ensures, c.in_ok-receiver.arguments.ok.0) in
    taken (λ p. (p.0, p.1.items)) c.special_arguments-count.result (get_or special_arguments n 0) c.special_arguments-count.ensures on m c.send_at.new.self top rest w next c.take_message.new.self (r, c.in_ok-receiver.arguments) c.send_at.result
    (special_turn on.table on.methods on.code on.budget n top next rest w) shows
    c.in_ok-receiver.ensures
    (λ stack shows.
    special_sends on n top next rest w r values stack c.send_at.new.self c.send_at.result
    (c.in_default.ensures ∙ ap (λ s. at_once on.table s n r c.deref.result.now) shows.world.objects ∙ ap (at_once on.table w.objects n r) c.deref.ensures.value)
    (subst (λ k. IsBlock (if is_value n then block_with w.objects r k else None) None) count
    (subst (λ s. IsBlock (if is_value n then block_with s r c.len.result else None) None) shows.world.objects c.in_default-valued.ensures)) c.in_ok-selector.selector.now
    (ap option_copied (sym c.in_ok-selector.ensures.ok_part) ∙ c.special_selector.ensures) (c.send_at.ensures (waiting top next stack) rest w shows (sym (ap option_copied (sym c.in_ok-selector.ensures.ok_part) ∙ c.special_selector.ensures))))
