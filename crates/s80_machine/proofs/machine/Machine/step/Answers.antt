use Rattle.std.proofs.Common.{◌≡◌, ◌∙◌, ◌+◌, ◌<◌, ◌≤◌, ◌^◌, ℕ, Option, Some, ap, arith, drop, slice_get, sym}
use Rattle.std.specs.Option.{option_copied}
use Rattle.s80_code.specs.declared.instruction.Instruction.{Instruction}
use Rattle.s80_code.specs.Table.{decoded}
use Rattle.s80_machine.specs.Seen.{Method}
use Rattle.s80_machine.specs.Came.{given_of}
use Rattle.s80_machine.proofs.CameSound.{Active, IsRead, active, added_is, few, has_code, has_home, has_known, has_method, has_receiver, listed, moved_to, near, reads, shows_moved, some_instruction, some_sum, steps, suits}
use Rattle.s80_machine.proofs.machine.Machine.step.Goals.{In_ok-code}
use Rattle.s80_machine.proofs.machine.Machine.step.Goals as goal

it : (c : In_ok-code) → Active (given_of c.args.on.now) c.args.self.now
it c = active (given_of c.args.on.now) c.args.self.now c.requires.sound.0 c.requires.sound.1 c.requires.sound.2

read : (c : In_ok-code) → IsRead (given_of c.args.on.now) c.args.self.now (it c) c.active-2.inside.method c.active-2.inside.place c.in_ok-code.field-0.code.now
read c =
    reads (given_of c.args.on.now) c.args.self.now (it c) c.in_ok-active.active.now _ c.get.result c.in_ok-code.field-0 (sym c.active.ensures ∙ ap option_copied c.in_ok-active.ensures.ok_part) c.active-2.view_is
    c.get.ensures c.in_ok-code.ensures.ok_part

within : (c : In_ok-code) (i : Instruction) (width : ℕ) → decoded (drop c.active-2.inside.place c.in_ok-code.field-0.code.now.bytes) ≡ Some (i, width) → c.active-2.inside.place + width ≤ 1023
within c i width is =
    let r = read c in
    near (given_of c.args.on.now) c.args.self.now (it c) c.in_ok-code.field-0.code.now c.active-2.inside.place r.code_is r.place_is i width is

-- the entry that is listed at the active place
is_entry : (c : In_ok-code) (entry : Option (Instruction × ℕ)) → ((y : Method) → slice_get c.args.self.now.methods c.active-2.inside.method ≡ Some y → entry ≡ decoded (drop c.active-2.inside.place y.code.bytes))
    → decoded (drop c.active-2.inside.place c.in_ok-code.field-0.code.now.bytes) ≡ entry
is_entry c = listed (given_of c.args.on.now) c.args.self.now (it c) c.active-2.inside.method c.active-2.inside.place c.in_ok-code.field-0.code.now (read c)

pub returns-in_err-instruction : goal.returns-in_err-instruction
returns-in_err-instruction c = λ s shows.
    let at = (goal.at.returns-in_err-instruction c).In_ok-code in
    let r = read at in
    absurd (some_instruction (given_of c.args.on.now) c.args.self.now (it at) c.in_ok-code.field-0.code.now c.active-2.inside.place r.code_is r.place_is (is_entry at (option_copied c.instruction.result) c.instruction.ensures ∙ ap option_copied c.in_err-instruction.ensures.ok_part))

pub returns-in_err-next : goal.returns-in_err-next
returns-in_err-next c = λ s shows.
    let at = (goal.at.returns-in_err-next c).In_ok-code in
    let small_sum = within at c.in_ok-instruction.field-0.now.0 c.in_ok-instruction.field-0.now.1 (is_entry at (option_copied c.instruction.result) c.instruction.ensures ∙ ap option_copied c.in_ok-instruction.ensures.ok_part) in
    let small : c.active-2.inside.place + c.in_ok-instruction.field-0.now.1 < 2 ^ 32 = omega (arith, small_sum) in
    absurd (some_sum c.checked_add.result (c.active-2.inside.place + c.in_ok-instruction.field-0.now.1) c.checked_add.ensures c.in_err-next.ensures.ok_part small)

pub act-requires-clause-near : goal.act-requires-clause-near
act-requires-clause-near c =
    let at = (goal.at.act-requires-clause-near c).In_ok-code in
    let small_sum = within at c.in_ok-instruction.field-0.now.0 c.in_ok-instruction.field-0.now.1 (is_entry at (option_copied c.instruction.result) c.instruction.ensures ∙ ap option_copied c.in_ok-instruction.ensures.ok_part) in
    let sum = added_is c.checked_add.result c.in_ok-next.next (c.active-2.inside.place + c.in_ok-instruction.field-0.now.1) c.checked_add.ensures c.in_ok-next.ensures.ok_part in
    omega (arith, small_sum, sum)

pub act-requires-clause-suits : goal.act-requires-clause-suits
act-requires-clause-suits c =
    let at = (goal.at.act-requires-clause-suits c).In_ok-code in
    let r = read at in
    suits (given_of c.args.on.now) c.args.self.now (it at) c.in_ok-code.field-0.code.now c.active-2.inside.place r.code_is r.place_is c.in_ok-instruction.field-0.now.0 c.in_ok-instruction.field-0.now.1
    (is_entry at (option_copied c.instruction.result) c.instruction.ensures ∙ ap option_copied c.in_ok-instruction.ensures.ok_part)

pub act-requires-clause-few : goal.act-requires-clause-few
act-requires-clause-few c =
    let on = given_of c.args.on.now in
    let m = c.args.self.now in
    let at = (goal.at.act-requires-clause-few c).In_ok-code in
    let a = it at in
    let r = read at in
    let moved = moved_to on m a c.in_ok-next.next c.move_to.new.self c.in_ok-move_to.ensures in
    let is = is_entry at (option_copied c.instruction.result) c.instruction.ensures ∙ ap option_copied c.in_ok-instruction.ensures.ok_part in
    λ copies. few on m a c.in_ok-code.field-0.code.now c.active-2.inside.place r.code_is r.place_is c.in_ok-instruction.field-0.now.0 c.in_ok-instruction.field-0.now.1 is copies
    c.in_ok-next.next c.move_to.new.self moved

pub act-requires-clause-known : goal.act-requires-clause-known
act-requires-clause-known c =
    let on = given_of c.args.on.now in
    let a = it (goal.at.act-requires-clause-known c).In_ok-code in
    has_known on c.args.self.now a c.in_ok-next.next c.move_to.new.self (moved_to on c.args.self.now a c.in_ok-next.next c.move_to.new.self c.in_ok-move_to.ensures)

pub act-requires-clause-receiver : goal.act-requires-clause-receiver
act-requires-clause-receiver c =
    let on = given_of c.args.on.now in
    let a = it (goal.at.act-requires-clause-receiver c).In_ok-code in
    has_receiver on c.args.self.now a c.in_ok-next.next c.move_to.new.self (moved_to on c.args.self.now a c.in_ok-next.next c.move_to.new.self c.in_ok-move_to.ensures)

pub act-requires-clause-given : goal.act-requires-clause-given
act-requires-clause-given c = (it (goal.at.act-requires-clause-given c).In_ok-code).shows.world.given

pub act-requires-clause-home : goal.act-requires-clause-home
act-requires-clause-home c =
    let on = given_of c.args.on.now in
    let a = it (goal.at.act-requires-clause-home c).In_ok-code in
    has_home on c.args.self.now a c.in_ok-next.next c.move_to.new.self (moved_to on c.args.self.now a c.in_ok-next.next c.move_to.new.self c.in_ok-move_to.ensures)

pub act-requires-clause-method : goal.act-requires-clause-method
act-requires-clause-method c =
    let on = given_of c.args.on.now in
    let a = it (goal.at.act-requires-clause-method c).In_ok-code in
    has_method on c.args.self.now a c.in_ok-next.next c.move_to.new.self (moved_to on c.args.self.now a c.in_ok-next.next c.move_to.new.self c.in_ok-move_to.ensures)

pub act-requires-clause-runs : goal.act-requires-clause-runs
act-requires-clause-runs c =
    let on = given_of c.args.on.now in
    let m = c.args.self.now in
    let at = (goal.at.act-requires-clause-runs c).In_ok-code in
    let a = it at in
    has_code on m a c.in_ok-code.field-0.code.now (read at).code_is c.in_ok-next.next c.move_to.new.self (moved_to on m a c.in_ok-next.next c.move_to.new.self c.in_ok-move_to.ensures)

pub returns : goal.returns
returns c =
    let on = given_of c.args.on.now in
    let m = c.args.self.now in
    let next = c.in_ok-next.next in
    let at = (goal.at.returns c).In_ok-code in
    let a = it at in
    let r = read at in
    let sum = added_is c.checked_add.result next (c.active-2.inside.place + c.in_ok-instruction.field-0.now.1) c.checked_add.ensures c.in_ok-next.ensures.ok_part in
    steps on m a c.in_ok-code.field-0.code.now c.active-2.inside.place r.code_is r.place_is c.in_ok-instruction.field-0.now.0 c.in_ok-instruction.field-0.now.1 (is_entry at (option_copied c.instruction.result) c.instruction.ensures ∙ ap option_copied c.in_ok-instruction.ensures.ok_part)
    next c.act.new.self c.act.result sum
    (c.act.ensures a.context a.rest a.world (shows_moved on m a next c.move_to.new.self (moved_to on m a next c.move_to.new.self c.in_ok-move_to.ensures)))
