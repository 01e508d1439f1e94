use Rattle.std.proofs.Common.{◌∙◌, ◌+◌, ◌<◌, ◌^◌, SomeIff, ap, option_copied, subst, sym}
use Rattle.std.proofs.lemmas.Result.{err_from_is_err_and}
use Rattle.s80_machine.specs.World.{home_in}
use Rattle.s80_machine.specs.Turn.{waiting}
use Rattle.s80_machine.proofs.CameBlocks.{block_pushed, home_left, not_counted, stuck_of, two_off}
use Rattle.s80_machine.proofs.CameParts.{aside}
use Rattle.s80_machine.proofs.machine.Machine.make_block.Goals as goal

pub returns-in_err-count-2 : goal.returns-in_err-count-2
returns-in_err-count-2 c = λ on d rest w room shows.
    let m = c.args.self.now in
    let next = c.args.next in
    let last = c.pop-2.new.self in
    let v = c.in_ok-count.count in
    let off = two_off d next rest m.contexts c.pop.new.self last v c.in_ok-pop.field-0 shows.contexts c.in_ok-count.ensures c.in_ok-pop.ensures in
    let p = err_from_is_err_and c.from_residual-in_err-count-2.result c.from_residual-in_err-count-2.ensures.1 in
    let none = c.in_err-count-2.ensures.ok_part in
    let stuck = stuck_of c.in_err-count-2.field-0.0 c.argument_count.result c.in_err-count-2.ensures.value none in
    rw (p.1, p.2, stuck)
    (not_counted on d next rest w last v off (record m { contexts = last }) (sym c.argument_count.ensures ∙ none) (λ n. c.requires.few (record d { place = next }) rest n shows.contexts))

pub returns : goal.returns
returns c = λ on d rest w room shows.
    let m = c.args.self.now in
    let next = c.args.next in
    let last = c.pop-2.new.self in
    let v = c.in_ok-count.count in
    let off = two_off d next rest m.contexts c.pop.new.self last v c.in_ok-pop.field-0 shows.contexts c.in_ok-count.ensures c.in_ok-pop.ensures in
    let some = sym c.in_ok-count-2.ensures.ok_part ∙ c.argument_count.ensures in
    let top = ap option_copied (sym c.in_ok-active.ensures.ok_part) ∙ c.active.ensures in
    let home = home_left on d next rest w last v off c.in_ok-active.active.now c.home.result top (c.home.ensures ∙ ap (λ a. home_in a.activation) c.active-2.view_is) ∙ c.in_ok-home.ensures.ok_part in
    let start = (subst (λ o. SomeIff o (next + 2 < 2 ^ 32) (next + 2)) c.in_ok-start.ensures.ok_part c.checked_add.ensures).1 in
    block_pushed on d next rest w last v off c.in_ok-count-2.count c.in_ok-home.home c.in_ok-start.start some home start c.push_block.new.self c.push_block.result
    (c.push_block.ensures on (waiting d next off.stack) rest w (record { contexts = off.is; world = aside on m w last shows.world }))
