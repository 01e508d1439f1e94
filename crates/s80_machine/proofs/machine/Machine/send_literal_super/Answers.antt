use Rattle.std.proofs.Common.{◌∙◌, ◌∷◌, [], ap, slice_get, subst, sym}
use Rattle.std.specs.Option.{option_copied}
use Rattle.s80_machine.specs.Turn.{waiting, given, message_off}
use Rattle.s80_machine.specs.Came.{Came, above, given_of, sends}
use Rattle.s80_machine.proofs.CameSteps.{key_there}
use Rattle.s80_machine.proofs.machine.Machine.send_literal_super.Goals as goal

pub returns : goal.returns
returns c = λ next d rest w shows.
    let on = given_of c.args.on.now in
    let new = c.send_super.new.self in
    let r = c.send_super.result in
    let is = sym c.selector_at.ensures ∙ ap option_copied c.in_ok-selector.ensures.ok_part in
    let key = key_there on c.args.self.now w d.method shows.world (c.requires.method (record d { place = next }) rest shows.contexts) in
    subst
    (λ o. Came on (message_off c.args.arguments [] d.stack (λ _ arguments stack. given o (λ selector.
    given (slice_get w.keys d.method) (λ key. sends on (above on key) selector d.receiver arguments (waiting d next stack ∷ rest) w)))) new r)
    (sym is)
    (subst
    (λ o. Came on (message_off c.args.arguments [] d.stack (λ _ arguments stack.
    given o (λ key. sends on (above on key) c.in_ok-selector.selector.now d.receiver arguments (waiting d next stack ∷ rest) w))) new r)
    (sym key.1) (c.send_super.ensures d rest w next key.0 shows key.1))
