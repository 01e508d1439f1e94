use Rattle.std.proofs.Common.{◌∙◌, ◌∷◌, [], ap, subst, sym}
use Rattle.std.specs.Option.{option_copied}
use Rattle.s80_machine.specs.Turn.{waiting, given, message_off}
use Rattle.s80_machine.specs.Came.{Came, given_of, places, sends}
use Rattle.s80_machine.proofs.machine.Machine.send_literal.Goals as goal

pub send-requires-clause-sends : goal.send-requires-clause-sends
send-requires-clause-sends c = λ top rest e.
    let runs = c.requires.runs top rest e in
    record {
      key = runs.0;
      code = c.args.code.now;
      key_is = runs.1.0;
      code_is = runs.1.1;
      selector_is = sym c.selector_at.ensures ∙ ap option_copied c.in_ok-selector.ensures.ok_part;
    }

pub returns : goal.returns
returns c = λ next d rest w shows.
    let on = given_of c.args.on.now in
    let is = sym c.selector_at.ensures ∙ ap option_copied c.in_ok-selector.ensures.ok_part in
    subst
    (λ o. Came on (message_off c.args.arguments [] d.stack (λ r arguments stack. given o (λ selector. sends on (places on w r) selector r arguments (waiting d next stack ∷ rest) w)))
    c.send.new.self c.send.result)
    (sym is) (c.send.ensures d rest w next shows)
