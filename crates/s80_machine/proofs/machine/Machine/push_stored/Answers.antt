use Rattle.std.proofs.Common.{◌∙◌, ◌∷◌, ap, option_and_then, slice_get, sym}
use Rattle.s80_code.specs.Entries.{entries_of}
use Rattle.s80_machine.specs.World.{variable_named}
use Rattle.s80_machine.specs.Turn.{given, goes_on}
use Rattle.s80_machine.specs.Came.{given_of, pushes}
use Rattle.s80_machine.proofs.CameStores.{comes_so, given_mapped}
use Rattle.s80_machine.proofs.machine.Machine.push_stored.Goals as goal

pub returns-in-Receiver : goal.returns-in-Receiver
returns-in-Receiver c = λ d rest w next shows.
    let on = given_of c.args.on.now in
    comes_so on _ _ c.push_found.new.self c.push_found.result
    (ap (pushes on c.args.code.now d next rest w) c.in-Receiver.is ∙ ap (λ o. given o (λ v. goes_on d next (v ∷ d.stack) rest w)) (sym (c.receiver_variable-value.ensures on d rest w next shows)))
    (c.push_found.ensures on d rest w next shows)

pub returns-in-Temporary : goal.returns-in-Temporary
returns-in-Temporary c = λ d rest w next shows.
    let on = given_of c.args.on.now in
    comes_so on _ _ c.push_found-in-Temporary.new.self c.push_found-in-Temporary.result
    (ap (pushes on c.args.code.now d next rest w) c.in-Temporary.is ∙ ap (λ o. given o (λ v. goes_on d next (v ∷ d.stack) rest w)) (sym (c.temporary-value.ensures on d rest w next shows)))
    (c.push_found-in-Temporary.ensures on d rest w next shows)

pub returns-in-Constant : goal.returns-in-Constant
returns-in-Constant c = λ d rest w next shows.
    let on = given_of c.args.on.now in
    comes_so on _ _ c.push_literal.new.self c.push_literal.result (ap (pushes on c.args.code.now d next rest w) c.in-Constant.is) (c.push_literal.ensures d rest w next shows)

pub returns-in-Variable : goal.returns-in-Variable
returns-in-Variable c = λ d rest w next shows.
    let on = given_of c.args.on.now in
    let u = option_and_then variable_named (slice_get (entries_of c.args.code.now.literals) c.in-Variable.k) in
    comes_so on _ _ c.push_found-in-Variable.new.self c.push_found-in-Variable.result
    (ap (pushes on c.args.code.now d next rest w) c.in-Variable.is ∙ sym (given_mapped w.variables u (λ v. goes_on d next (v ∷ d.stack) rest w))
    ∙ ap (λ o. given o (λ v. goes_on d next (v ∷ d.stack) rest w)) (sym (c.variable_at-value.ensures w shows.world)))
    (c.push_found-in-Variable.ensures on d rest w next shows)
