use Rattle.std.proofs.Common.{◌∙◌, ap, option_and_then, option_copied, sym}
use Rattle.std.specs.Option.{option_map}
use Rattle.s80_code.specs.Entries.{entry_of}
use Rattle.s80_machine.specs.World.{variable_named, with_variable}
use Rattle.s80_machine.specs.Turn.{given, goes_on}
use Rattle.s80_machine.specs.Came.{given_of, stores}
use Rattle.s80_machine.proofs.CameStores.{comes_so, given_mapped, stored_comes}
use Rattle.s80_machine.proofs.machine.Machine.store.Goals as goal

pub returns-in-Receiver : goal.returns-in-Receiver
returns-in-Receiver c = λ d rest w next stack shows.
    let on = given_of c.args.on.now in
    comes_so on _ _ c.set_receiver_variable.new.self c.set_receiver_variable.result (ap (λ s. stores on c.args.code.now d next rest w s c.args.value stack) c.in-Receiver.is)
    (c.set_receiver_variable.ensures on d rest w next stack shows)

pub returns-in-Temporary : goal.returns-in-Temporary
returns-in-Temporary c = λ d rest w next stack shows.
    let on = given_of c.args.on.now in
    comes_so on _ _ c.set_temporary.new.self c.set_temporary.result (ap (λ s. stores on c.args.code.now d next rest w s c.args.value stack) c.in-Temporary.is)
    (c.set_temporary.ensures on d rest w next stack shows)

pub returns-in_ok-entry-in-Variable : goal.returns-in_ok-entry-in-Variable
returns-in_ok-entry-in-Variable c = λ d rest w next stack shows.
    let on = given_of c.args.on.now in
    let u = variable_named (entry_of c.in_ok-entry-in-Variable.entry.now) in
    let there = sym c.entry.ensures ∙ ap (λ o. option_map entry_of (option_copied o)) c.in_ok-entry-in-Variable.ensures.ok_part in
    comes_so on _ _ c.set_variable.new.self c.set_variable.result
    (ap (λ s. stores on c.args.code.now d next rest w s c.args.value stack) c.in-Variable.is
    ∙ ap (λ e. given (option_and_then variable_named e) (λ u. goes_on d next stack rest (with_variable w u c.args.value))) there
    ∙ sym (given_mapped (λ u. with_variable w u c.args.value) u (goes_on d next stack rest)))
    (stored_comes on d next stack rest c.args.self.now c.set_variable.new.self shows.contexts (option_map (λ u. with_variable w u c.args.value) u) c.set_variable.result (c.set_variable.ensures w shows.world))
