use Rattle.std.proofs.Common.{◌∙◌, None, ap, sym}
use Rattle.s80_machine.specs.World.{outer_value}
use Rattle.s80_machine.proofs.CameStores.{names_class, names_none}
use Rattle.s80_machine.proofs.stores.outer_value.Goals as goal

pub returns-in-Some : goal.returns-in-Some
returns-in-Some c =
    let table = c.args.on.now.classes.now in
    sym (ap (outer_value table c.args.name.now) (names_class table.names c.args.name.now c.in-Some.class c.in-Some.ensures.found c.in-Some.ensures.only))

pub returns-in-None : goal.returns-in-None
returns-in-None c =
    let table = c.args.on.now.classes.now in
    c.system_value.ensures table ∙ ap (λ name. outer_value table name None) c.bytes.ensures ∙ sym (ap (outer_value table c.args.name.now) (names_none table.names c.args.name.now c.in-None.ensures.only))
