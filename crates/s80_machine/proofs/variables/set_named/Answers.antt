use Rattle.std.proofs.Common.{◌∙◌, ap, is_some, sym}
use Rattle.std.specs.Str.{bytes_eq}
use Rattle.indexmap.specs.IndexMap.{insert_entry}
use Rattle.s80_machine.proofs.KeptVariables.{name_put, name_written}
use Rattle.s80_machine.proofs.variables.set_named.Goals as goal

pub returns-in-Some : goal.returns-in-Some
returns-in-Some c =
    name_written c.args.variables.now.entries (c.get_mut.follows.lender c.args.value).entries c.bytes.result.now c.args.name.now c.args.value c.bytes.ensures (sym (ap is_some c.in-Some.ensures.value))
    ((c.get_mut.follows.holds c.args.value).0)

pub returns : goal.returns
returns c =
    let k = c.in_ok-to_vec.field-0 in
    name_put c.args.variables.now.entries c.insert.new.self.entries k c.args.name.now c.args.value (c.in_ok-to_vec.ensures.items_if_clones_equal (λ x y same. same) ∙ c.bytes-2.ensures)
    (c.in_ok-insert.ensures.entries ∙ (λ i. insert_entry (λ a b. bytes_eq a.items b.items) (c.get_mut.follows.holds-at-none i).entries k c.args.value))
