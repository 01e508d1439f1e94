use Rattle.std.proofs.Common.{◌∙◌, ap, is_some, refl, sym}
use Rattle.s80_machine.specs.Seen.{held_by_name}
use Rattle.s80_machine.proofs.KeptVariables.{class_added, class_more, entries_in, found_by_name, name_put, named_there, none_of}
use Rattle.s80_machine.proofs.variables.Variables.add_class.Goals as goal

pub returns-then-contains_key-clause-there : goal.returns-then-contains_key-clause-there
returns-then-contains_key-clause-there c =
    ap is_some (sym (found_by_name c.args.self.now.of_classes.entries c.bytes.result.now c.args.class.now _ c.bytes.ensures refl)) ∙ sym c.if-contains_key.ensures

pub returns-clause-there : goal.returns-clause-there
returns-clause-there c =
    named_there c.insert.new.self.entries c.args.class.now c.new.result (held_by_name c.args.self.now.of_classes.entries c.args.class.now)
    (name_put c.args.self.now.of_classes.entries c.insert.new.self.entries c.in_ok-class.class c.args.class.now c.new.result (c.in_ok-class.ensures.items_if_clones_equal (λ x y same. same) ∙ c.bytes-2.ensures)
    c.in_ok-insert.ensures.entries c.args.class.now)

pub returns-clause-same : goal.returns-clause-same
returns-clause-same c =
    let old = c.args.self.now in
    class_added old (record { of_classes = c.insert.new.self; outer = old.outer; of_class_sides = old.of_class_sides }) refl refl
    (class_more entries_in old.of_classes.entries c.insert.new.self.entries c.args.class.now c.new.result c.new.ensures.empty
    (sym (found_by_name old.of_classes.entries c.bytes.result.now c.args.class.now _ c.bytes.ensures (sym (none_of _ c.if-contains_key.ensures))))
    (name_put old.of_classes.entries c.insert.new.self.entries c.in_ok-class.class c.args.class.now c.new.result (c.in_ok-class.ensures.items_if_clones_equal (λ x y same. same) ∙ c.bytes-2.ensures)
    c.in_ok-insert.ensures.entries))
