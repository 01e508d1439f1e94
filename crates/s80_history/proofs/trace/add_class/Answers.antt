use Rattle.std.proofs.Common.{◌∙◌, sym}
use Rattle.s80_history.proofs.Naming.{named_put, named_there, none_of}
use Rattle.s80_history.proofs.Staying.{class_put, is_there}
use Rattle.s80_history.proofs.trace.add_class.Goals as goal

pub returns-clause-same : goal.returns-clause-same
returns-clause-same c =
    class_put c.args.classes.now.entries c.insert.new.self.entries c.in_ok-class_name.class_name c.bytes.result.now c.empty.result (none_of _ c.if-contains_key.ensures)
    (c.in_ok-class_name.ensures.items_if_clones_equal (λ x y same. same) ∙ c.bytes-2.ensures ∙ sym c.bytes.ensures) c.in_ok-insert.ensures.entries c.empty.ensures.removed c.empty.ensures.comment
    c.empty.ensures.instance c.empty.ensures.class

pub returns-clause-there : goal.returns-clause-there
returns-clause-there c =
    is_there _ c.empty.result
    (named_there c.args.classes.now.entries c.insert.new.self.entries c.args.class_name.now c.empty.result
    (named_put c.args.classes.now.entries c.insert.new.self.entries c.in_ok-class_name.class_name c.args.class_name.now c.empty.result
    (c.in_ok-class_name.ensures.items_if_clones_equal (λ x y same. same) ∙ c.bytes-2.ensures) c.in_ok-insert.ensures.entries))
