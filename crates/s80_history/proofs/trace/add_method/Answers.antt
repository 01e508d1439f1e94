use Rattle.std.proofs.Common.{◌∙◌, sym}
use Rattle.s80_history.proofs.Naming.{none_of}
use Rattle.s80_history.proofs.Staying.{method_put}
use Rattle.s80_history.proofs.trace.add_method.Goals as goal

pub returns-clause-same : goal.returns-clause-same
returns-clause-same c =
    method_put c.args.methods.now.entries c.insert.new.self.entries c.in_ok-selector.selector c.bytes.result.now c.empty.result (none_of _ c.if-contains_key.ensures)
    (c.in_ok-selector.ensures.items_if_clones_equal (λ x y same. same) ∙ c.bytes-2.ensures ∙ sym c.bytes.ensures) c.in_ok-insert.ensures.entries c.empty.ensures.group c.empty.ensures.versions
