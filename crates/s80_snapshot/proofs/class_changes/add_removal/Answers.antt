use Rattle.std.proofs.Common.{◌∙◌, ◌++◌, [], ◌∷◌, sym, ap}
use Rattle.std.proofs.lemmas.Result.{on_ok_weaker}
use Rattle.s80_change.specs.declared.change.Change.{Change}
use Rattle.s80_image.specs.Methods.{methods_of}
use Rattle.s80_snapshot.proofs.MadeInOrder.{removal_added, removal_kept, selector_told}
use Rattle.s80_snapshot.proofs.class_changes.add_removal.Goals as goal

pub returns-then-has_selector : goal.returns-then-has_selector
returns-then-has_selector c =
    removal_kept c.args.class_name.now c.args.side (methods_of c.args.methods.now) c.args.selector.now c.args.changes.now
    (sym (selector_told c.args.methods.now c.args.selector.now) ∙ sym c.has_selector.ensures ∙ c.if-has_selector.true)

pub returns : goal.returns
returns c =
    on_ok_weaker c.push.result
    (λ more. removal_added c.args.class_name.now c.args.side (methods_of c.args.methods.now) c.args.selector.now c.args.changes.now c.push.new.self
    (sym (selector_told c.args.methods.now c.args.selector.now) ∙ sym c.has_selector.ensures ∙ c.if-has_selector.false)
    (more ∙ ap (λ (x : Change). c.args.changes.now ++ x ∷ []) c.in_ok-removal.ensures))
    c.push.ensures.ok
