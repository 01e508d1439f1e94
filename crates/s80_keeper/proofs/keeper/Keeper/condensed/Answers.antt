use Rattle.std.proofs.Common.{◌++◌, ◌∷◌, [], List, sym, ap, ◌∙◌, subst}
use Rattle.std.proofs.lemmas.Result.{err_from_is_err_and}
use Rattle.std.specs.List.{flat_map}
use Rattle.s80_form.specs.declared.form.Form.TheVariants.{NoChanges}
use Rattle.s80_change.specs.declared.change.Change.{Change}
use Rattle.s80_change.specs.declared.change.Change.TheVariants.{Form}
use Rattle.s80_apply.specs.List.{state_of}
use Rattle.s80_apply.specs.System.{IsSystemOf}
use Rattle.s80_fileout.specs.Condensed.{kept, kernel_part, own_part}
use Rattle.s80_fileout.specs.Order.{all_methods, of_listed}
use Rattle.s80_keeper.specs.Keeper.{KeeperState}
use Rattle.s80_keeper.proofs.Renewed.{open_so}
use Rattle.s80_keeper.proofs.Versions.{unadded_this}
use Rattle.s80_keeper.proofs.keeper.Keeper.condensed.Goals as goal

pub returns-in_err-add_methods-clause-list : goal.returns-in_err-add_methods-clause-list
returns-in_err-add_methods-clause-list g c = λ told changes knows.
    let p = err_from_is_err_and c.from_residual-in_err-add_methods.result c.from_residual-in_err-add_methods.ensures.1 in
    rw (p.1, p.2) (unadded_this (Unit {0}) c.in_err-add_methods.field-0.0 (kept changes c.args.keep) c.add_classes.new.changes (flat_map (of_listed c.args.keep changes) (all_methods (state_of changes))) c.add_methods.new.changes (c.in_err-add_methods.ensures.list told changes knows))

pub returns-in_err-add_methods-clause-open : goal.returns-in_err-add_methods-clause-open
returns-in_err-add_methods-clause-open g c =
    let p = err_from_is_err_and c.from_residual-in_err-add_methods.result c.from_residual-in_err-add_methods.ensures.1 in
    rw (p.1, p.2) (open_so (Unit {0}) (List Change) c.in_err-add_methods.field-0.0 c.in_err-add_methods.ensures.open)

pub returns-clause-list : goal.returns-clause-list
returns-clause-list g c = λ told changes knows.
    let state = state_of changes in
    let System : KeeperState → Type 0 = λ k. IsSystemOf k.system state in
    let classes = c.in_ok-add_classes.ensures state (subst System (sym c.self.view_is) knows.system) ∙ ap (λ l. l ++ (kernel_part state ++ own_part state)) c.empty-changes.ensures in
    let all = flat_map (of_listed c.args.keep changes) (all_methods state) in
    let methods = c.in_ok-add_methods.ensures.list told changes knows ∙ ap (λ l. l ++ all) classes in
    c.in_ok-push.ensures.ok ∙ ap (λ l. l ++ Form NoChanges ∷ []) methods ∙ sym (c.the_list_with_versions_is_made_in_order.ensures c.args.keep changes)
