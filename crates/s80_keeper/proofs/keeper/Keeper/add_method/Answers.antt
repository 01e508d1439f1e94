use Rattle.std.proofs.Common.{◌++◌, ℕ, List, ap, ◌∙◌}
use Rattle.std.proofs.lemmas.Result.{err_from_is_err_and}
use Rattle.s80_change.specs.declared.change.Change.{Change}
use Rattle.s80_fileout.specs.Condensed.{classified, last_category, newest}
use Rattle.s80_fileout.specs.Order.{name_listed, of_listed}
use Rattle.s80_keeper.proofs.Renewed.{open_so}
use Rattle.s80_keeper.proofs.Versions.{method_added, unadded_so}
use Rattle.s80_keeper.proofs.keeper.Keeper.add_method.Goals as goal

pub returns-in_err-category-clause-list : goal.returns-in_err-category-clause-list
returns-in_err-category-clause-list g c = λ told list knows.
    let before = c.args.changes.now in
    let now = c.add_versions.new.changes in
    let p = err_from_is_err_and c.from_residual.result c.from_residual.ensures.1 in
    rw (p.1, p.2) (unadded_so (List ℕ) (Unit {0}) c.in_err-category.field-0.0 before (newest c.args.keep list (name_listed c.args.listed)) now before (of_listed c.args.keep list c.args.listed) now (c.in_err-category.ensures.list told list knows))

pub returns-in_err-category-clause-open : goal.returns-in_err-category-clause-open
returns-in_err-category-clause-open g c =
    let p = err_from_is_err_and c.from_residual.result c.from_residual.ensures.1 in
    rw (p.1, p.2) (open_so (List ℕ) (Unit {0}) c.in_err-category.field-0.0 c.in_err-category.ensures.open)

pub returns-clause-list : goal.returns-clause-list
returns-clause-list g c = λ told list knows.
    let listed = c.args.listed in
    let mid = c.add_versions.new.changes in
    let category = c.bytes.ensures ∙ c.in_ok-category.ensures.category told list knows in
    let sorted : List ℕ → List Change = λ before. classified listed.method.class_name listed.method.side listed.selector before listed.method.category in
    method_added c.args.changes.now mid c.add_classifying.new.changes (newest c.args.keep list (name_listed listed)) (sorted (last_category list (name_listed listed))) (c.in_ok-category.ensures.list told list knows)
    (◌∙◌ {b = mid ++ sorted c.bytes.result.now} c.in_ok-add_classifying.ensures (ap (λ before. mid ++ sorted before) category))
