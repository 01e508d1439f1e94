use Rattle.std.proofs.lemmas.Result.{err_from_is_err_and}
use Rattle.s80_image.specs.Classes.{classes_of}
use Rattle.s80_image.specs.History.{all_versions_of}
use Rattle.s80_image.proofs.Wholes.{count_fails, contents_fail, set_fails, versions_fail, contents_pass}
use Rattle.s80_image.proofs.decode.contents.Goals as goal

pub returns-in_err-count : goal.returns-in_err-count
returns-in_err-count c =
    let p = err_from_is_err_and c.from_residual.result c.from_residual.ensures.1 in
    rw (p.1, p.2) (count_fails c.args.bytes.now c.in_err-count.field-0.0 c.in_err-count.ensures)

pub returns-in_err-classes : goal.returns-in_err-classes
returns-in_err-classes c =
    let p = err_from_is_err_and c.from_residual-in_err-classes.result c.from_residual-in_err-classes.ensures.1 in
    rw (p.1, p.2) (contents_fail c.args.bytes.now c.in_err-classes.field-0.0 c.in_ok-count.count c.in_ok-count.rest.now c.in_ok-count.ensures c.in_err-classes.ensures)

pub returns-in_err-change_set : goal.returns-in_err-change_set
returns-in_err-change_set c =
    let p = err_from_is_err_and c.from_residual-in_err-change_set.result c.from_residual-in_err-change_set.ensures.1 in
    rw (p.1, p.2) (set_fails c.args.bytes.now c.in_err-change_set.field-0.0 c.in_ok-count.count c.in_ok-count.rest.now (classes_of c.in_ok-classes.classes.items) c.in_ok-classes.rest.now c.in_ok-count.ensures c.in_ok-classes.ensures c.in_err-change_set.ensures)

pub returns-in_err-versions : goal.returns-in_err-versions
returns-in_err-versions c =
    let p = err_from_is_err_and c.from_residual-in_err-versions.result c.from_residual-in_err-versions.ensures.1 in
    rw (p.1, p.2) (versions_fail c.args.bytes.now c.in_err-versions.field-0.0 c.in_ok-count.count c.in_ok-count.rest.now (classes_of c.in_ok-classes.classes.items) c.in_ok-classes.rest.now c.in_ok-change_set.change_set.items c.in_ok-change_set.rest.now c.in_ok-count.ensures c.in_ok-classes.ensures c.in_ok-change_set.ensures c.in_err-versions.ensures)

pub returns : goal.returns
returns c = contents_pass c.args.bytes.now c.in_ok-count.count c.in_ok-count.rest.now (classes_of c.in_ok-classes.classes.items) c.in_ok-classes.rest.now c.in_ok-change_set.change_set.items c.in_ok-change_set.rest.now (all_versions_of c.in_ok-versions.versions.items) c.in_ok-versions.rest.now c.in_ok-count.ensures c.in_ok-classes.ensures c.in_ok-change_set.ensures c.in_ok-versions.ensures
