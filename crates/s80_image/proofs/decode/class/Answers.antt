use Rattle.std.specs.Prelude.{option_copied}
use Rattle.std.proofs.lemmas.Result.{err_from_is_err_and}
use Rattle.s80_image.specs.Methods.{methods_of}
use Rattle.s80_image.proofs.Wholes.{heading_fails, instance_fails, class_side_fails, class_passes}
use Rattle.s80_image.proofs.decode.class.Goals as goal

pub returns-in_err-heading : goal.returns-in_err-heading
returns-in_err-heading c =
    let p = err_from_is_err_and c.from_residual.result c.from_residual.ensures.1 in
    rw (p.1, p.2) (heading_fails (option_copied c.args.last) c.args.bytes.now c.in_err-heading.field-0.0 c.in_err-heading.ensures)

pub returns-in_err-instance_methods : goal.returns-in_err-instance_methods
returns-in_err-instance_methods c =
    let p = err_from_is_err_and c.from_residual-in_err-instance_methods.result c.from_residual-in_err-instance_methods.ensures.1 in
    rw (p.1, p.2) (instance_fails (option_copied c.args.last) c.args.bytes.now c.in_err-instance_methods.field-0.0 c.in_ok-heading.heading c.in_ok-heading.rest.now c.in_ok-heading.ensures c.in_err-instance_methods.ensures)

pub returns-in_err-class_methods : goal.returns-in_err-class_methods
returns-in_err-class_methods c =
    let p = err_from_is_err_and c.from_residual-in_err-class_methods.result c.from_residual-in_err-class_methods.ensures.1 in
    rw (p.1, p.2) (class_side_fails (option_copied c.args.last) c.args.bytes.now c.in_err-class_methods.field-0.0 c.in_ok-heading.heading c.in_ok-heading.rest.now (methods_of c.in_ok-instance_methods.instance_methods.items) c.in_ok-instance_methods.rest.now c.in_ok-heading.ensures c.in_ok-instance_methods.ensures c.in_err-class_methods.ensures)

pub returns : goal.returns
returns c = class_passes (option_copied c.args.last) c.args.bytes.now c.in_ok-heading.heading c.in_ok-heading.rest.now (methods_of c.in_ok-instance_methods.instance_methods.items) c.in_ok-instance_methods.rest.now (methods_of c.in_ok-class_methods.class_methods.items) c.in_ok-class_methods.rest.now c.in_ok-heading.ensures c.in_ok-instance_methods.ensures c.in_ok-class_methods.ensures
