use Rattle.std.proofs.Common.{◌+◌, ◌≤◌, length}
use Rattle.s80_kernel.specs.Text.{kernel_text}
use Rattle.s80_kernel.specs.Methods.{found_method, holds_method, kernel_methods}
use Rattle.s80_kernel.proofs.MethodFacts.{found_inside, found_place}
use Rattle.s80_kernel.proofs.methods.find_method.Goals as goal

pub returns-clause-found : goal.returns-clause-found
unfolding found_method
returns-clause-found c = found_place (λ m. m.now) c.method_among.result c.method_rows.result.now kernel_methods c.args.class_name.now c.args.on_class_side c.args.selector.now c.method_among.ensures c.method_rows.ensures.rows

pub returns-clause-inside : goal.returns-clause-inside
returns-clause-inside c = found_inside (λ m. m.now) (λ m. m.position + m.length ≤ length kernel_text) (holds_method c.args.class_name.now c.args.on_class_side c.args.selector.now) c.method_among.result c.method_rows.result.now c.method_among.ensures c.method_rows.ensures.inside
