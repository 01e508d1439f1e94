use Rattle.std.proofs.Common.{◌∙◌, ◌++◌, sym, ap}
use Rattle.std.specs.Prelude.{if◌then◌else◌}
use Rattle.std.proofs.lemmas.Result.{on_ok_weaker}
use Rattle.s80_kernel.specs.Rows.{is_kernel_class}
use Rattle.s80_class.specs.Classes.{Classes}
use Rattle.s80_class.specs.Table.{Table}
use Rattle.s80_fileout.specs.Order.{kernel_class, own_class}
use Rattle.s80_fileout.proofs.classes.add_class.Goals as goal

pub returns-then-is_kernel_class : goal.returns-then-is_kernel_class
returns-then-is_kernel_class c = λ state is.
    let name = c.args.class_name.now in
    let known = ap is_kernel_class (sym c.bytes.ensures) ∙ sym c.is_kernel_class.ensures ∙ c.if-is_kernel_class.true in
    on_ok_weaker c.add_class_of_kernel.result
    (λ more. more ∙ ap (λ b. c.args.changes.now ++ (if b then kernel_class state name else own_class state.classes name)) (sym known))
    (c.add_class_of_kernel.ensures state is)

pub returns-else-is_kernel_class : goal.returns-else-is_kernel_class
returns-else-is_kernel_class c = λ state is.
    let name = c.args.class_name.now in
    let before = c.args.changes.now in
    let other = ap is_kernel_class (sym c.bytes.ensures) ∙ sym c.is_kernel_class.ensures ∙ c.if-is_kernel_class.false in
    on_ok_weaker c.add_own_class.result
    (λ more. more ∙ ap (λ (t : Table). before ++ own_class t.classes name) c.classes.ensures.table ∙ ap (λ (cs : Classes). before ++ own_class cs name) is.classes
    ∙ ap (λ b. before ++ (if b then kernel_class state name else own_class state.classes name)) (sym other))
    c.add_own_class.ensures
