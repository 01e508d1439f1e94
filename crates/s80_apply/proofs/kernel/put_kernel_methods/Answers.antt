use Rattle.std.proofs.Common.{arith}
use Rattle.s80_apply.specs.Placed.{placed_kernel_state}
use Rattle.s80_apply.specs.State.{kernel_state}
use Rattle.s80_apply.specs.System.{SystemState}
use Rattle.s80_kernel.specs.Methods.{kernel_methods}
use Rattle.s80_apply.proofs.Booting.{all_put, lawful_rows, method_fits, method_more, method_short, method_stands, method_there, none_put}
use Rattle.s80_apply.proofs.Tied.{kernel_tied, system_tied}
use Rattle.s80_apply.proofs.kernel.put_kernel_methods.Goals as goal

pub loop-method-init : goal.loop-method-init
loop-method-init c = none_put c.args.classes.now c.args.methods.now c.requires

pub put_kernel_method-requires-clause-there : goal.put_kernel_method-requires-clause-there
put_kernel_method-requires-clause-there c =
    let lawful = lawful_rows kernel_methods c.kernel_methods_are_of_kernel_classes.ensures c.kernel_sources_stand_in_the_text.ensures c.kernel_sources_are_plain.ensures c.kernel_sources_fit.ensures in
    method_there c.method_rows-method-items.result.now c.loop-method.method-index _ c.args.classes.now c.loop-method.methods lawful c.method_rows-method-items.ensures.rows (omega arith) c.loop-method.invariant

pub put_kernel_method-requires-clause-stands : goal.put_kernel_method-requires-clause-stands
put_kernel_method-requires-clause-stands c =
    let lawful = lawful_rows kernel_methods c.kernel_methods_are_of_kernel_classes.ensures c.kernel_sources_stand_in_the_text.ensures c.kernel_sources_are_plain.ensures c.kernel_sources_fit.ensures in
    method_stands c.method_rows-method-items.result.now c.loop-method.method-index _ c.args.classes.now c.loop-method.methods lawful c.method_rows-method-items.ensures.rows (omega arith) c.loop-method.invariant

pub put_kernel_method-requires-clause-short : goal.put_kernel_method-requires-clause-short
put_kernel_method-requires-clause-short c =
    let lawful = lawful_rows kernel_methods c.kernel_methods_are_of_kernel_classes.ensures c.kernel_sources_stand_in_the_text.ensures c.kernel_sources_are_plain.ensures c.kernel_sources_fit.ensures in
    method_short c.method_rows-method-items.result.now c.loop-method.method-index _ c.args.classes.now c.loop-method.methods lawful c.method_rows-method-items.ensures.rows (omega arith) c.loop-method.invariant

pub put_kernel_method-requires-clause-fits : goal.put_kernel_method-requires-clause-fits
put_kernel_method-requires-clause-fits c =
    let lawful = lawful_rows kernel_methods c.kernel_methods_are_of_kernel_classes.ensures c.kernel_sources_stand_in_the_text.ensures c.kernel_sources_are_plain.ensures c.kernel_sources_fit.ensures in
    method_fits c.method_rows-method-items.result.now c.loop-method.method-index _ c.args.classes.now c.loop-method.methods lawful c.method_rows-method-items.ensures.rows (omega arith) c.loop-method.invariant

pub loop-method-preserved : goal.loop-method-preserved
loop-method-preserved c =
    let lawful = lawful_rows kernel_methods c.kernel_methods_are_of_kernel_classes.ensures c.kernel_sources_stand_in_the_text.ensures c.kernel_sources_are_plain.ensures c.kernel_sources_fit.ensures in
    method_more c.method_rows-method-items.result.now c.loop-method.method-index _ c.args.classes.now c.loop-method.methods lawful c.method_rows-method-items.ensures.rows (omega arith) c.loop-method.invariant
    c.put_kernel_method.new.methods c.put_kernel_method.ensures.count c.in_ok-put_kernel_method.ensures.put

pub returns-clause-system : goal.returns-clause-system
returns-clause-system c =
    let system : SystemState = record { table = c.args.classes.now; methods = c.loop-method.methods } in
    system_tied system placed_kernel_state kernel_state kernel_tied
    (all_put c.method_rows-method-items.result.now c.loop-method.method-index c.args.classes.now c.loop-method.methods c.method_rows-method-items.ensures.rows (omega arith) c.loop-method.invariant)

pub returns-clause-places : goal.returns-clause-places
returns-clause-places c =
    all_put c.method_rows-method-items.result.now c.loop-method.method-index c.args.classes.now c.loop-method.methods c.method_rows-method-items.ensures.rows (omega arith) c.loop-method.invariant
