use Rattle.std.proofs.Common.{◌∙◌, option_map}
use Rattle.s80_kernel.specs.Methods.{found_method, place_of}
use Rattle.s80_apply.specs.Entries.{state_row}
use Rattle.s80_apply.proofs.Owning.{own_there}
use Rattle.s80_apply.proofs.method.is_kernel_method.Goals as goal

pub returns-in-Some : goal.returns-in-Some
returns-in-Some c =
    own_there c.args.class_name.now c.args.side c.args.selector.now (state_row c.args.entry.now) c.is_class_side.result c.is_class_side.ensures c.in-Some.own.now c.is_same.result c.kernel_sources_stand_in_the_text.ensures c.found_methods_are_those_named.ensures
    (c.in-Some.ensures.found ∙ (λ i. option_map place_of (found_method (c.bytes.ensures i) c.is_class_side.result (c.bytes-2.ensures i)))) c.is_same.ensures
