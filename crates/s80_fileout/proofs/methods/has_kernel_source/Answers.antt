use Rattle.std.proofs.Common.{◌+◌, ◌∙◌, ap, option_map, slice_range}
use Rattle.std.specs.Str.{bytes_eq}
use Rattle.s80_kernel.specs.Methods.{found_method, place_of}
use Rattle.s80_kernel.specs.Text.{kernel_text}
use Rattle.s80_fileout.proofs.Systems.{source_there}
use Rattle.s80_fileout.proofs.methods.has_kernel_source.Goals as goal

pub returns-in-Some : goal.returns-in-Some
returns-in-Some c =
    let own = c.in-Some.own.now in
    source_there c.args.method.now.class_name c.args.method.now.side c.args.selector.now c.args.method.now.source.text c.is_class_side.result c.is_class_side.ensures own c.is_source_of.result
    c.kernel_sources_stand_in_the_text.ensures c.found_methods_are_those_named.ensures
    (c.in-Some.ensures.found ∙ (λ i. option_map place_of (found_method (c.bytes.ensures i) c.is_class_side.result (c.bytes-2.ensures i))))
    (c.is_source_of.ensures ∙ ap (λ s. bytes_eq s (slice_range kernel_text own.position (own.position + own.length))) c.text.ensures)
