use Rattle.std.proofs.Common.{◌++◌}
use Rattle.std.specs.Prelude.{None}
use Rattle.s80_image.specs.Format.{text, word64}
use Rattle.s80_image.specs.Parts.{source}
use Rattle.s80_image.specs.Methods.{method_heading}
use Rattle.s80_image.proofs.Spelled.{three, method_heading_pairs}
use Rattle.s80_image.proofs.encode.put_method_heading.Goals as goal

pub returns : goal.returns
returns c = let h = c.args.heading.now in three c.args.out.now.items c.put_texts.new.out.items c.put_source.new.out.items c.put_range.new.out.items (text.spell h.selector ++ text.spell h.category) (source.spell h.from_kernel) (word64.spell h.position ++ word64.spell h.length) ((method_heading None).spell h) c.in_ok-put_texts.ensures c.in_ok-put_source.ensures c.in_ok-put_range.ensures (method_heading_pairs h)
