use Rattle.std.proofs.Common.{◌++◌, ◌∷◌, [], rules}
use Rattle.std.specs.Prelude.{None}
use Rattle.s80_image.specs.Format.{text}
use Rattle.s80_image.specs.Classes.{heading, kind_number, variables}
use Rattle.s80_image.proofs.Spelled.{four, heading_pairs}
use Rattle.s80_image.proofs.encode.put_class_heading.Goals as goal

pub returns : goal.returns
returns c = let h = c.args.heading.now in four c.args.out.now.items c.put_texts.new.out.items c.push.new.self.items c.put_variables.new.out.items c.put_texts-2.new.out.items (text.spell h.name ++ text.spell h.superclass) (kind_number h.kind ∷ []) ((variables None).spell h.variables) (text.spell h.category ++ text.spell h.comment) ((heading None).spell h) c.in_ok-put_texts.ensures (search rules) c.in_ok-put_variables.ensures c.in_ok-put_texts-2.ensures (heading_pairs h)
