use Rattle.std.proofs.Common.{◌++◌, ◌∷◌, [], rules}
use Rattle.std.specs.Prelude.{None}
use Rattle.s80_image.specs.Format.{text, word64}
use Rattle.s80_image.specs.Parts.{side}
use Rattle.s80_image.specs.History.{noted, noted_kind_number}
use Rattle.s80_image.proofs.Spelled.{three, noted_parts}
use Rattle.s80_image.proofs.encode.put_noted.Goals as goal

pub returns : goal.returns
returns c = let m = c.args.noted.now in three c.args.out.now.items c.put_word64.new.out.items c.push.new.self.items c.put_name.new.out.items (word64.spell m.at) (noted_kind_number m.kind ∷ []) (text.spell m.class_name ++ (side.spell m.side ++ text.spell m.selector)) ((noted None).spell m) c.in_ok-put_word64.ensures (search rules) c.in_ok-put_name.ensures (noted_parts m)
