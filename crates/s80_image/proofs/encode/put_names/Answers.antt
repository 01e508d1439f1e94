use Rattle.std.proofs.Common.{length, rules}
use Rattle.std.specs.Prelude.{None}
use Rattle.std.specs.Int.{w32, to_be_bytes}
use Rattle.std.specs.List.{flat_map}
use Rattle.s80_image.specs.Format.{text}
use Rattle.s80_image.specs.Classes.{names}
use Rattle.s80_image.proofs.Spelled.{next_name, whole, names_spelled}
use Rattle.s80_image.proofs.encode.put_names.Goals as goal

pub loop-i-preserved : goal.loop-i-preserved
loop-i-preserved c = next_name c.loop-i.out.items c.put_text.new.out.items c.args.out.now.items (to_be_bytes w32 (length c.args.names.now)) c.args.names.now c.loop-i.i c.at.result.now (search rules) c.at.ensures c.loop-i.invariant (search rules)

pub returns : goal.returns
returns c = whole (λ l. flat_map text.spell l) c.loop-i.out.items c.args.out.now.items (to_be_bytes w32 (length c.args.names.now)) c.args.names.now c.loop-i.i ((names 0 None).spell c.args.names.now) (search rules) c.loop-i.invariant (names_spelled c.args.names.now)
