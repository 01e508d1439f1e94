use Rattle.std.proofs.Common.{length}
use Rattle.std.specs.Prelude.{None}
use Rattle.std.specs.Int.{w32, to_be_bytes}
use Rattle.std.specs.List.{flat_map}
use Rattle.s80_image.specs.History.{noted, change_set}
use Rattle.s80_image.proofs.Spelled.{whole, change_set_spelled}
use Rattle.s80_image.proofs.encode.put_change_set.Goals as goal

pub returns : goal.returns
returns c = whole (λ l. flat_map (noted None).spell l) c.loop-member.out.items c.args.out.now.items (to_be_bytes w32 (length c.args.set.now)) c.args.set.now c.loop-member.member-index (change_set.spell c.args.set.now) c.loop-member-test.false c.loop-member.invariant (change_set_spelled c.args.set.now)
