use Rattle.std.proofs.Common.{length}
use Rattle.std.specs.Prelude.{None}
use Rattle.std.specs.Int.{w32, to_be_bytes}
use Rattle.std.specs.List.{flat_map}
use Rattle.s80_image.specs.History.{versions, all_versions, all_versions_of}
use Rattle.s80_image.proofs.Spelled.{whole, all_versions_spelled}
use Rattle.s80_image.proofs.encode.put_all_versions.Goals as goal

pub returns : goal.returns
returns c = whole (λ l. flat_map (versions None).spell (all_versions_of l)) c.loop-versions.out.items c.args.out.now.items (to_be_bytes w32 (length c.args.all.now)) c.args.all.now c.loop-versions.versions-index (all_versions.spell (all_versions_of c.args.all.now)) c.loop-versions-test.false c.loop-versions.invariant (all_versions_spelled c.args.all.now)
