use Rattle.std.proofs.Common.{◌≡◌, ◌++◌, length, take}
use Rattle.std.specs.Prelude.{None}
use Rattle.std.specs.Int.{w32, to_be_bytes}
use Rattle.std.specs.List.{flat_map}
use Rattle.s80_image.specs.History.{versions, all_versions_of}
use Rattle.s80_image.proofs.encode.put_all_versions.Given as goal

abbrev pub invariant-loop-versions : goal.invariant-loop-versions
invariant-loop-versions l = l.out.items ≡ l.fn.out.items ++ (to_be_bytes w32 (length l.all) ++ flat_map (versions None).spell (all_versions_of (take l.versions-index l.all)))
