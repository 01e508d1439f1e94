use Rattle.std.proofs.Common.{◌≡◌, ◌-◌, []}
use Rattle.s80_image.specs.Format.{members}
use Rattle.s80_image.specs.History.{all_versions_of, versions_behind}
use Rattle.s80_image.proofs.history_parts.all_versions_from.Given as goal

abbrev pub invariant-loop : goal.invariant-loop
invariant-loop l = members (versions_behind) (all_versions_of l.all.items) (l.count - l.counter) l.rest ≡ members (versions_behind) [] l.count l.bytes
