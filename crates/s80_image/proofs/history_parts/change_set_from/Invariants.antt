use Rattle.std.proofs.Common.{◌≡◌, ◌-◌, []}
use Rattle.s80_image.specs.Format.{members}
use Rattle.s80_image.specs.History.{noted_behind}
use Rattle.s80_image.proofs.history_parts.change_set_from.Given as goal

abbrev pub invariant-loop : goal.invariant-loop
invariant-loop l = members (noted_behind) (l.set.items) (l.count - l.counter) l.rest ≡ members (noted_behind) [] l.count l.bytes
