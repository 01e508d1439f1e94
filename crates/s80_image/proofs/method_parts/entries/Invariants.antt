use Rattle.std.proofs.Common.{◌≡◌, ◌-◌, []}
use Rattle.s80_image.specs.Format.{members}
use Rattle.s80_code.specs.Entries.{entries_of}
use Rattle.s80_image.specs.Literals.{entry}
use Rattle.s80_image.proofs.method_parts.entries.Given as goal

abbrev pub invariant-loop : goal.invariant-loop
invariant-loop l = members (λ _. entry) (entries_of l.frame) (l.count - l.counter) l.rest ≡ members (λ _. entry) [] l.count l.bytes
