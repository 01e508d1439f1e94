use Rattle.std.proofs.Common.{◌≡◌, ◌-◌, []}
use Rattle.s80_image.specs.Format.{members, text_where}
use Rattle.std.specs.Prelude.{option_copied}
use Rattle.s80_image.specs.Classes.{may_stand}
use Rattle.s80_image.proofs.class_parts.names_from.Given as goal

abbrev pub invariant-loop : goal.invariant-loop
invariant-loop l = members (λ before. text_where (may_stand (option_copied l.given) before)) (l.names) (l.count - l.counter) l.rest ≡ members (λ before. text_where (may_stand (option_copied l.given) before)) [] l.count l.bytes
