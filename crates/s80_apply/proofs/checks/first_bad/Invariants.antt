use Rattle.std.proofs.Common.{◌≡◌, not, drop}
use Rattle.std.specs.List.{find}
use Rattle.s80_form.specs.Name.{is_name}
use Rattle.s80_apply.proofs.checks.first_bad.Given as goal

abbrev pub invariant-loop-i : goal.invariant-loop-i
invariant-loop-i l = find (λ name. not (is_name name)) (drop l.i l.names) ≡ find (λ name. not (is_name name)) l.names
