use Rattle.std.proofs.Common.{rules, not}
use Rattle.s80_form.specs.Name.{is_name}
use Rattle.s80_apply.proofs.Found.{find_here, find_later}
use Rattle.s80_apply.proofs.checks.first_bad.Goals as goal

pub returns-then-not-is_name : goal.returns-then-not-is_name
returns-then-not-is_name c = find_here (λ name. not (is_name name)) c.args.names.now c.loop-i.i c.at-name.result.now c.at-name.ensures (search rules) c.loop-i.invariant

pub loop-i-preserved : goal.loop-i-preserved
loop-i-preserved c = find_later (λ name. not (is_name name)) c.args.names.now c.loop-i.i c.at-name.result.now c.at-name.ensures (search rules) c.loop-i.invariant
