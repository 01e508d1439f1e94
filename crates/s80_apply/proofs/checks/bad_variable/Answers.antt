use Rattle.std.proofs.Common.{rules, not, sym}
use Rattle.s80_form.specs.Name.{is_name}
use Rattle.s80_apply.proofs.Found.{in_first, in_second, in_third}
use Rattle.s80_apply.proofs.checks.bad_variable.Goals as goal

pub returns-in-Some : goal.returns-in-Some
returns-in-Some c = in_first (λ name. not (is_name name)) c.args.definition.now.inst_vars c.args.definition.now.class_vars c.args.definition.now.pools _ (sym c.in-Some.ensures)

pub returns-in-Some-first_bad : goal.returns-in-Some-first_bad
returns-in-Some-first_bad c = in_second (λ name. not (is_name name)) c.args.definition.now.inst_vars c.args.definition.now.class_vars c.args.definition.now.pools _ (search rules) (sym c.in-Some-first_bad.ensures)

pub returns : goal.returns
returns c = in_third (λ name. not (is_name name)) c.args.definition.now.inst_vars c.args.definition.now.class_vars c.args.definition.now.pools _ (search rules) (search rules) c.first_bad-3.ensures
