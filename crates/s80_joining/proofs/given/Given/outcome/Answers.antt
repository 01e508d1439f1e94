use Rattle.std.proofs.Common.{subst}
use Rattle.s80_apply.specs.List.{state_of}
use Rattle.s80_joining.specs.declared.given.Given.{Given}
use Rattle.s80_joining.specs.Given.{HasCome}
use Rattle.s80_joining.proofs.LawfulTheirs.{taken_lawful}
use Rattle.s80_joining.proofs.given.Given.outcome.Goals as goal

pub returns-in-Worked-clause-outcome : goal.returns-in-Worked-clause-outcome
returns-in-Worked-clause-outcome c = λ items built come. c.outcome.ensures.outcome items built (subst (λ (g : Given). HasCome g (state_of c.args.base.now) items) c.in-Worked.is come)

pub returns-in-Worked-clause-lawful : goal.returns-in-Worked-clause-lawful
returns-in-Worked-clause-lawful c = λ list items given come.
    c.outcome.ensures.lawful (taken_lawful c.classes_are_named.ensures list items c.in-Worked.theirs given (subst (λ (g : Given). HasCome g (state_of list) items) c.in-Worked.is come))

pub returns-in-Bad-clause-outcome : goal.returns-in-Bad-clause-outcome
returns-in-Bad-clause-outcome c = λ items built come. subst (λ (g : Given). HasCome g (state_of c.args.base.now) items) c.in-Bad.is come
