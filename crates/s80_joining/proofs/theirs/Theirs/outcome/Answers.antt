use Rattle.std.proofs.Common.{All, Err, subst, sym}
use Rattle.s80_change.specs.Block.{IsLawful}
use Rattle.s80_apply.specs.List.{state_of}
use Rattle.s80_merge.specs.Merging.{IsPlan}
use Rattle.s80_merge.specs.declared.planning.PlanFault.{PlanFault}
use Rattle.s80_joining.proofs.Accepted.{none_refused_taken, planned}
use Rattle.s80_joining.proofs.theirs.Theirs.outcome.Goals as goal

pub returns-in-Ok-clause-outcome : goal.returns-in-Ok-clause-outcome
returns-in-Ok-clause-outcome c = λ items built taken.
    c.outcome_of.ensures.outcome c.args.base.now c.args.ours.now items
    (planned c.args.self c.into_changes-theirs.result c.args.base.now c.args.ours.now items c.into_changes-theirs.ensures taken c.in-Ok.plan (c.in-Ok.ensures.plan built))

pub returns-in-Ok-clause-merges : goal.returns-in-Ok-clause-merges
returns-in-Ok-clause-merges c = λ built. c.outcome_of.ensures.merges c.args.base.now c.args.ours.now (c.in-Ok.ensures.merges built)

pub returns-in-Ok-clause-lawful : goal.returns-in-Ok-clause-lawful
returns-in-Ok-clause-lawful c = λ lawful. c.outcome_of.ensures.lawful (subst (All IsLawful) (sym c.into_changes-theirs.ensures) lawful)

pub returns-clause-outcome : goal.returns-clause-outcome
returns-clause-outcome c = λ items built taken.
    let P : PlanFault → Type 0 = λ fault. IsPlan (state_of c.args.base.now) c.args.ours.now c.into_changes-theirs.result (Err fault) in
    absurd
    (none_refused_taken c.args.self c.into_changes-theirs.result c.args.base.now c.args.ours.now items c.into_changes-theirs.ensures taken c.in-Err-Theirs.field-0-0 c.in-Err-Theirs.refusal
    (subst P c.in-Err-Theirs.field-0-is (c.in-Err-Theirs.ensures.plan built)))
