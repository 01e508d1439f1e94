use Rattle.std.proofs.Common.{◌≡◌, ◌∙◌, List, Result, ap, subst}
use Rattle.std.specs.Prelude.{IfErr}
use Rattle.s80_base.specs.Causes.{Rose}
use Rattle.s80_change.specs.declared.change.Change.{Change}
use Rattle.s80_form.specs.declared.refusal.Refusal.{Refusal}
use Rattle.s80_joining.specs.Parts.{ours_of}
use Rattle.s80_keeper.specs.declared.keep.KeepFault.{KeepFault}
use Rattle.s80_keeper.specs.Answers.{IfKeepDisk, UnlessKeepDisk}
use Rattle.s80_keeper.specs.Source.{IsThis, after_reading}
use Rattle.s80_session.specs.declared.end.SessionEnd.{SessionEnd}
use Rattle.s80_session.specs.Ending.{IsKeepEnd}
use Rattle.s80_session.proofs.BaseRead.{failed_so}
use Rattle.s80_session.proofs.Outcomes.{counts_read, counts_unread, keeper_unread, part_unread}
use Rattle.s80_session.proofs.Reading.{fault_keep_end}
use Rattle.s80_session.proofs.session.Session.set.Goals as goal

-- ---- it is read

pub returns-in-Ok-clause-set : goal.returns-in-Ok-clause-set
returns-in-Ok-clause-set g c = λ told changes knows end.
    let P : Result (List Change) KeepFault → Type 0 = λ r. IsThis (ours_of changes) r in
    subst P c.in-Ok.is (c.read_set.ensures.set told changes knows)

pub returns-in-Ok-clause-keeper : goal.returns-in-Ok-clause-keeper
returns-in-Ok-clause-keeper g c = c.read_set.ensures.after ∙ ap (λ r. after_reading r c.args.self.now.keeper) c.in-Ok.is

pub returns-in-Ok-clause-counts : goal.returns-in-Ok-clause-counts
returns-in-Ok-clause-counts g c =
    let a = g.O.Outside.faults c.args.outside.now in
    let b = g.O.Outside.faults c.read_set.new.outside in
    let P : Result (List Change) KeepFault → Type 0 = λ r. UnlessKeepDisk r (b.disk ≡ a.disk) in
    counts_read (List Change) c.in-Ok.set a b c.read_set.ensures.faults (subst P c.in-Ok.is c.read_set.ensures.faults_stay)

-- ---- it isn't

pub end_at_fault-requires : goal.end_at_fault-requires
end_at_fault-requires g c = λ count is. c.read_set.ensures.unfilled count (c.in-Err.is ∙ ap (failed_so (List Change)) is)

pub returns-in-Err-clause-set : goal.returns-in-Err-clause-set
returns-in-Err-clause-set g c = λ told changes knows end.
    let P : Result (List Change) KeepFault → Type 0 = λ r. IsThis (ours_of changes) r in
    part_unread (ours_of changes) c.in-Err.fault c.end_at_fault.result c.end_at_fault.ensures (subst P c.in-Err.is (c.read_set.ensures.set told changes knows))

pub returns-in-Err-clause-keeper : goal.returns-in-Err-clause-keeper
returns-in-Err-clause-keeper g c =
    keeper_unread (List Change) c.in-Err.fault c.end_at_fault.result c.args.self.now.keeper c.read_set.new.keeper c.end_at_fault.ensures (c.read_set.ensures.after ∙ ap (λ r. after_reading r c.args.self.now.keeper) c.in-Err.is)

pub returns-in-Err-clause-ends : goal.returns-in-Err-clause-ends
returns-in-Err-clause-ends g c =
    let P : Result Refusal SessionEnd → Type 0 = λ r. IfErr r IsKeepEnd in
    subst P c.end_at_fault.ensures (fault_keep_end c.in-Err.fault)

pub returns-in-Err-clause-counts : goal.returns-in-Err-clause-counts
returns-in-Err-clause-counts g c =
    let a = g.O.Outside.faults c.args.outside.now in
    let b = g.O.Outside.faults c.read_set.new.outside in
    let Cause : Result (List Change) KeepFault → Type 0 = λ r. IfKeepDisk r (λ failed. Rose a.disk b.disk) in
    let Stay : Result (List Change) KeepFault → Type 0 = λ r. UnlessKeepDisk r (b.disk ≡ a.disk) in
    counts_unread (List Change) c.in-Err.fault c.end_at_fault.result c.args.self.now.keeper a b c.end_at_fault.ensures c.read_set.ensures.faults c.read_set.ensures.later (subst Cause c.in-Err.is c.read_set.ensures.cause) (subst Stay c.in-Err.is c.read_set.ensures.faults_stay) (λ failed is. (c.read_set.ensures.closed failed).0 (c.in-Err.is ∙ ap (failed_so (List Change)) is)) c.requires.resting.faultless
