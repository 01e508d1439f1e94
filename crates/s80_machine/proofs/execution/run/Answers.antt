use Rattle.std.proofs.Common.{subst}
use Rattle.s80_machine.specs.Run.{RunsTo}
use Rattle.s80_machine.specs.Came.{AnswersKnown, given_of}
use Rattle.s80_machine.proofs.CameRuns.{Runs, outcome_is}
use Rattle.s80_machine.proofs.execution.run.Goals as goal

pub returns-clause-runs : goal.returns-clause-runs
returns-clause-runs c =
    let on = given_of c.in_ok-on.on in
    let m = c.finish.new.machine in
    let f = c.in_ok-end.ensures in
    subst (λ g. RunsTo g.table g.methods g.code g.budget (record { end = c.in_ok-end.end; transcript = m.transcript; ticks = m.ticks; words = c.words.result; objects = m.objects })) c.in_ok-on.ensures.given
    (subst (Runs on) (outcome_is on m f.0 c.in_ok-end.end c.words.result f.1 c.words.ensures.words) f.2)

pub returns-clause-answer : goal.returns-clause-answer
returns-clause-answer c =
    let on = given_of c.in_ok-on.on in
    let m = c.finish.new.machine in
    let f = c.in_ok-end.ensures in
    subst (λ g. AnswersKnown g.table (record { end = c.in_ok-end.end; transcript = m.transcript; ticks = m.ticks; words = c.words.result; objects = m.objects })) c.in_ok-on.ensures.given
    (subst (AnswersKnown on.table) (outcome_is on m f.0 c.in_ok-end.end c.words.result f.1 c.words.ensures.words) f.3)
