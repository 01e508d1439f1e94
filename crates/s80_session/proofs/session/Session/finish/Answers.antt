use Rattle.std.proofs.Common.{[], refl, sym, ◌∙◌}
use Rattle.std.proofs.lemmas.List.{append-nil}
use Rattle.std.proofs.lemmas.Result.{err_from_is_err_and}
use Rattle.s80_model.specs.declared.item.SessionItem.TheVariants.{Unended}
use Rattle.s80_model.specs.Replies.{work_after_all}
use Rattle.s80_session.specs.Run.{FirstAsksOf}
use Rattle.s80_session.specs.Session.{was_of}
use Rattle.s80_session.specs.Working.{BeginsAsking}
use Rattle.s80_session.proofs.Answering.{done_on}
use Rattle.s80_session.proofs.Finishing.{finished_clean, finished_unended, unended_input}
use Rattle.s80_session.proofs.Fronts.{first_front}
use Rattle.s80_session.proofs.Holding.{counts_on}
use Rattle.s80_session.proofs.Marking.{both_runs, run_of_item}
use Rattle.s80_session.proofs.Taking.{breaks, first_asks}
use Rattle.s80_session.proofs.lemmas.Groups.{answers_last, group_worked}
use Rattle.s80_session.proofs.session.Session.finish.Goals as goal

pub returns-in_err-work_items-clause-finished : goal.returns-in_err-work_items-clause-finished
returns-in_err-work_items-clause-finished g c = λ was work input before t.
    let w = done_on (g.O.Disk.may_leave c.args.outside.now) (g.O.Outside.shown c.args.outside.now) c.args.self.now c.args.reader.now was work before input t.given t.done in
    let p = err_from_is_err_and c.from_residual.result c.from_residual.ensures.1 in
    rw (p.1, p.2) (breaks (Unit {0}) _ (g.O.Disk.may_leave c.work_items.new.outside) _ _ (BeginsAsking work c.work_items.new.reader.ended input) was (was_of c.work_items.new.self) work before input (λ asks begin. first_asks c.work_items.new.reader.ended work input [] input asks begin (sym (append-nil input)) (λ e. refl)) (c.in_err-work_items.ensures.worked was work before input t.given w))

pub returns-in_err-work_items-clause-any_moment : goal.returns-in_err-work_items-clause-any_moment
returns-in_err-work_items-clause-any_moment g c = λ was work input before t.
    let w = done_on (g.O.Disk.may_leave c.args.outside.now) (g.O.Outside.shown c.args.outside.now) c.args.self.now c.args.reader.now was work before input t.given t.done in
    answers_last g.O.Disk.moment g.O.Disk.left_since c.args.outside.now c.work_items.new.outside c.args.reader.now.ended work before input [] input (sym (append-nil input)) (λ e. refl) (c.work_items.ensures.any_moment was work before input t.given w)

pub returns-in-Clean-clause-finished : goal.returns-in-Clean-clause-finished
returns-in-Clean-clause-finished g c = λ was work input before t.
    let w = done_on (g.O.Disk.may_leave c.args.outside.now) (g.O.Outside.shown c.args.outside.now) c.args.self.now c.args.reader.now was work before input t.given t.done in
    let a = c.in_ok-work_items.ensures.worked was work before input t.given w in
    finished_clean c.rest.result (g.O.Disk.may_leave c.work_items.new.outside) _ _ c.work_items.new.reader was work input before a.0 c.in-Clean.is (c.rest.ensures input a.0 a.1.read) a.1 (c.work_items.ensures.left ∙ t.left) t.within

pub returns-in-Clean-clause-any_moment : goal.returns-in-Clean-clause-any_moment
returns-in-Clean-clause-any_moment g c = λ was work input before t.
    let w = done_on (g.O.Disk.may_leave c.args.outside.now) (g.O.Outside.shown c.args.outside.now) c.args.self.now c.args.reader.now was work before input t.given t.done in
    answers_last g.O.Disk.moment g.O.Disk.left_since c.args.outside.now c.work_items.new.outside c.args.reader.now.ended work before input [] input (sym (append-nil input)) (λ e. refl) (c.work_items.ensures.any_moment was work before input t.given w)

pub returns-in-Unended-clause-finished : goal.returns-in-Unended-clause-finished
returns-in-Unended-clause-finished g c = λ was work input before t.
    let w = done_on (g.O.Disk.may_leave c.args.outside.now) (g.O.Outside.shown c.args.outside.now) c.args.self.now c.args.reader.now was work before input t.given t.done in
    let a = c.in_ok-work_items.ensures.worked was work before input t.given w in
    let u = unended_input c.rest.result work input a.0 a.1.asks c.in-Unended.field-0 c.in-Unended.is (c.rest.ensures input a.0 a.1.read) a.1.asked in
    finished_unended c.work.result (g.O.Disk.may_leave c.work_items.new.outside) (g.O.Disk.may_leave c.work.new.outside) (g.O.Outside.shown c.work_items.new.outside) (g.O.Outside.shown c.work.new.outside) c.work_items.new.self c.work.new.self c.work_items.new.reader was work input before a.0 a.1 c.in_ok-work_items.ensures.little u (c.work.ensures.worked (work_after_all work a.1.asks) a.1.basis tt a.1.at) (c.work.ensures.left ∙ c.work_items.ensures.left ∙ t.left) t.within

pub returns-in-Unended-clause-any_moment : goal.returns-in-Unended-clause-any_moment
returns-in-Unended-clause-any_moment g c = λ was work input before t.
    let w = done_on (g.O.Disk.may_leave c.args.outside.now) (g.O.Outside.shown c.args.outside.now) c.args.self.now c.args.reader.now was work before input t.given t.done in
    let a = c.in_ok-work_items.ensures.worked was work before input t.given w in
    let u = unended_input c.rest.result work input a.0 a.1.asks c.in-Unended.field-0 c.in-Unended.is (c.rest.ensures input a.0 a.1.read) a.1.asked in
    group_worked g.O.Disk.moment g.O.Disk.left_since (FirstAsksOf work input) (first_front work input) work before a.1.asks a.1.basis u.first a.1.behind c.args.outside.now c.work_items.new.outside c.work.new.outside Unended u.grows (answers_last g.O.Disk.moment g.O.Disk.left_since c.args.outside.now c.work_items.new.outside c.args.reader.now.ended work before input [] input (sym (append-nil input)) (λ e. refl) (c.work_items.ensures.any_moment was work before input t.given w)) (c.work.ensures.any_moment (work_after_all work a.1.asks) a.1.basis tt a.1.at)

pub returns-in_err-work_items-clause-last_run : goal.returns-in_err-work_items-clause-last_run
returns-in_err-work_items-clause-last_run g c = c.work_items.ensures.last_run

pub returns-in-Clean-clause-last_run : goal.returns-in-Clean-clause-last_run
returns-in-Clean-clause-last_run g c = c.work_items.ensures.last_run

pub returns-in-Unended-clause-last_run : goal.returns-in-Unended-clause-last_run
returns-in-Unended-clause-last_run g c = both_runs c.args.self.now c.work_items.new.self c.work.new.self c.work_items.ensures.last_run (run_of_item (Unit {0}) c.work.result Unended c.work_items.new.self c.work.new.self c.work.ensures.budget c.work.ensures.last_run)

-- ---- what is known stays known

pub returns-in_err-work_items-clause-known : goal.returns-in_err-work_items-clause-known
returns-in_err-work_items-clause-known g c = λ knows.
    let p = err_from_is_err_and c.from_residual.result c.from_residual.ensures.1 in
    rw (p.1, p.2) (c.in_err-work_items.ensures.known knows)

pub returns-in-Clean-clause-known : goal.returns-in-Clean-clause-known
returns-in-Clean-clause-known g c = λ knows. c.in_ok-work_items.ensures.known knows

pub returns-in-Unended-clause-known : goal.returns-in-Unended-clause-known
returns-in-Unended-clause-known g c = λ knows. c.work.ensures.known tt tt (c.in_ok-work_items.ensures.known knows)

-- ---- the counts of faults

pub returns-in-Unended-clause-counts : goal.returns-in-Unended-clause-counts
returns-in-Unended-clause-counts g c = (counts_on _ _ _ c.work.result c.work.ensures.counts c.in_ok-work_items.ensures.counts.reason).1
