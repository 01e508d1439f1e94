use Rattle.std.proofs.Common.{◌∙◌}
use Rattle.std.proofs.lemmas.Result.{err_from_is_err_and}
use Rattle.s80_session.specs.Files.{IsOther, IsUnwritten}
use Rattle.s80_session.specs.Session.{keeper_of, was_of}
use Rattle.s80_session.specs.Working.{at_rest}
use Rattle.s80_session.proofs.FiledIn.{puts_file, FileLaws}
use Rattle.s80_session.proofs.Grouped.{broken_trouble, flush_whole, put_trouble, step_lasts, stepped_err, stepped_ok, work_lasts}
use Rattle.s80_session.proofs.Holding.{counts_on, counts_then}
use Rattle.s80_session.proofs.Marking.{run_flushed}
use Rattle.s80_session.proofs.lemmas.Elsewhere.{elsewhere_fewer, elsewhere_then, left_on, still_other}
use Rattle.s80_session.proofs.session.Session.step.Goals as goal

pub returns-in_err-work-clause-stepped : goal.returns-in_err-work-clause-stepped
returns-in_err-work-clause-stepped g c = λ work put readable at.
    let p = err_from_is_err_and c.from_residual.result c.from_residual.ensures.1 in
    rw (p.1, p.2) (stepped_err c.in_err-work.field-0.0 (g.O.Disk.may_leave c.work.new.outside) (g.O.Outside.shown c.work.new.outside) c.work.new.self (was_of c.args.self.now) work put c.args.item (c.in_err-work.ensures.worked work (at_rest work put) readable at))

pub returns-in_err-work-clause-any_moment : goal.returns-in_err-work-clause-any_moment
returns-in_err-work-clause-any_moment g c = λ work put readable at.
    work_lasts g.O.Disk.moment g.O.Disk.left_since c.args.outside.now c.work.new.outside work put c.args.item (c.work.ensures.any_moment work (at_rest work put) readable at)

pub returns-in_err-work-clause-troubled : goal.returns-in_err-work-clause-troubled
returns-in_err-work-clause-troubled g c =
    let p = err_from_is_err_and c.from_residual.result c.from_residual.ensures.1 in
    rw (p.1, p.2) (broken_trouble c.in_err-work.field-0.0 _ _ c.args.self.now c.work.new.self (c.work.ensures.unput c.requires.resting) c.in_err-work.ensures.troubled)

pub returns-clause-stepped : goal.returns-clause-stepped
returns-clause-stepped g c = λ work put readable at.
    stepped_ok c.flush.result (g.O.Disk.may_leave c.work.new.outside) (g.O.Disk.may_leave c.flush.new.outside) (g.O.Outside.shown c.work.new.outside) (g.O.Outside.shown c.flush.new.outside) c.work.new.self c.flush.new.self (was_of c.args.self.now) work put c.args.item c.flush.ensures.rest.troubled c.flush.ensures.rest.last_run c.flush.ensures.flushed (c.in_ok-work.ensures.worked work (at_rest work put) readable at)

pub returns-clause-files_in : goal.returns-clause-files_in
returns-clause-files_in g c = λ work put readable at.
    let laws : FileLaws = record { all = c.all_classes_file_in.ensures; set = c.a_change_set_files_in.ensures } in
    let stepped = stepped_ok c.flush.result (g.O.Disk.may_leave c.work.new.outside) (g.O.Disk.may_leave c.flush.new.outside) (g.O.Outside.shown c.work.new.outside) (g.O.Outside.shown c.flush.new.outside) c.work.new.self c.flush.new.self (was_of c.args.self.now) work put c.args.item c.flush.ensures.rest.troubled c.flush.ensures.rest.last_run c.flush.ensures.flushed (c.in_ok-work.ensures.worked work (at_rest work put) readable at) in
    puts_file laws work at.keeps.built at.keeps.holds.list c.flush.result (g.O.Disk.may_leave c.flush.new.outside) (g.O.Outside.shown c.flush.new.outside) c.flush.new.self (was_of c.args.self.now) put c.args.item stepped

pub returns-clause-any_moment : goal.returns-clause-any_moment
returns-clause-any_moment g c = λ work put readable at.
    step_lasts g.O.Disk.moment g.O.Disk.left_since c.args.outside.now c.work.new.outside c.flush.new.outside (g.O.Disk.may_leave c.work.new.outside) (g.O.Outside.shown c.work.new.outside) c.work.new.self (was_of c.args.self.now) work put c.args.item (c.work.ensures.any_moment work (at_rest work put) readable at) c.flush.ensures.any_moment (c.in_ok-work.ensures.worked work (at_rest work put) readable at)

pub returns-clause-troubled : goal.returns-clause-troubled
returns-clause-troubled g c = put_trouble c.flush.result _ _ _ c.args.self.now c.work.new.self c.flush.new.self c.requires.resting.silent (c.work.ensures.unput c.requires.resting) c.flush.ensures.rest.troubled c.flush.ensures.put c.in_ok-work.ensures.troubled

pub returns-clause-last_run : goal.returns-clause-last_run
returns-clause-last_run g c = run_flushed c.flush.result c.args.item c.args.self.now c.work.new.self c.flush.new.self c.flush.ensures.ends c.flush.ensures.system c.flush.ensures.rest.budget c.flush.ensures.rest.last_run c.in_ok-work.ensures.last_run

pub returns-clause-counts : goal.returns-clause-counts
returns-clause-counts g c = counts_then c.args.item _ _ _ c.in_ok-work.field-0 c.flush.result (counts_on _ _ _ c.flush.result c.flush.ensures.counts) c.in_ok-work.ensures.counts

pub returns-clause-sound : goal.returns-clause-sound
returns-clause-sound g c = λ tells changes knows built. flush_whole c.flush.result c.flush.ensures.ends

-- ---- the files

pub returns-clause-elsewhere : goal.returns-clause-elsewhere
returns-clause-elsewhere g c =
    let D = g.O.Disk in
    let o = c.args.outside.now in
    let mid = c.work.new.outside in
    let number = (keeper_of c.args.self.now).log.number in
    let now = (keeper_of c.work.new.self).log.number in
    let behind = elsewhere_fewer D.moment D.left_since mid c.flush.new.outside (D.may_leave mid) (IsOther now) (IsUnwritten c.args.item number) (still_other c.args.item number now c.work.ensures.log) c.flush.ensures.elsewhere in
    elsewhere_then D.moment D.left_since o mid c.flush.new.outside (D.may_leave o) (D.may_leave mid) (D.beside mid).told (IsUnwritten c.args.item number) (g.met.O.Disk.counts_now mid) c.work.ensures.elsewhere behind

pub returns-clause-others : goal.returns-clause-others
returns-clause-others g c = λ other unwritten. c.flush.ensures.others other unwritten.other.no_mark ∙ c.work.ensures.others other unwritten

pub returns-clause-asked : goal.returns-clause-asked
returns-clause-asked g c = λ asking file. c.flush.ensures.unpending (c.in_ok-work.ensures.settled asking c.requires.resting) file ∙ c.work.ensures.asked asking c.requires.resting file

pub returns-clause-images : goal.returns-clause-images
returns-clause-images g c = λ asking image left. c.work.ensures.images asking c.requires.resting image (c.flush.ensures.images (c.in_ok-work.ensures.settled asking c.requires.resting) image left)

pub returns-clause-no_more : goal.returns-clause-no_more
returns-clause-no_more g c = λ asking.
    let D = g.O.Disk in
    left_on D.moment D.left_since c.args.outside.now c.work.new.outside c.flush.new.outside (D.may_leave c.args.outside.now) (D.may_leave c.work.new.outside) (c.work.ensures.images asking c.requires.resting) (c.work.ensures.no_more asking c.requires.resting) (c.flush.ensures.no_more (c.in_ok-work.ensures.settled asking c.requires.resting))
