use Rattle.std.proofs.Common.{rules, refl, ◌∙◌, ◌≤◌, length, arith}
use Rattle.std.proofs.lemmas.Result.{err_from_is_err_and}
use Rattle.s80_disk.proofs.lemmas.Showing.{told_beside}
use Rattle.s80_session.specs.Session.{was_of}
use Rattle.s80_session.proofs.Answering.{no_fewer_on}
use Rattle.s80_session.proofs.Breaking.{err_sources_on}
use Rattle.s80_session.proofs.Marking.{both_runs, no_run}
use Rattle.s80_session.proofs.Works.{feeds_all, feeds_part, feeds_start, part_breaks, part_run}
use Rattle.s80_session.proofs.session.Session.work_piece.Goals as goal

pub loop-done-init : goal.loop-done-init
loop-done-init g c = record {
  feeds = λ was work before bytes given start. feeds_start g.O.Disk.moment g.O.Disk.left_since g.O.Disk.may_leave g.O.Outside.shown c.args.outside.now was work before bytes given c.args.piece.now c.args.self.now c.args.reader.now (λ told image left. let x = g.met.O.Disk.only_now c.args.outside.now told image left in (x.0, x.1 ∙ told_beside g.met.O.Outside.beside_is g.met.O.Outside.shown_is c.args.outside.now)) c.requires.open start;
  reading = c.requires.reading;
  left = refl;
  tells = refl;
  last_run = no_run c.args.self.now;
  later = record { read = omega arith; write = omega arith; disk = omega arith };
  faults_stay = refl;
  within = omega arith;
  fed = omega arith;
  room = c.requires.room;
  opened = c.requires.open;
  faultless = c.requires.faultless;
  little = c.requires.little;
  known = λ knows. knows;
}

pub work_items-requires-clause-reading : goal.work_items-requires-clause-reading
work_items-requires-clause-reading g c =
    let some = c.loop-done.invariant.reading in
    (_, some.1, c.feed-count.ensures.read some.0 some.1 some.2)

pub loop-done-preserved : goal.loop-done-preserved
loop-done-preserved g c = record {
  feeds = λ was work before bytes given start.
      let x = c.loop-done.invariant.feeds was work before bytes given start in
      feeds_part g.O.Disk.moment g.O.Disk.left_since g.O.Disk.may_leave g.O.Outside.shown c.args.outside.now was work before bytes given c.args.piece.now c.loop-done.outside c.work_items.new.outside c.loop-done.self c.work_items.new.self c.loop-done.reader c.feed-count.new.self c.work_items.new.reader c.loop-done.done c.feed-count.result x c.feed-count.ensures.read c.feed-count.ensures.open c.work_items.ensures.ended c.in_ok-work_items.ensures.worked c.work_items.ensures.any_moment;
  reading = c.in_ok-work_items.ensures.reading;
  left = c.work_items.ensures.left ∙ c.loop-done.invariant.left;
  tells = c.work_items.ensures.tells ∙ c.loop-done.invariant.tells;
  last_run = both_runs c.args.self.now c.loop-done.self c.work_items.new.self c.loop-done.invariant.last_run c.work_items.ensures.last_run;
  later = no_fewer_on _ _ _ c.loop-done.invariant.later c.work_items.ensures.counts.later;
  faults_stay = c.in_ok-work_items.ensures.counts.reason ∙ c.loop-done.invariant.faults_stay;
  within = search rules;
  fed = search rules;
  room = c.in_ok-work_items.ensures.spent.1;
  opened = c.work_items.ensures.ended ∙ c.feed-count.ensures.open;
  faultless = c.in_ok-work_items.ensures.faultless;
  little = c.in_ok-work_items.ensures.little;
  known = λ knows. c.in_ok-work_items.ensures.known (c.loop-done.invariant.known knows);
}

pub returns-in_err-work_items-clause-worked : goal.returns-in_err-work_items-clause-worked
returns-in_err-work_items-clause-worked g c = λ was work before bytes given start none input left is.
    let x = c.loop-done.invariant.feeds was work before bytes given start in
    let p = err_from_is_err_and c.from_residual.result c.from_residual.ensures.1 in
    rw (p.1, p.2) (part_breaks g.O.Disk.moment g.O.Disk.left_since g.O.Disk.may_leave g.O.Outside.shown c.args.outside.now was work before bytes given c.args.piece.now c.loop-done.outside c.work_items.new.outside c.loop-done.self c.work_items.new.self c.loop-done.reader c.feed-count.new.self c.work_items.new.reader c.loop-done.done c.feed-count.result x c.feed-count.ensures.read (Unit {0}) _ (was_of c.work_items.new.self) c.feed-count.ensures.open c.work_items.ensures.ended c.in_err-work_items.ensures.worked input left is)

pub returns-in_err-work_items-clause-any_moment : goal.returns-in_err-work_items-clause-any_moment
returns-in_err-work_items-clause-any_moment g c = λ was work before bytes given start input left is.
    let x = c.loop-done.invariant.feeds was work before bytes given start in
    part_run g.O.Disk.moment g.O.Disk.left_since g.O.Disk.may_leave g.O.Outside.shown c.args.outside.now was work before bytes given c.args.piece.now c.loop-done.outside c.work_items.new.outside c.loop-done.self c.work_items.new.self c.loop-done.reader c.feed-count.new.self c.work_items.new.reader c.loop-done.done c.feed-count.result x c.feed-count.ensures.read c.feed-count.ensures.open c.work_items.ensures.any_moment input left is

pub returns-in_err-work_items-clause-last_run : goal.returns-in_err-work_items-clause-last_run
returns-in_err-work_items-clause-last_run g c = both_runs c.args.self.now c.loop-done.self c.work_items.new.self c.loop-done.invariant.last_run c.work_items.ensures.last_run

pub returns-clause-worked : goal.returns-clause-worked
returns-clause-worked g c = λ was work before bytes given start none input left is.
    let x = c.loop-done.invariant.feeds was work before bytes given start in
    let long : length c.args.piece.now ≤ c.loop-done.done = search rules in
    feeds_all g.O.Disk.moment g.O.Disk.left_since g.O.Disk.may_leave g.O.Outside.shown c.args.outside.now was work before bytes given c.args.piece.now c.loop-done.outside c.loop-done.self c.loop-done.reader c.loop-done.done input left x long none

pub returns-clause-any_moment : goal.returns-clause-any_moment
returns-clause-any_moment g c = λ was work before bytes given start input left is. (c.loop-done.invariant.feeds was work before bytes given start).run input left is

pub returns-clause-last_run : goal.returns-clause-last_run
returns-clause-last_run g c = c.loop-done.invariant.last_run

-- ---- what is known stays known

pub returns-in_err-work_items-clause-known : goal.returns-in_err-work_items-clause-known
returns-in_err-work_items-clause-known g c = λ knows.
    let p = err_from_is_err_and c.from_residual.result c.from_residual.ensures.1 in
    rw (p.1, p.2) (c.in_err-work_items.ensures.known (c.loop-done.invariant.known knows))

pub returns-clause-known : goal.returns-clause-known
returns-clause-known g c = c.loop-done.invariant.known

pub returns-in_err-work_items-clause-counts : goal.returns-in_err-work_items-clause-counts
returns-in_err-work_items-clause-counts g c =
    let a = g.O.Outside.faults c.args.outside.now in
    let m = g.O.Outside.faults c.loop-done.outside in
    let b = g.O.Outside.faults c.work_items.new.outside in
    let p = err_from_is_err_and c.from_residual.result c.from_residual.ensures.1 in
    rw (p.1, p.2) (err_sources_on (Unit {0}) (Unit {0}) a m b c.in_err-work_items.field-0.0 c.loop-done.invariant.faults_stay c.in_err-work_items.ensures.counts)
