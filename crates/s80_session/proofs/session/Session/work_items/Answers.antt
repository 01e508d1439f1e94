use Rattle.std.proofs.Common.{refl, ◌∙◌, ◌++◌, ◌∷◌, [], Ok, Err, Option, arith}
use Rattle.std.proofs.lemmas.Result.{err_from_is_err_and}
use Rattle.s80_chunk.specs.declared.item.Item.{Item}
use Rattle.s80_disk.proofs.lemmas.Showing.{told_beside}
use Rattle.s80_model.specs.declared.item.SessionItem.TheVariants.{Chunk}
use Rattle.s80_session.proofs.Answering.{no_fewer_on, read_none, read_some, readable_some, run_of_rest}
use Rattle.s80_session.proofs.Knowing.{knows_on, whole_ends}
use Rattle.s80_session.proofs.Breaking.{err_sources_on}
use Rattle.s80_session.proofs.Holding.{chunk_counts, source_counts}
use Rattle.s80_session.proofs.Marking.{both_runs, no_run, run_of_item}
use Rattle.s80_session.proofs.OneGroup.{little_at_rest, little_below, little_same}
use Rattle.s80_session.proofs.Works.{flush_breaks, flush_run, memory_breaks, work_breaks, work_run, works_all, works_flushed, works_item, works_same, works_start}
use Rattle.s80_session.proofs.session.Session.work_items.Goals as goal

pub loop-item-init : goal.loop-item-init
loop-item-init g c = record {
  works = λ was work before bytes given start. works_start g.O.Disk.moment g.O.Disk.left_since g.O.Disk.may_leave g.O.Outside.shown c.args.outside.now c.args.reader.now.ended was work before bytes c.args.self.now c.args.reader.now given (λ told image left. let x = g.met.O.Disk.only_now c.args.outside.now told image left in (x.0, x.1 ∙ told_beside g.met.O.Outside.beside_is g.met.O.Outside.shown_is c.args.outside.now)) refl start;
  reading = c.requires.reading;
  left = refl;
  tells = refl;
  last_run = no_run c.args.self.now;
  later = record { read = omega arith; write = omega arith; disk = omega arith };
  faults_stay = refl;
  fed = refl;
  ended = refl;
  faultless = c.requires.faultless;
  little = c.requires.little;
  known = λ knows. knows;
}

pub returns-in_err-item-clause-worked : goal.returns-in_err-item-clause-worked
returns-in_err-item-clause-worked g c = λ was work before bytes given start.
    let x = c.loop-item.invariant.works was work before bytes given start in
    let p = err_from_is_err_and c.from_residual.result c.from_residual.ensures.1 in
    rw (p.1, p.2) (memory_breaks g.O.Disk.moment g.O.Disk.left_since g.O.Disk.may_leave g.O.Outside.shown c.args.outside.now c.args.reader.now.ended was work before bytes c.loop-item.outside c.next_item.new.outside c.loop-item.self c.next_item.new.self c.loop-item.reader x _ c.next_item.new.reader.ended (c.next_item.ensures.ended ∙ c.loop-item.invariant.ended) c.in_err-item.ensures.ends)

pub returns-in_err-item-clause-any_moment : goal.returns-in_err-item-clause-any_moment
returns-in_err-item-clause-any_moment g c = λ was work before bytes given start.
    let x = c.loop-item.invariant.works was work before bytes given start in
    flush_run g.O.Disk.moment g.O.Disk.left_since g.O.Disk.may_leave g.O.Outside.shown c.args.outside.now c.args.reader.now.ended was work before bytes c.loop-item.outside c.next_item.new.outside c.loop-item.self c.next_item.new.self c.loop-item.reader x c.next_item.ensures.any_moment

pub returns-in_err-item-clause-last_run : goal.returns-in_err-item-clause-last_run
returns-in_err-item-clause-last_run g c = both_runs c.args.self.now c.loop-item.self c.next_item.new.self c.loop-item.invariant.last_run (run_of_rest c.loop-item.self c.next_item.new.self c.next_item.ensures.rest)

pub returns-in_err-work-clause-worked : goal.returns-in_err-work-clause-worked
returns-in_err-work-clause-worked g c = λ was work before bytes given start.
    let x = c.loop-item.invariant.works was work before bytes given start in
    let y = works_same g.O.Disk.moment g.O.Disk.left_since g.O.Disk.may_leave g.O.Outside.shown c.args.outside.now c.args.reader.now.ended was work before bytes c.loop-item.outside c.next_item.new.outside c.loop-item.self c.next_item.new.self c.loop-item.reader x c.in_ok-item.ensures.same in
    let p = err_from_is_err_and c.from_residual-in_err-work.result c.from_residual-in_err-work.ensures.1 in
    rw (p.1, p.2) (work_breaks g.O.Disk.moment g.O.Disk.left_since g.O.Disk.may_leave g.O.Outside.shown c.args.outside.now c.args.reader.now.ended was work before bytes c.next_item.new.outside c.next_item.new.self c.loop-item.reader c.next_item.new.reader y (little_same c.loop-item.self c.next_item.new.self c.in_ok-item.ensures.same.0 c.loop-item.invariant.little) c.in_ok-item.field-0 c.in_ok-item.ensures.item c.next_item.ensures.ended c.work.new.outside c.work.new.self c.in-Some.item c.in-Some.is c.in_ok-item.ensures.sound (Unit {0}) _ c.next_item.new.reader.ended (c.next_item.ensures.ended ∙ c.loop-item.invariant.ended) c.in_err-work.ensures.worked)

pub returns-in_err-work-clause-any_moment : goal.returns-in_err-work-clause-any_moment
returns-in_err-work-clause-any_moment g c = λ was work before bytes given start.
    let x = c.loop-item.invariant.works was work before bytes given start in
    let y = works_same g.O.Disk.moment g.O.Disk.left_since g.O.Disk.may_leave g.O.Outside.shown c.args.outside.now c.args.reader.now.ended was work before bytes c.loop-item.outside c.next_item.new.outside c.loop-item.self c.next_item.new.self c.loop-item.reader x c.in_ok-item.ensures.same in
    work_run g.O.Disk.moment g.O.Disk.left_since g.O.Disk.may_leave g.O.Outside.shown c.args.outside.now c.args.reader.now.ended was work before bytes c.next_item.new.outside c.next_item.new.self c.loop-item.reader c.next_item.new.reader y (little_same c.loop-item.self c.next_item.new.self c.in_ok-item.ensures.same.0 c.loop-item.invariant.little) c.in_ok-item.field-0 c.in_ok-item.ensures.item c.next_item.ensures.ended c.work.new.outside c.work.new.self c.in-Some.item c.in-Some.is c.in_ok-item.ensures.sound c.work.ensures.any_moment

pub returns-in_err-work-clause-last_run : goal.returns-in_err-work-clause-last_run
returns-in_err-work-clause-last_run g c = both_runs c.args.self.now c.next_item.new.self c.work.new.self (both_runs c.args.self.now c.loop-item.self c.next_item.new.self c.loop-item.invariant.last_run (run_of_rest c.loop-item.self c.next_item.new.self c.next_item.ensures.rest)) (run_of_item (Unit {0}) c.work.result (Chunk c.in-Some.item) c.next_item.new.self c.work.new.self c.work.ensures.budget c.work.ensures.last_run)

pub returns-in_err-flush-clause-worked : goal.returns-in_err-flush-clause-worked
returns-in_err-flush-clause-worked g c = λ was work before bytes given start.
    let x = c.loop-item.invariant.works was work before bytes given start in
    let y = works_same g.O.Disk.moment g.O.Disk.left_since g.O.Disk.may_leave g.O.Outside.shown c.args.outside.now c.args.reader.now.ended was work before bytes c.loop-item.outside c.next_item.new.outside c.loop-item.self c.next_item.new.self c.loop-item.reader x c.in_ok-item.ensures.same in
    let z = works_item g.O.Disk.moment g.O.Disk.left_since g.O.Disk.may_leave g.O.Outside.shown c.args.outside.now c.args.reader.now.ended was work before bytes c.next_item.new.outside c.next_item.new.self c.loop-item.reader c.next_item.new.reader y (little_same c.loop-item.self c.next_item.new.self c.in_ok-item.ensures.same.0 c.loop-item.invariant.little) c.in_ok-item.field-0 c.in_ok-item.ensures.item c.next_item.ensures.ended c.work.new.outside c.work.new.self c.in-Some.item c.in-Some.is c.in_ok-item.ensures.sound c.in_ok-work.ensures.worked c.work.ensures.any_moment in
    let p = err_from_is_err_and c.from_residual-in_err-flush.result c.from_residual-in_err-flush.ensures.1 in
    rw (p.1, p.2) (flush_breaks g.O.Disk.moment g.O.Disk.left_since g.O.Disk.may_leave g.O.Outside.shown c.args.outside.now c.args.reader.now.ended was work before bytes c.work.new.outside c.flush.new.outside c.work.new.self c.flush.new.self c.next_item.new.reader z (Unit {0}) _ c.next_item.new.reader.ended (c.next_item.ensures.ended ∙ c.loop-item.invariant.ended) c.in_err-flush.ensures.flushed)

pub returns-in_err-flush-clause-any_moment : goal.returns-in_err-flush-clause-any_moment
returns-in_err-flush-clause-any_moment g c = λ was work before bytes given start.
    let x = c.loop-item.invariant.works was work before bytes given start in
    let y = works_same g.O.Disk.moment g.O.Disk.left_since g.O.Disk.may_leave g.O.Outside.shown c.args.outside.now c.args.reader.now.ended was work before bytes c.loop-item.outside c.next_item.new.outside c.loop-item.self c.next_item.new.self c.loop-item.reader x c.in_ok-item.ensures.same in
    let z = works_item g.O.Disk.moment g.O.Disk.left_since g.O.Disk.may_leave g.O.Outside.shown c.args.outside.now c.args.reader.now.ended was work before bytes c.next_item.new.outside c.next_item.new.self c.loop-item.reader c.next_item.new.reader y (little_same c.loop-item.self c.next_item.new.self c.in_ok-item.ensures.same.0 c.loop-item.invariant.little) c.in_ok-item.field-0 c.in_ok-item.ensures.item c.next_item.ensures.ended c.work.new.outside c.work.new.self c.in-Some.item c.in-Some.is c.in_ok-item.ensures.sound c.in_ok-work.ensures.worked c.work.ensures.any_moment in
    flush_run g.O.Disk.moment g.O.Disk.left_since g.O.Disk.may_leave g.O.Outside.shown c.args.outside.now c.args.reader.now.ended was work before bytes c.work.new.outside c.flush.new.outside c.work.new.self c.flush.new.self c.next_item.new.reader z c.flush.ensures.any_moment

pub returns-in_err-flush-clause-last_run : goal.returns-in_err-flush-clause-last_run
returns-in_err-flush-clause-last_run g c = both_runs c.args.self.now c.work.new.self c.flush.new.self (both_runs c.args.self.now c.next_item.new.self c.work.new.self (both_runs c.args.self.now c.loop-item.self c.next_item.new.self c.loop-item.invariant.last_run (run_of_rest c.loop-item.self c.next_item.new.self c.next_item.ensures.rest)) (run_of_item (Unit {0}) c.work.result (Chunk c.in-Some.item) c.next_item.new.self c.work.new.self c.work.ensures.budget c.work.ensures.last_run)) (run_of_rest c.work.new.self c.flush.new.self c.flush.ensures.rest)

pub loop-item-preserved-in-Continue-branch-4 : goal.loop-item-preserved-in-Continue-branch-4
loop-item-preserved-in-Continue-branch-4 g c = record {
  works = λ was work before bytes given start.
      let x = c.loop-item.invariant.works was work before bytes given start in
      let y = works_same g.O.Disk.moment g.O.Disk.left_since g.O.Disk.may_leave g.O.Outside.shown c.args.outside.now c.args.reader.now.ended was work before bytes c.loop-item.outside c.next_item.new.outside c.loop-item.self c.next_item.new.self c.loop-item.reader x c.in_ok-item.ensures.same in
      let z = works_item g.O.Disk.moment g.O.Disk.left_since g.O.Disk.may_leave g.O.Outside.shown c.args.outside.now c.args.reader.now.ended was work before bytes c.next_item.new.outside c.next_item.new.self c.loop-item.reader c.next_item.new.reader y (little_same c.loop-item.self c.next_item.new.self c.in_ok-item.ensures.same.0 c.loop-item.invariant.little) c.in_ok-item.field-0 c.in_ok-item.ensures.item c.next_item.ensures.ended c.work.new.outside c.work.new.self c.in-Some.item c.in-Some.is c.in_ok-item.ensures.sound c.in_ok-work.ensures.worked c.work.ensures.any_moment in
      works_flushed g.O.Disk.moment g.O.Disk.left_since g.O.Disk.may_leave g.O.Outside.shown c.args.outside.now c.args.reader.now.ended was work before bytes c.work.new.outside c.flush.new.outside c.work.new.self c.flush.new.self c.next_item.new.reader z c.in_ok-flush.ensures.flushed c.flush.ensures.any_moment c.flush.ensures.rest;
  reading =
      let some = c.loop-item.invariant.reading in
      (some.0, some.1 ++ c.in-Some.item ∷ [], read_some c.next_item.new.reader some.0 some.1 c.in_ok-item.field-0 c.in-Some.item c.in-Some.is (c.in_ok-item.ensures.item some.0 some.1 some.2));
  left = c.flush.ensures.left ∙ c.work.ensures.left ∙ c.next_item.ensures.left ∙ c.loop-item.invariant.left;
  tells = c.flush.ensures.tells ∙ c.work.ensures.tells ∙ c.next_item.ensures.tells ∙ c.loop-item.invariant.tells;
  last_run = both_runs c.args.self.now c.work.new.self c.flush.new.self (both_runs c.args.self.now c.next_item.new.self c.work.new.self (both_runs c.args.self.now c.loop-item.self c.next_item.new.self c.loop-item.invariant.last_run (run_of_rest c.loop-item.self c.next_item.new.self c.next_item.ensures.rest)) (run_of_item (Unit {0}) c.work.result (Chunk c.in-Some.item) c.next_item.new.self c.work.new.self c.work.ensures.budget c.work.ensures.last_run)) (run_of_rest c.work.new.self c.flush.new.self c.flush.ensures.rest);
  later = no_fewer_on _ _ _ c.loop-item.invariant.later (no_fewer_on _ _ _ c.next_item.ensures.counts.later (no_fewer_on _ _ _ (chunk_counts c.in-Some.item _ _ c.work.result c.work.ensures.counts).later c.flush.ensures.counts.later));
  faults_stay = c.in_ok-flush.ensures.counts.reason ∙ (chunk_counts c.in-Some.item _ _ (Ok c.in_ok-work.field-0) c.in_ok-work.ensures.counts).reason ∙ c.in_ok-item.ensures.counts.reason ∙ c.loop-item.invariant.faults_stay;
  fed = c.next_item.ensures.fed ∙ c.loop-item.invariant.fed;
  ended = c.next_item.ensures.ended ∙ c.loop-item.invariant.ended;
  faultless = c.in_ok-flush.ensures.resting.faultless;
  little = little_at_rest c.flush.new.self c.in_ok-flush.ensures.resting;
  known = λ knows.
      let some = c.loop-item.invariant.reading in
      let readable = readable_some c.in_ok-item.field-0 c.in-Some.item c.loop-item.reader some.0 some.1 c.in-Some.is c.in_ok-item.ensures.sound some.2 in
      c.in_ok-flush.ensures.known (c.in_ok-work.ensures.known readable tt (knows_on g.O.Outside.shown c.loop-item.outside c.next_item.new.outside c.loop-item.self c.next_item.new.self c.in_ok-item.ensures.same (c.loop-item.invariant.known knows)));
}

pub loop-item-preserved : goal.loop-item-preserved
loop-item-preserved g c = record {
  works = λ was work before bytes given start.
      let x = c.loop-item.invariant.works was work before bytes given start in
      let y = works_same g.O.Disk.moment g.O.Disk.left_since g.O.Disk.may_leave g.O.Outside.shown c.args.outside.now c.args.reader.now.ended was work before bytes c.loop-item.outside c.next_item.new.outside c.loop-item.self c.next_item.new.self c.loop-item.reader x c.in_ok-item.ensures.same in
      let z = works_item g.O.Disk.moment g.O.Disk.left_since g.O.Disk.may_leave g.O.Outside.shown c.args.outside.now c.args.reader.now.ended was work before bytes c.next_item.new.outside c.next_item.new.self c.loop-item.reader c.next_item.new.reader y (little_same c.loop-item.self c.next_item.new.self c.in_ok-item.ensures.same.0 c.loop-item.invariant.little) c.in_ok-item.field-0 c.in_ok-item.ensures.item c.next_item.ensures.ended c.work.new.outside c.work.new.self c.in-Some.item c.in-Some.is c.in_ok-item.ensures.sound c.in_ok-work.ensures.worked c.work.ensures.any_moment in
      z;
  reading =
      let some = c.loop-item.invariant.reading in
      (some.0, some.1 ++ c.in-Some.item ∷ [], read_some c.next_item.new.reader some.0 some.1 c.in_ok-item.field-0 c.in-Some.item c.in-Some.is (c.in_ok-item.ensures.item some.0 some.1 some.2));
  left = c.work.ensures.left ∙ c.next_item.ensures.left ∙ c.loop-item.invariant.left;
  tells = c.work.ensures.tells ∙ c.next_item.ensures.tells ∙ c.loop-item.invariant.tells;
  last_run = both_runs c.args.self.now c.next_item.new.self c.work.new.self (both_runs c.args.self.now c.loop-item.self c.next_item.new.self c.loop-item.invariant.last_run (run_of_rest c.loop-item.self c.next_item.new.self c.next_item.ensures.rest)) (run_of_item (Unit {0}) c.work.result (Chunk c.in-Some.item) c.next_item.new.self c.work.new.self c.work.ensures.budget c.work.ensures.last_run);
  later = no_fewer_on _ _ _ c.loop-item.invariant.later (no_fewer_on _ _ _ c.next_item.ensures.counts.later (chunk_counts c.in-Some.item _ _ c.work.result c.work.ensures.counts).later);
  faults_stay = (chunk_counts c.in-Some.item _ _ (Ok c.in_ok-work.field-0) c.in_ok-work.ensures.counts).reason ∙ c.in_ok-item.ensures.counts.reason ∙ c.loop-item.invariant.faults_stay;
  fed = c.next_item.ensures.fed ∙ c.loop-item.invariant.fed;
  ended = c.next_item.ensures.ended ∙ c.loop-item.invariant.ended;
  faultless = c.in_ok-work.ensures.faultless;
  little = little_below c.is_full.result c.work.new.self c.is_full.ensures c.if-is_full.false;
  known = λ knows.
      let some = c.loop-item.invariant.reading in
      let readable = readable_some c.in_ok-item.field-0 c.in-Some.item c.loop-item.reader some.0 some.1 c.in-Some.is c.in_ok-item.ensures.sound some.2 in
      c.in_ok-work.ensures.known readable tt (knows_on g.O.Outside.shown c.loop-item.outside c.next_item.new.outside c.loop-item.self c.next_item.new.self c.in_ok-item.ensures.same (c.loop-item.invariant.known knows));
}

pub returns-clause-worked : goal.returns-clause-worked
returns-clause-worked g c = λ was work before bytes given start.
    let x = c.loop-item.invariant.works was work before bytes given start in
    let y = works_same g.O.Disk.moment g.O.Disk.left_since g.O.Disk.may_leave g.O.Outside.shown c.args.outside.now c.args.reader.now.ended was work before bytes c.loop-item.outside c.next_item.new.outside c.loop-item.self c.next_item.new.self c.loop-item.reader x c.in_ok-item.ensures.same in
    works_all g.O.Disk.moment g.O.Disk.left_since g.O.Disk.may_leave g.O.Outside.shown c.args.outside.now c.args.reader.now.ended was work before bytes c.next_item.new.outside c.next_item.new.self c.loop-item.reader c.next_item.new.reader y (little_same c.loop-item.self c.next_item.new.self c.in_ok-item.ensures.same.0 c.loop-item.invariant.little) c.in_ok-item.field-0 c.in_ok-item.ensures.item c.next_item.ensures.ended c.in_default.is c.in_ok-item.ensures.none

pub returns-clause-any_moment : goal.returns-clause-any_moment
returns-clause-any_moment g c = λ was work before bytes given start.
    let x = c.loop-item.invariant.works was work before bytes given start in
    let y = works_same g.O.Disk.moment g.O.Disk.left_since g.O.Disk.may_leave g.O.Outside.shown c.args.outside.now c.args.reader.now.ended was work before bytes c.loop-item.outside c.next_item.new.outside c.loop-item.self c.next_item.new.self c.loop-item.reader x c.in_ok-item.ensures.same in
    y.run

pub returns-clause-last_run : goal.returns-clause-last_run
returns-clause-last_run g c = both_runs c.args.self.now c.loop-item.self c.next_item.new.self c.loop-item.invariant.last_run (run_of_rest c.loop-item.self c.next_item.new.self c.next_item.ensures.rest)

pub returns-clause-little : goal.returns-clause-little
returns-clause-little g c = little_same c.loop-item.self c.next_item.new.self c.in_ok-item.ensures.same.0 c.loop-item.invariant.little

pub returns-clause-reading : goal.returns-clause-reading
returns-clause-reading g c =
    let some = c.loop-item.invariant.reading in
    (some.0, some.1, read_none c.next_item.new.reader some.0 some.1 c.in_ok-item.field-0 c.in_default.is (c.in_ok-item.ensures.item some.0 some.1 some.2))

-- ---- what is known stays known

pub returns-in_err-item-clause-known : goal.returns-in_err-item-clause-known
returns-in_err-item-clause-known g c = λ knows.
    let p = err_from_is_err_and c.from_residual.result c.from_residual.ensures.1 in
    rw (p.1, p.2) (whole_ends (g.O.Outside.faults c.loop-item.outside) (g.O.Outside.faults c.next_item.new.outside) c.in_err-item.field-0.0 (g.O.Outside.shown c.next_item.new.outside) c.next_item.new.self c.in_err-item.ensures.counts)

pub returns-in_err-work-clause-known : goal.returns-in_err-work-clause-known
returns-in_err-work-clause-known g c = λ knows.
    let some = c.loop-item.invariant.reading in
    let readable = readable_some c.in_ok-item.field-0 c.in-Some.item c.loop-item.reader some.0 some.1 c.in-Some.is c.in_ok-item.ensures.sound some.2 in
    let p = err_from_is_err_and c.from_residual-in_err-work.result c.from_residual-in_err-work.ensures.1 in
    rw (p.1, p.2) (c.in_err-work.ensures.known readable tt (knows_on g.O.Outside.shown c.loop-item.outside c.next_item.new.outside c.loop-item.self c.next_item.new.self c.in_ok-item.ensures.same (c.loop-item.invariant.known knows)))

pub returns-in_err-flush-clause-known : goal.returns-in_err-flush-clause-known
returns-in_err-flush-clause-known g c = λ knows.
    let some = c.loop-item.invariant.reading in
    let readable = readable_some c.in_ok-item.field-0 c.in-Some.item c.loop-item.reader some.0 some.1 c.in-Some.is c.in_ok-item.ensures.sound some.2 in
    let p = err_from_is_err_and c.from_residual-in_err-flush.result c.from_residual-in_err-flush.ensures.1 in
    rw (p.1, p.2) (c.in_err-flush.ensures.known (c.in_ok-work.ensures.known readable tt (knows_on g.O.Outside.shown c.loop-item.outside c.next_item.new.outside c.loop-item.self c.next_item.new.self c.in_ok-item.ensures.same (c.loop-item.invariant.known knows))))

pub returns-clause-known : goal.returns-clause-known
returns-clause-known g c = λ knows. knows_on g.O.Outside.shown c.loop-item.outside c.next_item.new.outside c.loop-item.self c.next_item.new.self c.in_ok-item.ensures.same (c.loop-item.invariant.known knows)

-- ---- the counts of faults

pub returns-in_err-item-clause-counts : goal.returns-in_err-item-clause-counts
returns-in_err-item-clause-counts g c =
    let a = g.O.Outside.faults c.args.outside.now in
    let m = g.O.Outside.faults c.loop-item.outside in
    let b = g.O.Outside.faults c.next_item.new.outside in
    let end = c.in_err-item.field-0.0 in
    let p = err_from_is_err_and c.from_residual.result c.from_residual.ensures.1 in
    rw (p.1, p.2) (err_sources_on (Option Item) (Unit {0}) a m b end c.loop-item.invariant.faults_stay (source_counts {U = Option Item} m b (Err end) c.in_err-item.ensures.counts))

pub returns-in_err-work-clause-counts : goal.returns-in_err-work-clause-counts
returns-in_err-work-clause-counts g c =
    let a = g.O.Outside.faults c.args.outside.now in
    let m = g.O.Outside.faults c.next_item.new.outside in
    let b = g.O.Outside.faults c.work.new.outside in
    let end = c.in_err-work.field-0.0 in
    let p = err_from_is_err_and c.from_residual-in_err-work.result c.from_residual-in_err-work.ensures.1 in
    rw (p.1, p.2) (err_sources_on (Unit {0}) (Unit {0}) a m b end (c.in_ok-item.ensures.counts.reason ∙ c.loop-item.invariant.faults_stay) (chunk_counts {U = Unit {0}} c.in-Some.item m b (Err end) c.in_err-work.ensures.counts))

pub returns-in_err-flush-clause-counts : goal.returns-in_err-flush-clause-counts
returns-in_err-flush-clause-counts g c =
    let a = g.O.Outside.faults c.args.outside.now in
    let m = g.O.Outside.faults c.work.new.outside in
    let b = g.O.Outside.faults c.flush.new.outside in
    let end = c.in_err-flush.field-0.0 in
    let worked = chunk_counts c.in-Some.item _ m (Ok c.in_ok-work.field-0) c.in_ok-work.ensures.counts in
    let p = err_from_is_err_and c.from_residual-in_err-flush.result c.from_residual-in_err-flush.ensures.1 in
    rw (p.1, p.2) (err_sources_on (Unit {0}) (Unit {0}) a m b end (worked.reason ∙ c.in_ok-item.ensures.counts.reason ∙ c.loop-item.invariant.faults_stay) (source_counts {U = Unit {0}} m b (Err end) c.in_err-flush.ensures.counts))
