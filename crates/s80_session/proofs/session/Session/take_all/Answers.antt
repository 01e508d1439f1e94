use Rattle.std.proofs.Common.{refl, ◌∙◌, ℕ, Err, ap, arith}
use Rattle.std.proofs.lemmas.List.{length-take-le}
use Rattle.std.proofs.lemmas.Result.{err_from_is_err_and}
use Rattle.s80_disk.proofs.lemmas.Showing.{told_beside}
use Rattle.s80_disk.specs.Shown.{Shown}
use Rattle.s80_session.specs.Session.{was_of}
use Rattle.s80_session.proofs.Answering.{no_fewer_on, run_of_rest}
use Rattle.s80_session.proofs.Knowing.{knows_left, whole_ends}
use Rattle.s80_session.proofs.Breaking.{err_sources_on}
use Rattle.s80_session.proofs.Holding.{source_counts}
use Rattle.s80_session.proofs.Marking.{both_runs, no_run}
use Rattle.s80_session.proofs.OneGroup.{little_at_rest}
use Rattle.s80_session.proofs.Works.{piece_ends, piece_flush_ends, piece_flush_run, piece_run, take_ends, take_last, take_run, takes_piece, takes_start}
use Rattle.s80_session.proofs.session.Session.take_all.Goals as goal

pub pieces-init : goal.pieces-init
pieces-init g c = record {
  takes = λ was work input before left_is start. takes_start g.O.Disk.moment g.O.Disk.left_since g.O.Disk.may_leave g.O.Outside.shown c.args.outside.now was work input before c.args.self.now c.args.reader.now (λ told image left. let x = g.met.O.Disk.only_now c.args.outside.now told image left in (x.0, x.1 ∙ told_beside g.met.O.Outside.beside_is g.met.O.Outside.shown_is c.args.outside.now)) c.requires.open left_is start;
  last_run = no_run c.args.self.now;
  later = record { read = omega arith; write = omega arith; disk = omega arith };
  faults_stay = refl;
  reading = c.requires.reading;
  opened = c.requires.open;
  room = c.requires.room;
  counted = c.requires.counted;
  within = omega arith;
  buffer = c.requires.buffer;
  resting = c.requires.resting;
  tells = refl;
  known = λ knows. knows;
}

pub returns-in_err-count-clause-took : goal.returns-in_err-count-clause-took
returns-in_err-count-clause-took g c = λ was work input before left_is start.
    let x = c.pieces.invariant.takes was work input before left_is start in
    let p = err_from_is_err_and c.from_residual.result c.from_residual.ensures.1 in
    rw (p.1, p.2) (take_ends g.O.Disk.moment g.O.Disk.left_since g.O.Disk.may_leave g.O.Outside.shown c.args.outside.now was work input before c.pieces.outside c.take_piece.new.outside c.pieces.self c.pieces.reader x (Unit {0}) _ (was_of c.pieces.self) c.take_piece.new.buf c.pieces.taken c.pieces.invariant.counted c.take_piece.ensures.shown c.take_piece.ensures.images c.in_err-count.ensures.took)

pub returns-in_err-count-clause-any_moment : goal.returns-in_err-count-clause-any_moment
returns-in_err-count-clause-any_moment g c = λ was work input before left_is start.
    let x = c.pieces.invariant.takes was work input before left_is start in
    take_run g.O.Disk.moment g.O.Disk.left_since g.O.Disk.may_leave g.O.Outside.shown c.args.outside.now was work input before c.pieces.outside c.take_piece.new.outside c.pieces.self c.pieces.reader x c.take_piece.ensures.any_moment

pub returns-in_err-count-clause-last_run : goal.returns-in_err-count-clause-last_run
returns-in_err-count-clause-last_run g c = c.pieces.invariant.last_run

pub work_piece-requires-clause-little : goal.work_piece-requires-clause-little
work_piece-requires-clause-little g c = little_at_rest c.pieces.self c.pieces.invariant.resting

pub returns-in_err-work_piece-clause-took : goal.returns-in_err-work_piece-clause-took
returns-in_err-work_piece-clause-took g c = λ was work input before left_is start.
    let x = c.pieces.invariant.takes was work input before left_is start in
    let p = err_from_is_err_and c.from_residual-in_err-work_piece.result c.from_residual-in_err-work_piece.ensures.1 in
    rw (p.1, p.2) (piece_ends g.O.Disk.moment g.O.Disk.left_since g.O.Disk.may_leave g.O.Outside.shown c.args.outside.now was work input before c.pieces.outside c.take_piece.new.outside c.pieces.self c.pieces.reader x c.take_piece.new.buf c.pieces.taken c.in_ok-count.count c.take_piece.ensures.shown c.take_piece.ensures.images c.in_ok-count.ensures.took c.work_piece.new.outside c.work_piece.new.self c.work_piece.new.reader c.work_piece.ensures.any_moment _ c.in_err-work_piece.ensures.worked)

pub returns-in_err-work_piece-clause-any_moment : goal.returns-in_err-work_piece-clause-any_moment
returns-in_err-work_piece-clause-any_moment g c = λ was work input before left_is start.
    let x = c.pieces.invariant.takes was work input before left_is start in
    piece_run g.O.Disk.moment g.O.Disk.left_since g.O.Disk.may_leave g.O.Outside.shown c.args.outside.now was work input before c.pieces.outside c.take_piece.new.outside c.pieces.self c.pieces.reader x c.take_piece.new.buf c.pieces.taken c.in_ok-count.count c.take_piece.ensures.shown c.take_piece.ensures.images c.in_ok-count.ensures.took c.work_piece.new.outside c.work_piece.new.self c.work_piece.new.reader c.work_piece.ensures.any_moment c.take_piece.ensures.any_moment

pub returns-in_err-work_piece-clause-last_run : goal.returns-in_err-work_piece-clause-last_run
returns-in_err-work_piece-clause-last_run g c = both_runs c.args.self.now c.pieces.self c.work_piece.new.self c.pieces.invariant.last_run c.work_piece.ensures.last_run

pub returns-in_err-flush-clause-took : goal.returns-in_err-flush-clause-took
returns-in_err-flush-clause-took g c = λ was work input before left_is start.
    let x = c.pieces.invariant.takes was work input before left_is start in
    let p = err_from_is_err_and c.from_residual-in_err-flush.result c.from_residual-in_err-flush.ensures.1 in
    rw (p.1, p.2) (piece_flush_ends g.O.Disk.moment g.O.Disk.left_since g.O.Disk.may_leave g.O.Outside.shown c.args.outside.now was work input before c.pieces.outside c.take_piece.new.outside c.pieces.self c.pieces.reader x c.take_piece.new.buf c.pieces.taken c.in_ok-count.count c.take_piece.ensures.shown c.take_piece.ensures.images c.in_ok-count.ensures.took c.work_piece.new.outside c.work_piece.new.self c.work_piece.new.reader c.work_piece.ensures.any_moment c.in_ok-work_piece.ensures.worked c.work_piece.ensures.open c.flush.new.outside c.flush.new.self c.flush.ensures.any_moment (Unit {0}) _ (was_of c.flush.new.self) c.in_err-flush.ensures.flushed)

pub returns-in_err-flush-clause-any_moment : goal.returns-in_err-flush-clause-any_moment
returns-in_err-flush-clause-any_moment g c = λ was work input before left_is start.
    let x = c.pieces.invariant.takes was work input before left_is start in
    piece_flush_run g.O.Disk.moment g.O.Disk.left_since g.O.Disk.may_leave g.O.Outside.shown c.args.outside.now was work input before c.pieces.outside c.take_piece.new.outside c.pieces.self c.pieces.reader x c.take_piece.new.buf c.pieces.taken c.in_ok-count.count c.take_piece.ensures.shown c.take_piece.ensures.images c.in_ok-count.ensures.took c.work_piece.new.outside c.work_piece.new.self c.work_piece.new.reader c.work_piece.ensures.any_moment c.in_ok-work_piece.ensures.worked c.work_piece.ensures.open c.flush.new.outside c.flush.new.self c.flush.ensures.any_moment c.take_piece.ensures.any_moment

pub returns-in_err-flush-clause-last_run : goal.returns-in_err-flush-clause-last_run
returns-in_err-flush-clause-last_run g c = both_runs c.args.self.now c.work_piece.new.self c.flush.new.self (both_runs c.args.self.now c.pieces.self c.work_piece.new.self c.pieces.invariant.last_run c.work_piece.ensures.last_run) (run_of_rest c.work_piece.new.self c.flush.new.self c.flush.ensures.rest)

pub pieces-preserved : goal.pieces-preserved
pieces-preserved g c = record {
  takes = λ was work input before left_is start.
      let x = c.pieces.invariant.takes was work input before left_is start in
      takes_piece g.O.Disk.moment g.O.Disk.left_since g.O.Disk.may_leave g.O.Outside.shown c.args.outside.now was work input before c.pieces.outside c.take_piece.new.outside c.pieces.self c.pieces.reader x c.take_piece.new.buf c.pieces.taken c.in_ok-count.count c.take_piece.ensures.shown c.take_piece.ensures.images c.in_ok-count.ensures.took c.work_piece.new.outside c.work_piece.new.self c.work_piece.new.reader c.work_piece.ensures.any_moment c.in_ok-work_piece.ensures.worked c.work_piece.ensures.open c.flush.new.outside c.flush.new.self c.flush.ensures.any_moment c.in_ok-flush.ensures.flushed c.flush.ensures.rest c.work_piece.ensures.left c.flush.ensures.left c.take_piece.ensures.any_moment;
  last_run = both_runs c.args.self.now c.work_piece.new.self c.flush.new.self (both_runs c.args.self.now c.pieces.self c.work_piece.new.self c.pieces.invariant.last_run c.work_piece.ensures.last_run) (run_of_rest c.work_piece.new.self c.flush.new.self c.flush.ensures.rest);
  later = no_fewer_on _ _ _ c.pieces.invariant.later (no_fewer_on _ _ _ c.take_piece.ensures.counts.later (no_fewer_on _ _ _ c.work_piece.ensures.counts.later c.flush.ensures.counts.later));
  faults_stay = c.in_ok-flush.ensures.counts.reason ∙ c.in_ok-work_piece.ensures.counts.reason ∙ c.in_ok-count.ensures.counts.reason ∙ c.pieces.invariant.faults_stay;
  reading = c.in_ok-work_piece.ensures.reading;
  opened = c.work_piece.ensures.open;
  room = c.in_ok-work_piece.ensures.room;
  counted = omega (arith, c.in_ok-work_piece.ensures.fed, c.pieces.invariant.counted, length-take-le c.in_ok-count.count c.take_piece.new.buf c.in_ok-count.ensures.bound);
  within = c.in_ok-count.ensures.within;
  buffer = c.take_piece.ensures.room ∙ c.pieces.invariant.buffer;
  resting = c.in_ok-flush.ensures.resting;
  tells = c.flush.ensures.tells ∙ c.work_piece.ensures.tells ∙ ap (λ (o : Shown). o.tells) c.take_piece.ensures.shown ∙ c.pieces.invariant.tells;
  known = λ knows. c.in_ok-flush.ensures.known (c.in_ok-work_piece.ensures.known (knows_left (g.O.Outside.shown c.pieces.outside) (g.O.Outside.shown c.take_piece.new.outside) c.pieces.self c.take_piece.ensures.shown (c.pieces.invariant.known knows)));
}

pub returns-clause-took : goal.returns-clause-took
returns-clause-took g c = λ was work input before left_is start.
    let x = c.pieces.invariant.takes was work input before left_is start in
    take_last g.O.Disk.moment g.O.Disk.left_since g.O.Disk.may_leave g.O.Outside.shown c.args.outside.now was work input before c.pieces.outside c.take_piece.new.outside c.pieces.self c.pieces.reader x c.take_piece.new.buf c.pieces.taken c.in_ok-count.count c.take_piece.ensures.shown c.take_piece.ensures.images c.in_ok-count.ensures.took c.end_input.new.self c.if-count-eq0.true (omega (arith, c.pieces.invariant.counted, c.pieces.invariant.within)) c.end_input.ensures.read

pub returns-clause-any_moment : goal.returns-clause-any_moment
returns-clause-any_moment g c = λ was work input before left_is start.
    let x = c.pieces.invariant.takes was work input before left_is start in
    take_run g.O.Disk.moment g.O.Disk.left_since g.O.Disk.may_leave g.O.Outside.shown c.args.outside.now was work input before c.pieces.outside c.take_piece.new.outside c.pieces.self c.pieces.reader x c.take_piece.ensures.any_moment

pub returns-clause-last_run : goal.returns-clause-last_run
returns-clause-last_run g c = c.pieces.invariant.last_run

pub returns-clause-reading : goal.returns-clause-reading
returns-clause-reading g c =
    let some = c.pieces.invariant.reading in
    (some.0, some.1, c.end_input.ensures.read some.0 some.1 some.2)

-- ---- what is known stays known

pub returns-in_err-count-clause-known : goal.returns-in_err-count-clause-known
returns-in_err-count-clause-known g c = λ knows.
    let p = err_from_is_err_and c.from_residual.result c.from_residual.ensures.1 in
    rw (p.1, p.2) (whole_ends (g.O.Outside.faults c.pieces.outside) (g.O.Outside.faults c.take_piece.new.outside) c.in_err-count.field-0.0 (g.O.Outside.shown c.take_piece.new.outside) c.pieces.self c.in_err-count.ensures.counts)

pub returns-in_err-work_piece-clause-known : goal.returns-in_err-work_piece-clause-known
returns-in_err-work_piece-clause-known g c = λ knows.
    let p = err_from_is_err_and c.from_residual-in_err-work_piece.result c.from_residual-in_err-work_piece.ensures.1 in
    rw (p.1, p.2) (c.in_err-work_piece.ensures.known (knows_left (g.O.Outside.shown c.pieces.outside) (g.O.Outside.shown c.take_piece.new.outside) c.pieces.self c.take_piece.ensures.shown (c.pieces.invariant.known knows)))

pub returns-in_err-flush-clause-known : goal.returns-in_err-flush-clause-known
returns-in_err-flush-clause-known g c = λ knows.
    let p = err_from_is_err_and c.from_residual-in_err-flush.result c.from_residual-in_err-flush.ensures.1 in
    rw (p.1, p.2) (c.in_err-flush.ensures.known (c.in_ok-work_piece.ensures.known (knows_left (g.O.Outside.shown c.pieces.outside) (g.O.Outside.shown c.take_piece.new.outside) c.pieces.self c.take_piece.ensures.shown (c.pieces.invariant.known knows))))

pub returns-clause-known : goal.returns-clause-known
returns-clause-known g c = λ knows. knows_left (g.O.Outside.shown c.pieces.outside) (g.O.Outside.shown c.take_piece.new.outside) c.pieces.self c.take_piece.ensures.shown (c.pieces.invariant.known knows)

-- ---- the counts of faults

pub returns-in_err-count-clause-counts : goal.returns-in_err-count-clause-counts
returns-in_err-count-clause-counts g c =
    let a = g.O.Outside.faults c.args.outside.now in
    let m = g.O.Outside.faults c.pieces.outside in
    let b = g.O.Outside.faults c.take_piece.new.outside in
    let end = c.in_err-count.field-0.0 in
    let p = err_from_is_err_and c.from_residual.result c.from_residual.ensures.1 in
    rw (p.1, p.2) (err_sources_on ℕ (Unit {0}) a m b end c.pieces.invariant.faults_stay (source_counts {U = ℕ} m b (Err end) c.in_err-count.ensures.counts))

pub returns-in_err-work_piece-clause-counts : goal.returns-in_err-work_piece-clause-counts
returns-in_err-work_piece-clause-counts g c =
    let a = g.O.Outside.faults c.args.outside.now in
    let m = g.O.Outside.faults c.take_piece.new.outside in
    let b = g.O.Outside.faults c.work_piece.new.outside in
    let p = err_from_is_err_and c.from_residual-in_err-work_piece.result c.from_residual-in_err-work_piece.ensures.1 in
    rw (p.1, p.2) (err_sources_on (Unit {0}) (Unit {0}) a m b c.in_err-work_piece.field-0.0 (c.in_ok-count.ensures.counts.reason ∙ c.pieces.invariant.faults_stay) c.in_err-work_piece.ensures.counts)

pub returns-in_err-flush-clause-counts : goal.returns-in_err-flush-clause-counts
returns-in_err-flush-clause-counts g c =
    let a = g.O.Outside.faults c.args.outside.now in
    let m = g.O.Outside.faults c.work_piece.new.outside in
    let b = g.O.Outside.faults c.flush.new.outside in
    let end = c.in_err-flush.field-0.0 in
    let p = err_from_is_err_and c.from_residual-in_err-flush.result c.from_residual-in_err-flush.ensures.1 in
    rw (p.1, p.2) (err_sources_on (Unit {0}) (Unit {0}) a m b end (c.in_ok-work_piece.ensures.counts.reason ∙ c.in_ok-count.ensures.counts.reason ∙ c.pieces.invariant.faults_stay) (source_counts {U = Unit {0}} m b (Err end) c.in_err-flush.ensures.counts))
