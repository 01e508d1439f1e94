use Rattle.std.proofs.Common.{refl, ◌∙◌, ℕ, arith}
use Rattle.std.proofs.lemmas.List.{length-take-le}
use Rattle.std.proofs.lemmas.Result.{err_from_is_err_and}
use Rattle.s80_disk.proofs.lemmas.Showing.{told_beside}
use Rattle.s80_session.proofs.Answering.{no_fewer_on}
use Rattle.s80_session.proofs.Breaking.{done_counts, err_counts_on, memory_counts}
use Rattle.s80_session.proofs.TakingIn.{as_before_on, as_before_start, front_ends, front_last, front_more, front_start, shown_on}
use Rattle.s80_session.proofs.theirs.take_pieces.Goals as goal

pub pieces-init : goal.pieces-init
pieces-init g c = record {
  takes = λ state input left_is start. front_start c.args.given.now c.args.reader.now (g.O.Outside.shown c.args.outside.now) state input left_is start;
  some = λ some. some;
  shown = refl;
  images = λ image left. left;
  run = as_before_start g.O.Disk.moment g.O.Disk.left_since g.O.Disk.may_leave g.O.Outside.shown c.args.outside.now (λ told image left. let x = g.met.O.Disk.only_now c.args.outside.now told image left in (x.0, x.1 ∙ told_beside g.met.O.Outside.beside_is g.met.O.Outside.shown_is c.args.outside.now));
  later = record { read = omega arith; write = omega arith; disk = omega arith };
  faults_stay = refl;
  reading = c.requires.reading;
  opened = c.requires.open;
  room = c.requires.room;
  counted = c.requires.counted;
  within = omega arith;
  buffer = c.requires.buffer;
}

-- ---- no piece came

pub returns-in_err-count-clause-fed : goal.returns-in_err-count-clause-fed
returns-in_err-count-clause-fed g c = λ state input left_is start.
    let x = c.pieces.invariant.takes state input left_is start in
    let p = err_from_is_err_and c.from_residual.result c.from_residual.ensures.1 in
    rw (p.1, p.2) (front_ends c.pieces.given c.pieces.reader (g.O.Outside.shown c.pieces.outside) (g.O.Outside.shown c.take_piece.new.outside) state input c.take_piece.new.buf c.pieces.taken x c.in_err-count.field-0.0 c.pieces.invariant.counted c.in_err-count.ensures.took)

pub returns-in_err-count-clause-shown : goal.returns-in_err-count-clause-shown
returns-in_err-count-clause-shown g c = shown_on (g.O.Outside.shown c.args.outside.now) (g.O.Outside.shown c.pieces.outside) (g.O.Outside.shown c.take_piece.new.outside) c.pieces.invariant.shown c.take_piece.ensures.shown

pub returns-in_err-count-clause-images : goal.returns-in_err-count-clause-images
returns-in_err-count-clause-images g c = λ image left. c.pieces.invariant.images image (c.take_piece.ensures.images image left)

pub returns-in_err-count-clause-any_moment : goal.returns-in_err-count-clause-any_moment
returns-in_err-count-clause-any_moment g c = as_before_on g.O.Disk.moment g.O.Disk.left_since g.O.Disk.may_leave g.O.Outside.shown c.args.outside.now c.pieces.outside c.take_piece.new.outside c.pieces.invariant.shown c.pieces.invariant.images c.pieces.invariant.run c.take_piece.ensures.any_moment

pub returns-in_err-count-clause-counts : goal.returns-in_err-count-clause-counts
returns-in_err-count-clause-counts g c =
    let a = g.O.Outside.faults c.args.outside.now in
    let m = g.O.Outside.faults c.pieces.outside in
    let b = g.O.Outside.faults c.take_piece.new.outside in
    let p = err_from_is_err_and c.from_residual.result c.from_residual.ensures.1 in
    rw (p.1, p.2) (err_counts_on ℕ (Unit {0}) a m b c.in_err-count.field-0.0 c.pieces.invariant.faults_stay c.in_err-count.ensures.counts)

-- ---- memory was wanting

pub returns-in_err-take_in_piece-clause-fed : goal.returns-in_err-take_in_piece-clause-fed
returns-in_err-take_in_piece-clause-fed g c = λ state input left_is start.
    let p = err_from_is_err_and c.from_residual-in_err-take_in_piece.result c.from_residual-in_err-take_in_piece.ensures.1 in
    rw (p.1, p.2) tt

pub returns-in_err-take_in_piece-clause-shown : goal.returns-in_err-take_in_piece-clause-shown
returns-in_err-take_in_piece-clause-shown g c = shown_on (g.O.Outside.shown c.args.outside.now) (g.O.Outside.shown c.pieces.outside) (g.O.Outside.shown c.take_piece.new.outside) c.pieces.invariant.shown c.take_piece.ensures.shown

pub returns-in_err-take_in_piece-clause-images : goal.returns-in_err-take_in_piece-clause-images
returns-in_err-take_in_piece-clause-images g c = λ image left. c.pieces.invariant.images image (c.take_piece.ensures.images image left)

pub returns-in_err-take_in_piece-clause-any_moment : goal.returns-in_err-take_in_piece-clause-any_moment
returns-in_err-take_in_piece-clause-any_moment g c = as_before_on g.O.Disk.moment g.O.Disk.left_since g.O.Disk.may_leave g.O.Outside.shown c.args.outside.now c.pieces.outside c.take_piece.new.outside c.pieces.invariant.shown c.pieces.invariant.images c.pieces.invariant.run c.take_piece.ensures.any_moment

pub returns-in_err-take_in_piece-clause-counts : goal.returns-in_err-take_in_piece-clause-counts
returns-in_err-take_in_piece-clause-counts g c =
    let p = err_from_is_err_and c.from_residual-in_err-take_in_piece.result c.from_residual-in_err-take_in_piece.ensures.1 in
    rw (p.1, p.2) (memory_counts (Unit {0}) (g.O.Outside.faults c.args.outside.now) (g.O.Outside.faults c.take_piece.new.outside) (c.in_ok-count.ensures.counts.reason ∙ c.pieces.invariant.faults_stay))

-- ---- a piece more

pub pieces-preserved : goal.pieces-preserved
pieces-preserved g c = record {
  takes = λ state input left_is start. front_more c.pieces.given c.pieces.reader (g.O.Outside.shown c.pieces.outside) (g.O.Outside.shown c.take_piece.new.outside) state input c.take_piece.new.buf c.pieces.taken (c.pieces.invariant.takes state input left_is start) c.in_ok-count.count c.in_ok-count.ensures.took c.take_in_piece.new.given c.take_in_piece.new.reader c.take_in_piece.ensures.open c.in_ok-take_in_piece.ensures.taken;
  some = λ some. c.in_ok-take_in_piece.ensures.some (c.pieces.invariant.some some);
  shown = shown_on (g.O.Outside.shown c.args.outside.now) (g.O.Outside.shown c.pieces.outside) (g.O.Outside.shown c.take_piece.new.outside) c.pieces.invariant.shown c.take_piece.ensures.shown;
  images = λ image left. c.pieces.invariant.images image (c.take_piece.ensures.images image left);
  run = as_before_on g.O.Disk.moment g.O.Disk.left_since g.O.Disk.may_leave g.O.Outside.shown c.args.outside.now c.pieces.outside c.take_piece.new.outside c.pieces.invariant.shown c.pieces.invariant.images c.pieces.invariant.run c.take_piece.ensures.any_moment;
  later = no_fewer_on _ _ _ c.pieces.invariant.later c.take_piece.ensures.counts.later;
  faults_stay = c.in_ok-count.ensures.counts.reason ∙ c.pieces.invariant.faults_stay;
  reading = c.in_ok-take_in_piece.ensures.reading;
  opened = c.take_in_piece.ensures.open;
  room = c.in_ok-take_in_piece.ensures.room;
  counted = omega (arith, c.in_ok-take_in_piece.ensures.fed, c.pieces.invariant.counted, length-take-le c.in_ok-count.count c.take_piece.new.buf c.in_ok-count.ensures.bound);
  within = c.in_ok-count.ensures.within;
  buffer = c.take_piece.ensures.room ∙ c.pieces.invariant.buffer;
}

-- ---- the input is at its end

pub returns-clause-fed : goal.returns-clause-fed
returns-clause-fed g c = λ state input left_is start.
    let x = c.pieces.invariant.takes state input left_is start in
    front_last c.pieces.given c.pieces.reader (g.O.Outside.shown c.pieces.outside) (g.O.Outside.shown c.take_piece.new.outside) state input c.take_piece.new.buf c.pieces.taken x c.in_ok-count.count c.in_ok-count.ensures.took c.end_input.new.self c.if-count-eq0.true (omega (arith, c.pieces.invariant.counted, c.pieces.invariant.within)) c.end_input.ensures.read

pub returns-clause-some : goal.returns-clause-some
returns-clause-some g c = c.pieces.invariant.some

pub returns-clause-shown : goal.returns-clause-shown
returns-clause-shown g c = shown_on (g.O.Outside.shown c.args.outside.now) (g.O.Outside.shown c.pieces.outside) (g.O.Outside.shown c.take_piece.new.outside) c.pieces.invariant.shown c.take_piece.ensures.shown

pub returns-clause-images : goal.returns-clause-images
returns-clause-images g c = λ image left. c.pieces.invariant.images image (c.take_piece.ensures.images image left)

pub returns-clause-any_moment : goal.returns-clause-any_moment
returns-clause-any_moment g c = as_before_on g.O.Disk.moment g.O.Disk.left_since g.O.Disk.may_leave g.O.Outside.shown c.args.outside.now c.pieces.outside c.take_piece.new.outside c.pieces.invariant.shown c.pieces.invariant.images c.pieces.invariant.run c.take_piece.ensures.any_moment

pub returns-clause-counts : goal.returns-clause-counts
returns-clause-counts g c = done_counts (g.O.Outside.faults c.args.outside.now) (g.O.Outside.faults c.take_piece.new.outside) tt (c.in_ok-count.ensures.counts.reason ∙ c.pieces.invariant.faults_stay)

pub returns-clause-reading : goal.returns-clause-reading
returns-clause-reading g c =
    let some = c.pieces.invariant.reading in
    (some.0, some.1, c.end_input.ensures.read some.0 some.1 some.2)
