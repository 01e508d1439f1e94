use Rattle.std.proofs.Common.{◌≡◌, ◌<◌, ◌+◌, ℕ, IsTrue, List, length, take, drop, Err, arith, rules, refl, ap, sym, subst, ◌∙◌}
use Rattle.std.proofs.lemmas.Result.{err_from_is_err_and}
use Rattle.s80_disk.proofs.lemmas.Run.{started}
use Rattle.s80_log.specs.Log.{log_file, held_in}
use Rattle.s80_change.specs.Blocks.{BeginsWith, BeginsWithNone}
use Rattle.s80_log.specs.Faults.{IfBad}
use Rattle.s80_keeper.proofs.OneList.{block_length}
use Rattle.s80_keeper.proofs.ReadTwice.{read_twice}
use Rattle.s80_keeper.proofs.Replayed.{ReplayedTo, no_disk, replayed_none, replayed_more, replayed_refused, replayed_bad, replayed_all, held_length}
use Rattle.s80_keeper.proofs.start.replay.Goals as goal
use Rattle.s80_keeper.proofs.start.replay.Goals.{In_ok-change}

pub returns-in_err-change-clause-answer : goal.returns-in_err-change-clause-answer
returns-in_err-change-clause-answer g c = λ from has told long reached.
    let log = c.args.log.now in
    let reads = g.D.Disk.reads c.args.disk.now in
    let now = c.loop-reached.reached in
    let so_far = c.loop-reached.invariant in
    let fault = c.in_err-change.field-0.0 in
    let same = ap (λ l. drop now.at (take log.end l)) (so_far.untouched.same (log_file log.number)) in
    let P : List ℕ → Type 0 = λ l. IfBad fault (λ place. BeginsWithNone l) in
    let before : now.at < length (held_in reads log) = omega (arith, c.loop-reached-test.true, c.length-in-loop-reached.ensures, held_length reads log long) in
    let p = err_from_is_err_and c.from_residual.result c.from_residual.ensures.1 in
    rw (p.1, p.2) (replayed_bad from c.args.begun.history (held_in reads log) now.at now.count now.system now.history (so_far.replayed from has told long) fault before (subst P same (c.in_err-change.ensures.none (so_far.untouched.telling ∙ told))) c.in_err-change.ensures.bad)

-- the block at the place, in the log as it was
begins : (g : _) (c : In_ok-change g) → IsTrue (g.D.Disk.tells c.args.disk.now) → BeginsWith (drop c.loop-reached.reached.at (held_in (g.D.Disk.reads c.args.disk.now) c.args.log.now)) c.in_ok-change.change
begins g c told =
    let log = c.args.log.now in
    let P : List ℕ → Type 0 = λ l. BeginsWith l c.in_ok-change.change in
    subst P (ap (λ l. drop c.loop-reached.reached.at (take log.end l)) (c.loop-reached.invariant.untouched.same (log_file log.number))) (c.in_ok-change.ensures.begins (c.loop-reached.invariant.untouched.telling ∙ told))

pub returns-in_err-accept_owned-clause-answer : goal.returns-in_err-accept_owned-clause-answer
returns-in_err-accept_owned-clause-answer g c = λ from has told long reached.
    let found = begins g (goal.at.returns-in_err-accept_owned-clause-answer g c).In_ok-change told in
    let now = c.loop-reached.reached in
    let fault = c.in_err-accept_owned.field-0.0 in
    let p = err_from_is_err_and c.from_residual-in_err-accept_owned.result c.from_residual-in_err-accept_owned.ensures.1 in
    rw (p.1, p.2) (replayed_refused from c.args.begun.history _ now.at now.count now.system now.history (c.loop-reached.invariant.replayed from has told long) c.in_ok-change.change found (Unit {0}) c.accept_owned.new.system fault c.in_err-accept_owned.ensures.answer)

pub returns-in_err-accept_owned-clause-cause : goal.returns-in_err-accept_owned-clause-cause
returns-in_err-accept_owned-clause-cause g c =
    let p = err_from_is_err_and c.from_residual-in_err-accept_owned.result c.from_residual-in_err-accept_owned.ensures.1 in
    rw (p.1, p.2) (no_disk {T = Unit {0}} _ (Err c.in_err-accept_owned.field-0.0) c.in_err-accept_owned.ensures.offline)

pub returns-in_err-accept_owned-clause-named : goal.returns-in_err-accept_owned-clause-named
returns-in_err-accept_owned-clause-named g c =
    let p = err_from_is_err_and c.from_residual-in_err-accept_owned.result c.from_residual-in_err-accept_owned.ensures.1 in
    rw (p.1, p.2) (no_disk {T = Unit {0}} _ (Err c.in_err-accept_owned.field-0.0) c.in_err-accept_owned.ensures.offline)

pub returns-clause-answer : goal.returns-clause-answer
returns-clause-answer g c = λ from has told long reached.
    let log = c.args.log.now in
    let reads = g.D.Disk.reads c.args.disk.now in
    let now = c.loop-reached.reached in
    replayed_all from c.args.begun.history (held_in reads log) now.at now.count now.system now.history (c.loop-reached.invariant.replayed from has told long)
    (omega (arith, held_length reads log long, c.loop-reached-test.false, c.length-in-loop-reached.ensures))

pub loop-reached-init : goal.loop-reached-init
loop-reached-init g c =
    let D = g.D.Disk in
    let d = c.args.disk.now in
    record {
      replayed = λ from has told long. replayed_none from (held_in (g.D.Disk.reads c.args.disk.now) c.args.log.now) c.args.begun has;
      few = c.requires.counted;
      within = omega (arith, c.if-length-begun.false, c.length.ensures);
      untouched = record {
        telling = refl;
        same = λ file. refl;
        crash = λ image left. left;
        any_moment = started D.moment D.left_since d _ (λ told image left. let now = g.met.D.Disk.only_now d told image left in record { told_is = now.1; was = now.0 });
        rest = refl;
        later = omega arith;
      };
      faults_stay = refl;
    }

pub loop-reached-preserved : goal.loop-reached-preserved
loop-reached-preserved g c =
    let change = c.in_ok-change.change in
    let next = c.in_ok-change.ensures.next in
    let at = c.loop-reached.reached.at in
    let count = c.loop-reached.reached.count in
    let so_far = c.loop-reached.invariant in
    let one_more : c.saturating_add.result ≡ count + 1 = omega (arith, c.saturating_add.ensures, so_far.few, next.1, next.2, block_length change, c.length.ensures, c.length.type_inv) in
    record {
      replayed = λ from has told long.
          let held = held_in (g.D.Disk.reads c.args.disk.now) c.args.log.now in
          let more = replayed_more from c.args.begun.history held at count c.loop-reached.reached.system c.loop-reached.reached.history (so_far.replayed from has told long) change (begins g (goal.at.loop-reached-preserved g c).In_ok-change told) c.in_ok-accept_owned.field-0 c.in_ok-change.next c.accept_owned.new.system c.accept_owned.new.history next.1 c.in_ok-accept_owned.ensures.answer c.in_ok-accept_owned.ensures.places c.in_ok-accept_owned.ensures.history in
          subst (λ n. ReplayedTo from c.args.begun.history held c.in_ok-change.next n c.accept_owned.new.system c.accept_owned.new.history) (sym one_more) more;
      few = omega (arith, next.1, block_length change, so_far.few, one_more);
      within = next.2;
      untouched = search rules;
      faults_stay = c.in_ok-change.ensures.faults_stay ∙ so_far.faults_stay;
    }

pub returns-in_err-change-clause-untouched : goal.returns-in_err-change-clause-untouched
returns-in_err-change-clause-untouched g c =
    let D = g.D.Disk in
    read_twice D.tells D.reads D.may_leave D.moment D.left_since D.beside D.disk_faults c.args.disk.now c.loop-reached.disk c.read_block.new.disk c.loop-reached.invariant.untouched c.read_block.ensures.untouched

pub returns-in_err-accept_owned-clause-untouched : goal.returns-in_err-accept_owned-clause-untouched
returns-in_err-accept_owned-clause-untouched g c =
    let D = g.D.Disk in
    read_twice D.tells D.reads D.may_leave D.moment D.left_since D.beside D.disk_faults c.args.disk.now c.loop-reached.disk c.read_block.new.disk c.loop-reached.invariant.untouched c.read_block.ensures.untouched
