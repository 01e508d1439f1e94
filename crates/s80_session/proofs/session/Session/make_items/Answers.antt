use Rattle.std.proofs.Common.{◌≡◌, ◌+◌, ◌*◌, List, ℕ, Some, slice_get, refl, ◌∙◌, arith}
use Rattle.std.proofs.lemmas.Result.{err_from_is_err_and}
use Rattle.s80_disk.specs.Moments.{LeavesOnly}
use Rattle.s80_disk.proofs.lemmas.Showing.{told_beside}
use Rattle.s80_make.specs.Items.{items_each, make_items}
use Rattle.s80_model.specs.declared.item.SessionItem.TheVariants.{Chunk}
use Rattle.s80_model.specs.Replies.{Work}
use Rattle.s80_session.specs.Making.{MakeKeeps}
use Rattle.s80_session.specs.Session.{was_of}
use Rattle.s80_session.specs.Working.{IsAt}
use Rattle.s80_session.proofs.Answering.{no_fewer_on}
use Rattle.s80_session.proofs.Breaking.{err_sources_on}
use Rattle.s80_session.proofs.Holding.{memory_both}
use Rattle.s80_session.proofs.Making.{making_all, making_none, making_on, making_stalls, making_starts}
use Rattle.s80_session.proofs.Marking.{both_runs, no_run}
use Rattle.s80_session.proofs.OneGroup.{little_at_rest}
use Rattle.s80_session.proofs.session.Session.make_items.Goals as goal
use Rattle.s80_session.proofs.session.Session.make_items.Goals.{After-count_item}

pub loop-number-init : goal.loop-number-init
loop-number-init g c = record {
  makes = λ work put at. (
    making_none (g.O.Disk.may_leave c.args.outside.now) (g.O.Outside.shown c.args.outside.now) c.args.self.now work put c.args.classes c.args.tally.now c.requires.tally at,
    making_starts g.O.Disk.moment g.O.Disk.left_since (g.O.Disk.may_leave c.args.outside.now) (g.O.Outside.shown c.args.outside.now) c.args.self.now c.args.outside.now work c.args.classes put (λ told image left. let x = g.met.O.Disk.only_now c.args.outside.now told image left in (x.0, x.1 ∙ told_beside g.met.O.Outside.beside_is g.met.O.Outside.shown_is c.args.outside.now)) at,
  );
  unheld = c.requires.resting.silent;
  left = refl;
  tells = refl;
  last_run = no_run c.args.self.now;
  later = record { read = omega arith; write = omega arith; disk = omega arith };
  faults_stay = refl;
  faultless = c.requires.resting.faultless;
  little = little_at_rest c.args.self.now c.requires.resting;
  known = λ knows. knows;
}

pub made_item-requires : goal.made_item-requires
made_item-requires g c = omega (arith, c.loop-number-test.true, c.requires.classes)

-- memory is wanting to make an item

pub returns-in_err-item-clause-made : goal.returns-in_err-item-clause-made
returns-in_err-item-clause-made g c = λ work put at.
    let x = c.loop-number.invariant.makes work put at in
    let p = err_from_is_err_and c.from_residual.result c.from_residual.ensures.1 in
    rw (p.1, p.2) (making_stalls (g.O.Disk.may_leave c.loop-number.outside) (g.O.Outside.shown c.loop-number.outside) c.loop-number.self (was_of c.args.self.now) work put c.args.classes c.loop-number.number c.loop-number.tally x.0)

pub returns-in_err-item-clause-any_moment : goal.returns-in_err-item-clause-any_moment
returns-in_err-item-clause-any_moment g c = λ work put at. (c.loop-number.invariant.makes work put at).1

pub returns-in_err-item-clause-known : goal.returns-in_err-item-clause-known
returns-in_err-item-clause-known g c = λ knows.
    let p = err_from_is_err_and c.from_residual.result c.from_residual.ensures.1 in
    rw (p.1, p.2) tt

pub returns-in_err-item-clause-counts : goal.returns-in_err-item-clause-counts
returns-in_err-item-clause-counts g c =
    let p = err_from_is_err_and c.from_residual.result c.from_residual.ensures.1 in
    rw (p.1, p.2) (memory_both (g.O.Outside.faults c.args.outside.now) (g.O.Outside.faults c.loop-number.outside) c.loop-number.invariant.faults_stay).1

pub returns-in_err-item-clause-faultless : goal.returns-in_err-item-clause-faultless
returns-in_err-item-clause-faultless g c =
    let p = err_from_is_err_and c.from_residual.result c.from_residual.ensures.1 in
    rw (p.1, p.2) c.loop-number.invariant.faultless

-- an item is worked and counted

module _ (g : _) (c : After-count_item g) where
  item_then : slice_get (make_items c.args.classes) c.loop-number.number ≡ Some (Chunk c.in_ok-item.item)
  item_then = c.in_ok-item.ensures.item c.args.classes (omega (arith, c.loop-number-test.true))

pub returns-in_err-count_item-clause-made : goal.returns-in_err-count_item-clause-made
returns-in_err-count_item-clause-made g c = λ work put at.
    let is = item_then g (goal.at.returns-in_err-count_item-clause-made g c).After-count_item in
    let x = c.loop-number.invariant.makes work put at in
    let p = err_from_is_err_and c.from_residual-in_err-count_item.result c.from_residual-in_err-count_item.ensures.1 in
    rw (p.1, p.2) (c.in_err-count_item.ensures.made (was_of c.args.self.now) work put c.args.classes c.loop-number.number is x.0)

pub returns-in_err-count_item-clause-any_moment : goal.returns-in_err-count_item-clause-any_moment
returns-in_err-count_item-clause-any_moment g c = λ work put at.
    let is = item_then g (goal.at.returns-in_err-count_item-clause-any_moment g c).After-count_item in
    let x = c.loop-number.invariant.makes work put at in
    making_on g.O.Disk.moment g.O.Disk.left_since c.args.outside.now c.loop-number.outside c.count_item.new.outside work c.args.classes put x.1 (c.count_item.ensures.any_moment (was_of c.args.self.now) work put c.args.classes c.loop-number.number is x.0)

pub returns-in_err-count_item-clause-last_run : goal.returns-in_err-count_item-clause-last_run
returns-in_err-count_item-clause-last_run g c = both_runs c.args.self.now c.loop-number.self c.count_item.new.self c.loop-number.invariant.last_run c.count_item.ensures.last_run

pub returns-in_err-count_item-clause-known : goal.returns-in_err-count_item-clause-known
returns-in_err-count_item-clause-known g c = λ knows.
    let p = err_from_is_err_and c.from_residual-in_err-count_item.result c.from_residual-in_err-count_item.ensures.1 in
    rw (p.1, p.2) (c.in_err-count_item.ensures.known (c.loop-number.invariant.known knows))

pub returns-in_err-count_item-clause-counts : goal.returns-in_err-count_item-clause-counts
returns-in_err-count_item-clause-counts g c =
    let a = g.O.Outside.faults c.args.outside.now in
    let m = g.O.Outside.faults c.loop-number.outside in
    let b = g.O.Outside.faults c.count_item.new.outside in
    let p = err_from_is_err_and c.from_residual-in_err-count_item.result c.from_residual-in_err-count_item.ensures.1 in
    rw (p.1, p.2) (err_sources_on (Unit {0}) (Unit {0}) a m b c.in_err-count_item.field-0.0 c.loop-number.invariant.faults_stay c.in_err-count_item.ensures.counts)

pub returns-in_err-count_item-clause-faultless : goal.returns-in_err-count_item-clause-faultless
returns-in_err-count_item-clause-faultless g c =
    let p = err_from_is_err_and c.from_residual-in_err-count_item.result c.from_residual-in_err-count_item.ensures.1 in
    rw (p.1, p.2) c.in_err-count_item.ensures.faultless

-- what is pending is committed, where it fills a group

module _ (g : _) (c : After-count_item g) where
  run_then : (work : Work) (put : List ℕ) → IsAt (g.O.Disk.may_leave c.args.outside.now) (g.O.Outside.shown c.args.outside.now) c.args.self.now work put → LeavesOnly g.O.Disk.moment g.O.Disk.left_since c.args.outside.now c.count_item.new.outside (MakeKeeps work c.args.classes put)
  run_then work put at =
      let is = item_then g c in
      let x = c.loop-number.invariant.makes work put at in
      making_on g.O.Disk.moment g.O.Disk.left_since c.args.outside.now c.loop-number.outside c.count_item.new.outside work c.args.classes put x.1 (c.count_item.ensures.any_moment (was_of c.args.self.now) work put c.args.classes c.loop-number.number is x.0)

pub returns-in_err-flush_full-clause-made : goal.returns-in_err-flush_full-clause-made
returns-in_err-flush_full-clause-made g c = λ work put at.
    let is = item_then g (goal.at.returns-in_err-flush_full-clause-made g c).After-count_item in
    let x = c.loop-number.invariant.makes work put at in
    let was = was_of c.args.self.now in
    let m = c.in_ok-count_item.ensures.made was work put c.args.classes c.loop-number.number is x.0 in
    let p = err_from_is_err_and c.from_residual-in_err-flush_full.result c.from_residual-in_err-flush_full.ensures.1 in
    rw (p.1, p.2) (c.in_err-flush_full.ensures.made was work put c.args.classes (c.loop-number.number + 1) c.count_item.new.tally m)

pub returns-in_err-flush_full-clause-any_moment : goal.returns-in_err-flush_full-clause-any_moment
returns-in_err-flush_full-clause-any_moment g c = λ work put at.
    let after = (goal.at.returns-in_err-flush_full-clause-any_moment g c).After-count_item in
    let is = item_then g after in
    let x = c.loop-number.invariant.makes work put at in
    let was = was_of c.args.self.now in
    let m = c.in_ok-count_item.ensures.made was work put c.args.classes c.loop-number.number is x.0 in
    making_on g.O.Disk.moment g.O.Disk.left_since c.args.outside.now c.count_item.new.outside c.flush_full.new.outside work c.args.classes put (run_then g after work put at) (c.flush_full.ensures.any_moment was work put c.args.classes (c.loop-number.number + 1) c.count_item.new.tally m)

pub returns-in_err-flush_full-clause-last_run : goal.returns-in_err-flush_full-clause-last_run
returns-in_err-flush_full-clause-last_run g c = both_runs c.args.self.now c.count_item.new.self c.flush_full.new.self (both_runs c.args.self.now c.loop-number.self c.count_item.new.self c.loop-number.invariant.last_run c.count_item.ensures.last_run) c.flush_full.ensures.last_run

pub returns-in_err-flush_full-clause-known : goal.returns-in_err-flush_full-clause-known
returns-in_err-flush_full-clause-known g c = λ knows.
    let p = err_from_is_err_and c.from_residual-in_err-flush_full.result c.from_residual-in_err-flush_full.ensures.1 in
    rw (p.1, p.2) (c.in_err-flush_full.ensures.known (c.in_ok-count_item.ensures.known (c.loop-number.invariant.known knows)))

pub returns-in_err-flush_full-clause-counts : goal.returns-in_err-flush_full-clause-counts
returns-in_err-flush_full-clause-counts g c =
    let a = g.O.Outside.faults c.args.outside.now in
    let m = g.O.Outside.faults c.count_item.new.outside in
    let b = g.O.Outside.faults c.flush_full.new.outside in
    let p = err_from_is_err_and c.from_residual-in_err-flush_full.result c.from_residual-in_err-flush_full.ensures.1 in
    rw (p.1, p.2) (err_sources_on (Unit {0}) (Unit {0}) a m b c.in_err-flush_full.field-0.0 (c.in_ok-count_item.ensures.counts.reason ∙ c.loop-number.invariant.faults_stay) c.in_err-flush_full.ensures.counts)

pub returns-in_err-flush_full-clause-faultless : goal.returns-in_err-flush_full-clause-faultless
returns-in_err-flush_full-clause-faultless g c =
    let p = err_from_is_err_and c.from_residual-in_err-flush_full.result c.from_residual-in_err-flush_full.ensures.1 in
    rw (p.1, p.2) c.in_err-flush_full.ensures.faultless

pub loop-number-preserved : goal.loop-number-preserved
loop-number-preserved g c = record {
  makes = λ work put at.
      let after = (goal.at.loop-number-preserved g c).After-count_item in
      let is = item_then g after in
      let x = c.loop-number.invariant.makes work put at in
      let was = was_of c.args.self.now in
      let m = c.in_ok-count_item.ensures.made was work put c.args.classes c.loop-number.number is x.0 in (
        c.in_ok-flush_full.ensures.made was work put c.args.classes (c.loop-number.number + 1) c.count_item.new.tally m,
        making_on g.O.Disk.moment g.O.Disk.left_since c.args.outside.now c.count_item.new.outside c.flush_full.new.outside work c.args.classes put (run_then g after work put at) (c.flush_full.ensures.any_moment was work put c.args.classes (c.loop-number.number + 1) c.count_item.new.tally m),
      );
  unheld = c.flush_full.ensures.held;
  left = c.flush_full.ensures.left ∙ c.count_item.ensures.left ∙ c.loop-number.invariant.left;
  tells = c.flush_full.ensures.tells ∙ c.count_item.ensures.tells ∙ c.loop-number.invariant.tells;
  last_run = both_runs c.args.self.now c.count_item.new.self c.flush_full.new.self (both_runs c.args.self.now c.loop-number.self c.count_item.new.self c.loop-number.invariant.last_run c.count_item.ensures.last_run) c.flush_full.ensures.last_run;
  later = no_fewer_on _ _ _ c.loop-number.invariant.later (no_fewer_on _ _ _ c.count_item.ensures.counts.later c.flush_full.ensures.counts.later);
  faults_stay = c.in_ok-flush_full.ensures.counts.reason ∙ c.in_ok-count_item.ensures.counts.reason ∙ c.loop-number.invariant.faults_stay;
  faultless = c.in_ok-flush_full.ensures.faultless;
  little = c.in_ok-flush_full.ensures.little;
  known = λ knows. c.in_ok-flush_full.ensures.known (c.in_ok-count_item.ensures.known (c.loop-number.invariant.known knows));
}

-- all are

pub returns-clause-made : goal.returns-clause-made
returns-clause-made g c = λ work put at.
    let x = c.loop-number.invariant.makes work put at in
    let all : c.loop-number.number ≡ items_each * c.args.classes = omega (arith, c.loop-number-test.false, c.loop-number.auto.number-end) in
    making_all (g.O.Disk.may_leave c.loop-number.outside) (g.O.Outside.shown c.loop-number.outside) c.loop-number.self (was_of c.args.self.now) work put c.args.classes c.loop-number.number (items_each * c.args.classes) c.loop-number.tally all x.0

pub returns-clause-any_moment : goal.returns-clause-any_moment
returns-clause-any_moment g c = λ work put at. (c.loop-number.invariant.makes work put at).1
