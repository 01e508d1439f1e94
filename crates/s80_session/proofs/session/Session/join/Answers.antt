use Rattle.std.proofs.Common.{◌≡◌, ℕ, List, Err, subst, ◌∙◌}
use Rattle.s80_model.specs.Replies.{Work}
use Rattle.s80_session.specs.declared.end.SessionEnd.{SessionEnd}
use Rattle.s80_session.specs.declared.end.SessionEnd.TheVariants as ends
use Rattle.s80_session.specs.Ending.{Counts}
use Rattle.s80_session.specs.Merging.{IsHalfDone, JoinBreaks}
use Rattle.s80_session.specs.Session.{was_of}
use Rattle.s80_session.specs.Working.{IsAt}
use Rattle.s80_session.proofs.Breaking.{err_counts_on}
use Rattle.s80_session.proofs.Joining.{broke_anyway, half_ended, half_lasts}
use Rattle.s80_session.proofs.Knowing.{whole_ends}
use Rattle.s80_session.proofs.session.Session.join.Goals as goal
use Rattle.s80_session.proofs.session.Session.join.Goals.{After-end_for_memory}

-- memory was wanting: what the paths share
module _ (g : _) (c : After-end_for_memory g) where
  is : c.in-Err.end ≡ ends.Memory
  is = c.if-is_memory.ensures

  half : (work : Work) (put : List ℕ) → IsAt (g.O.Disk.may_leave c.args.outside.now) (g.O.Outside.shown c.args.outside.now) c.args.self.now work put → IsHalfDone (g.O.Disk.may_leave c.join_and_tell.new.outside) (g.O.Outside.shown c.join_and_tell.new.outside) c.join_and_tell.new.self work put c.args.outcome
  half work put at =
      let P : SessionEnd → Type 0 = λ e. JoinBreaks e (g.O.Disk.may_leave c.join_and_tell.new.outside) (g.O.Outside.shown c.join_and_tell.new.outside) c.join_and_tell.new.self work put c.args.outcome in
      subst P is (c.in-Err.ensures.joined work put at)

pub returns-then-is_memory-clause-joined : goal.returns-then-is_memory-clause-joined
returns-then-is_memory-clause-joined g c = λ work put at.
    half_ended (g.O.Disk.may_leave c.join_and_tell.new.outside) (g.O.Outside.shown c.join_and_tell.new.outside) c.join_and_tell.new.self work put c.args.outcome (half g (goal.at.returns-then-is_memory-clause-joined g c).After-end_for_memory work put at) c.end_for_memory.result (g.O.Disk.may_leave c.end_for_memory.new.outside) (g.O.Outside.shown c.end_for_memory.new.outside) c.end_for_memory.new.self (was_of c.args.self.now) (was_of c.end_for_memory.new.self) c.end_for_memory.ensures.ends

pub returns-then-is_memory-clause-any_moment : goal.returns-then-is_memory-clause-any_moment
returns-then-is_memory-clause-any_moment g c = λ work put at.
    half_lasts (g.O.Disk.may_leave c.join_and_tell.new.outside) (g.O.Outside.shown c.join_and_tell.new.outside) c.join_and_tell.new.self work put c.args.outcome (half g (goal.at.returns-then-is_memory-clause-any_moment g c).After-end_for_memory work put at) g.O.Disk.moment g.O.Disk.left_since c.args.outside.now c.join_and_tell.new.outside c.end_for_memory.new.outside (c.join_and_tell.ensures.any_moment work put at) c.end_for_memory.ensures.any_moment

pub returns-then-is_memory-clause-last_run : goal.returns-then-is_memory-clause-last_run
returns-then-is_memory-clause-last_run g c = c.end_for_memory.ensures.rest.last_run ∙ c.join_and_tell.ensures.last_run

pub returns-then-is_memory-clause-known : goal.returns-then-is_memory-clause-known
returns-then-is_memory-clause-known g c = λ knows.
    whole_ends (g.O.Outside.faults c.join_and_tell.new.outside) (g.O.Outside.faults c.end_for_memory.new.outside) c.end_for_memory.result (g.O.Outside.shown c.end_for_memory.new.outside) c.end_for_memory.new.self c.end_for_memory.ensures.counts

pub returns-then-is_memory-clause-counts : goal.returns-then-is_memory-clause-counts
returns-then-is_memory-clause-counts g c =
    let after = (goal.at.returns-then-is_memory-clause-counts g c).After-end_for_memory in
    let old = g.O.Outside.faults c.args.outside.now in
    let mid = g.O.Outside.faults c.join_and_tell.new.outside in
    let new = g.O.Outside.faults c.end_for_memory.new.outside in
    let P : SessionEnd → Type 0 = λ e. Counts {T = Unit {0}} old mid (Err e) in
    let same = (subst P (is g after) c.in-Err.ensures.counts).reason in
    err_counts_on (Unit {0}) (Unit {0}) old mid new c.end_for_memory.result same c.end_for_memory.ensures.counts

-- it wasn't
pub returns-clause-joined : goal.returns-clause-joined
returns-clause-joined g c = λ work put at.
    broke_anyway c.in-Err.end (g.O.Disk.may_leave c.join_and_tell.new.outside) (g.O.Outside.shown c.join_and_tell.new.outside) c.join_and_tell.new.self (was_of c.args.self.now) (was_of c.join_and_tell.new.self) work put c.args.outcome c.if-is_memory.ensures (c.in-Err.ensures.joined work put at)

pub returns-clause-known : goal.returns-clause-known
returns-clause-known g c = λ knows. c.in-Err.ensures.known knows
