use Rattle.std.proofs.Common.{◌≡◌, ◌∙◌, ℕ, List, [], ◌++◌, length, Ok, Err, ap, subst}
use Rattle.std.proofs.lemmas.Result.{err_from_is_err_and}
use Rattle.s80_apply.specs.State.{State}
use Rattle.s80_apply.specs.List.{state_of}
use Rattle.s80_change.specs.declared.change.Change.{Change}
use Rattle.s80_disk.specs.Moments.{LeavesOnly}
use Rattle.s80_disk.specs.Shown.{Faults, Shown}
use Rattle.s80_joining.specs.declared.outcome.Outcome.{Outcome}
use Rattle.s80_joining.specs.Parts.{base_of, ours_of}
use Rattle.s80_model.specs.Replies.{Work}
use Rattle.s80_session.specs.declared.end.SessionEnd.TheVariants as ends
use Rattle.s80_session.specs.Known.{IsKnowing}
use Rattle.s80_session.specs.Run.{HasKept}
use Rattle.s80_session.specs.Session.{keeper_of, IsResting}
use Rattle.s80_session.specs.Working.{IsAt, at_rest}
use Rattle.s80_session.proofs.Knowing.{knows_left}
use Rattle.s80_session.proofs.Outcomes.{at_part, comes_so, counted_calm, counted_on, counts_so, kept_on, known_read, known_uncome, known_unread, part_fails, rest_on, some_begun, source_counts_so, still_resting, uncome_at}
use Rattle.s80_session.proofs.Reading.{at_read}
use Rattle.s80_session.proofs.lemmas.Amid.{amid_later}
use Rattle.s80_session.proofs.lemmas.Grounds.{quiet_last}
use Rattle.s80_session.proofs.session.Session.outcome.Goals as goal
use Rattle.s80_session.proofs.session.Session.outcome.Goals.{After-base, After-set, After-take_theirs, In_ok-base, In_ok-ours, In_ok-take_theirs}

-- ---- behind the base

module _ (g : _) (c : After-base g) where
  run_base : (work : Work) (put : List ℕ) → IsAt (g.O.Disk.may_leave c.args.outside.now) (g.O.Outside.shown c.args.outside.now) c.args.self.now work put → LeavesOnly g.O.Disk.moment g.O.Disk.left_since c.args.outside.now c.base.new.outside (HasKept work.changes (length put))
  run_base work put at = quiet_last g.O.Disk.moment g.O.Disk.left_since (g.O.Disk.may_leave c.args.outside.now) (g.O.Outside.shown c.args.outside.now) c.args.self.now c.args.outside.now c.base.new.outside work (at_rest work put) at c.base.ensures.any_moment

module _ (g : _) (c : In_ok-base g) where
  at_base : (work : Work) (put : List ℕ) → IsAt (g.O.Disk.may_leave c.args.outside.now) (g.O.Outside.shown c.args.outside.now) c.args.self.now work put → IsAt (g.O.Disk.may_leave c.base.new.outside) (g.O.Outside.shown c.base.new.outside) c.base.new.self work put
  at_base work put at = at_read (g.O.Disk.may_leave c.args.outside.now) (g.O.Disk.may_leave c.base.new.outside) (g.O.Outside.shown c.args.outside.now) (g.O.Outside.shown c.base.new.outside) c.args.self.now c.base.new.self work put c.in_ok-base.ensures.keeper c.base.ensures.rest c.base.ensures.images c.base.ensures.shown at

  knows_base : IsKnowing (g.O.Outside.shown c.args.outside.now) c.args.self.now → IsKnowing (g.O.Outside.shown c.base.new.outside) c.base.new.self
  knows_base knows = known_read (g.O.Outside.shown c.args.outside.now) (g.O.Outside.shown c.base.new.outside) c.args.self.now c.base.new.self c.base.ensures.rest c.in_ok-base.ensures.keeper c.base.ensures.shown knows

  counts_base : g.O.Outside.faults c.base.new.outside ≡ g.O.Outside.faults c.args.outside.now
  counts_base = c.in_ok-base.ensures.counts.reason

  resting_base : IsResting c.base.new.self
  resting_base = still_resting c.args.self.now c.base.new.self c.base.ensures.rest c.in_ok-base.ensures.keeper c.requires.resting

pub set-requires : goal.set-requires
set-requires g c = record { resting = resting_base g (goal.at.set-requires g c).In_ok-base }

pub returns-in_err-base-clause-comes : goal.returns-in_err-base-clause-comes
returns-in_err-base-clause-comes g c = λ work input put left at.
    let end = c.in_err-base.field-0.0 in
    let o = g.O.Outside.shown c.args.outside.now in
    let was = g.O.Disk.may_leave c.args.outside.now in
    let part = at_part base_of (Err end) was o c.args.self.now work put c.in_err-base.ensures.base at in
    let p = err_from_is_err_and c.from_residual.result c.from_residual.ensures.1 in
    rw (p.1, p.2) (part_fails end (base_of work.changes) was (g.O.Disk.may_leave c.base.new.outside) o (g.O.Outside.shown c.base.new.outside) c.args.self.now c.base.new.self work input put part c.in_err-base.ensures.ends c.in_err-base.ensures.keeper c.base.ensures.rest c.base.ensures.images c.base.ensures.shown at)

pub returns-in_err-base-clause-any_moment : goal.returns-in_err-base-clause-any_moment
returns-in_err-base-clause-any_moment g c = run_base g (goal.at.returns-in_err-base-clause-any_moment g c).After-base

pub returns-in_err-base-clause-known : goal.returns-in_err-base-clause-known
returns-in_err-base-clause-known g c = λ knows.
    let end = c.in_err-base.field-0.0 in
    let p = err_from_is_err_and c.from_residual.result c.from_residual.ensures.1 in
    rw (p.1, p.2) (known_unread Outcome base_of end (g.O.Outside.shown c.args.outside.now) (g.O.Outside.shown c.base.new.outside) c.args.self.now c.base.new.self c.in_err-base.ensures.base c.base.ensures.shown knows)

pub returns-in_err-base-clause-counts : goal.returns-in_err-base-clause-counts
returns-in_err-base-clause-counts g c =
    let p = err_from_is_err_and c.from_residual.result c.from_residual.ensures.1 in
    rw (p.1, p.2) (source_counts_so (List Change) Outcome (g.O.Outside.faults c.args.outside.now) (g.O.Outside.faults c.base.new.outside) c.in_err-base.field-0.0 c.in_err-base.ensures.counts)

-- ---- behind the change set

module _ (g : _) (c : After-set g) where
  run_set : (work : Work) (put : List ℕ) → IsAt (g.O.Disk.may_leave c.base.new.outside) (g.O.Outside.shown c.base.new.outside) c.base.new.self work put → LeavesOnly g.O.Disk.moment g.O.Disk.left_since c.base.new.outside c.set.new.outside (HasKept work.changes (length put))
  run_set work put at = quiet_last g.O.Disk.moment g.O.Disk.left_since (g.O.Disk.may_leave c.base.new.outside) (g.O.Outside.shown c.base.new.outside) c.base.new.self c.base.new.outside c.set.new.outside work (at_rest work put) at c.set.ensures.any_moment

module _ (g : _) (c : In_ok-ours g) where
  at_ours : (work : Work) (put : List ℕ) → IsAt (g.O.Disk.may_leave c.base.new.outside) (g.O.Outside.shown c.base.new.outside) c.base.new.self work put → IsAt (g.O.Disk.may_leave c.set.new.outside) (g.O.Outside.shown c.set.new.outside) c.set.new.self work put
  at_ours work put at = at_read (g.O.Disk.may_leave c.base.new.outside) (g.O.Disk.may_leave c.set.new.outside) (g.O.Outside.shown c.base.new.outside) (g.O.Outside.shown c.set.new.outside) c.base.new.self c.set.new.self work put c.in_ok-ours.ensures.keeper c.set.ensures.rest c.set.ensures.images c.set.ensures.shown at

  knows_ours : IsKnowing (g.O.Outside.shown c.base.new.outside) c.base.new.self → IsKnowing (g.O.Outside.shown c.set.new.outside) c.set.new.self
  knows_ours knows = known_read (g.O.Outside.shown c.base.new.outside) (g.O.Outside.shown c.set.new.outside) c.base.new.self c.set.new.self c.set.ensures.rest c.in_ok-ours.ensures.keeper c.set.ensures.shown knows

  counts_ours : g.O.Outside.faults c.set.new.outside ≡ g.O.Outside.faults c.base.new.outside
  counts_ours = c.in_ok-ours.ensures.counts.reason

  resting_ours : IsResting c.base.new.self → IsResting c.set.new.self
  resting_ours resting = still_resting c.base.new.self c.set.new.self c.set.ensures.rest c.in_ok-ours.ensures.keeper resting

  rest_ours : c.set.new.self ≡ record c.args.self.now { keeper = keeper_of c.set.new.self }
  rest_ours = rest_on c.args.self.now c.base.new.self c.set.new.self c.base.ensures.rest c.set.ensures.rest

  shown_ours : g.O.Outside.shown c.set.new.outside ≡ g.O.Outside.shown c.args.outside.now
  shown_ours = c.set.ensures.shown ∙ c.base.ensures.shown

pub returns-in_err-ours-clause-comes : goal.returns-in_err-ours-clause-comes
returns-in_err-ours-clause-comes g c = λ work input put left at.
    let w = goal.at.returns-in_err-ours-clause-comes g c in
    let p = err_from_is_err_and c.from_residual-in_err-ours.result c.from_residual-in_err-ours.ensures.1 in
    rw (p.1, p.2) (part_fails c.in_err-ours.field-0.0 (ours_of work.changes) (g.O.Disk.may_leave c.base.new.outside) (g.O.Disk.may_leave c.set.new.outside) (g.O.Outside.shown c.base.new.outside) (g.O.Outside.shown c.set.new.outside) c.base.new.self c.set.new.self work input put (at_part ours_of (Err c.in_err-ours.field-0.0) (g.O.Disk.may_leave c.base.new.outside) (g.O.Outside.shown c.base.new.outside) c.base.new.self work put c.in_err-ours.ensures.set (at_base g w.In_ok-base work put at)) c.in_err-ours.ensures.ends c.in_err-ours.ensures.keeper c.set.ensures.rest c.set.ensures.images c.set.ensures.shown (at_base g w.In_ok-base work put at))

pub returns-in_err-ours-clause-any_moment : goal.returns-in_err-ours-clause-any_moment
returns-in_err-ours-clause-any_moment g c = λ work put at.
    let w = goal.at.returns-in_err-ours-clause-any_moment g c in
    kept_on g.O.Disk.moment g.O.Disk.left_since c.args.outside.now c.base.new.outside c.set.new.outside work.changes (length put) (run_base g w.After-base work put at) (run_set g w.After-set work put (at_base g w.In_ok-base work put at))

pub returns-in_err-ours-clause-rest : goal.returns-in_err-ours-clause-rest
returns-in_err-ours-clause-rest g c =
    let w = goal.at.returns-in_err-ours-clause-rest g c in
    rest_on c.args.self.now c.base.new.self c.set.new.self c.base.ensures.rest c.set.ensures.rest

pub returns-in_err-ours-clause-tells : goal.returns-in_err-ours-clause-tells
returns-in_err-ours-clause-tells g c =
    let w = goal.at.returns-in_err-ours-clause-tells g c in
    ap (λ (o : Shown). o.tells) (c.set.ensures.shown ∙ c.base.ensures.shown)

pub returns-in_err-ours-clause-known : goal.returns-in_err-ours-clause-known
returns-in_err-ours-clause-known g c = λ knows.
    let w = goal.at.returns-in_err-ours-clause-known g c in
    let p = err_from_is_err_and c.from_residual-in_err-ours.result c.from_residual-in_err-ours.ensures.1 in
    rw (p.1, p.2) (known_unread Outcome ours_of c.in_err-ours.field-0.0 (g.O.Outside.shown c.base.new.outside) (g.O.Outside.shown c.set.new.outside) c.base.new.self c.set.new.self c.in_err-ours.ensures.set c.set.ensures.shown (knows_base g w.In_ok-base knows))

pub returns-in_err-ours-clause-counts : goal.returns-in_err-ours-clause-counts
returns-in_err-ours-clause-counts g c =
    let w = goal.at.returns-in_err-ours-clause-counts g c in
    let p = err_from_is_err_and c.from_residual-in_err-ours.result c.from_residual-in_err-ours.ensures.1 in
    rw (p.1, p.2) (counted_on Outcome (Err c.in_err-ours.field-0.0) (g.O.Outside.faults c.args.outside.now) (g.O.Outside.faults c.base.new.outside) (g.O.Outside.faults c.set.new.outside) (counts_base g w.In_ok-base) (source_counts_so (List Change) Outcome (g.O.Outside.faults c.base.new.outside) (g.O.Outside.faults c.set.new.outside) c.in_err-ours.field-0.0 c.in_err-ours.ensures.counts))

-- ---- memory is wanting to begin

pub returns-in_err-given-clause-comes : goal.returns-in_err-given-clause-comes
returns-in_err-given-clause-comes g c = λ work input put left at.
    let w = goal.at.returns-in_err-given-clause-comes g c in
    let p = err_from_is_err_and c.from_residual-in_err-given.result c.from_residual-in_err-given.ensures.1 in
    rw (p.1, p.2) ((tt, (at_ours g w.In_ok-ours work put (at_base g w.In_ok-base work put at))))

pub returns-in_err-given-clause-any_moment : goal.returns-in_err-given-clause-any_moment
returns-in_err-given-clause-any_moment g c = λ work put at.
    let w = goal.at.returns-in_err-given-clause-any_moment g c in
    kept_on g.O.Disk.moment g.O.Disk.left_since c.args.outside.now c.base.new.outside c.set.new.outside work.changes (length put) (run_base g w.After-base work put at) (run_set g w.After-set work put (at_base g w.In_ok-base work put at))

pub returns-in_err-given-clause-rest : goal.returns-in_err-given-clause-rest
returns-in_err-given-clause-rest g c =
    let w = goal.at.returns-in_err-given-clause-rest g c in
    rest_ours g w.In_ok-ours

pub returns-in_err-given-clause-tells : goal.returns-in_err-given-clause-tells
returns-in_err-given-clause-tells g c =
    let w = goal.at.returns-in_err-given-clause-tells g c in
    ap (λ (o : Shown). o.tells) (shown_ours g w.In_ok-ours)

pub returns-in_err-given-clause-counts : goal.returns-in_err-given-clause-counts
returns-in_err-given-clause-counts g c =
    let w = goal.at.returns-in_err-given-clause-counts g c in
    let p = err_from_is_err_and c.from_residual-in_err-given.result c.from_residual-in_err-given.ensures.1 in
    rw (p.1, p.2) (counted_calm Outcome (Err ends.Memory) (g.O.Outside.faults c.args.outside.now) (g.O.Outside.faults c.set.new.outside) (counts_ours g w.In_ok-ours ∙ counts_base g w.In_ok-base) (counts_ours g w.In_ok-ours ∙ counts_base g w.In_ok-base))

-- ---- behind the input

module _ (g : _) (c : After-take_theirs g) where
  run_taken : (work : Work) (put : List ℕ) → IsAt (g.O.Disk.may_leave c.set.new.outside) (g.O.Outside.shown c.set.new.outside) c.set.new.self work put → LeavesOnly g.O.Disk.moment g.O.Disk.left_since c.set.new.outside c.take_theirs.new.outside (HasKept work.changes (length put))
  run_taken work put at = quiet_last g.O.Disk.moment g.O.Disk.left_since (g.O.Disk.may_leave c.set.new.outside) (g.O.Outside.shown c.set.new.outside) c.set.new.self c.set.new.outside c.take_theirs.new.outside work (at_rest work put) at c.take_theirs.ensures.any_moment

  at_taken : (work : Work) (put : List ℕ) → IsAt (g.O.Disk.may_leave c.set.new.outside) (g.O.Outside.shown c.set.new.outside) c.set.new.self work put → IsAt (g.O.Disk.may_leave c.take_theirs.new.outside) (g.O.Outside.shown c.take_theirs.new.outside) c.set.new.self work put
  at_taken work put at = amid_later (g.O.Disk.may_leave c.set.new.outside) (g.O.Disk.may_leave c.take_theirs.new.outside) (g.O.Outside.shown c.set.new.outside) (g.O.Outside.shown c.take_theirs.new.outside) c.set.new.self work (at_rest work put) c.take_theirs.ensures.shown c.take_theirs.ensures.images at

pub returns-in_err-take_theirs-clause-comes : goal.returns-in_err-take_theirs-clause-comes
returns-in_err-take_theirs-clause-comes g c = λ work input put left at.
    let w = goal.at.returns-in_err-take_theirs-clause-comes g c in
    let p = err_from_is_err_and c.from_residual-in_err-take_theirs.result c.from_residual-in_err-take_theirs.ensures.1 in
    rw (p.1, p.2) (uncome_at c.in_err-take_theirs.field-0.0 (g.O.Disk.may_leave c.take_theirs.new.outside) (g.O.Outside.shown c.take_theirs.new.outside) c.set.new.self work input put (c.in_err-take_theirs.ensures.taken (state_of c.in_ok-base.base) input (ap (λ (o : Shown). o.left) (shown_ours g w.In_ok-ours) ∙ left) c.in_ok-given.ensures) (at_taken g w.After-take_theirs work put (at_ours g w.In_ok-ours work put (at_base g w.In_ok-base work put at))))

pub returns-in_err-take_theirs-clause-any_moment : goal.returns-in_err-take_theirs-clause-any_moment
returns-in_err-take_theirs-clause-any_moment g c = λ work put at.
    let w = goal.at.returns-in_err-take_theirs-clause-any_moment g c in
    kept_on g.O.Disk.moment g.O.Disk.left_since c.args.outside.now c.set.new.outside c.take_theirs.new.outside work.changes (length put) (kept_on g.O.Disk.moment g.O.Disk.left_since c.args.outside.now c.base.new.outside c.set.new.outside work.changes (length put) (run_base g w.After-base work put at) (run_set g w.After-set work put (at_base g w.In_ok-base work put at))) (run_taken g w.After-take_theirs work put (at_ours g w.In_ok-ours work put (at_base g w.In_ok-base work put at)))

pub returns-in_err-take_theirs-clause-rest : goal.returns-in_err-take_theirs-clause-rest
returns-in_err-take_theirs-clause-rest g c =
    let w = goal.at.returns-in_err-take_theirs-clause-rest g c in
    rest_ours g w.In_ok-ours

pub returns-in_err-take_theirs-clause-tells : goal.returns-in_err-take_theirs-clause-tells
returns-in_err-take_theirs-clause-tells g c =
    let w = goal.at.returns-in_err-take_theirs-clause-tells g c in
    ap (λ (o : Shown). o.tells) c.take_theirs.ensures.shown ∙ ap (λ (o : Shown). o.tells) (shown_ours g w.In_ok-ours)

pub returns-in_err-take_theirs-clause-known : goal.returns-in_err-take_theirs-clause-known
returns-in_err-take_theirs-clause-known g c = λ knows.
    let w = goal.at.returns-in_err-take_theirs-clause-known g c in
    let p = err_from_is_err_and c.from_residual-in_err-take_theirs.result c.from_residual-in_err-take_theirs.ensures.1 in
    rw (p.1, p.2) (known_uncome Outcome (g.O.Outside.faults c.set.new.outside) (g.O.Outside.faults c.take_theirs.new.outside) c.in_err-take_theirs.field-0.0 (g.O.Outside.shown c.take_theirs.new.outside) c.set.new.self c.in_err-take_theirs.ensures.counts)

pub returns-in_err-take_theirs-clause-counts : goal.returns-in_err-take_theirs-clause-counts
returns-in_err-take_theirs-clause-counts g c =
    let w = goal.at.returns-in_err-take_theirs-clause-counts g c in
    let p = err_from_is_err_and c.from_residual-in_err-take_theirs.result c.from_residual-in_err-take_theirs.ensures.1 in
    rw (p.1, p.2) (counted_on Outcome (Err c.in_err-take_theirs.field-0.0) (g.O.Outside.faults c.args.outside.now) (g.O.Outside.faults c.set.new.outside) (g.O.Outside.faults c.take_theirs.new.outside) (counts_ours g w.In_ok-ours ∙ counts_base g w.In_ok-base) (counts_so (Unit {0}) Outcome (g.O.Outside.faults c.set.new.outside) (g.O.Outside.faults c.take_theirs.new.outside) c.in_err-take_theirs.field-0.0 c.in_err-take_theirs.ensures.counts))

-- ---- memory is wanting to compare

pub returns-in_err-outcome-clause-comes : goal.returns-in_err-outcome-clause-comes
returns-in_err-outcome-clause-comes g c = λ work input put left at.
    let w = goal.at.returns-in_err-outcome-clause-comes g c in
    let p = err_from_is_err_and c.from_residual-in_err-outcome.result c.from_residual-in_err-outcome.ensures.1 in
    rw (p.1, p.2) ((tt, (at_taken g w.After-take_theirs work put (at_ours g w.In_ok-ours work put (at_base g w.In_ok-base work put at)))))

pub returns-in_err-outcome-clause-any_moment : goal.returns-in_err-outcome-clause-any_moment
returns-in_err-outcome-clause-any_moment g c = λ work put at.
    let w = goal.at.returns-in_err-outcome-clause-any_moment g c in
    kept_on g.O.Disk.moment g.O.Disk.left_since c.args.outside.now c.set.new.outside c.take_theirs.new.outside work.changes (length put) (kept_on g.O.Disk.moment g.O.Disk.left_since c.args.outside.now c.base.new.outside c.set.new.outside work.changes (length put) (run_base g w.After-base work put at) (run_set g w.After-set work put (at_base g w.In_ok-base work put at))) (run_taken g w.After-take_theirs work put (at_ours g w.In_ok-ours work put (at_base g w.In_ok-base work put at)))

pub returns-in_err-outcome-clause-rest : goal.returns-in_err-outcome-clause-rest
returns-in_err-outcome-clause-rest g c =
    let w = goal.at.returns-in_err-outcome-clause-rest g c in
    rest_ours g w.In_ok-ours

pub returns-in_err-outcome-clause-tells : goal.returns-in_err-outcome-clause-tells
returns-in_err-outcome-clause-tells g c =
    let w = goal.at.returns-in_err-outcome-clause-tells g c in
    ap (λ (o : Shown). o.tells) c.take_theirs.ensures.shown ∙ ap (λ (o : Shown). o.tells) (shown_ours g w.In_ok-ours)

pub returns-in_err-outcome-clause-counts : goal.returns-in_err-outcome-clause-counts
returns-in_err-outcome-clause-counts g c =
    let w = goal.at.returns-in_err-outcome-clause-counts g c in
    let p = err_from_is_err_and c.from_residual-in_err-outcome.result c.from_residual-in_err-outcome.ensures.1 in
    rw (p.1, p.2) (counted_calm Outcome (Err ends.Memory) (g.O.Outside.faults c.args.outside.now) (g.O.Outside.faults c.take_theirs.new.outside) (c.in_ok-take_theirs.ensures.counts.reason ∙ counts_ours g w.In_ok-ours ∙ counts_base g w.In_ok-base) (c.in_ok-take_theirs.ensures.counts.reason ∙ counts_ours g w.In_ok-ours ∙ counts_base g w.In_ok-base))

-- ---- it is known

pub returns-clause-comes : goal.returns-clause-comes
returns-clause-comes g c = λ work input put left at.
    let w = goal.at.returns-clause-comes g c in
    comes_so c.in_ok-outcome.field-0 c.take_theirs.new.given c.in_ok-base.base c.in_ok-ours.ours (g.O.Disk.may_leave c.take_theirs.new.outside) (g.O.Outside.shown c.take_theirs.new.outside) c.set.new.self work input put (at_part base_of (Ok c.in_ok-base.base) (g.O.Disk.may_leave c.args.outside.now) (g.O.Outside.shown c.args.outside.now) c.args.self.now work put c.in_ok-base.ensures.base at) (at_part ours_of (Ok c.in_ok-ours.ours) (g.O.Disk.may_leave c.base.new.outside) (g.O.Outside.shown c.base.new.outside) c.base.new.self work put c.in_ok-ours.ensures.set (at_base g w.In_ok-base work put at)) (c.a_set_starts_from_its_base.ensures.built work.changes at.keeps.built) (c.in_ok-take_theirs.ensures.taken (state_of c.in_ok-base.base) input (ap (λ (o : Shown). o.left) (shown_ours g w.In_ok-ours) ∙ left) c.in_ok-given.ensures) c.in_ok-outcome.ensures.outcome c.in_ok-outcome.ensures.merges (at_taken g w.After-take_theirs work put (at_ours g w.In_ok-ours work put (at_base g w.In_ok-base work put at)))

pub returns-clause-any_moment : goal.returns-clause-any_moment
returns-clause-any_moment g c = λ work put at.
    let w = goal.at.returns-clause-any_moment g c in
    kept_on g.O.Disk.moment g.O.Disk.left_since c.args.outside.now c.set.new.outside c.take_theirs.new.outside work.changes (length put) (kept_on g.O.Disk.moment g.O.Disk.left_since c.args.outside.now c.base.new.outside c.set.new.outside work.changes (length put) (run_base g w.After-base work put at) (run_set g w.After-set work put (at_base g w.In_ok-base work put at))) (run_taken g w.After-take_theirs work put (at_ours g w.In_ok-ours work put (at_base g w.In_ok-base work put at)))

pub returns-clause-lawful : goal.returns-clause-lawful
returns-clause-lawful g c =
    let some = c.in_ok-take_theirs.ensures.some (some_begun c.in_ok-given.given c.in_ok-base.base c.in_ok-given.ensures) in
    c.in_ok-outcome.ensures.lawful some.0 some.1 some.2 some.3

pub returns-clause-rest : goal.returns-clause-rest
returns-clause-rest g c =
    let w = goal.at.returns-clause-rest g c in
    rest_ours g w.In_ok-ours

pub returns-clause-resting : goal.returns-clause-resting
returns-clause-resting g c =
    let w = goal.at.returns-clause-resting g c in
    resting_ours g w.In_ok-ours (resting_base g w.In_ok-base)

pub returns-clause-tells : goal.returns-clause-tells
returns-clause-tells g c =
    let w = goal.at.returns-clause-tells g c in
    ap (λ (o : Shown). o.tells) c.take_theirs.ensures.shown ∙ ap (λ (o : Shown). o.tells) (shown_ours g w.In_ok-ours)

pub returns-clause-known : goal.returns-clause-known
returns-clause-known g c = λ knows.
    let w = goal.at.returns-clause-known g c in
    knows_left (g.O.Outside.shown c.set.new.outside) (g.O.Outside.shown c.take_theirs.new.outside) c.set.new.self c.take_theirs.ensures.shown (knows_ours g w.In_ok-ours (knows_base g w.In_ok-base knows))

pub returns-clause-counts : goal.returns-clause-counts
returns-clause-counts g c =
    let w = goal.at.returns-clause-counts g c in
    counted_calm Outcome (Ok c.in_ok-outcome.field-0) (g.O.Outside.faults c.args.outside.now) (g.O.Outside.faults c.take_theirs.new.outside) (c.in_ok-take_theirs.ensures.counts.reason ∙ counts_ours g w.In_ok-ours ∙ counts_base g w.In_ok-base) (c.in_ok-take_theirs.ensures.counts.reason ∙ counts_ours g w.In_ok-ours ∙ counts_base g w.In_ok-base)
