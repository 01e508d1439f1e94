use Rattle.std.proofs.Common.{◌≡◌, ℕ, List, Ok, Err, length, refl, sym, subst}
use Rattle.std.proofs.lemmas.Result.{err_from_is_err_and}
use Rattle.std.specs.Prelude.{IfSome}
use Rattle.s80_apply.specs.List.{state_of}
use Rattle.s80_apply.specs.System.{IsSystemOf, SystemState}
use Rattle.s80_disk.specs.Moments.{LeavesOnly}
use Rattle.s80_disk.specs.Shown.{Faults}
use Rattle.s80_disk.proofs.lemmas.Run.{joined}
use Rattle.s80_model.specs.declared.item.Filed.{Filed}
use Rattle.s80_model.specs.declared.item.Filed.TheVariants.{All, Class}
use Rattle.s80_model.specs.declared.item.Query.TheVariants.{FileOut}
use Rattle.s80_model.specs.declared.item.SessionItem.TheVariants.{Query}
use Rattle.s80_model.specs.declared.reply.Reply.{Reply}
use Rattle.s80_model.specs.Replies.{Work}
use Rattle.s80_session.specs.declared.end.SessionEnd.TheVariants as ends
use Rattle.s80_session.specs.Ending.{CountsFor, SourceCounts}
use Rattle.s80_session.specs.Files.{IsAsLeft}
use Rattle.s80_session.specs.Run.{HasKept}
use Rattle.s80_session.specs.Session.{was_of}
use Rattle.s80_session.specs.Working.{IsAt, QueryWorked, at_rest}
use Rattle.s80_session.proofs.lemmas.Elsewhere.{left_as_before, left_on}
use Rattle.s80_session.proofs.lemmas.Grounds.{quiet_last}
use Rattle.s80_session.proofs.Breaking.{done_counts, memory_counts}
use Rattle.s80_session.proofs.Reading.{at_read}
use Rattle.s80_session.proofs.Stepping.{replied_file, told_second}
use Rattle.s80_session.proofs.session.Session.file_out.Goals as goal
use Rattle.s80_session.proofs.session.Session.file_out.Goals.{After-read_clock-seconds}

-- what the paths behind the clock share
module _ (g : _) (c : After-read_clock-seconds g) where
  no_more : LeavesOnly g.O.Disk.moment g.O.Disk.left_since c.args.outside.now c.read_clock-seconds.new.outside (IsAsLeft (g.O.Disk.may_leave c.args.outside.now))
  no_more = left_as_before g.O.Disk.moment g.O.Disk.left_since c.args.outside.now c.read_clock-seconds.new.outside (g.O.Disk.may_leave c.args.outside.now) (g.O.Outside.shown c.args.outside.now).told 0 c.read_clock-seconds.ensures.any_moment

  clock : IfSome (g.O.Outside.shown c.read_clock-seconds.new.outside).seconds (λ told. c.read_clock-seconds.result ≡ told)
  clock = told_second (g.O.Outside.shown c.args.outside.now) (g.O.Outside.shown c.read_clock-seconds.new.outside) c.read_clock-seconds.result c.read_clock-seconds.ensures.shown c.read_clock-seconds.ensures.told

module _ (g : _) (c : After-read_clock-seconds g) (work : Work) (put : List ℕ) (at : IsAt (g.O.Disk.may_leave c.args.outside.now) (g.O.Outside.shown c.args.outside.now) c.args.self.now work put) where
  run : LeavesOnly g.O.Disk.moment g.O.Disk.left_since c.args.outside.now c.read_clock-seconds.new.outside (HasKept work.changes (length put))
  run = quiet_last g.O.Disk.moment g.O.Disk.left_since (g.O.Disk.may_leave c.args.outside.now) (g.O.Outside.shown c.args.outside.now) c.args.self.now c.args.outside.now c.read_clock-seconds.new.outside work (at_rest work put) at c.read_clock-seconds.ensures.any_moment

  -- the session is where it was
  still : IsAt (g.O.Disk.may_leave c.read_clock-seconds.new.outside) (g.O.Outside.shown c.read_clock-seconds.new.outside) c.args.self.now work put
  still = at_read (g.O.Disk.may_leave c.args.outside.now) (g.O.Disk.may_leave c.read_clock-seconds.new.outside) (g.O.Outside.shown c.args.outside.now) (g.O.Outside.shown c.read_clock-seconds.new.outside) c.args.self.now c.args.self.now work put refl refl c.read_clock-seconds.ensures.images c.read_clock-seconds.ensures.shown at

pub returns-in_ok-tell_filed-in-All-clause-replied : goal.returns-in_ok-tell_filed-in-All-clause-replied
returns-in_ok-tell_filed-in-All-clause-replied g c = λ work put at.
    let after = (goal.at.returns-in_ok-tell_filed-in-All-clause-replied g c).After-read_clock-seconds in
    let P : SystemState → Type 0 = λ s. IsSystemOf s (state_of work.changes) in
    let system = subst P (sym c.system.ensures) at.keeps.system in
    replied_file (g.O.Disk.may_leave c.read_clock-seconds.new.outside) (g.O.Outside.shown c.read_clock-seconds.new.outside) c.args.self.now (was_of c.args.self.now) work put c.args.filed All c.read_clock-seconds.result c.in_ok-tell_filed-in-All.field-0 refl c.in-All.is (clock g after) (c.in_ok-tell_filed-in-All.ensures.answer work.changes system) (still g after work put at)

pub returns-in_err-tell_filed-in-All-clause-replied : goal.returns-in_err-tell_filed-in-All-clause-replied
returns-in_err-tell_filed-in-All-clause-replied g c = λ work put at.
    let after = (goal.at.returns-in_err-tell_filed-in-All-clause-replied g c).After-read_clock-seconds in
    let p = err_from_is_err_and c.from_residual.result c.from_residual.ensures.1 in
    rw (p.1, p.2) (still g after work put at)

pub returns-in_ok-tell_filed-in-All-clause-any_moment : goal.returns-in_ok-tell_filed-in-All-clause-any_moment
returns-in_ok-tell_filed-in-All-clause-any_moment g c = run g (goal.at.returns-in_ok-tell_filed-in-All-clause-any_moment g c).After-read_clock-seconds

pub returns-in_ok-tell_filed-in-All-clause-no_more : goal.returns-in_ok-tell_filed-in-All-clause-no_more
returns-in_ok-tell_filed-in-All-clause-no_more g c = no_more g (goal.at.returns-in_ok-tell_filed-in-All-clause-no_more g c).After-read_clock-seconds

pub returns-in_err-tell_filed-in-All-clause-any_moment : goal.returns-in_err-tell_filed-in-All-clause-any_moment
returns-in_err-tell_filed-in-All-clause-any_moment g c = run g (goal.at.returns-in_err-tell_filed-in-All-clause-any_moment g c).After-read_clock-seconds

pub returns-in_err-tell_filed-in-All-clause-no_more : goal.returns-in_err-tell_filed-in-All-clause-no_more
returns-in_err-tell_filed-in-All-clause-no_more g c = no_more g (goal.at.returns-in_err-tell_filed-in-All-clause-no_more g c).After-read_clock-seconds

pub returns-in_ok-tell_filed-in-All-clause-counts : goal.returns-in_ok-tell_filed-in-All-clause-counts
returns-in_ok-tell_filed-in-All-clause-counts g c =
    let P : Filed → Type 0 = λ f. CountsFor (Query (FileOut f)) (g.O.Outside.faults c.args.outside.now) (g.O.Outside.faults c.read_clock-seconds.new.outside) (Ok c.in_ok-tell_filed-in-All.field-0) in
    subst P (sym c.in-All.is) (done_counts (g.O.Outside.faults c.args.outside.now) (g.O.Outside.faults c.read_clock-seconds.new.outside) c.in_ok-tell_filed-in-All.field-0 c.read_clock-seconds.ensures.faults)

pub returns-in_err-tell_filed-in-All-clause-counts : goal.returns-in_err-tell_filed-in-All-clause-counts
returns-in_err-tell_filed-in-All-clause-counts g c =
    let P : Filed → Type 0 = λ f. CountsFor {T = Reply} (Query (FileOut f)) (g.O.Outside.faults c.args.outside.now) (g.O.Outside.faults c.read_clock-seconds.new.outside) (Err ends.Memory) in
    let p = err_from_is_err_and c.from_residual.result c.from_residual.ensures.1 in
    rw (p.1, p.2) (subst P (sym c.in-All.is) (memory_counts Reply (g.O.Outside.faults c.args.outside.now) (g.O.Outside.faults c.read_clock-seconds.new.outside) c.read_clock-seconds.ensures.faults))

pub returns-in_ok-tell_filed_on-in-Class-clause-replied : goal.returns-in_ok-tell_filed_on-in-Class-clause-replied
returns-in_ok-tell_filed_on-in-Class-clause-replied g c = λ work put at.
    let after = (goal.at.returns-in_ok-tell_filed_on-in-Class-clause-replied g c).After-read_clock-seconds in
    let P : SystemState → Type 0 = λ s. IsSystemOf s (state_of work.changes) in
    let system = subst P (sym c.system-in-Class.ensures) at.keeps.system in
    replied_file (g.O.Disk.may_leave c.read_clock-seconds.new.outside) (g.O.Outside.shown c.read_clock-seconds.new.outside) c.args.self.now (was_of c.args.self.now) work put c.args.filed (Class c.in-Class.name) c.read_clock-seconds.result c.in_ok-tell_filed_on-in-Class.field-0 refl c.in-Class.is (clock g after) (c.in_ok-tell_filed_on-in-Class.ensures.answer work.changes system) (still g after work put at)

pub returns-in_err-tell_filed_on-in-Class-clause-replied : goal.returns-in_err-tell_filed_on-in-Class-clause-replied
returns-in_err-tell_filed_on-in-Class-clause-replied g c = λ work put at.
    let after = (goal.at.returns-in_err-tell_filed_on-in-Class-clause-replied g c).After-read_clock-seconds in
    let p = err_from_is_err_and c.from_residual-in_err-tell_filed_on-in-Class.result c.from_residual-in_err-tell_filed_on-in-Class.ensures.1 in
    rw (p.1, p.2) (still g after work put at)

pub returns-in_ok-tell_filed_on-in-Class-clause-any_moment : goal.returns-in_ok-tell_filed_on-in-Class-clause-any_moment
returns-in_ok-tell_filed_on-in-Class-clause-any_moment g c = run g (goal.at.returns-in_ok-tell_filed_on-in-Class-clause-any_moment g c).After-read_clock-seconds

pub returns-in_ok-tell_filed_on-in-Class-clause-no_more : goal.returns-in_ok-tell_filed_on-in-Class-clause-no_more
returns-in_ok-tell_filed_on-in-Class-clause-no_more g c = no_more g (goal.at.returns-in_ok-tell_filed_on-in-Class-clause-no_more g c).After-read_clock-seconds

pub returns-in_err-tell_filed_on-in-Class-clause-any_moment : goal.returns-in_err-tell_filed_on-in-Class-clause-any_moment
returns-in_err-tell_filed_on-in-Class-clause-any_moment g c = run g (goal.at.returns-in_err-tell_filed_on-in-Class-clause-any_moment g c).After-read_clock-seconds

pub returns-in_err-tell_filed_on-in-Class-clause-no_more : goal.returns-in_err-tell_filed_on-in-Class-clause-no_more
returns-in_err-tell_filed_on-in-Class-clause-no_more g c = no_more g (goal.at.returns-in_err-tell_filed_on-in-Class-clause-no_more g c).After-read_clock-seconds

pub returns-in_ok-tell_filed_on-in-Class-clause-counts : goal.returns-in_ok-tell_filed_on-in-Class-clause-counts
returns-in_ok-tell_filed_on-in-Class-clause-counts g c =
    let P : Filed → Type 0 = λ f. CountsFor (Query (FileOut f)) (g.O.Outside.faults c.args.outside.now) (g.O.Outside.faults c.read_clock-seconds.new.outside) (Ok c.in_ok-tell_filed_on-in-Class.field-0) in
    subst P (sym c.in-Class.is) (done_counts (g.O.Outside.faults c.args.outside.now) (g.O.Outside.faults c.read_clock-seconds.new.outside) c.in_ok-tell_filed_on-in-Class.field-0 c.read_clock-seconds.ensures.faults)

pub returns-in_err-tell_filed_on-in-Class-clause-counts : goal.returns-in_err-tell_filed_on-in-Class-clause-counts
returns-in_err-tell_filed_on-in-Class-clause-counts g c =
    let P : Filed → Type 0 = λ f. CountsFor {T = Reply} (Query (FileOut f)) (g.O.Outside.faults c.args.outside.now) (g.O.Outside.faults c.read_clock-seconds.new.outside) (Err ends.Memory) in
    let p = err_from_is_err_and c.from_residual-in_err-tell_filed_on-in-Class.result c.from_residual-in_err-tell_filed_on-in-Class.ensures.1 in
    rw (p.1, p.2) (subst P (sym c.in-Class.is) (memory_counts Reply (g.O.Outside.faults c.args.outside.now) (g.O.Outside.faults c.read_clock-seconds.new.outside) c.read_clock-seconds.ensures.faults))

-- ---- the change set

pub returns-in-Set-clause-replied : goal.returns-in-Set-clause-replied
returns-in-Set-clause-replied g c = λ work put at.
    let after = (goal.at.returns-in-Set-clause-replied g c).After-read_clock-seconds in
    let P : Filed → Type 0 = λ f. QueryWorked c.tell_filed_set.result (g.O.Disk.may_leave c.tell_filed_set.new.outside) (g.O.Outside.shown c.tell_filed_set.new.outside) c.tell_filed_set.new.self (was_of c.args.self.now) work put (Query (FileOut f)) in
    subst P (sym c.in-Set.is) (c.tell_filed_set.ensures.replied work put (clock g after) (still g after work put at))

pub returns-in-Set-clause-any_moment : goal.returns-in-Set-clause-any_moment
returns-in-Set-clause-any_moment g c = λ work put at.
    let after = (goal.at.returns-in-Set-clause-any_moment g c).After-read_clock-seconds in
    let P = HasKept work.changes (length put) in
    joined g.O.Disk.moment g.O.Disk.left_since c.args.outside.now c.read_clock-seconds.new.outside c.tell_filed_set.new.outside P P (run g after work put at) (c.tell_filed_set.ensures.any_moment work put (still g after work put at)) (λ told image h. h)

pub returns-in-Set-clause-no_more : goal.returns-in-Set-clause-no_more
returns-in-Set-clause-no_more g c =
    let after = (goal.at.returns-in-Set-clause-no_more g c).After-read_clock-seconds in
    left_on g.O.Disk.moment g.O.Disk.left_since c.args.outside.now c.read_clock-seconds.new.outside c.tell_filed_set.new.outside (g.O.Disk.may_leave c.args.outside.now) (g.O.Disk.may_leave c.read_clock-seconds.new.outside) c.read_clock-seconds.ensures.images (no_more g after) c.tell_filed_set.ensures.no_more

pub returns-in-Set-clause-counts : goal.returns-in-Set-clause-counts
returns-in-Set-clause-counts g c =
    let P : Faults → Type 0 = λ f. SourceCounts f (g.O.Outside.faults c.tell_filed_set.new.outside) c.tell_filed_set.result in
    let Q : Filed → Type 0 = λ f. CountsFor (Query (FileOut f)) (g.O.Outside.faults c.args.outside.now) (g.O.Outside.faults c.tell_filed_set.new.outside) c.tell_filed_set.result in
    subst Q (sym c.in-Set.is) (subst P c.read_clock-seconds.ensures.faults c.tell_filed_set.ensures.counts)
