use Rattle.std.proofs.Common.{◌≡◌, [], inl, inr, ⊎_elim, length, Err, refl, sym, ap, subst, ◌∙◌}
use Rattle.std.proofs.lemmas.Result.{err_from_is_err_and}
use Rattle.s80_disk.specs.Moments.{LeavesOnly}
use Rattle.s80_disk.proofs.lemmas.Showing.{told_beside}
use Rattle.s80_keeper.specs.Keeper.{pending_of}
use Rattle.s80_model.specs.declared.reply.Answer.{Answer}
use Rattle.s80_model.specs.Replies.{Work}
use Rattle.s80_model.specs.Section.{section_or, IsBriefSection}
use Rattle.s80_session.specs.declared.end.SessionEnd.TheVariants as ends
use Rattle.s80_session.specs.Run.{HasKept}
use Rattle.s80_session.specs.Session.{budget_of, held_of, keeper_of, kept_versions_of, last_run_of, room_of, section_of, troubled_of, was_of, IsResting}
use Rattle.s80_session.specs.Working.{Ground, IsAmid}
use Rattle.s80_session.proofs.Breaking.{broke_on, memory_counts, memory_only}
use Rattle.s80_session.proofs.Holding.{amid_alike, any_counts, counts_then, done_both, has_held, held_run, item_held, memory_both, unheld, unheld_run}
use Rattle.s80_session.proofs.Knowing.{answer_ends, knows_entered}
use Rattle.s80_session.proofs.lemmas.Grounds.{nothing_happens, work_still}
use Rattle.s80_session.proofs.session.Session.work_item.Goals as goal
use Rattle.s80_session.proofs.session.Session.work_item.Goals.{After-answer_to, After-reserve}

-- once there is room for "ok"
module _ (g : _) (c : After-reserve g) (work : Work) (basis : Ground) (at : IsAmid (g.O.Disk.may_leave c.args.outside.now) (g.O.Outside.shown c.args.outside.now) c.args.self.now work basis) where
  reserved : IsAmid (g.O.Disk.may_leave c.args.outside.now) (g.O.Outside.shown c.args.outside.now) (record c.args.self.now { held = c.reserve.new.self }) work basis
  reserved = amid_alike (g.O.Disk.may_leave c.args.outside.now) (g.O.Outside.shown c.args.outside.now) c.args.self.now (record c.args.self.now { held = c.reserve.new.self }) work basis refl refl refl refl c.reserve.ensures.bytes at

  nothing : LeavesOnly g.O.Disk.moment g.O.Disk.left_since c.args.outside.now c.args.outside.now (HasKept basis.kept (length basis.put))
  nothing = nothing_happens g.O.Disk.moment g.O.Disk.left_since _ (g.O.Outside.shown c.args.outside.now) _ c.args.outside.now work basis (λ told image left. let x = g.met.O.Disk.only_now c.args.outside.now told image left in (x.0, x.1 ∙ told_beside g.met.O.Outside.beside_is g.met.O.Outside.shown_is c.args.outside.now)) at

pub returns-in_err-reserve-clause-worked : goal.returns-in_err-reserve-clause-worked
returns-in_err-reserve-clause-worked g c = λ work basis readable at.
    let p = err_from_is_err_and c.from_residual.result c.from_residual.ensures.1 in
    rw (p.1, p.2) (inl (inl (reserved g (goal.at.returns-in_err-reserve-clause-worked g c).After-reserve work basis at)))

pub returns-in_err-reserve-clause-any_moment : goal.returns-in_err-reserve-clause-any_moment
returns-in_err-reserve-clause-any_moment g c = λ work basis readable at.
    work_still g.O.Disk.moment g.O.Disk.left_since c.args.outside.now c.args.outside.now work basis c.args.item (nothing g (goal.at.returns-in_err-reserve-clause-any_moment g c).After-reserve work basis at)

pub returns-in_err-reserve-clause-grouped : goal.returns-in_err-reserve-clause-grouped
returns-in_err-reserve-clause-grouped g c = λ work basis readable grouped at. nothing g (goal.at.returns-in_err-reserve-clause-grouped g c).After-reserve work basis at

pub returns-in_err-reply-clause-worked : goal.returns-in_err-reply-clause-worked
returns-in_err-reply-clause-worked g c = λ work basis readable at.
    let p = err_from_is_err_and c.from_residual-in_err-reply.result c.from_residual-in_err-reply.ensures.1 in
    rw (p.1, p.2) (c.in_err-reply.ensures.answers work basis readable (reserved g (goal.at.returns-in_err-reply-clause-worked g c).After-reserve work basis at))

pub returns-in_err-reply-clause-any_moment : goal.returns-in_err-reply-clause-any_moment
returns-in_err-reply-clause-any_moment g c = λ work basis readable at. c.answer_to.ensures.any_moment work basis readable (reserved g (goal.at.returns-in_err-reply-clause-any_moment g c).After-reserve work basis at)

pub returns-in_err-reply-clause-grouped : goal.returns-in_err-reply-clause-grouped
returns-in_err-reply-clause-grouped g c = λ work basis readable grouped at. c.answer_to.ensures.grouped work basis readable grouped (reserved g (goal.at.returns-in_err-reply-clause-grouped g c).After-reserve work basis at)

pub returns-in_err-hold-clause-worked : goal.returns-in_err-hold-clause-worked
returns-in_err-hold-clause-worked g c = λ work basis readable at.
    let p = err_from_is_err_and c.from_residual-in_err-hold.result c.from_residual-in_err-hold.ensures.1 in
    let rest = c.hold.ensures.rest in
    rw (p.1, p.2) (inl (unheld (g.O.Disk.may_leave c.answer_to.new.outside) (g.O.Outside.shown c.answer_to.new.outside) c.answer_to.new.self c.hold.new.self (was_of c.args.self.now) work basis c.args.item c.in_ok-reply.field-0 (room_of c.answer_to.new.self) (ap keeper_of rest) (ap section_of rest) (ap budget_of rest) (ap kept_versions_of rest) c.in_err-hold.ensures.same.0 (c.in_ok-reply.ensures.room c.in_ok-reserve.ensures.room) c.in_err-hold.ensures.lacks
    (c.in_ok-reply.ensures.answers work basis readable (reserved g (goal.at.returns-in_err-hold-clause-worked g c).After-reserve work basis at))))

pub returns-in_err-hold-clause-any_moment : goal.returns-in_err-hold-clause-any_moment
returns-in_err-hold-clause-any_moment g c = λ work basis readable at. c.answer_to.ensures.any_moment work basis readable (reserved g (goal.at.returns-in_err-hold-clause-any_moment g c).After-reserve work basis at)

pub returns-in_err-hold-clause-grouped : goal.returns-in_err-hold-clause-grouped
returns-in_err-hold-clause-grouped g c = λ work basis readable grouped at. c.answer_to.ensures.grouped work basis readable grouped (reserved g (goal.at.returns-in_err-hold-clause-grouped g c).After-reserve work basis at)

pub returns-in_err-hold-clause-last_run : goal.returns-in_err-hold-clause-last_run
returns-in_err-hold-clause-last_run g c =
    let p = err_from_is_err_and c.from_residual-in_err-hold.result c.from_residual-in_err-hold.ensures.1 in
    rw (p.1, p.2) (ap last_run_of c.hold.ensures.rest ∙ unheld_run c.in_ok-reply.field-0.reply (room_of c.answer_to.new.self) c.args.item c.args.self.now c.answer_to.new.self (c.in_ok-reply.ensures.room c.in_ok-reserve.ensures.room) c.in_err-hold.ensures.lacks c.in_ok-reply.ensures.last_run)

pub returns-in_err-hold-clause-counts : goal.returns-in_err-hold-clause-counts
returns-in_err-hold-clause-counts g c =
    let p = err_from_is_err_and c.from_residual-in_err-hold.result c.from_residual-in_err-hold.ensures.1 in
    rw (p.1, p.2) (counts_then c.args.item _ _ _ c.in_ok-reply.field-0 _ (memory_both _ _) c.in_ok-reply.ensures.counts)

pub returns-clause-worked : goal.returns-clause-worked
returns-clause-worked g c = λ work basis readable at.
    let held = c.hold.ensures.rest in
    let entered = c.enter.ensures.rest in
    item_held (g.O.Disk.may_leave c.answer_to.new.outside) (g.O.Outside.shown c.answer_to.new.outside) c.answer_to.new.self c.enter.new.self work c.args.item c.in_ok-reply.field-0 (ap keeper_of entered ∙ ap keeper_of held) (ap budget_of entered ∙ ap budget_of held) (ap kept_versions_of entered ∙ ap kept_versions_of held) (c.enter.ensures.section ∙ ap (section_or c.in_ok-reply.field-0.section) (ap section_of held)) (ap held_of entered ∙ c.in_ok-hold.ensures.held)
    (was_of c.args.self.now) basis c.answer_to.ensures.troubled (ap troubled_of entered ∙ c.in_ok-hold.ensures.troubled) (ap last_run_of entered ∙ ap last_run_of held) (c.in_ok-reply.ensures.answers work basis readable (reserved g (goal.at.returns-clause-worked g c).After-reserve work basis at))

pub returns-clause-any_moment : goal.returns-clause-any_moment
returns-clause-any_moment g c = λ work basis readable at. c.answer_to.ensures.any_moment work basis readable (reserved g (goal.at.returns-clause-any_moment g c).After-reserve work basis at)

pub returns-clause-grouped : goal.returns-clause-grouped
returns-clause-grouped g c = λ work basis readable grouped at. c.answer_to.ensures.grouped work basis readable grouped (reserved g (goal.at.returns-clause-grouped g c).After-reserve work basis at)

pub returns-clause-troubled : goal.returns-clause-troubled
returns-clause-troubled g c =
    let was = ⊎_elim (λ same. inl (same ∙ c.reserve.ensures.bytes)) (λ none. inr none) c.answer_to.ensures.held in
    has_held c.args.self.now c.answer_to.new.self c.enter.new.self c.in_ok-reply.field-0.reply was (ap held_of c.enter.ensures.rest ∙ c.in_ok-hold.ensures.held) (ap troubled_of c.enter.ensures.rest ∙ c.in_ok-hold.ensures.troubled) c.answer_to.ensures.troubled

pub returns-clause-last_run : goal.returns-clause-last_run
returns-clause-last_run g c =
    let held = c.hold.ensures.rest in
    let entered = c.enter.ensures.rest in
    held_run c.in_ok-reply.field-0.reply c.args.item c.args.self.now c.answer_to.new.self c.enter.new.self (ap keeper_of entered ∙ ap keeper_of held) (ap budget_of entered ∙ ap budget_of held) (ap last_run_of entered ∙ ap last_run_of held) c.in_ok-reply.ensures.last_run

pub returns-clause-counts : goal.returns-clause-counts
returns-clause-counts g c = counts_then c.args.item _ _ _ c.in_ok-reply.field-0 _ (done_both _ _) c.in_ok-reply.ensures.counts

pub returns-in_err-reserve-clause-counts : goal.returns-in_err-reserve-clause-counts
returns-in_err-reserve-clause-counts g c =
    let p = err_from_is_err_and c.from_residual.result c.from_residual.ensures.1 in
    let a = g.O.Outside.faults c.args.outside.now in
    rw (p.1, p.2) (any_counts {U = Unit {0}} c.args.item a a (Err ends.Memory) (memory_counts (Unit {0}) a a refl))

pub returns-in_err-reply-clause-counts : goal.returns-in_err-reply-clause-counts
returns-in_err-reply-clause-counts g c =
    let p = err_from_is_err_and c.from_residual-in_err-reply.result c.from_residual-in_err-reply.ensures.1 in
    let a = g.O.Outside.faults c.args.outside.now in
    rw (p.1, p.2) (broke_on Answer (Unit {0}) c.args.item a a (g.O.Outside.faults c.answer_to.new.outside) c.in_err-reply.field-0.0 refl c.in_err-reply.ensures.counts)

-- ---- at rest

module _ (g : _) (c : After-reserve g) where
  rests : IsResting c.args.self.now → IsResting (record c.args.self.now { held = c.reserve.new.self })
  rests resting = record { faultless = resting.faultless; settled = resting.settled; silent = c.reserve.ensures.bytes ∙ resting.silent }

pub returns-in_err-reply-clause-asked : goal.returns-in_err-reply-clause-asked
returns-in_err-reply-clause-asked g c = λ asking resting. c.answer_to.ensures.asked asking (rests g (goal.at.returns-in_err-reply-clause-asked g c).After-reserve resting)

pub returns-in_err-reply-clause-images : goal.returns-in_err-reply-clause-images
returns-in_err-reply-clause-images g c = λ asking resting. c.answer_to.ensures.images asking (rests g (goal.at.returns-in_err-reply-clause-images g c).After-reserve resting)

pub returns-in_err-reply-clause-no_more : goal.returns-in_err-reply-clause-no_more
returns-in_err-reply-clause-no_more g c = λ asking resting. c.answer_to.ensures.no_more asking (rests g (goal.at.returns-in_err-reply-clause-no_more g c).After-reserve resting)

pub returns-in_err-reply-clause-unput : goal.returns-in_err-reply-clause-unput
returns-in_err-reply-clause-unput g c = λ resting. c.answer_to.ensures.unput (rests g (goal.at.returns-in_err-reply-clause-unput g c).After-reserve resting)

pub returns-in_err-hold-clause-asked : goal.returns-in_err-hold-clause-asked
returns-in_err-hold-clause-asked g c = λ asking resting. c.answer_to.ensures.asked asking (rests g (goal.at.returns-in_err-hold-clause-asked g c).After-reserve resting)

pub returns-in_err-hold-clause-images : goal.returns-in_err-hold-clause-images
returns-in_err-hold-clause-images g c = λ asking resting. c.answer_to.ensures.images asking (rests g (goal.at.returns-in_err-hold-clause-images g c).After-reserve resting)

pub returns-in_err-hold-clause-no_more : goal.returns-in_err-hold-clause-no_more
returns-in_err-hold-clause-no_more g c = λ asking resting. c.answer_to.ensures.no_more asking (rests g (goal.at.returns-in_err-hold-clause-no_more g c).After-reserve resting)

pub returns-in_err-hold-clause-unput : goal.returns-in_err-hold-clause-unput
returns-in_err-hold-clause-unput g c = λ resting. c.answer_to.ensures.unput (rests g (goal.at.returns-in_err-hold-clause-unput g c).After-reserve resting)

pub returns-clause-asked : goal.returns-clause-asked
returns-clause-asked g c = λ asking resting. c.answer_to.ensures.asked asking (rests g (goal.at.returns-clause-asked g c).After-reserve resting)

pub returns-clause-images : goal.returns-clause-images
returns-clause-images g c = λ asking resting. c.answer_to.ensures.images asking (rests g (goal.at.returns-clause-images g c).After-reserve resting)

pub returns-clause-no_more : goal.returns-clause-no_more
returns-clause-no_more g c = λ asking resting. c.answer_to.ensures.no_more asking (rests g (goal.at.returns-clause-no_more g c).After-reserve resting)

pub returns-clause-unput : goal.returns-clause-unput
returns-clause-unput g c = λ resting. c.answer_to.ensures.unput (rests g (goal.at.returns-clause-unput g c).After-reserve resting)

pub returns-clause-settled : goal.returns-clause-settled
returns-clause-settled g c = λ asking resting.
    let settled = c.in_ok-reply.ensures.settled asking (rests g (goal.at.returns-clause-settled g c).After-reserve resting) in
    ap pending_of (ap keeper_of c.enter.ensures.rest ∙ ap keeper_of c.hold.ensures.rest) ∙ settled

pub returns-in_err-reply-clause-settled : goal.returns-in_err-reply-clause-settled
returns-in_err-reply-clause-settled g c = λ asking resting.
    let p = err_from_is_err_and c.from_residual-in_err-reply.result c.from_residual-in_err-reply.ensures.1 in
    rw (p.1, p.2) (memory_only (Unit {0}) Answer _ c.in_err-reply.field-0.0 (c.in_err-reply.ensures.settled asking (rests g (goal.at.returns-in_err-reply-clause-settled g c).After-reserve resting)))

pub returns-in_err-hold-clause-settled : goal.returns-in_err-hold-clause-settled
returns-in_err-hold-clause-settled g c = λ asking resting.
    let p = err_from_is_err_and c.from_residual-in_err-hold.result c.from_residual-in_err-hold.ensures.1 in
    rw (p.1, p.2) (ap pending_of (ap keeper_of c.hold.ensures.rest) ∙ c.in_ok-reply.ensures.settled asking (rests g (goal.at.returns-in_err-hold-clause-settled g c).After-reserve resting))

-- what isn't held isn't there at rest
module _ (g : _) (c : After-answer_to g) where
  unheld_then : IsResting c.args.self.now → held_of c.answer_to.new.self ≡ []
  unheld_then resting = ⊎_elim (λ same. same ∙ c.reserve.ensures.bytes ∙ resting.silent) (λ none. none) c.answer_to.ensures.held

pub returns-in_err-reply-clause-unheld : goal.returns-in_err-reply-clause-unheld
returns-in_err-reply-clause-unheld g c = λ resting.
    let p = err_from_is_err_and c.from_residual-in_err-reply.result c.from_residual-in_err-reply.ensures.1 in
    rw p.1 (unheld_then g (goal.at.returns-in_err-reply-clause-unheld g c).After-answer_to resting)

pub returns-in_err-hold-clause-unheld : goal.returns-in_err-hold-clause-unheld
returns-in_err-hold-clause-unheld g c = λ resting.
    let p = err_from_is_err_and c.from_residual-in_err-hold.result c.from_residual-in_err-hold.ensures.1 in
    rw p.1 (c.in_err-hold.ensures.same.0 ∙ unheld_then g (goal.at.returns-in_err-hold-clause-unheld g c).After-answer_to resting)

-- ---- what is known stays known

pub returns-in_err-reply-clause-known : goal.returns-in_err-reply-clause-known
returns-in_err-reply-clause-known g c = λ readable fed knows.
    let p = err_from_is_err_and c.from_residual-in_err-reply.result c.from_residual-in_err-reply.ensures.1 in
    rw (p.1, p.2) (answer_ends c.in_err-reply.field-0.0 (g.O.Outside.shown c.answer_to.new.outside) c.answer_to.new.self (c.in_err-reply.ensures.known readable fed knows))

pub returns-clause-known : goal.returns-clause-known
returns-clause-known g c = λ readable fed knows.
    let held = c.hold.ensures.rest in
    let section = c.enter.ensures.section ∙ ap (section_or c.in_ok-reply.field-0.section) (ap section_of held) in
    knows_entered (g.O.Outside.shown c.answer_to.new.outside) c.answer_to.new.self c.enter.new.self (ap keeper_of c.enter.ensures.rest ∙ ap keeper_of held) (λ told. subst IsBriefSection (sym section) (c.in_ok-reply.ensures.brief readable fed knows told)) (c.in_ok-reply.ensures.known readable fed knows)
