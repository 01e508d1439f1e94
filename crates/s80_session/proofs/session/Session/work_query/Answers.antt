use Rattle.std.proofs.Common.{◌≡◌, ⊎_elim, refl, sym, subst, ◌∙◌}
use Rattle.s80_change.specs.declared.change.Change.TheVariants.{DoIt}
use Rattle.s80_disk.specs.Moments.{LeavesOnly}
use Rattle.s80_disk.proofs.lemmas.Showing.{told_beside}
use Rattle.s80_model.specs.Asked.{adds, condenses, snapshot_note, Asks}
use Rattle.s80_model.specs.declared.item.Query.{Query as SessionQuery}
use Rattle.s80_model.specs.declared.item.Query.TheVariants.{Recover, Classes, Browse, Senders, Implementors, References, Undeclared, Unimplemented, Unsent, Condense, Snapshot}
use Rattle.s80_model.specs.declared.item.SessionItem.TheVariants.{Query}
use Rattle.s80_apply.specs.List.{state_of}
use Rattle.s80_apply.specs.System.{SystemState, IsSystemOf}
use Rattle.s80_session.specs.Files.{AsksSnapshot, IsUnwritten}
use Rattle.s80_session.specs.Session.{keeper_of, was_of}
use Rattle.s80_session.specs.Working.{QueryWorked, WorkLeaves, at_rest}
use Rattle.s80_session.proofs.lemmas.Elsewhere.{elsewhere_as_left}
use Rattle.s80_session.proofs.lemmas.Grounds.{nothing_happens, work_still}
use Rattle.s80_session.proofs.Stepping.{queried_alone, replied_sought, replied_told}
use Rattle.s80_session.proofs.session.Session.work_query.Goals as goal

pub returns-in_err-tell_recovered-in-Recover-clause-any_moment : goal.returns-in_err-tell_recovered-in-Recover-clause-any_moment
returns-in_err-tell_recovered-in-Recover-clause-any_moment g c = λ work put at.
    work_still g.O.Disk.moment g.O.Disk.left_since c.args.outside.now c.args.outside.now work (at_rest work put) (Query c.args.query) (nothing_happens g.O.Disk.moment g.O.Disk.left_since _ (g.O.Outside.shown c.args.outside.now) _ c.args.outside.now work (at_rest work put) (λ told image left. let x = g.met.O.Disk.only_now c.args.outside.now told image left in (x.0, x.1 ∙ told_beside g.met.O.Outside.beside_is g.met.O.Outside.shown_is c.args.outside.now)) at)

pub returns-in_err-tell_classes-in-Classes-clause-any_moment : goal.returns-in_err-tell_classes-in-Classes-clause-any_moment
returns-in_err-tell_classes-in-Classes-clause-any_moment g c = λ work put at.
    work_still g.O.Disk.moment g.O.Disk.left_since c.args.outside.now c.args.outside.now work (at_rest work put) (Query c.args.query) (nothing_happens g.O.Disk.moment g.O.Disk.left_since _ (g.O.Outside.shown c.args.outside.now) _ c.args.outside.now work (at_rest work put) (λ told image left. let x = g.met.O.Disk.only_now c.args.outside.now told image left in (x.0, x.1 ∙ told_beside g.met.O.Outside.beside_is g.met.O.Outside.shown_is c.args.outside.now)) at)

pub returns-in_err-tell_browsed-in-Browse-clause-any_moment : goal.returns-in_err-tell_browsed-in-Browse-clause-any_moment
returns-in_err-tell_browsed-in-Browse-clause-any_moment g c = λ work put at.
    work_still g.O.Disk.moment g.O.Disk.left_since c.args.outside.now c.args.outside.now work (at_rest work put) (Query c.args.query) (nothing_happens g.O.Disk.moment g.O.Disk.left_since _ (g.O.Outside.shown c.args.outside.now) _ c.args.outside.now work (at_rest work put) (λ told image left. let x = g.met.O.Disk.only_now c.args.outside.now told image left in (x.0, x.1 ∙ told_beside g.met.O.Outside.beside_is g.met.O.Outside.shown_is c.args.outside.now)) at)

pub returns-in_ok-tell_recovered-in-Recover-clause-replied : goal.returns-in_ok-tell_recovered-in-Recover-clause-replied
returns-in_ok-tell_recovered-in-Recover-clause-replied g c = λ work put at.
    let P : SystemState → Type 0 = λ s. IsSystemOf s (state_of work.changes) in
    let system = subst P (sym c.system-system.ensures) at.keeps.system in
    replied_told (g.O.Disk.may_leave c.args.outside.now) (g.O.Outside.shown c.args.outside.now) _ (was_of c.args.self.now) work put c.args.query Recover _ refl c.in-Recover.is refl (c.in_ok-tell_recovered-in-Recover.ensures.answer work.changes system (c.count.ensures ∙ at.keeps.count)) at

pub returns-in_ok-tell_recovered-in-Recover-clause-any_moment : goal.returns-in_ok-tell_recovered-in-Recover-clause-any_moment
returns-in_ok-tell_recovered-in-Recover-clause-any_moment g c = λ work put at.
    work_still g.O.Disk.moment g.O.Disk.left_since c.args.outside.now c.args.outside.now work (at_rest work put) (Query c.args.query) (nothing_happens g.O.Disk.moment g.O.Disk.left_since _ (g.O.Outside.shown c.args.outside.now) _ c.args.outside.now work (at_rest work put) (λ told image left. let x = g.met.O.Disk.only_now c.args.outside.now told image left in (x.0, x.1 ∙ told_beside g.met.O.Outside.beside_is g.met.O.Outside.shown_is c.args.outside.now)) at)

pub returns-in_ok-tell_classes-in-Classes-clause-replied : goal.returns-in_ok-tell_classes-in-Classes-clause-replied
returns-in_ok-tell_classes-in-Classes-clause-replied g c = λ work put at.
    let P : SystemState → Type 0 = λ s. IsSystemOf s (state_of work.changes) in
    let system = subst P (sym c.system-system.ensures) at.keeps.system in
    replied_told (g.O.Disk.may_leave c.args.outside.now) (g.O.Outside.shown c.args.outside.now) _ (was_of c.args.self.now) work put c.args.query Classes _ refl c.in-Classes.is refl (c.in_ok-tell_classes-in-Classes.ensures.answer work.changes system) at

pub returns-in_ok-tell_classes-in-Classes-clause-any_moment : goal.returns-in_ok-tell_classes-in-Classes-clause-any_moment
returns-in_ok-tell_classes-in-Classes-clause-any_moment g c = λ work put at.
    work_still g.O.Disk.moment g.O.Disk.left_since c.args.outside.now c.args.outside.now work (at_rest work put) (Query c.args.query) (nothing_happens g.O.Disk.moment g.O.Disk.left_since _ (g.O.Outside.shown c.args.outside.now) _ c.args.outside.now work (at_rest work put) (λ told image left. let x = g.met.O.Disk.only_now c.args.outside.now told image left in (x.0, x.1 ∙ told_beside g.met.O.Outside.beside_is g.met.O.Outside.shown_is c.args.outside.now)) at)

pub returns-in_ok-tell_browsed-in-Browse-clause-replied : goal.returns-in_ok-tell_browsed-in-Browse-clause-replied
returns-in_ok-tell_browsed-in-Browse-clause-replied g c = λ work put at.
    let P : SystemState → Type 0 = λ s. IsSystemOf s (state_of work.changes) in
    let system = subst P (sym c.system-system.ensures) at.keeps.system in
    replied_told (g.O.Disk.may_leave c.args.outside.now) (g.O.Outside.shown c.args.outside.now) _ (was_of c.args.self.now) work put c.args.query (Browse c.in-Browse.name) _ refl c.in-Browse.is refl (c.in_ok-tell_browsed-in-Browse.ensures.answer work.changes system) at

pub returns-in_ok-tell_browsed-in-Browse-clause-any_moment : goal.returns-in_ok-tell_browsed-in-Browse-clause-any_moment
returns-in_ok-tell_browsed-in-Browse-clause-any_moment g c = λ work put at.
    work_still g.O.Disk.moment g.O.Disk.left_since c.args.outside.now c.args.outside.now work (at_rest work put) (Query c.args.query) (nothing_happens g.O.Disk.moment g.O.Disk.left_since _ (g.O.Outside.shown c.args.outside.now) _ c.args.outside.now work (at_rest work put) (λ told image left. let x = g.met.O.Disk.only_now c.args.outside.now told image left in (x.0, x.1 ∙ told_beside g.met.O.Outside.beside_is g.met.O.Outside.shown_is c.args.outside.now)) at)

pub returns-in-Source-clause-replied : goal.returns-in-Source-clause-replied
returns-in-Source-clause-replied g c = λ work put at.
    let P : SessionQuery → Type 0 = λ q. QueryWorked c.tell_source.result (g.O.Disk.may_leave c.tell_source.new.outside) (g.O.Outside.shown c.tell_source.new.outside) c.tell_source.new.self (was_of c.args.self.now) work put (Query q) in
    subst P (sym c.in-Source.is) (c.tell_source.ensures.replied work put at)

pub returns-in-Versions-clause-replied : goal.returns-in-Versions-clause-replied
returns-in-Versions-clause-replied g c = λ work put at.
    let P : SessionQuery → Type 0 = λ q. QueryWorked c.tell_versions.result (g.O.Disk.may_leave c.tell_versions.new.outside) (g.O.Outside.shown c.tell_versions.new.outside) c.tell_versions.new.self (was_of c.args.self.now) work put (Query q) in
    subst P (sym c.in-Versions.is) (c.tell_versions.ensures.replied work put at)

pub returns-in-Changes-clause-replied : goal.returns-in-Changes-clause-replied
returns-in-Changes-clause-replied g c = λ work put at.
    let P : SessionQuery → Type 0 = λ q. QueryWorked c.tell_changes.result (g.O.Disk.may_leave c.tell_changes.new.outside) (g.O.Outside.shown c.tell_changes.new.outside) c.tell_changes.new.self (was_of c.args.self.now) work put (Query q) in
    subst P (sym c.in-Changes.is) (c.tell_changes.ensures.replied work put at)

pub returns-in-FileOut-clause-replied : goal.returns-in-FileOut-clause-replied
returns-in-FileOut-clause-replied g c = λ work put at.
    let P : SessionQuery → Type 0 = λ q. QueryWorked c.file_out.result (g.O.Disk.may_leave c.file_out.new.outside) (g.O.Outside.shown c.file_out.new.outside) c.file_out.new.self (was_of c.args.self.now) work put (Query q) in
    subst P (sym c.in-FileOut.is) (c.file_out.ensures.replied work put at)

-- the note of a snapshot
pub returns-in-Snapshot-clause-replied : goal.returns-in-Snapshot-clause-replied
returns-in-Snapshot-clause-replied g c = λ work put at.
    let P : SessionQuery → Type 0 = λ q. QueryWorked c.keep_note.result (g.O.Disk.may_leave c.keep_note.new.outside) (g.O.Outside.shown c.keep_note.new.outside) c.keep_note.new.self (was_of c.args.self.now) work put (Query q) in
    subst P (sym c.in-Snapshot.is) (queried_alone c.keep_note.result (g.O.Disk.may_leave c.keep_note.new.outside) (g.O.Outside.shown c.keep_note.new.outside) c.keep_note.new.self (was_of c.args.self.now) work put (Query Snapshot) (adds (DoIt snapshot_note)) (refl, tt) c.keep_note.ensures.rest.last_run (c.keep_note.ensures.noted work (at_rest work put) (Query Snapshot) refl at))

pub returns-in-Snapshot-clause-any_moment : goal.returns-in-Snapshot-clause-any_moment
returns-in-Snapshot-clause-any_moment g c = λ work put at.
    let P : SessionQuery → Type 0 = λ q. LeavesOnly g.O.Disk.moment g.O.Disk.left_since c.args.outside.now c.keep_note.new.outside (WorkLeaves work (at_rest work put) (Query q)) in
    subst P (sym c.in-Snapshot.is) (c.keep_note.ensures.any_moment work (at_rest work put) (Query Snapshot) refl at)

-- a list that gives way to a shorter one
pub returns-in-Condense-clause-replied : goal.returns-in-Condense-clause-replied
returns-in-Condense-clause-replied g c = λ work put at.
    let P : SessionQuery → Type 0 = λ q. QueryWorked c.condense.result (g.O.Disk.may_leave c.condense.new.outside) (g.O.Outside.shown c.condense.new.outside) c.condense.new.self (was_of c.args.self.now) work put (Query q) in
    subst P (sym c.in-Condense.is) (queried_alone c.condense.result (g.O.Disk.may_leave c.condense.new.outside) (g.O.Outside.shown c.condense.new.outside) c.condense.new.self (was_of c.args.self.now) work put (Query Condense) condenses (refl, tt) c.condense.ensures.rest.last_run (c.condense.ensures.condensed work (at_rest work put) (Query Condense) refl at))

pub returns-in-Condense-clause-any_moment : goal.returns-in-Condense-clause-any_moment
returns-in-Condense-clause-any_moment g c = λ work put at.
    let P : SessionQuery → Type 0 = λ q. LeavesOnly g.O.Disk.moment g.O.Disk.left_since c.args.outside.now c.condense.new.outside (WorkLeaves work (at_rest work put) (Query q)) in
    subst P (sym c.in-Condense.is) (c.condense.ensures.any_moment work (at_rest work put) (Query Condense) refl at)

pub returns-in-Source-clause-any_moment : goal.returns-in-Source-clause-any_moment
returns-in-Source-clause-any_moment g c = λ work put at. work_still g.O.Disk.moment g.O.Disk.left_since c.args.outside.now c.tell_source.new.outside work (at_rest work put) (Query c.args.query) (c.tell_source.ensures.any_moment work put at)

pub returns-in-Source-clause-elsewhere : goal.returns-in-Source-clause-elsewhere
returns-in-Source-clause-elsewhere g c =
    let o = c.args.outside.now in
    elsewhere_as_left g.O.Disk.moment g.O.Disk.left_since o c.tell_source.new.outside (g.O.Disk.may_leave o) (IsUnwritten (Query c.args.query) (keeper_of c.args.self.now).log.number) c.tell_source.ensures.no_more

pub returns-in-Versions-clause-any_moment : goal.returns-in-Versions-clause-any_moment
returns-in-Versions-clause-any_moment g c = λ work put at. work_still g.O.Disk.moment g.O.Disk.left_since c.args.outside.now c.tell_versions.new.outside work (at_rest work put) (Query c.args.query) (c.tell_versions.ensures.any_moment work put at)

pub returns-in-Versions-clause-elsewhere : goal.returns-in-Versions-clause-elsewhere
returns-in-Versions-clause-elsewhere g c =
    let o = c.args.outside.now in
    elsewhere_as_left g.O.Disk.moment g.O.Disk.left_since o c.tell_versions.new.outside (g.O.Disk.may_leave o) (IsUnwritten (Query c.args.query) (keeper_of c.args.self.now).log.number) c.tell_versions.ensures.no_more

pub returns-in-Changes-clause-any_moment : goal.returns-in-Changes-clause-any_moment
returns-in-Changes-clause-any_moment g c = λ work put at. work_still g.O.Disk.moment g.O.Disk.left_since c.args.outside.now c.tell_changes.new.outside work (at_rest work put) (Query c.args.query) (c.tell_changes.ensures.any_moment work put at)

pub returns-in-Changes-clause-elsewhere : goal.returns-in-Changes-clause-elsewhere
returns-in-Changes-clause-elsewhere g c =
    let o = c.args.outside.now in
    elsewhere_as_left g.O.Disk.moment g.O.Disk.left_since o c.tell_changes.new.outside (g.O.Disk.may_leave o) (IsUnwritten (Query c.args.query) (keeper_of c.args.self.now).log.number) c.tell_changes.ensures.no_more

pub returns-in-FileOut-clause-any_moment : goal.returns-in-FileOut-clause-any_moment
returns-in-FileOut-clause-any_moment g c = λ work put at. work_still g.O.Disk.moment g.O.Disk.left_since c.args.outside.now c.file_out.new.outside work (at_rest work put) (Query c.args.query) (c.file_out.ensures.any_moment work put at)

pub returns-in-FileOut-clause-elsewhere : goal.returns-in-FileOut-clause-elsewhere
returns-in-FileOut-clause-elsewhere g c =
    let o = c.args.outside.now in
    elsewhere_as_left g.O.Disk.moment g.O.Disk.left_since o c.file_out.new.outside (g.O.Disk.may_leave o) (IsUnwritten (Query c.args.query) (keeper_of c.args.self.now).log.number) c.file_out.ensures.no_more

-- ---- what is held and pending

pub returns-in_ok-tell_recovered-in-Recover-clause-room : goal.returns-in_ok-tell_recovered-in-Recover-clause-room
returns-in_ok-tell_recovered-in-Recover-clause-room g c = λ enough. c.in_ok-tell_recovered-in-Recover.ensures.room _

pub returns-in_ok-tell_classes-in-Classes-clause-room : goal.returns-in_ok-tell_classes-in-Classes-clause-room
returns-in_ok-tell_classes-in-Classes-clause-room g c = λ enough. c.in_ok-tell_classes-in-Classes.ensures.room _

pub returns-in_ok-tell_browsed-in-Browse-clause-room : goal.returns-in_ok-tell_browsed-in-Browse-clause-room
returns-in_ok-tell_browsed-in-Browse-clause-room g c = λ enough. c.in_ok-tell_browsed-in-Browse.ensures.room _

pub returns-in-Source-clause-room : goal.returns-in-Source-clause-room
returns-in-Source-clause-room g c = λ enough. c.tell_source.ensures.room _

pub returns-in-Source-clause-settled : goal.returns-in-Source-clause-settled
returns-in-Source-clause-settled g c = λ question. c.tell_source.ensures.pending ∙ c.requires.resting.settled

pub returns-in-Versions-clause-room : goal.returns-in-Versions-clause-room
returns-in-Versions-clause-room g c = λ enough. c.tell_versions.ensures.room _

pub returns-in-Versions-clause-settled : goal.returns-in-Versions-clause-settled
returns-in-Versions-clause-settled g c = λ question. c.tell_versions.ensures.pending ∙ c.requires.resting.settled

pub returns-in-Changes-clause-room : goal.returns-in-Changes-clause-room
returns-in-Changes-clause-room g c = λ enough. c.tell_changes.ensures.room _

pub returns-in-Changes-clause-settled : goal.returns-in-Changes-clause-settled
returns-in-Changes-clause-settled g c = λ question. c.tell_changes.ensures.pending ∙ c.requires.resting.settled

pub returns-in-FileOut-clause-room : goal.returns-in-FileOut-clause-room
returns-in-FileOut-clause-room g c = λ enough. c.file_out.ensures.room _

pub returns-in-FileOut-clause-settled : goal.returns-in-FileOut-clause-settled
returns-in-FileOut-clause-settled g c = λ question. c.file_out.ensures.pending ∙ c.requires.resting.settled

pub returns-in-Snapshot-clause-held : goal.returns-in-Snapshot-clause-held
returns-in-Snapshot-clause-held g c = ⊎_elim (λ same. same) (λ none. none ∙ sym c.requires.resting.silent) c.keep_note.ensures.held

pub returns-in-Snapshot-clause-taken : goal.returns-in-Snapshot-clause-taken
returns-in-Snapshot-clause-taken g c = c.keep_note.ensures.unput c.requires.resting

pub returns-in-Snapshot-clause-ends : goal.returns-in-Snapshot-clause-ends
returns-in-Snapshot-clause-ends g c = c.keep_note.ensures.ends_at_rest c.requires.resting

-- ---- what condensing leaves else

pub returns-in-Condense-clause-held : goal.returns-in-Condense-clause-held
returns-in-Condense-clause-held g c = ⊎_elim (λ same. same) (λ none. none ∙ sym c.requires.resting.silent) c.condense.ensures.held

pub returns-in-Condense-clause-taken : goal.returns-in-Condense-clause-taken
returns-in-Condense-clause-taken g c = c.condense.ensures.unput c.requires.resting

pub returns-in-Condense-clause-ends : goal.returns-in-Condense-clause-ends
returns-in-Condense-clause-ends g c = c.condense.ensures.ends_at_rest c.requires.resting

-- what a snapshot leaves of the files
snapping : (query : SessionQuery) → query ≡ Snapshot → AsksSnapshot (Query query)
snapping query is = subst (λ q. AsksSnapshot (Query q)) (sym is) refl

pub returns-in-Snapshot-clause-others : goal.returns-in-Snapshot-clause-others
returns-in-Snapshot-clause-others g c = λ other unwritten. c.keep_note.ensures.others (Query c.args.query) other (snapping c.args.query c.in-Snapshot.is) unwritten

pub returns-in-Snapshot-clause-elsewhere : goal.returns-in-Snapshot-clause-elsewhere
returns-in-Snapshot-clause-elsewhere g c = c.keep_note.ensures.elsewhere (Query c.args.query) (snapping c.args.query c.in-Snapshot.is)

-- a query that is this one asks for it
asked : (query : SessionQuery) → query ≡ Condense → Asks (Query query) condenses
asked query is = subst (λ q. Asks (Query q) condenses) (sym is) refl

pub returns-in-Condense-clause-others : goal.returns-in-Condense-clause-others
returns-in-Condense-clause-others g c = λ other unwritten. c.condense.ensures.others (Query c.args.query) other (asked c.args.query c.in-Condense.is) unwritten

pub returns-in-Condense-clause-elsewhere : goal.returns-in-Condense-clause-elsewhere
returns-in-Condense-clause-elsewhere g c = c.condense.ensures.elsewhere (Query c.args.query) (asked c.args.query c.in-Condense.is)

-- ---- what is sought

pub returns-in_err-tell_senders-in-Senders-clause-any_moment : goal.returns-in_err-tell_senders-in-Senders-clause-any_moment
returns-in_err-tell_senders-in-Senders-clause-any_moment g c = λ work put at.
    work_still g.O.Disk.moment g.O.Disk.left_since c.args.outside.now c.args.outside.now work (at_rest work put) (Query c.args.query) (nothing_happens g.O.Disk.moment g.O.Disk.left_since _ (g.O.Outside.shown c.args.outside.now) _ c.args.outside.now work (at_rest work put) (λ told image left. let x = g.met.O.Disk.only_now c.args.outside.now told image left in (x.0, x.1 ∙ told_beside g.met.O.Outside.beside_is g.met.O.Outside.shown_is c.args.outside.now)) at)

pub returns-in_ok-tell_senders-in-Senders-clause-replied : goal.returns-in_ok-tell_senders-in-Senders-clause-replied
returns-in_ok-tell_senders-in-Senders-clause-replied g c = λ work put at.
    let P : SystemState → Type 0 = λ s. IsSystemOf s (state_of work.changes) in
    let system = subst P (sym c.system-system.ensures) at.keeps.system in
    replied_sought (g.O.Disk.may_leave c.args.outside.now) (g.O.Outside.shown c.args.outside.now) _ (was_of c.args.self.now) work put c.args.query (Senders c.in-Senders.selector) _ refl c.in-Senders.is (c.in_ok-tell_senders-in-Senders.ensures.answer work system) at

pub returns-in_ok-tell_senders-in-Senders-clause-any_moment : goal.returns-in_ok-tell_senders-in-Senders-clause-any_moment
returns-in_ok-tell_senders-in-Senders-clause-any_moment g c = λ work put at.
    work_still g.O.Disk.moment g.O.Disk.left_since c.args.outside.now c.args.outside.now work (at_rest work put) (Query c.args.query) (nothing_happens g.O.Disk.moment g.O.Disk.left_since _ (g.O.Outside.shown c.args.outside.now) _ c.args.outside.now work (at_rest work put) (λ told image left. let x = g.met.O.Disk.only_now c.args.outside.now told image left in (x.0, x.1 ∙ told_beside g.met.O.Outside.beside_is g.met.O.Outside.shown_is c.args.outside.now)) at)

pub returns-in_ok-tell_senders-in-Senders-clause-room : goal.returns-in_ok-tell_senders-in-Senders-clause-room
returns-in_ok-tell_senders-in-Senders-clause-room g c = λ enough. c.in_ok-tell_senders-in-Senders.ensures.room _

pub returns-in_err-tell_implementors-in-Implementors-clause-any_moment : goal.returns-in_err-tell_implementors-in-Implementors-clause-any_moment
returns-in_err-tell_implementors-in-Implementors-clause-any_moment g c = λ work put at.
    work_still g.O.Disk.moment g.O.Disk.left_since c.args.outside.now c.args.outside.now work (at_rest work put) (Query c.args.query) (nothing_happens g.O.Disk.moment g.O.Disk.left_since _ (g.O.Outside.shown c.args.outside.now) _ c.args.outside.now work (at_rest work put) (λ told image left. let x = g.met.O.Disk.only_now c.args.outside.now told image left in (x.0, x.1 ∙ told_beside g.met.O.Outside.beside_is g.met.O.Outside.shown_is c.args.outside.now)) at)

pub returns-in_ok-tell_implementors-in-Implementors-clause-replied : goal.returns-in_ok-tell_implementors-in-Implementors-clause-replied
returns-in_ok-tell_implementors-in-Implementors-clause-replied g c = λ work put at.
    let P : SystemState → Type 0 = λ s. IsSystemOf s (state_of work.changes) in
    let system = subst P (sym c.system-system.ensures) at.keeps.system in
    replied_sought (g.O.Disk.may_leave c.args.outside.now) (g.O.Outside.shown c.args.outside.now) _ (was_of c.args.self.now) work put c.args.query (Implementors c.in-Implementors.selector) _ refl c.in-Implementors.is (c.in_ok-tell_implementors-in-Implementors.ensures.answer work system) at

pub returns-in_ok-tell_implementors-in-Implementors-clause-any_moment : goal.returns-in_ok-tell_implementors-in-Implementors-clause-any_moment
returns-in_ok-tell_implementors-in-Implementors-clause-any_moment g c = λ work put at.
    work_still g.O.Disk.moment g.O.Disk.left_since c.args.outside.now c.args.outside.now work (at_rest work put) (Query c.args.query) (nothing_happens g.O.Disk.moment g.O.Disk.left_since _ (g.O.Outside.shown c.args.outside.now) _ c.args.outside.now work (at_rest work put) (λ told image left. let x = g.met.O.Disk.only_now c.args.outside.now told image left in (x.0, x.1 ∙ told_beside g.met.O.Outside.beside_is g.met.O.Outside.shown_is c.args.outside.now)) at)

pub returns-in_ok-tell_implementors-in-Implementors-clause-room : goal.returns-in_ok-tell_implementors-in-Implementors-clause-room
returns-in_ok-tell_implementors-in-Implementors-clause-room g c = λ enough. c.in_ok-tell_implementors-in-Implementors.ensures.room _

pub returns-in_err-tell_references-in-References-clause-any_moment : goal.returns-in_err-tell_references-in-References-clause-any_moment
returns-in_err-tell_references-in-References-clause-any_moment g c = λ work put at.
    work_still g.O.Disk.moment g.O.Disk.left_since c.args.outside.now c.args.outside.now work (at_rest work put) (Query c.args.query) (nothing_happens g.O.Disk.moment g.O.Disk.left_since _ (g.O.Outside.shown c.args.outside.now) _ c.args.outside.now work (at_rest work put) (λ told image left. let x = g.met.O.Disk.only_now c.args.outside.now told image left in (x.0, x.1 ∙ told_beside g.met.O.Outside.beside_is g.met.O.Outside.shown_is c.args.outside.now)) at)

pub returns-in_ok-tell_references-in-References-clause-replied : goal.returns-in_ok-tell_references-in-References-clause-replied
returns-in_ok-tell_references-in-References-clause-replied g c = λ work put at.
    let P : SystemState → Type 0 = λ s. IsSystemOf s (state_of work.changes) in
    let system = subst P (sym c.system-system.ensures) at.keeps.system in
    replied_sought (g.O.Disk.may_leave c.args.outside.now) (g.O.Outside.shown c.args.outside.now) _ (was_of c.args.self.now) work put c.args.query (References c.in-References.name) _ refl c.in-References.is (c.in_ok-tell_references-in-References.ensures.answer work system) at

pub returns-in_ok-tell_references-in-References-clause-any_moment : goal.returns-in_ok-tell_references-in-References-clause-any_moment
returns-in_ok-tell_references-in-References-clause-any_moment g c = λ work put at.
    work_still g.O.Disk.moment g.O.Disk.left_since c.args.outside.now c.args.outside.now work (at_rest work put) (Query c.args.query) (nothing_happens g.O.Disk.moment g.O.Disk.left_since _ (g.O.Outside.shown c.args.outside.now) _ c.args.outside.now work (at_rest work put) (λ told image left. let x = g.met.O.Disk.only_now c.args.outside.now told image left in (x.0, x.1 ∙ told_beside g.met.O.Outside.beside_is g.met.O.Outside.shown_is c.args.outside.now)) at)

pub returns-in_ok-tell_references-in-References-clause-room : goal.returns-in_ok-tell_references-in-References-clause-room
returns-in_ok-tell_references-in-References-clause-room g c = λ enough. c.in_ok-tell_references-in-References.ensures.room _

pub returns-in_err-tell_undeclared-in-Undeclared-clause-any_moment : goal.returns-in_err-tell_undeclared-in-Undeclared-clause-any_moment
returns-in_err-tell_undeclared-in-Undeclared-clause-any_moment g c = λ work put at.
    work_still g.O.Disk.moment g.O.Disk.left_since c.args.outside.now c.args.outside.now work (at_rest work put) (Query c.args.query) (nothing_happens g.O.Disk.moment g.O.Disk.left_since _ (g.O.Outside.shown c.args.outside.now) _ c.args.outside.now work (at_rest work put) (λ told image left. let x = g.met.O.Disk.only_now c.args.outside.now told image left in (x.0, x.1 ∙ told_beside g.met.O.Outside.beside_is g.met.O.Outside.shown_is c.args.outside.now)) at)

pub returns-in_ok-tell_undeclared-in-Undeclared-clause-replied : goal.returns-in_ok-tell_undeclared-in-Undeclared-clause-replied
returns-in_ok-tell_undeclared-in-Undeclared-clause-replied g c = λ work put at.
    let P : SystemState → Type 0 = λ s. IsSystemOf s (state_of work.changes) in
    let system = subst P (sym c.system-system.ensures) at.keeps.system in
    replied_sought (g.O.Disk.may_leave c.args.outside.now) (g.O.Outside.shown c.args.outside.now) _ (was_of c.args.self.now) work put c.args.query Undeclared _ refl c.in-Undeclared.is (c.in_ok-tell_undeclared-in-Undeclared.ensures.answer work system) at

pub returns-in_ok-tell_undeclared-in-Undeclared-clause-any_moment : goal.returns-in_ok-tell_undeclared-in-Undeclared-clause-any_moment
returns-in_ok-tell_undeclared-in-Undeclared-clause-any_moment g c = λ work put at.
    work_still g.O.Disk.moment g.O.Disk.left_since c.args.outside.now c.args.outside.now work (at_rest work put) (Query c.args.query) (nothing_happens g.O.Disk.moment g.O.Disk.left_since _ (g.O.Outside.shown c.args.outside.now) _ c.args.outside.now work (at_rest work put) (λ told image left. let x = g.met.O.Disk.only_now c.args.outside.now told image left in (x.0, x.1 ∙ told_beside g.met.O.Outside.beside_is g.met.O.Outside.shown_is c.args.outside.now)) at)

pub returns-in_ok-tell_undeclared-in-Undeclared-clause-room : goal.returns-in_ok-tell_undeclared-in-Undeclared-clause-room
returns-in_ok-tell_undeclared-in-Undeclared-clause-room g c = λ enough. c.in_ok-tell_undeclared-in-Undeclared.ensures.room _

pub returns-in_err-tell_unimplemented-in-Unimplemented-clause-any_moment : goal.returns-in_err-tell_unimplemented-in-Unimplemented-clause-any_moment
returns-in_err-tell_unimplemented-in-Unimplemented-clause-any_moment g c = λ work put at.
    work_still g.O.Disk.moment g.O.Disk.left_since c.args.outside.now c.args.outside.now work (at_rest work put) (Query c.args.query) (nothing_happens g.O.Disk.moment g.O.Disk.left_since _ (g.O.Outside.shown c.args.outside.now) _ c.args.outside.now work (at_rest work put) (λ told image left. let x = g.met.O.Disk.only_now c.args.outside.now told image left in (x.0, x.1 ∙ told_beside g.met.O.Outside.beside_is g.met.O.Outside.shown_is c.args.outside.now)) at)

pub returns-in_ok-tell_unimplemented-in-Unimplemented-clause-replied : goal.returns-in_ok-tell_unimplemented-in-Unimplemented-clause-replied
returns-in_ok-tell_unimplemented-in-Unimplemented-clause-replied g c = λ work put at.
    let P : SystemState → Type 0 = λ s. IsSystemOf s (state_of work.changes) in
    let system = subst P (sym c.system-system.ensures) at.keeps.system in
    replied_sought (g.O.Disk.may_leave c.args.outside.now) (g.O.Outside.shown c.args.outside.now) _ (was_of c.args.self.now) work put c.args.query Unimplemented _ refl c.in-Unimplemented.is (c.in_ok-tell_unimplemented-in-Unimplemented.ensures.answer work system) at

pub returns-in_ok-tell_unimplemented-in-Unimplemented-clause-any_moment : goal.returns-in_ok-tell_unimplemented-in-Unimplemented-clause-any_moment
returns-in_ok-tell_unimplemented-in-Unimplemented-clause-any_moment g c = λ work put at.
    work_still g.O.Disk.moment g.O.Disk.left_since c.args.outside.now c.args.outside.now work (at_rest work put) (Query c.args.query) (nothing_happens g.O.Disk.moment g.O.Disk.left_since _ (g.O.Outside.shown c.args.outside.now) _ c.args.outside.now work (at_rest work put) (λ told image left. let x = g.met.O.Disk.only_now c.args.outside.now told image left in (x.0, x.1 ∙ told_beside g.met.O.Outside.beside_is g.met.O.Outside.shown_is c.args.outside.now)) at)

pub returns-in_ok-tell_unimplemented-in-Unimplemented-clause-room : goal.returns-in_ok-tell_unimplemented-in-Unimplemented-clause-room
returns-in_ok-tell_unimplemented-in-Unimplemented-clause-room g c = λ enough. c.in_ok-tell_unimplemented-in-Unimplemented.ensures.room _

pub returns-in_err-tell_unsent-in-Unsent-clause-any_moment : goal.returns-in_err-tell_unsent-in-Unsent-clause-any_moment
returns-in_err-tell_unsent-in-Unsent-clause-any_moment g c = λ work put at.
    work_still g.O.Disk.moment g.O.Disk.left_since c.args.outside.now c.args.outside.now work (at_rest work put) (Query c.args.query) (nothing_happens g.O.Disk.moment g.O.Disk.left_since _ (g.O.Outside.shown c.args.outside.now) _ c.args.outside.now work (at_rest work put) (λ told image left. let x = g.met.O.Disk.only_now c.args.outside.now told image left in (x.0, x.1 ∙ told_beside g.met.O.Outside.beside_is g.met.O.Outside.shown_is c.args.outside.now)) at)

pub returns-in_ok-tell_unsent-in-Unsent-clause-replied : goal.returns-in_ok-tell_unsent-in-Unsent-clause-replied
returns-in_ok-tell_unsent-in-Unsent-clause-replied g c = λ work put at.
    let P : SystemState → Type 0 = λ s. IsSystemOf s (state_of work.changes) in
    let system = subst P (sym c.system-system.ensures) at.keeps.system in
    replied_sought (g.O.Disk.may_leave c.args.outside.now) (g.O.Outside.shown c.args.outside.now) _ (was_of c.args.self.now) work put c.args.query Unsent _ refl c.in-Unsent.is (c.in_ok-tell_unsent-in-Unsent.ensures.answer work system) at

pub returns-in_ok-tell_unsent-in-Unsent-clause-any_moment : goal.returns-in_ok-tell_unsent-in-Unsent-clause-any_moment
returns-in_ok-tell_unsent-in-Unsent-clause-any_moment g c = λ work put at.
    work_still g.O.Disk.moment g.O.Disk.left_since c.args.outside.now c.args.outside.now work (at_rest work put) (Query c.args.query) (nothing_happens g.O.Disk.moment g.O.Disk.left_since _ (g.O.Outside.shown c.args.outside.now) _ c.args.outside.now work (at_rest work put) (λ told image left. let x = g.met.O.Disk.only_now c.args.outside.now told image left in (x.0, x.1 ∙ told_beside g.met.O.Outside.beside_is g.met.O.Outside.shown_is c.args.outside.now)) at)

pub returns-in_ok-tell_unsent-in-Unsent-clause-room : goal.returns-in_ok-tell_unsent-in-Unsent-clause-room
returns-in_ok-tell_unsent-in-Unsent-clause-room g c = λ enough. c.in_ok-tell_unsent-in-Unsent.ensures.room _
