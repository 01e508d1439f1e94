use Rattle.std.proofs.Common.{◌≤◌, inl, inr, ⊎_elim, ℕ, List, length, ap, refl, sym, subst, ◌∙◌, Ok, Err, Option}
use Rattle.std.proofs.lemmas.Result.{err_from_is_err_and}
use Rattle.s80_change.specs.declared.change.Change.TheVariants.{DoIt, Form}
use Rattle.s80_form.specs.Form.{IsEvaluatedText}
use Rattle.s80_form.specs.declared.refusal.Refusal.{Refusal}
use Rattle.s80_form.specs.declared.refusal.Refused.{Refused}
use Rattle.s80_chunk.specs.declared.item.Item.TheVariants as items
use Rattle.s80_chunk.specs.Chunks.{IsChunkText, longest}
use Rattle.s80_disk.specs.declared.disk.FileId.TheVariants.{Mark}
use Rattle.s80_disk.specs.Moments.{LeavesOnly}
use Rattle.s80_disk.proofs.lemmas.Showing.{told_beside}
use Rattle.s80_model.specs.declared.item.SessionItem.TheVariants.{Chunk}
use Rattle.s80_model.specs.declared.reply.Reply.{Reply}
use Rattle.s80_doit.specs.DoIt.{IsMethodOfDoIt}
use Rattle.s80_model.specs.Asked.{AsksPlain, adds, condenses, snapshot_note}
use Rattle.s80_model.specs.Replies.{Work}
use Rattle.s80_model.specs.declared.plain.Plain.{Plain}
use Rattle.s80_model.specs.Plain.{IsPlain}
use Rattle.s80_session.specs.Known.{IsLawfulAnywhere}
use Rattle.s80_session.specs.Files.{IsOther, IsUnwritten}
use Rattle.s80_session.specs.Session.{keeper_of, last_run_of, room_of, was_of, RunAfterText}
use Rattle.s80_session.specs.Run.{HasKept}
use Rattle.s80_session.specs.Working.{Ground, IsAmid, IsLawfulFor, Replied, WorkLeaves}
use Rattle.s80_session.proofs.Breaking.{counts_meet, counts_whole, done_counts, err_counts, keep_end_works, memory_counts}
use Rattle.s80_session.proofs.Holding.{keeping_room}
use Rattle.s80_session.proofs.Knowing.{keeping_ends, own_text}
use Rattle.s80_session.proofs.lemmas.Elsewhere.{elsewhere_fewer, no_log}
use Rattle.s80_session.proofs.lemmas.Grounds.{nothing_happens, work_still}
use Rattle.s80_session.proofs.Marking.{run_stays}
use Rattle.s80_session.proofs.Stepping.{replied_change, replied_alone, replied_refusal, unreplied}
use Rattle.s80_session.proofs.session.Session.keep_text.Goals as goal
use Rattle.s80_session.proofs.session.Session.keep_text.Goals.{After-condense, After-keep, After-keep_doit}

-- a form: what the paths behind the keeping share
module _ (g : _) (c : After-keep g) (work : Work) (basis : Ground) (at : IsAmid (g.O.Disk.may_leave c.args.outside.now) (g.O.Outside.shown c.args.outside.now) c.args.self.now work basis) where
  asks : AsksPlain c.args.text (adds (Form c.in-Ok-Form.form))
  asks =
      let P : Plain → Type 0 = λ x. IsPlain c.args.text (Ok x) in
      subst P c.in-Ok-Form.field-0-is c.in-Ok-Form.ensures

  lawful : IsLawfulFor work.changes (Form c.in-Ok-Form.form)
  lawful = c.accepted_forms_are_lawful.ensures work.changes c.in-Ok-Form.form at.keeps.holds.list.lawful asks.1.form_is.1

  run : LeavesOnly g.O.Disk.moment g.O.Disk.left_since c.args.outside.now c.keep.new.outside (HasKept basis.kept (length basis.put))
  run = c.keep.ensures.any_moment work basis lawful at

  works : LeavesOnly g.O.Disk.moment g.O.Disk.left_since c.args.outside.now c.keep.new.outside (WorkLeaves work basis (Chunk (items.Plain c.args.text)))
  works = work_still g.O.Disk.moment g.O.Disk.left_since c.args.outside.now c.keep.new.outside work basis (Chunk (items.Plain c.args.text)) run

pub returns-in_err-refusal-in-Ok-Form-clause-replied : goal.returns-in_err-refusal-in-Ok-Form-clause-replied
returns-in_err-refusal-in-Ok-Form-clause-replied g c = λ work basis chunk short at.
    let after = (goal.at.returns-in_err-refusal-in-Ok-Form-clause-replied g c).After-keep in
    let p = err_from_is_err_and c.from_residual.result c.from_residual.ensures.1 in
    rw (p.1, p.2) (unreplied c.in_err-refusal-in-Ok-Form.field-0.0 (g.O.Disk.may_leave c.keep.new.outside) (g.O.Outside.shown c.keep.new.outside) c.keep.new.self work basis (Chunk (items.Plain c.args.text)) (c.in_err-refusal-in-Ok-Form.ensures.kept work basis (lawful g after work basis at) at))

pub returns-in_err-refusal-in-Ok-Form-clause-any_moment : goal.returns-in_err-refusal-in-Ok-Form-clause-any_moment
returns-in_err-refusal-in-Ok-Form-clause-any_moment g c = λ work basis chunk short at. works g (goal.at.returns-in_err-refusal-in-Ok-Form-clause-any_moment g c).After-keep work basis at

pub returns-in_ok-refusal-in-Ok-Form-clause-replied : goal.returns-in_ok-refusal-in-Ok-Form-clause-replied
returns-in_ok-refusal-in-Ok-Form-clause-replied g c = λ work basis chunk short at.
    let after = (goal.at.returns-in_ok-refusal-in-Ok-Form-clause-replied g c).After-keep in
    replied_change (g.O.Disk.may_leave c.keep.new.outside) (g.O.Outside.shown c.keep.new.outside) c.keep.new.self (was_of c.args.self.now) work basis (Chunk (items.Plain c.args.text)) (Form c.in-Ok-Form.form) c.in_ok-refusal-in-Ok-Form.refusal c.reply_to_keeping.result (ap last_run_of c.keep.ensures.rest) (asks g after work basis at) c.reply_to_keeping.ensures (c.in_ok-refusal-in-Ok-Form.ensures.kept work basis (lawful g after work basis at) at)

pub returns-in_ok-refusal-in-Ok-Form-clause-any_moment : goal.returns-in_ok-refusal-in-Ok-Form-clause-any_moment
returns-in_ok-refusal-in-Ok-Form-clause-any_moment g c = λ work basis chunk short at. works g (goal.at.returns-in_ok-refusal-in-Ok-Form-clause-any_moment g c).After-keep work basis at

-- the note of a snapshot
pub returns-in-Ok-Snapshot-clause-replied : goal.returns-in-Ok-Snapshot-clause-replied
returns-in-Ok-Snapshot-clause-replied g c = λ work basis chunk short at.
    let P : Plain → Type 0 = λ x. IsPlain c.args.text (Ok x) in
    let asks = subst P c.in-Ok-Snapshot.field-0-is c.in-Ok-Snapshot.ensures in
    replied_alone c.keep_note.result (g.O.Disk.may_leave c.keep_note.new.outside) (g.O.Outside.shown c.keep_note.new.outside) c.keep_note.new.self (was_of c.args.self.now) work basis (Chunk (items.Plain c.args.text)) (adds (DoIt snapshot_note)) (asks, tt) c.keep_note.ensures.rest.last_run (c.keep_note.ensures.noted work basis (Chunk (items.Plain c.args.text)) asks at)

pub returns-in-Ok-Snapshot-clause-any_moment : goal.returns-in-Ok-Snapshot-clause-any_moment
returns-in-Ok-Snapshot-clause-any_moment g c = λ work basis chunk short at.
    let P : Plain → Type 0 = λ x. IsPlain c.args.text (Ok x) in
    let asks = subst P c.in-Ok-Snapshot.field-0-is c.in-Ok-Snapshot.ensures in
    c.keep_note.ensures.any_moment work basis (Chunk (items.Plain c.args.text)) asks at

pub returns-in-Ok-Snapshot-clause-grouped : goal.returns-in-Ok-Snapshot-clause-grouped
returns-in-Ok-Snapshot-clause-grouped g c = λ work basis chunk short grouped at. absurd (let P : Plain → Type 0 = λ x. IsPlain c.args.text (Ok x) in grouped.0 (subst P c.in-Ok-Snapshot.field-0-is c.in-Ok-Snapshot.ensures))

pub returns-in-Ok-Snapshot-clause-unmarked : goal.returns-in-Ok-Snapshot-clause-unmarked
returns-in-Ok-Snapshot-clause-unmarked g c = λ chunk short grouped. absurd (let P : Plain → Type 0 = λ x. IsPlain c.args.text (Ok x) in grouped.0 (subst P c.in-Ok-Snapshot.field-0-is c.in-Ok-Snapshot.ensures))

pub returns-in-Ok-Snapshot-clause-silent : goal.returns-in-Ok-Snapshot-clause-silent
returns-in-Ok-Snapshot-clause-silent g c = λ chunk short grouped. absurd (let P : Plain → Type 0 = λ x. IsPlain c.args.text (Ok x) in grouped.0 (subst P c.in-Ok-Snapshot.field-0-is c.in-Ok-Snapshot.ensures))

pub returns-in-Ok-Snapshot-clause-last_run : goal.returns-in-Ok-Snapshot-clause-last_run
returns-in-Ok-Snapshot-clause-last_run g c = run_stays c.keep_note.result (Chunk (items.Plain c.args.text)) c.args.self.now c.keep_note.new.self c.keep_note.ensures.rest.last_run

-- condensing: the text asks for it
module _ (g : _) (c : After-condense g) where
  to_condense : AsksPlain c.args.text condenses
  to_condense = let P : Plain → Type 0 = λ x. IsPlain c.args.text (Ok x) in subst P c.in-Ok-Condense.field-0-is c.in-Ok-Condense.ensures

pub returns-in-Ok-Condense-clause-replied : goal.returns-in-Ok-Condense-clause-replied
returns-in-Ok-Condense-clause-replied g c = λ work basis chunk short at.
    let asks = to_condense g (goal.at.returns-in-Ok-Condense-clause-replied g c).After-condense in
    replied_alone c.condense.result (g.O.Disk.may_leave c.condense.new.outside) (g.O.Outside.shown c.condense.new.outside) c.condense.new.self (was_of c.args.self.now) work basis (Chunk (items.Plain c.args.text)) condenses (asks, tt) c.condense.ensures.rest.last_run (c.condense.ensures.condensed work basis (Chunk (items.Plain c.args.text)) asks at)

pub returns-in-Ok-Condense-clause-any_moment : goal.returns-in-Ok-Condense-clause-any_moment
returns-in-Ok-Condense-clause-any_moment g c = λ work basis chunk short at.
    c.condense.ensures.any_moment work basis (Chunk (items.Plain c.args.text)) (to_condense g (goal.at.returns-in-Ok-Condense-clause-any_moment g c).After-condense) at

pub returns-in-Ok-Condense-clause-grouped : goal.returns-in-Ok-Condense-clause-grouped
returns-in-Ok-Condense-clause-grouped g c = λ work basis chunk short grouped at. absurd (grouped.1 (to_condense g (goal.at.returns-in-Ok-Condense-clause-grouped g c).After-condense))

pub returns-in-Ok-Condense-clause-unmarked : goal.returns-in-Ok-Condense-clause-unmarked
returns-in-Ok-Condense-clause-unmarked g c = λ chunk short grouped. absurd (grouped.1 (to_condense g (goal.at.returns-in-Ok-Condense-clause-unmarked g c).After-condense))

pub returns-in-Ok-Condense-clause-silent : goal.returns-in-Ok-Condense-clause-silent
returns-in-Ok-Condense-clause-silent g c = λ chunk short grouped. absurd (grouped.1 (to_condense g (goal.at.returns-in-Ok-Condense-clause-silent g c).After-condense))

pub returns-in-Ok-Condense-clause-others : goal.returns-in-Ok-Condense-clause-others
returns-in-Ok-Condense-clause-others g c = λ other is. c.condense.ensures.others (Chunk (items.Plain c.args.text)) other (to_condense g (goal.at.returns-in-Ok-Condense-clause-others g c).After-condense) is

pub returns-in-Ok-Condense-clause-elsewhere : goal.returns-in-Ok-Condense-clause-elsewhere
returns-in-Ok-Condense-clause-elsewhere g c = c.condense.ensures.elsewhere (Chunk (items.Plain c.args.text)) (to_condense g (goal.at.returns-in-Ok-Condense-clause-elsewhere g c).After-condense)

pub returns-in-Ok-Condense-clause-last_run : goal.returns-in-Ok-Condense-clause-last_run
returns-in-Ok-Condense-clause-last_run g c = run_stays c.condense.result (Chunk (items.Plain c.args.text)) c.args.self.now c.condense.new.self c.condense.ensures.rest.last_run

pub returns-in-Ok-Condense-clause-log : goal.returns-in-Ok-Condense-clause-log
returns-in-Ok-Condense-clause-log g c = ⊎_elim (λ same. inl same) (λ other. inr (to_condense g (goal.at.returns-in-Ok-Condense-clause-log g c).After-condense, other)) c.condense.ensures.log

pub returns-in-Ok-Condense-clause-counts : goal.returns-in-Ok-Condense-clause-counts
returns-in-Ok-Condense-clause-counts g c = inr (to_condense g (goal.at.returns-in-Ok-Condense-clause-counts g c).After-condense, c.condense.ensures.counts)

-- a doIt is the text itself
pub keep_doit-requires-clause-method : goal.keep_doit-requires-clause-method
keep_doit-requires-clause-method g c =
    let P : Plain → Type 0 = λ x. IsPlain c.args.text (Ok x) in
    let is = subst P c.in-Ok-Evaluate.field-0-is c.in-Ok-Evaluate.ensures in
    subst (λ t. IsMethodOfDoIt t c.in-Ok-Evaluate.method) (sym is.0) is.1

pub returns-in-Ok-Evaluate-clause-replied : goal.returns-in-Ok-Evaluate-clause-replied
returns-in-Ok-Evaluate-clause-replied g c = λ work basis chunk short at.
    let P : Plain → Type 0 = λ x. IsPlain c.args.text (Ok x) in
    let is = subst P c.in-Ok-Evaluate.field-0-is c.in-Ok-Evaluate.ensures in
    let Q : List ℕ → Type 0 = λ t. Replied c.keep_doit.result (g.O.Disk.may_leave c.keep_doit.new.outside) (g.O.Outside.shown c.keep_doit.new.outside) c.keep_doit.new.self (was_of c.args.self.now) work basis (Chunk (items.Plain t)) in
    subst Q is.0 (c.keep_doit.ensures.replied work basis (subst IsChunkText (sym is.0) chunk) (subst (λ t. length t ≤ longest) (sym is.0) short) (subst IsEvaluatedText (sym is.0) is.2) at)

-- what its keeping leaves
module _ (g : _) (c : After-keep_doit g) (work : Work) (basis : Ground) (chunk : IsChunkText c.args.text) (short : length c.args.text ≤ longest) (at : IsAmid (g.O.Disk.may_leave c.args.outside.now) (g.O.Outside.shown c.args.outside.now) c.args.self.now work basis) where
  doit_run : LeavesOnly g.O.Disk.moment g.O.Disk.left_since c.args.outside.now c.keep_doit.new.outside (HasKept basis.kept (length basis.put))
  doit_run =
      let P : Plain → Type 0 = λ x. IsPlain c.args.text (Ok x) in
      let is = subst P c.in-Ok-Evaluate.field-0-is c.in-Ok-Evaluate.ensures in
      c.keep_doit.ensures.any_moment work basis (subst IsChunkText (sym is.0) chunk) (subst (λ t. length t ≤ longest) (sym is.0) short) (subst IsEvaluatedText (sym is.0) is.2) at

pub returns-in-Ok-Evaluate-clause-any_moment : goal.returns-in-Ok-Evaluate-clause-any_moment
returns-in-Ok-Evaluate-clause-any_moment g c = λ work basis chunk short at.
    work_still g.O.Disk.moment g.O.Disk.left_since c.args.outside.now c.keep_doit.new.outside work basis (Chunk (items.Plain c.args.text)) (doit_run g (goal.at.returns-in-Ok-Evaluate-clause-any_moment g c).After-keep_doit work basis chunk short at)

pub returns-in-Ok-Evaluate-clause-grouped : goal.returns-in-Ok-Evaluate-clause-grouped
returns-in-Ok-Evaluate-clause-grouped g c = λ work basis chunk short grouped at. doit_run g (goal.at.returns-in-Ok-Evaluate-clause-grouped g c).After-keep_doit work basis chunk short at

pub returns-in-Ok-Evaluate-clause-unmarked : goal.returns-in-Ok-Evaluate-clause-unmarked
returns-in-Ok-Evaluate-clause-unmarked g c = λ chunk short grouped. c.keep_doit.ensures.others Mark (no_log (keeper_of c.args.self.now).log.number)

pub returns-in_ok-refusal-in-Ok-Form-clause-grouped : goal.returns-in_ok-refusal-in-Ok-Form-clause-grouped
returns-in_ok-refusal-in-Ok-Form-clause-grouped g c = λ work basis chunk short grouped at. run g (goal.at.returns-in_ok-refusal-in-Ok-Form-clause-grouped g c).After-keep work basis at

pub returns-in_err-refusal-in-Ok-Form-clause-grouped : goal.returns-in_err-refusal-in-Ok-Form-clause-grouped
returns-in_err-refusal-in-Ok-Form-clause-grouped g c = λ work basis chunk short grouped at. run g (goal.at.returns-in_err-refusal-in-Ok-Form-clause-grouped g c).After-keep work basis at

pub returns-in_ok-refusal-in-Ok-Form-clause-unmarked : goal.returns-in_ok-refusal-in-Ok-Form-clause-unmarked
returns-in_ok-refusal-in-Ok-Form-clause-unmarked g c = λ chunk short grouped. c.keep.ensures.others Mark (no_log (keeper_of c.args.self.now).log.number)

pub returns-in_err-refusal-in-Ok-Form-clause-unmarked : goal.returns-in_err-refusal-in-Ok-Form-clause-unmarked
returns-in_err-refusal-in-Ok-Form-clause-unmarked g c = λ chunk short grouped. c.keep.ensures.others Mark (no_log (keeper_of c.args.self.now).log.number)

pub returns-in-Err-Refusal-clause-replied : goal.returns-in-Err-Refusal-clause-replied
returns-in-Err-Refusal-clause-replied g c = λ work basis chunk short at.
    let P : Refused → Type 0 = λ r. IsPlain c.args.text (Err r) in
    rw c.in-Err-Refusal.field-0-is (replied_refusal (g.O.Disk.may_leave c.args.outside.now) (g.O.Outside.shown c.args.outside.now) _ (was_of c.args.self.now) work basis c.args.text c.in-Err-Refusal.refusal refl (subst P c.in-Err-Refusal.field-0-is c.in-Err-Refusal.ensures) at)

pub returns-in-Err-Refusal-clause-any_moment : goal.returns-in-Err-Refusal-clause-any_moment
returns-in-Err-Refusal-clause-any_moment g c = λ work basis chunk short at.
    work_still g.O.Disk.moment g.O.Disk.left_since c.args.outside.now c.args.outside.now work basis (Chunk (items.Plain c.args.text)) (nothing_happens g.O.Disk.moment g.O.Disk.left_since _ (g.O.Outside.shown c.args.outside.now) _ c.args.outside.now work basis (λ told image left. let x = g.met.O.Disk.only_now c.args.outside.now told image left in (x.0, x.1 ∙ told_beside g.met.O.Outside.beside_is g.met.O.Outside.shown_is c.args.outside.now)) at)

pub returns-in-Err-Memory-clause-any_moment : goal.returns-in-Err-Memory-clause-any_moment
returns-in-Err-Memory-clause-any_moment g c = λ work basis chunk short at.
    work_still g.O.Disk.moment g.O.Disk.left_since c.args.outside.now c.args.outside.now work basis (Chunk (items.Plain c.args.text)) (nothing_happens g.O.Disk.moment g.O.Disk.left_since _ (g.O.Outside.shown c.args.outside.now) _ c.args.outside.now work basis (λ told image left. let x = g.met.O.Disk.only_now c.args.outside.now told image left in (x.0, x.1 ∙ told_beside g.met.O.Outside.beside_is g.met.O.Outside.shown_is c.args.outside.now)) at)

pub returns-in-Ok-Evaluate-clause-last_run : goal.returns-in-Ok-Evaluate-clause-last_run
returns-in-Ok-Evaluate-clause-last_run g c =
    let P : Plain → Type 0 = λ x. IsPlain c.args.text (Ok x) in
    let is = subst P c.in-Ok-Evaluate.field-0-is c.in-Ok-Evaluate.ensures in
    let Q : List ℕ → Type 0 = λ t. RunAfterText c.keep_doit.result (Chunk (items.Plain t)) c.args.self.now c.keep_doit.new.self in
    subst Q is.0 (c.keep_doit.ensures.last_run (subst IsEvaluatedText (sym is.0) is.2))

pub returns-in_ok-refusal-in-Ok-Form-clause-last_run : goal.returns-in_ok-refusal-in-Ok-Form-clause-last_run
returns-in_ok-refusal-in-Ok-Form-clause-last_run g c = inl (ap last_run_of c.keep.ensures.rest)

pub returns-in_err-refusal-in-Ok-Form-clause-last_run : goal.returns-in_err-refusal-in-Ok-Form-clause-last_run
returns-in_err-refusal-in-Ok-Form-clause-last_run g c =
    let p = err_from_is_err_and c.from_residual.result c.from_residual.ensures.1 in
    rw p.1 (ap last_run_of c.keep.ensures.rest)

-- nothing is done
pub returns-in-Err-Refusal-clause-grouped : goal.returns-in-Err-Refusal-clause-grouped
returns-in-Err-Refusal-clause-grouped g c = λ work basis chunk short grouped at.
    nothing_happens g.O.Disk.moment g.O.Disk.left_since _ (g.O.Outside.shown c.args.outside.now) _ c.args.outside.now work basis (λ told image left. let x = g.met.O.Disk.only_now c.args.outside.now told image left in (x.0, x.1 ∙ told_beside g.met.O.Outside.beside_is g.met.O.Outside.shown_is c.args.outside.now)) at

pub returns-in-Err-Memory-clause-grouped : goal.returns-in-Err-Memory-clause-grouped
returns-in-Err-Memory-clause-grouped g c = λ work basis chunk short grouped at.
    nothing_happens g.O.Disk.moment g.O.Disk.left_since _ (g.O.Outside.shown c.args.outside.now) _ c.args.outside.now work basis (λ told image left. let x = g.met.O.Disk.only_now c.args.outside.now told image left in (x.0, x.1 ∙ told_beside g.met.O.Outside.beside_is g.met.O.Outside.shown_is c.args.outside.now)) at

pub returns-in_ok-refusal-in-Ok-Form-clause-room : goal.returns-in_ok-refusal-in-Ok-Form-clause-room
returns-in_ok-refusal-in-Ok-Form-clause-room g c = λ enough.
    keeping_room c.in_ok-refusal-in-Ok-Form.refusal c.reply_to_keeping.result (room_of c.keep.new.self) c.reply_to_keeping.ensures (subst (λ n. 3 ≤ n) (sym (ap room_of c.keep.ensures.rest)) enough)

-- what keeps a doIt breaks off so too
pub returns-in-Ok-Evaluate-clause-ends : goal.returns-in-Ok-Evaluate-clause-ends
returns-in-Ok-Evaluate-clause-ends g c = keep_end_works c.keep_doit.result c.keep_doit.ensures.ends

pub returns-in_err-refusal-in-Ok-Form-clause-ends : goal.returns-in_err-refusal-in-Ok-Form-clause-ends
returns-in_err-refusal-in-Ok-Form-clause-ends g c =
    let p = err_from_is_err_and c.from_residual.result c.from_residual.ensures.1 in
    rw (p.1, p.2) (keep_end_works {T = Unit {0}} (Err c.in_err-refusal-in-Ok-Form.field-0.0) c.in_err-refusal-in-Ok-Form.ensures.ends)

-- ---- what is known stays known

-- whichever list accepts it, the form is lawful
module _ (g : _) (c : After-keep g) where
  anywhere : IsLawfulAnywhere (Form c.in-Ok-Form.form)
  anywhere all each =
      let P : Plain → Type 0 = λ x. IsPlain c.args.text (Ok x) in
      let asked = subst P c.in-Ok-Form.field-0-is c.in-Ok-Form.ensures in
      c.accepted_forms_are_lawful.ensures all c.in-Ok-Form.form each asked.1.form_is.1

pub returns-in_err-refusal-in-Ok-Form-clause-known : goal.returns-in_err-refusal-in-Ok-Form-clause-known
returns-in_err-refusal-in-Ok-Form-clause-known g c = λ chunk short knows.
    let after = (goal.at.returns-in_err-refusal-in-Ok-Form-clause-known g c).After-keep in
    let p = err_from_is_err_and c.from_residual.result c.from_residual.ensures.1 in
    rw (p.1, p.2) (keeping_ends c.in_err-refusal-in-Ok-Form.field-0.0 (g.O.Outside.shown c.keep.new.outside) c.keep.new.self (c.in_err-refusal-in-Ok-Form.ensures.known (λ told. anywhere g after) knows))

pub returns-in_ok-refusal-in-Ok-Form-clause-known : goal.returns-in_ok-refusal-in-Ok-Form-clause-known
returns-in_ok-refusal-in-Ok-Form-clause-known g c = λ chunk short knows.
    c.in_ok-refusal-in-Ok-Form.ensures.known (λ told. anywhere g (goal.at.returns-in_ok-refusal-in-Ok-Form-clause-known g c).After-keep) knows

pub returns-in-Ok-Snapshot-clause-known : goal.returns-in-Ok-Snapshot-clause-known
returns-in-Ok-Snapshot-clause-known g c = λ chunk short knows. c.keep_note.ensures.known knows

pub returns-in-Ok-Condense-clause-known : goal.returns-in-Ok-Condense-clause-known
returns-in-Ok-Condense-clause-known g c = λ chunk short knows. c.condense.ensures.known knows

pub returns-in-Ok-Evaluate-clause-known : goal.returns-in-Ok-Evaluate-clause-known
returns-in-Ok-Evaluate-clause-known g c = λ chunk short knows.
    let P : Plain → Type 0 = λ x. IsPlain c.args.text (Ok x) in
    let is = subst P c.in-Ok-Evaluate.field-0-is c.in-Ok-Evaluate.ensures in
    let own = own_text _ c.args.text is.0 chunk short is.2 in
    c.keep_doit.ensures.known own.0 own.1 own.2 knows

-- ---- what is left of the files, and of the log

pub returns-in_ok-refusal-in-Ok-Form-clause-elsewhere : goal.returns-in_ok-refusal-in-Ok-Form-clause-elsewhere
returns-in_ok-refusal-in-Ok-Form-clause-elsewhere g c =
    let o = c.args.outside.now in
    let number = (keeper_of c.args.self.now).log.number in
    elsewhere_fewer g.O.Disk.moment g.O.Disk.left_since o c.keep.new.outside (g.O.Disk.may_leave o) (IsOther number) (IsUnwritten (Chunk (items.Plain c.args.text)) number) (λ other is. is.other) c.keep.ensures.elsewhere

pub returns-in_ok-refusal-in-Ok-Form-clause-others : goal.returns-in_ok-refusal-in-Ok-Form-clause-others
returns-in_ok-refusal-in-Ok-Form-clause-others g c = λ other is. c.keep.ensures.others other is.other.no_log

pub returns-in_ok-refusal-in-Ok-Form-clause-log : goal.returns-in_ok-refusal-in-Ok-Form-clause-log
returns-in_ok-refusal-in-Ok-Form-clause-log g c = inl c.keep.ensures.log

pub returns-in_err-refusal-in-Ok-Form-clause-elsewhere : goal.returns-in_err-refusal-in-Ok-Form-clause-elsewhere
returns-in_err-refusal-in-Ok-Form-clause-elsewhere g c =
    let o = c.args.outside.now in
    let number = (keeper_of c.args.self.now).log.number in
    elsewhere_fewer g.O.Disk.moment g.O.Disk.left_since o c.keep.new.outside (g.O.Disk.may_leave o) (IsOther number) (IsUnwritten (Chunk (items.Plain c.args.text)) number) (λ other is. is.other) c.keep.ensures.elsewhere

pub returns-in_err-refusal-in-Ok-Form-clause-others : goal.returns-in_err-refusal-in-Ok-Form-clause-others
returns-in_err-refusal-in-Ok-Form-clause-others g c = λ other is. c.keep.ensures.others other is.other.no_log

pub returns-in_err-refusal-in-Ok-Form-clause-log : goal.returns-in_err-refusal-in-Ok-Form-clause-log
returns-in_err-refusal-in-Ok-Form-clause-log g c = inl c.keep.ensures.log

pub returns-in-Ok-Snapshot-clause-elsewhere : goal.returns-in-Ok-Snapshot-clause-elsewhere
returns-in-Ok-Snapshot-clause-elsewhere g c =
    let P : Plain → Type 0 = λ x. IsPlain c.args.text (Ok x) in
    c.keep_note.ensures.elsewhere (Chunk (items.Plain c.args.text)) (subst P c.in-Ok-Snapshot.field-0-is c.in-Ok-Snapshot.ensures)

pub returns-in-Ok-Snapshot-clause-others : goal.returns-in-Ok-Snapshot-clause-others
returns-in-Ok-Snapshot-clause-others g c = λ other is.
    let P : Plain → Type 0 = λ x. IsPlain c.args.text (Ok x) in
    c.keep_note.ensures.others (Chunk (items.Plain c.args.text)) other (subst P c.in-Ok-Snapshot.field-0-is c.in-Ok-Snapshot.ensures) is

pub returns-in-Ok-Snapshot-clause-log : goal.returns-in-Ok-Snapshot-clause-log
returns-in-Ok-Snapshot-clause-log g c = inl c.keep_note.ensures.log

pub returns-in-Ok-Evaluate-clause-elsewhere : goal.returns-in-Ok-Evaluate-clause-elsewhere
returns-in-Ok-Evaluate-clause-elsewhere g c =
    let o = c.args.outside.now in
    let number = (keeper_of c.args.self.now).log.number in
    elsewhere_fewer g.O.Disk.moment g.O.Disk.left_since o c.keep_doit.new.outside (g.O.Disk.may_leave o) (IsOther number) (IsUnwritten (Chunk (items.Plain c.args.text)) number) (λ other is. is.other) c.keep_doit.ensures.elsewhere

pub returns-in-Ok-Evaluate-clause-others : goal.returns-in-Ok-Evaluate-clause-others
returns-in-Ok-Evaluate-clause-others g c = λ other is. c.keep_doit.ensures.others other is.other.no_log

pub returns-in-Ok-Evaluate-clause-log : goal.returns-in-Ok-Evaluate-clause-log
returns-in-Ok-Evaluate-clause-log g c = inl c.keep_doit.ensures.log

-- ---- the counts of faults

pub returns-in_ok-refusal-in-Ok-Form-clause-counts : goal.returns-in_ok-refusal-in-Ok-Form-clause-counts
returns-in_ok-refusal-in-Ok-Form-clause-counts g c = inl (done_counts (g.O.Outside.faults c.args.outside.now) (g.O.Outside.faults c.keep.new.outside) c.reply_to_keeping.result c.in_ok-refusal-in-Ok-Form.ensures.counts.reason)

pub returns-in_err-refusal-in-Ok-Form-clause-counts : goal.returns-in_err-refusal-in-Ok-Form-clause-counts
returns-in_err-refusal-in-Ok-Form-clause-counts g c =
    let p = err_from_is_err_and c.from_residual.result c.from_residual.ensures.1 in
    rw (p.1, p.2) (inl (err_counts (Option Refusal) Reply (g.O.Outside.faults c.args.outside.now) (g.O.Outside.faults c.keep.new.outside) c.in_err-refusal-in-Ok-Form.field-0.0 c.in_err-refusal-in-Ok-Form.ensures.counts))

pub returns-in-Ok-Snapshot-clause-counts : goal.returns-in-Ok-Snapshot-clause-counts
returns-in-Ok-Snapshot-clause-counts g c = inl c.keep_note.ensures.counts

pub returns-in-Ok-Evaluate-clause-counts : goal.returns-in-Ok-Evaluate-clause-counts
returns-in-Ok-Evaluate-clause-counts g c = inl c.keep_doit.ensures.counts

pub returns-in-Err-Refusal-clause-counts : goal.returns-in-Err-Refusal-clause-counts
returns-in-Err-Refusal-clause-counts g c = let a = g.O.Outside.faults c.args.outside.now in inl (done_counts a a _ refl)

pub returns-in-Err-Memory-clause-counts : goal.returns-in-Err-Memory-clause-counts
returns-in-Err-Memory-clause-counts g c = let a = g.O.Outside.faults c.args.outside.now in inl (memory_counts Reply a a refl)

pub returns-then-length-gt-LONGEST-clause-counts : goal.returns-then-length-gt-LONGEST-clause-counts
returns-then-length-gt-LONGEST-clause-counts g c = let a = g.O.Outside.faults c.args.outside.now in inl (done_counts a a _ refl)

-- ---- the damage that it meets

pub returns-in_err-refusal-in-Ok-Form-clause-sound : goal.returns-in_err-refusal-in-Ok-Form-clause-sound
returns-in_err-refusal-in-Ok-Form-clause-sound g c = λ tells changes knows built.
    let p = err_from_is_err_and c.from_residual.result c.from_residual.ensures.1 in
    rw (p.1, p.2) (counts_whole (Option Refusal) Reply (g.O.Outside.faults c.args.outside.now) (g.O.Outside.faults c.keep.new.outside) c.in_err-refusal-in-Ok-Form.field-0.0 c.in_err-refusal-in-Ok-Form.ensures.counts)

pub returns-in-Ok-Snapshot-clause-sound : goal.returns-in-Ok-Snapshot-clause-sound
returns-in-Ok-Snapshot-clause-sound g c = λ tells changes knows built. counts_meet _ _ c.keep_note.result c.keep_note.ensures.counts

pub returns-in-Ok-Condense-clause-sound : goal.returns-in-Ok-Condense-clause-sound
returns-in-Ok-Condense-clause-sound g c = λ tells changes knows built.
    c.condense.ensures.sound tells changes knows (built (to_condense g (goal.at.returns-in-Ok-Condense-clause-sound g c).After-condense))

pub returns-in-Ok-Evaluate-clause-sound : goal.returns-in-Ok-Evaluate-clause-sound
returns-in-Ok-Evaluate-clause-sound g c = λ tells changes knows built. counts_meet _ _ c.keep_doit.result c.keep_doit.ensures.counts
