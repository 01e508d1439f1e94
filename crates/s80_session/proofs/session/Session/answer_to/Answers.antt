use Rattle.std.proofs.Common.{◌≡◌, ◌⊎◌, ◌++◌, inl, inr, ⊎_elim, ℕ, List, [], subst, sym, ap, ◌∙◌, refl, Ok, Err, Some, arith}
use Rattle.std.specs.Prelude.{IsTrue}
use Rattle.std.proofs.lemmas.Result.{err_from_is_err_and}
use Rattle.s80_chunk.specs.declared.item.Item.TheVariants as items
use Rattle.s80_form.specs.declared.refusal.Refusal.TheVariants as refusals
use Rattle.s80_disk.specs.declared.disk.FileId.{FileId}
use Rattle.s80_disk.specs.declared.disk.FileId.TheVariants.{Mark}
use Rattle.s80_disk.specs.Moments.{LeavesOnly}
use Rattle.s80_disk.specs.Shown.{Shown}
use Rattle.s80_disk.proofs.lemmas.Showing.{told_beside}
use Rattle.s80_log.specs.Log.{LogEnd}
use Rattle.s80_apply.specs.List.{IsBuilt}
use Rattle.s80_apply.specs.System.{SystemState}
use Rattle.s80_model.specs.declared.item.SessionItem.{SessionItem}
use Rattle.s80_model.specs.declared.item.SessionItem.TheVariants.{Chunk, Unended, Query}
use Rattle.s80_model.specs.declared.reply.Answer.{Answer}
use Rattle.s80_model.specs.declared.reply.Reply.{Reply}
use Rattle.s80_model.specs.declared.reply.Reply.TheVariants.{Silent, Refused}
use Rattle.s80_model.specs.declared.section.Section.TheVariants.{Top}
use Rattle.s80_model.specs.Asked.{ask_of_too_long, refuses, condenses, closes, Asks}
use Rattle.s80_model.specs.Replies.{Work}
use Rattle.s80_model.specs.Section.{section_or}
use Rattle.s80_session.specs.declared.end.SessionEnd.TheVariants as ends
use Rattle.s80_session.specs.Ending.{CountsFor}
use Rattle.s80_session.specs.Files.{IsAsking, IsAsLeft, IsElsewhere, IsOther, IsQuestion, IsUnwritten, LogAfter}
use Rattle.s80_session.specs.Known.{IsFed}
use Rattle.s80_session.specs.Replies.{HasRoomFor}
use Rattle.s80_session.specs.Session.{Was, held_of, keeper_of, room_of, section_of, was_of, IsResting, RunAfterWork}
use Rattle.s80_session.specs.Working.{Ground, IsAmid, IsGrouped, IsReadable, Answers, Unreplied, WorkLeaves}
use Rattle.s80_session.proofs.Breaking.{broke_on, calm_anyway, done_counts, done_on, err_counts, flush_end_calm, flush_end_works, keep_end_works, memory_counts}
use Rattle.s80_session.proofs.Flushing.{knows_committed}
use Rattle.s80_session.proofs.Holding.{any_counts, any_room, staying_room, too_long_room}
use Rattle.s80_session.proofs.Knowing.{brief_answered, brief_staying, text_ends, work_on}
use Rattle.s80_session.proofs.lemmas.Elsewhere.{elsewhere_fewer, elsewhere_then, left_on, no_log}
use Rattle.s80_session.proofs.lemmas.Grounds.{flush_works, flushed_works, nothing_happens, work_still}
use Rattle.s80_session.proofs.Marking.{run_answered}
use Rattle.s80_session.proofs.Stepping.{flush_err, queried_err, worked_plain, worked_method, worked_query, worked_head, worked_so, worked_too_long}
use Rattle.s80_session.proofs.session.Session.answer_to.Goals as goal
use Rattle.s80_session.proofs.session.Session.answer_to.Goals.{After-work_query}

pub returns-in_err-head_answer-in-Chunk-Head-clause-any_moment : goal.returns-in_err-head_answer-in-Chunk-Head-clause-any_moment
returns-in_err-head_answer-in-Chunk-Head-clause-any_moment g c = λ work basis readable at.
    work_still g.O.Disk.moment g.O.Disk.left_since c.args.outside.now c.args.outside.now work basis c.args.item (nothing_happens g.O.Disk.moment g.O.Disk.left_since _ (g.O.Outside.shown c.args.outside.now) _ c.args.outside.now work basis (λ told image left. let x = g.met.O.Disk.only_now c.args.outside.now told image left in (x.0, x.1 ∙ told_beside g.met.O.Outside.beside_is g.met.O.Outside.shown_is c.args.outside.now)) at)

-- a query, behind a flush: what the paths share
module _ (g : _) (c : After-work_query g) (work : Work) (basis : Ground) (at : IsAmid (g.O.Disk.may_leave c.args.outside.now) (g.O.Outside.shown c.args.outside.now) c.args.self.now work basis) where
  query_run : LeavesOnly g.O.Disk.moment g.O.Disk.left_since c.args.outside.now c.work_query.new.outside (WorkLeaves work basis c.args.item)
  query_run =
      let P : SessionItem → Type 0 = λ i. LeavesOnly g.O.Disk.moment g.O.Disk.left_since c.args.outside.now c.work_query.new.outside (WorkLeaves work basis i) in
      subst P (sym c.in-Query.is) (flushed_works g.O.Disk.moment g.O.Disk.left_since c.args.outside.now c.flush.new.outside c.work_query.new.outside work basis (Query c.in-Query.query) (c.flush.ensures.any_moment work basis at) (c.work_query.ensures.any_moment work (basis.put ++ basis.held) (c.in_ok-flush-in-Query.ensures.flushed work basis at)))

pub returns-in_err-work_query-in-Query-clause-any_moment : goal.returns-in_err-work_query-in-Query-clause-any_moment
returns-in_err-work_query-in-Query-clause-any_moment g c = λ work basis readable at. query_run g (goal.at.returns-in_err-work_query-in-Query-clause-any_moment g c).After-work_query work basis at

pub returns-in_err-work_query-in-Query-clause-answers : goal.returns-in_err-work_query-in-Query-clause-answers
returns-in_err-work_query-in-Query-clause-answers g c = λ work basis readable at.
    let p = err_from_is_err_and c.from_residual-in_err-work_query-in-Query.result c.from_residual-in_err-work_query-in-Query.ensures.1 in
    let P : SessionItem → Type 0 = λ i. Unreplied c.in_err-work_query-in-Query.field-0.0 (g.O.Disk.may_leave c.work_query.new.outside) (g.O.Outside.shown c.work_query.new.outside) c.work_query.new.self work basis i in
    rw (p.1, p.2) (subst P (sym c.in-Query.is) (queried_err c.in_err-work_query-in-Query.field-0.0 (g.O.Disk.may_leave c.work_query.new.outside) (g.O.Outside.shown c.work_query.new.outside) c.work_query.new.self (was_of c.flush.new.self) work basis (Query c.in-Query.query) (c.in_err-work_query-in-Query.ensures.replied work (basis.put ++ basis.held) (c.in_ok-flush-in-Query.ensures.flushed work basis at))))

pub returns-in_err-flush-in-Query-clause-any_moment : goal.returns-in_err-flush-in-Query-clause-any_moment
returns-in_err-flush-in-Query-clause-any_moment g c = λ work basis readable at.
    flush_works g.O.Disk.moment g.O.Disk.left_since c.args.outside.now c.flush.new.outside work basis c.args.item (c.flush.ensures.any_moment work basis at)

pub returns-in_err-flush-in-Query-clause-answers : goal.returns-in_err-flush-in-Query-clause-answers
returns-in_err-flush-in-Query-clause-answers g c = λ work basis readable at.
    let p = err_from_is_err_and c.from_residual-in_err-flush-in-Query.result c.from_residual-in_err-flush-in-Query.ensures.1 in
    rw (p.1, p.2) (flush_err c.in_err-flush-in-Query.field-0.0 (g.O.Disk.may_leave c.flush.new.outside) (g.O.Outside.shown c.flush.new.outside) c.flush.new.self work basis c.args.item (c.in_err-flush-in-Query.ensures.flushed work basis at))

pub returns-in_ok-keep_text-in-Chunk-Plain-clause-answers : goal.returns-in_ok-keep_text-in-Chunk-Plain-clause-answers
returns-in_ok-keep_text-in-Chunk-Plain-clause-answers g c = λ work basis readable at.
    let is = c.in-Chunk-Plain.is ∙ ap Chunk c.in-Chunk-Plain.field-0-is in
    let sound = subst IsReadable is readable in
    let P : SessionItem → Type 0 = λ i. Answers (Ok c.staying.result) (g.O.Disk.may_leave c.keep_text.new.outside) (g.O.Outside.shown c.keep_text.new.outside) c.keep_text.new.self (was_of c.args.self.now) work basis i in
    subst P (sym is) (worked_plain (g.O.Disk.may_leave c.keep_text.new.outside) (g.O.Outside.shown c.keep_text.new.outside) _ (was_of c.args.self.now) work basis c.in-Chunk-Plain.text _ c.staying.result c.staying.ensures (c.in_ok-keep_text-in-Chunk-Plain.ensures.replied work basis sound.0 sound.1 at))

pub returns-in_ok-keep_text-in-Chunk-Plain-clause-any_moment : goal.returns-in_ok-keep_text-in-Chunk-Plain-clause-any_moment
returns-in_ok-keep_text-in-Chunk-Plain-clause-any_moment g c = λ work basis readable at.
    let is = c.in-Chunk-Plain.is ∙ ap Chunk c.in-Chunk-Plain.field-0-is in
    let sound = subst IsReadable is readable in
    let P : SessionItem → Type 0 = λ i. LeavesOnly g.O.Disk.moment g.O.Disk.left_since c.args.outside.now c.keep_text.new.outside (WorkLeaves work basis i) in
    subst P (sym is) (c.keep_text.ensures.any_moment work basis sound.0 sound.1 at)

pub returns-in_err-keep_text-in-Chunk-Plain-clause-answers : goal.returns-in_err-keep_text-in-Chunk-Plain-clause-answers
returns-in_err-keep_text-in-Chunk-Plain-clause-answers g c = λ work basis readable at.
    let is = c.in-Chunk-Plain.is ∙ ap Chunk c.in-Chunk-Plain.field-0-is in
    let sound = subst IsReadable is readable in
    let p = err_from_is_err_and c.from_residual.result c.from_residual.ensures.1 in
    let P : SessionItem → Type 0 = λ i. Answers (Err c.in_err-keep_text-in-Chunk-Plain.field-0.0) (g.O.Disk.may_leave c.keep_text.new.outside) (g.O.Outside.shown c.keep_text.new.outside) c.keep_text.new.self (was_of c.args.self.now) work basis i in
    rw (p.1, p.2) (subst P (sym is) (c.in_err-keep_text-in-Chunk-Plain.ensures.replied work basis sound.0 sound.1 at))

pub returns-in_ok-head_answer-in-Chunk-Head-clause-answers : goal.returns-in_ok-head_answer-in-Chunk-Head-clause-answers
returns-in_ok-head_answer-in-Chunk-Head-clause-answers g c = λ work basis readable at.
    let is = c.in-Chunk-Head.is ∙ ap Chunk c.in-Chunk-Head.field-0-is in
    let classes = ap (λ (s : SystemState). s.table.classes) c.system.ensures ∙ at.keeps.system.classes in
    let P : SessionItem → Type 0 = λ i. Answers (Ok c.in_ok-head_answer-in-Chunk-Head.field-0) (g.O.Disk.may_leave c.args.outside.now) (g.O.Outside.shown c.args.outside.now) c.args.self.now (was_of c.args.self.now) work basis i in
    subst P (sym is) (worked_head (g.O.Disk.may_leave c.args.outside.now) (g.O.Outside.shown c.args.outside.now) _ (was_of c.args.self.now) work basis c.in-Chunk-Head.text c.in_ok-head_answer-in-Chunk-Head.field-0 refl (c.in_ok-head_answer-in-Chunk-Head.ensures.answer work classes (subst IsReadable is readable).1) at)

pub returns-in_ok-head_answer-in-Chunk-Head-clause-any_moment : goal.returns-in_ok-head_answer-in-Chunk-Head-clause-any_moment
returns-in_ok-head_answer-in-Chunk-Head-clause-any_moment g c = λ work basis readable at.
    work_still g.O.Disk.moment g.O.Disk.left_since c.args.outside.now c.args.outside.now work basis c.args.item (nothing_happens g.O.Disk.moment g.O.Disk.left_since _ (g.O.Outside.shown c.args.outside.now) _ c.args.outside.now work basis (λ told image left. let x = g.met.O.Disk.only_now c.args.outside.now told image left in (x.0, x.1 ∙ told_beside g.met.O.Outside.beside_is g.met.O.Outside.shown_is c.args.outside.now)) at)

pub returns-in_ok-keep_method-in-Chunk-Method-clause-answers : goal.returns-in_ok-keep_method-in-Chunk-Method-clause-answers
returns-in_ok-keep_method-in-Chunk-Method-clause-answers g c = λ work basis readable at.
    let is = c.in-Chunk-Method.is ∙ ap Chunk c.in-Chunk-Method.field-0-is in
    let sound = subst IsReadable is readable in
    let P : SessionItem → Type 0 = λ i. Answers (Ok c.staying-in-Chunk-Method.result) (g.O.Disk.may_leave c.keep_method.new.outside) (g.O.Outside.shown c.keep_method.new.outside) c.keep_method.new.self (was_of c.args.self.now) work basis i in
    subst P (sym is) (worked_method (g.O.Disk.may_leave c.keep_method.new.outside) (g.O.Outside.shown c.keep_method.new.outside) _ (was_of c.args.self.now) work basis c.in-Chunk-Method.text _ c.staying-in-Chunk-Method.result c.staying-in-Chunk-Method.ensures (c.in_ok-keep_method-in-Chunk-Method.ensures.replied work basis sound.0 sound.1 at))

pub returns-in_ok-keep_method-in-Chunk-Method-clause-any_moment : goal.returns-in_ok-keep_method-in-Chunk-Method-clause-any_moment
returns-in_ok-keep_method-in-Chunk-Method-clause-any_moment g c = λ work basis readable at.
    let is = c.in-Chunk-Method.is ∙ ap Chunk c.in-Chunk-Method.field-0-is in
    let sound = subst IsReadable is readable in
    let P : SessionItem → Type 0 = λ i. LeavesOnly g.O.Disk.moment g.O.Disk.left_since c.args.outside.now c.keep_method.new.outside (WorkLeaves work basis i) in
    subst P (sym is) (work_still g.O.Disk.moment g.O.Disk.left_since c.args.outside.now c.keep_method.new.outside work basis (Chunk (items.Method c.in-Chunk-Method.text)) (c.keep_method.ensures.any_moment work basis sound.0 sound.1 at))

pub returns-in_err-keep_method-in-Chunk-Method-clause-any_moment : goal.returns-in_err-keep_method-in-Chunk-Method-clause-any_moment
returns-in_err-keep_method-in-Chunk-Method-clause-any_moment g c = λ work basis readable at.
    let is = c.in-Chunk-Method.is ∙ ap Chunk c.in-Chunk-Method.field-0-is in
    let sound = subst IsReadable is readable in
    let P : SessionItem → Type 0 = λ i. LeavesOnly g.O.Disk.moment g.O.Disk.left_since c.args.outside.now c.keep_method.new.outside (WorkLeaves work basis i) in
    subst P (sym is) (work_still g.O.Disk.moment g.O.Disk.left_since c.args.outside.now c.keep_method.new.outside work basis (Chunk (items.Method c.in-Chunk-Method.text)) (c.keep_method.ensures.any_moment work basis sound.0 sound.1 at))

pub returns-in-Chunk-SectionEnd-clause-answers : goal.returns-in-Chunk-SectionEnd-clause-answers
returns-in-Chunk-SectionEnd-clause-answers g c = λ work basis readable at.
    let is = c.in-Chunk-SectionEnd.is ∙ ap Chunk c.in-Chunk-SectionEnd.field-0-is in
    let P : SessionItem → Type 0 = λ i. Answers (Ok (record { reply = Silent; section = Some Top })) (g.O.Disk.may_leave c.args.outside.now) (g.O.Outside.shown c.args.outside.now) c.args.self.now (was_of c.args.self.now) work basis i in
    subst P (sym is) (worked_so (g.O.Disk.may_leave c.args.outside.now) (g.O.Outside.shown c.args.outside.now) _ (was_of c.args.self.now) work basis (Chunk items.SectionEnd) closes (record { reply = Silent; section = Some Top }) (refl, tt) (refl, refl) refl refl at)

pub returns-in-Chunk-SectionEnd-clause-any_moment : goal.returns-in-Chunk-SectionEnd-clause-any_moment
returns-in-Chunk-SectionEnd-clause-any_moment g c = λ work basis readable at.
    work_still g.O.Disk.moment g.O.Disk.left_since c.args.outside.now c.args.outside.now work basis c.args.item (nothing_happens g.O.Disk.moment g.O.Disk.left_since _ (g.O.Outside.shown c.args.outside.now) _ c.args.outside.now work basis (λ told image left. let x = g.met.O.Disk.only_now c.args.outside.now told image left in (x.0, x.1 ∙ told_beside g.met.O.Outside.beside_is g.met.O.Outside.shown_is c.args.outside.now)) at)

pub returns-in-Chunk-TooLong-clause-answers : goal.returns-in-Chunk-TooLong-clause-answers
returns-in-Chunk-TooLong-clause-answers g c = λ work basis readable at.
    let is = c.in-Chunk-TooLong.is ∙ ap Chunk c.in-Chunk-TooLong.field-0-is in
    let P : SessionItem → Type 0 = λ i. Answers (Ok c.too_long_answer.result) (g.O.Disk.may_leave c.args.outside.now) (g.O.Outside.shown c.args.outside.now) c.args.self.now (was_of c.args.self.now) work basis i in
    subst P (sym is) (worked_too_long (g.O.Disk.may_leave c.args.outside.now) (g.O.Outside.shown c.args.outside.now) _ (was_of c.args.self.now) work basis c.in-Chunk-TooLong.role c.in-Chunk-TooLong.length c.too_long_answer.result refl (c.too_long_answer.ensures work (sym at.section)) at)

pub returns-in-Chunk-TooLong-clause-any_moment : goal.returns-in-Chunk-TooLong-clause-any_moment
returns-in-Chunk-TooLong-clause-any_moment g c = λ work basis readable at.
    work_still g.O.Disk.moment g.O.Disk.left_since c.args.outside.now c.args.outside.now work basis c.args.item (nothing_happens g.O.Disk.moment g.O.Disk.left_since _ (g.O.Outside.shown c.args.outside.now) _ c.args.outside.now work basis (λ told image left. let x = g.met.O.Disk.only_now c.args.outside.now told image left in (x.0, x.1 ∙ told_beside g.met.O.Outside.beside_is g.met.O.Outside.shown_is c.args.outside.now)) at)

pub returns-in-Unended-clause-answers : goal.returns-in-Unended-clause-answers
returns-in-Unended-clause-answers g c = λ work basis readable at.
    let is = c.staying-in-Unended.ensures in
    let P : SessionItem → Type 0 = λ i. Answers (Ok c.staying-in-Unended.result) (g.O.Disk.may_leave c.args.outside.now) (g.O.Outside.shown c.args.outside.now) c.args.self.now (was_of c.args.self.now) work basis i in
    subst P (sym c.in-Unended.is) (worked_so (g.O.Disk.may_leave c.args.outside.now) (g.O.Outside.shown c.args.outside.now) _ (was_of c.args.self.now) work basis Unended (refuses refusals.Unended) c.staying-in-Unended.result (refl, tt) (ap (λ (a : Answer). a.reply) is, ap (λ (a : Answer). section_or a.section work.section) is) refl refl at)

pub returns-in-Unended-clause-any_moment : goal.returns-in-Unended-clause-any_moment
returns-in-Unended-clause-any_moment g c = λ work basis readable at.
    work_still g.O.Disk.moment g.O.Disk.left_since c.args.outside.now c.args.outside.now work basis c.args.item (nothing_happens g.O.Disk.moment g.O.Disk.left_since _ (g.O.Outside.shown c.args.outside.now) _ c.args.outside.now work basis (λ told image left. let x = g.met.O.Disk.only_now c.args.outside.now told image left in (x.0, x.1 ∙ told_beside g.met.O.Outside.beside_is g.met.O.Outside.shown_is c.args.outside.now)) at)

pub returns-in_ok-work_query-in-Query-clause-answers : goal.returns-in_ok-work_query-in-Query-clause-answers
returns-in_ok-work_query-in-Query-clause-answers g c = λ work basis readable at.
    let P : SessionItem → Type 0 = λ i. Answers (Ok c.staying-in-Query.result) (g.O.Disk.may_leave c.work_query.new.outside) (g.O.Outside.shown c.work_query.new.outside) c.work_query.new.self (was_of c.args.self.now) work basis i in
    let Q : Was → Type 0 = λ w. Answers (Ok c.staying-in-Query.result) (g.O.Disk.may_leave c.work_query.new.outside) (g.O.Outside.shown c.work_query.new.outside) c.work_query.new.self w work basis (Query c.in-Query.query) in
    let same : was_of c.flush.new.self ≡ was_of c.args.self.now = λ i. record { troubled = c.flush.ensures.rest.troubled i; last_run = c.flush.ensures.rest.last_run i } in
    subst P (sym c.in-Query.is) (subst Q same (worked_query (g.O.Disk.may_leave c.work_query.new.outside) (g.O.Outside.shown c.work_query.new.outside) _ (was_of c.flush.new.self) work basis c.in-Query.query _ c.staying-in-Query.result c.staying-in-Query.ensures (c.in_ok-work_query-in-Query.ensures.replied work (basis.put ++ basis.held) (c.in_ok-flush-in-Query.ensures.flushed work basis at))))

pub returns-in_ok-work_query-in-Query-clause-any_moment : goal.returns-in_ok-work_query-in-Query-clause-any_moment
returns-in_ok-work_query-in-Query-clause-any_moment g c = λ work basis readable at. query_run g (goal.at.returns-in_ok-work_query-in-Query-clause-any_moment g c).After-work_query work basis at

pub returns-in_ok-keep_text-in-Chunk-Plain-clause-last_run : goal.returns-in_ok-keep_text-in-Chunk-Plain-clause-last_run
returns-in_ok-keep_text-in-Chunk-Plain-clause-last_run g c =
    let P : SessionItem → Type 0 = λ i. RunAfterWork (Ok c.staying.result) i c.args.self.now c.keep_text.new.self in
    subst P (sym (c.in-Chunk-Plain.is ∙ ap Chunk c.in-Chunk-Plain.field-0-is)) (run_answered (Chunk (items.Plain c.in-Chunk-Plain.text)) c.args.self.now c.keep_text.new.self _ c.staying.result c.staying.ensures c.in_ok-keep_text-in-Chunk-Plain.ensures.last_run)

pub returns-in_err-keep_text-in-Chunk-Plain-clause-last_run : goal.returns-in_err-keep_text-in-Chunk-Plain-clause-last_run
returns-in_err-keep_text-in-Chunk-Plain-clause-last_run g c =
    let p = err_from_is_err_and c.from_residual.result c.from_residual.ensures.1 in
    rw p.1 c.in_err-keep_text-in-Chunk-Plain.ensures.last_run

pub returns-in_ok-head_answer-in-Chunk-Head-clause-last_run : goal.returns-in_ok-head_answer-in-Chunk-Head-clause-last_run
returns-in_ok-head_answer-in-Chunk-Head-clause-last_run g c = inl refl

pub returns-in_err-head_answer-in-Chunk-Head-clause-last_run : goal.returns-in_err-head_answer-in-Chunk-Head-clause-last_run
returns-in_err-head_answer-in-Chunk-Head-clause-last_run g c =
    let p = err_from_is_err_and c.from_residual-in_err-head_answer-in-Chunk-Head.result c.from_residual-in_err-head_answer-in-Chunk-Head.ensures.1 in
    rw p.1 refl

pub returns-in_ok-keep_method-in-Chunk-Method-clause-last_run : goal.returns-in_ok-keep_method-in-Chunk-Method-clause-last_run
returns-in_ok-keep_method-in-Chunk-Method-clause-last_run g c = inl c.keep_method.ensures.last_run

pub returns-in_err-keep_method-in-Chunk-Method-clause-last_run : goal.returns-in_err-keep_method-in-Chunk-Method-clause-last_run
returns-in_err-keep_method-in-Chunk-Method-clause-last_run g c =
    let p = err_from_is_err_and c.from_residual-in_err-keep_method-in-Chunk-Method.result c.from_residual-in_err-keep_method-in-Chunk-Method.ensures.1 in
    rw p.1 c.keep_method.ensures.last_run

pub returns-in-Chunk-SectionEnd-clause-last_run : goal.returns-in-Chunk-SectionEnd-clause-last_run
returns-in-Chunk-SectionEnd-clause-last_run g c = inl refl

pub returns-in-Chunk-TooLong-clause-last_run : goal.returns-in-Chunk-TooLong-clause-last_run
returns-in-Chunk-TooLong-clause-last_run g c = inl refl

pub returns-in-Unended-clause-last_run : goal.returns-in-Unended-clause-last_run
returns-in-Unended-clause-last_run g c = inl refl

pub returns-in_ok-work_query-in-Query-clause-last_run : goal.returns-in_ok-work_query-in-Query-clause-last_run
returns-in_ok-work_query-in-Query-clause-last_run g c = inl (c.work_query.ensures.last_run ∙ c.flush.ensures.rest.last_run)

pub returns-in_err-work_query-in-Query-clause-last_run : goal.returns-in_err-work_query-in-Query-clause-last_run
returns-in_err-work_query-in-Query-clause-last_run g c =
    let p = err_from_is_err_and c.from_residual-in_err-work_query-in-Query.result c.from_residual-in_err-work_query-in-Query.ensures.1 in
    rw p.1 (c.work_query.ensures.last_run ∙ c.flush.ensures.rest.last_run)

-- ---- room for the reply

pub returns-in_ok-keep_text-in-Chunk-Plain-clause-room : goal.returns-in_ok-keep_text-in-Chunk-Plain-clause-room
returns-in_ok-keep_text-in-Chunk-Plain-clause-room g c = λ enough. staying_room c.args.item _ c.staying.result _ c.staying.ensures (c.in_ok-keep_text-in-Chunk-Plain.ensures.room enough)

pub returns-in_ok-head_answer-in-Chunk-Head-clause-room : goal.returns-in_ok-head_answer-in-Chunk-Head-clause-room
returns-in_ok-head_answer-in-Chunk-Head-clause-room g c = λ enough.
    let P : SessionItem → Type 0 = λ i. HasRoomFor i c.in_ok-head_answer-in-Chunk-Head.field-0.reply (room_of c.args.self.now) in
    subst P (sym (c.in-Chunk-Head.is ∙ ap Chunk c.in-Chunk-Head.field-0-is)) tt

pub returns-in_ok-keep_method-in-Chunk-Method-clause-room : goal.returns-in_ok-keep_method-in-Chunk-Method-clause-room
returns-in_ok-keep_method-in-Chunk-Method-clause-room g c = λ enough. staying_room c.args.item _ c.staying-in-Chunk-Method.result _ c.staying-in-Chunk-Method.ensures (c.in_ok-keep_method-in-Chunk-Method.ensures.room enough)

pub returns-in-Chunk-SectionEnd-clause-room : goal.returns-in-Chunk-SectionEnd-clause-room
returns-in-Chunk-SectionEnd-clause-room g c = λ enough. any_room c.args.item Silent _ tt

pub returns-in-Chunk-TooLong-clause-room : goal.returns-in-Chunk-TooLong-clause-room
returns-in-Chunk-TooLong-clause-room g c = λ enough. any_room c.args.item _ _ (too_long_room _ c.in-Chunk-TooLong.role c.in-Chunk-TooLong.length c.too_long_answer.result _ c.too_long_answer.ensures)

pub returns-in-Unended-clause-room : goal.returns-in-Unended-clause-room
returns-in-Unended-clause-room g c = λ enough. staying_room c.args.item (Refused refusals.Unended) c.staying-in-Unended.result _ c.staying-in-Unended.ensures tt

pub returns-in_ok-work_query-in-Query-clause-room : goal.returns-in_ok-work_query-in-Query-clause-room
returns-in_ok-work_query-in-Query-clause-room g c = λ enough.
    let flushed = c.flush.ensures.room in
    staying_room c.args.item _ c.staying-in-Query.result _ c.staying-in-Query.ensures (c.in_ok-work_query-in-Query.ensures.room (omega (arith, enough, flushed)))

-- ---- a query, behind a flush: what else it leaves

-- the paths behind the flush
module _ (g : _) (c : After-work_query g) where
  -- the log stays
  same_log : (keeper_of c.flush.new.self).log.number ≡ (keeper_of c.args.self.now).log.number
  same_log = ap (λ (l : LogEnd). l.number) c.flush.ensures.log

  -- what the item doesn't write, the query doesn't
  unwritten : (other : FileId) → IsUnwritten c.args.item (keeper_of c.args.self.now).log.number other → IsUnwritten (Query c.in-Query.query) (keeper_of c.flush.new.self).log.number other
  unwritten other is =
      let P : SessionItem → Type 0 = λ i. IsUnwritten i (keeper_of c.flush.new.self).log.number other in
      let Q : ℕ → Type 0 = λ n. IsUnwritten c.args.item n other in
      subst P c.in-Query.is (subst Q (sym same_log) is)

  query_others : (other : FileId) → IsUnwritten c.args.item (keeper_of c.args.self.now).log.number other → (g.O.Outside.shown c.work_query.new.outside).files other ≡ (g.O.Outside.shown c.args.outside.now).files other
  query_others other is = c.work_query.ensures.others other (unwritten other is) ∙ c.flush.ensures.others other is.other.no_mark

  query_elsewhere : LeavesOnly g.O.Disk.moment g.O.Disk.left_since c.args.outside.now c.work_query.new.outside (IsElsewhere (g.O.Disk.may_leave c.args.outside.now) (IsUnwritten c.args.item (keeper_of c.args.self.now).log.number))
  query_elsewhere =
      let D = g.O.Disk in
      let o = c.args.outside.now in
      let mid = c.flush.new.outside in
      let new = c.work_query.new.outside in
      let number = (keeper_of c.args.self.now).log.number in
      let Stays : FileId → Type 0 = IsUnwritten c.args.item number in
      let first = elsewhere_fewer D.moment D.left_since o mid (D.may_leave o) (IsOther number) Stays (λ other is. is.other) c.flush.ensures.elsewhere in
      let second = elsewhere_fewer D.moment D.left_since mid new (D.may_leave mid) (IsUnwritten (Query c.in-Query.query) (keeper_of c.flush.new.self).log.number) Stays unwritten c.work_query.ensures.elsewhere in
      elsewhere_then D.moment D.left_since o mid new (D.may_leave o) (D.may_leave mid) (D.beside mid).told Stays (g.met.O.Disk.counts_now mid) first second

  query_log : LogAfter c.args.item (keeper_of c.args.self.now).log.number (keeper_of c.work_query.new.self).log.number
  query_log =
      let now = (keeper_of c.work_query.new.self).log.number in
      let P : SessionItem → Type 0 = λ i. LogAfter i (keeper_of c.flush.new.self).log.number now in
      let Q : ℕ → Type 0 = λ n. LogAfter c.args.item n now in
      subst Q same_log (subst P (sym c.in-Query.is) c.work_query.ensures.log)

  question : IsAsking c.args.item → IsQuestion c.in-Query.query
  question asking = subst IsAsking c.in-Query.is asking

  query_asked : IsAsking c.args.item → IsResting c.args.self.now → (file : FileId) → (g.O.Outside.shown c.work_query.new.outside).files file ≡ (g.O.Outside.shown c.args.outside.now).files file
  query_asked asking resting file = c.work_query.ensures.asked (question asking) file ∙ c.flush.ensures.unpending resting.settled file

  query_images : IsAsking c.args.item → IsResting c.args.self.now → (image : FileId → List ℕ) → g.O.Disk.may_leave c.work_query.new.outside image → g.O.Disk.may_leave c.args.outside.now image
  query_images asking resting image left = c.flush.ensures.images resting.settled image (c.work_query.ensures.images (question asking) image left)

  query_no_more : IsAsking c.args.item → IsResting c.args.self.now → LeavesOnly g.O.Disk.moment g.O.Disk.left_since c.args.outside.now c.work_query.new.outside (IsAsLeft (g.O.Disk.may_leave c.args.outside.now))
  query_no_more asking resting =
      let D = g.O.Disk in
      left_on D.moment D.left_since c.args.outside.now c.flush.new.outside c.work_query.new.outside (D.may_leave c.args.outside.now) (D.may_leave c.flush.new.outside) (c.flush.ensures.images resting.settled) (c.flush.ensures.no_more resting.settled) (c.work_query.ensures.no_more (question asking))

  query_unput : IsResting c.args.self.now → (g.O.Outside.shown c.work_query.new.outside).taken ≡ (g.O.Outside.shown c.args.outside.now).taken
  query_unput resting = c.work_query.ensures.taken ∙ ap (λ o. (g.O.Outside.shown o).taken) (c.flush.ensures.idle resting).0

  query_held : (held_of c.work_query.new.self ≡ held_of c.args.self.now) ⊎ (held_of c.work_query.new.self ≡ [])
  query_held = ⊎_elim (λ same. inl (c.work_query.ensures.held ∙ same)) (λ none. inr (c.work_query.ensures.held ∙ none)) c.flush.ensures.held

pub returns-in_ok-work_query-in-Query-clause-others : goal.returns-in_ok-work_query-in-Query-clause-others
returns-in_ok-work_query-in-Query-clause-others g c = query_others g (goal.at.returns-in_ok-work_query-in-Query-clause-others g c).After-work_query

pub returns-in_ok-work_query-in-Query-clause-elsewhere : goal.returns-in_ok-work_query-in-Query-clause-elsewhere
returns-in_ok-work_query-in-Query-clause-elsewhere g c = query_elsewhere g (goal.at.returns-in_ok-work_query-in-Query-clause-elsewhere g c).After-work_query

pub returns-in_ok-work_query-in-Query-clause-asked : goal.returns-in_ok-work_query-in-Query-clause-asked
returns-in_ok-work_query-in-Query-clause-asked g c = query_asked g (goal.at.returns-in_ok-work_query-in-Query-clause-asked g c).After-work_query

pub returns-in_ok-work_query-in-Query-clause-images : goal.returns-in_ok-work_query-in-Query-clause-images
returns-in_ok-work_query-in-Query-clause-images g c = query_images g (goal.at.returns-in_ok-work_query-in-Query-clause-images g c).After-work_query

pub returns-in_ok-work_query-in-Query-clause-no_more : goal.returns-in_ok-work_query-in-Query-clause-no_more
returns-in_ok-work_query-in-Query-clause-no_more g c = query_no_more g (goal.at.returns-in_ok-work_query-in-Query-clause-no_more g c).After-work_query

pub returns-in_ok-work_query-in-Query-clause-unput : goal.returns-in_ok-work_query-in-Query-clause-unput
returns-in_ok-work_query-in-Query-clause-unput g c = query_unput g (goal.at.returns-in_ok-work_query-in-Query-clause-unput g c).After-work_query

pub returns-in_ok-work_query-in-Query-clause-held : goal.returns-in_ok-work_query-in-Query-clause-held
returns-in_ok-work_query-in-Query-clause-held g c = query_held g (goal.at.returns-in_ok-work_query-in-Query-clause-held g c).After-work_query

pub returns-in_ok-work_query-in-Query-clause-log : goal.returns-in_ok-work_query-in-Query-clause-log
returns-in_ok-work_query-in-Query-clause-log g c = query_log g (goal.at.returns-in_ok-work_query-in-Query-clause-log g c).After-work_query

pub returns-in_err-work_query-in-Query-clause-others : goal.returns-in_err-work_query-in-Query-clause-others
returns-in_err-work_query-in-Query-clause-others g c = query_others g (goal.at.returns-in_err-work_query-in-Query-clause-others g c).After-work_query

pub returns-in_err-work_query-in-Query-clause-elsewhere : goal.returns-in_err-work_query-in-Query-clause-elsewhere
returns-in_err-work_query-in-Query-clause-elsewhere g c = query_elsewhere g (goal.at.returns-in_err-work_query-in-Query-clause-elsewhere g c).After-work_query

pub returns-in_err-work_query-in-Query-clause-asked : goal.returns-in_err-work_query-in-Query-clause-asked
returns-in_err-work_query-in-Query-clause-asked g c = query_asked g (goal.at.returns-in_err-work_query-in-Query-clause-asked g c).After-work_query

pub returns-in_err-work_query-in-Query-clause-images : goal.returns-in_err-work_query-in-Query-clause-images
returns-in_err-work_query-in-Query-clause-images g c = query_images g (goal.at.returns-in_err-work_query-in-Query-clause-images g c).After-work_query

pub returns-in_err-work_query-in-Query-clause-no_more : goal.returns-in_err-work_query-in-Query-clause-no_more
returns-in_err-work_query-in-Query-clause-no_more g c = query_no_more g (goal.at.returns-in_err-work_query-in-Query-clause-no_more g c).After-work_query

pub returns-in_err-work_query-in-Query-clause-unput : goal.returns-in_err-work_query-in-Query-clause-unput
returns-in_err-work_query-in-Query-clause-unput g c = query_unput g (goal.at.returns-in_err-work_query-in-Query-clause-unput g c).After-work_query

pub returns-in_err-work_query-in-Query-clause-held : goal.returns-in_err-work_query-in-Query-clause-held
returns-in_err-work_query-in-Query-clause-held g c = query_held g (goal.at.returns-in_err-work_query-in-Query-clause-held g c).After-work_query

pub returns-in_err-work_query-in-Query-clause-log : goal.returns-in_err-work_query-in-Query-clause-log
returns-in_err-work_query-in-Query-clause-log g c = query_log g (goal.at.returns-in_err-work_query-in-Query-clause-log g c).After-work_query

pub returns-in_ok-work_query-in-Query-clause-settled : goal.returns-in_ok-work_query-in-Query-clause-settled
returns-in_ok-work_query-in-Query-clause-settled g c = λ asking resting. c.work_query.ensures.settled (question g (goal.at.returns-in_ok-work_query-in-Query-clause-settled g c).After-work_query asking)

pub returns-in_err-work_query-in-Query-clause-settled : goal.returns-in_err-work_query-in-Query-clause-settled
returns-in_err-work_query-in-Query-clause-settled g c = λ asking resting.
    let p = err_from_is_err_and c.from_residual-in_err-work_query-in-Query.result c.from_residual-in_err-work_query-in-Query.ensures.1 in
    rw (p.1, p.2) (calm_anyway Answer _ c.in_err-work_query-in-Query.field-0.0 (c.work_query.ensures.settled (question g (goal.at.returns-in_err-work_query-in-Query-clause-settled g c).After-work_query asking)))

pub returns-in_err-flush-in-Query-clause-settled : goal.returns-in_err-flush-in-Query-clause-settled
returns-in_err-flush-in-Query-clause-settled g c = λ asking resting.
    let p = err_from_is_err_and c.from_residual-in_err-flush-in-Query.result c.from_residual-in_err-flush-in-Query.ensures.1 in
    rw (p.1, p.2) (flush_end_calm Answer _ c.in_err-flush-in-Query.field-0.0 c.in_err-flush-in-Query.ensures.ends)

pub returns-in_err-work_query-in-Query-clause-sound : goal.returns-in_err-work_query-in-Query-clause-sound
returns-in_err-work_query-in-Query-clause-sound g c = λ tells changes knows built.
    let p = err_from_is_err_and c.from_residual-in_err-work_query-in-Query.result c.from_residual-in_err-work_query-in-Query.ensures.1 in
    let known = knows_committed (g.O.Outside.shown c.args.outside.now).files (g.O.Outside.shown c.flush.new.outside).files (keeper_of c.args.self.now) (keeper_of c.flush.new.self) changes c.in_ok-flush-in-Query.ensures.one_mark c.flush.ensures.others knows in
    let P : SessionItem → Type 0 = λ i. Asks i condenses → IsBuilt changes in
    rw (p.1, p.2) (c.in_err-work_query-in-Query.ensures.sound (subst IsTrue (sym (ap (λ (o : Shown). o.tells) c.flush.ensures.shown)) tells) changes known (subst P c.in-Query.is built))

pub returns-in_err-keep_text-in-Chunk-Plain-clause-sound : goal.returns-in_err-keep_text-in-Chunk-Plain-clause-sound
returns-in_err-keep_text-in-Chunk-Plain-clause-sound g c = λ tells changes knows built.
    let p = err_from_is_err_and c.from_residual.result c.from_residual.ensures.1 in
    let P : SessionItem → Type 0 = λ i. Asks i condenses → IsBuilt changes in
    rw (p.1, p.2) (c.in_err-keep_text-in-Chunk-Plain.ensures.sound tells changes knows (subst P (c.in-Chunk-Plain.is ∙ ap Chunk c.in-Chunk-Plain.field-0-is) built))

-- the counts of faults
pub returns-in_ok-work_query-in-Query-clause-counts : goal.returns-in_ok-work_query-in-Query-clause-counts
returns-in_ok-work_query-in-Query-clause-counts g c =
    subst (λ i. CountsFor {T = Answer} i (g.O.Outside.faults c.args.outside.now) (g.O.Outside.faults c.work_query.new.outside) (Ok c.staying-in-Query.result)) (sym c.in-Query.is) (done_on {T = Reply} {U = Answer} (Query c.in-Query.query) (g.O.Outside.faults c.args.outside.now) (g.O.Outside.faults c.flush.new.outside) (g.O.Outside.faults c.work_query.new.outside) _ c.staying-in-Query.result c.in_ok-flush-in-Query.ensures.counts.reason c.in_ok-work_query-in-Query.ensures.counts)

pub returns-in_err-work_query-in-Query-clause-counts : goal.returns-in_err-work_query-in-Query-clause-counts
returns-in_err-work_query-in-Query-clause-counts g c =
    let p = err_from_is_err_and c.from_residual-in_err-work_query-in-Query.result c.from_residual-in_err-work_query-in-Query.ensures.1 in
    rw (p.1, p.2) (subst (λ i. CountsFor {T = Answer} i (g.O.Outside.faults c.args.outside.now) (g.O.Outside.faults c.work_query.new.outside) (Err c.in_err-work_query-in-Query.field-0.0)) (sym c.in-Query.is) (broke_on Reply Answer (Query c.in-Query.query) (g.O.Outside.faults c.args.outside.now) (g.O.Outside.faults c.flush.new.outside) (g.O.Outside.faults c.work_query.new.outside) c.in_err-work_query-in-Query.field-0.0 c.in_ok-flush-in-Query.ensures.counts.reason c.in_err-work_query-in-Query.ensures.counts))

pub returns-in_err-flush-in-Query-clause-counts : goal.returns-in_err-flush-in-Query-clause-counts
returns-in_err-flush-in-Query-clause-counts g c =
    let p = err_from_is_err_and c.from_residual-in_err-flush-in-Query.result c.from_residual-in_err-flush-in-Query.ensures.1 in
    rw (p.1, p.2) (any_counts {U = Answer} c.args.item (g.O.Outside.faults c.args.outside.now) (g.O.Outside.faults c.flush.new.outside) (Err c.in_err-flush-in-Query.field-0.0) (err_counts (Unit {0}) Answer (g.O.Outside.faults c.args.outside.now) (g.O.Outside.faults c.flush.new.outside) c.in_err-flush-in-Query.field-0.0 c.in_err-flush-in-Query.ensures.counts))

pub returns-in_err-flush-in-Query-clause-faultless : goal.returns-in_err-flush-in-Query-clause-faultless
returns-in_err-flush-in-Query-clause-faultless g c =
    let p = err_from_is_err_and c.from_residual-in_err-flush-in-Query.result c.from_residual-in_err-flush-in-Query.ensures.1 in
    rw (p.1, p.2) (flush_end_calm Answer _ c.in_err-flush-in-Query.field-0.0 c.in_err-flush-in-Query.ensures.ends)

pub returns-in_err-flush-in-Query-clause-ends : goal.returns-in_err-flush-in-Query-clause-ends
returns-in_err-flush-in-Query-clause-ends g c =
    let p = err_from_is_err_and c.from_residual-in_err-flush-in-Query.result c.from_residual-in_err-flush-in-Query.ensures.1 in
    rw (p.1, p.2) (flush_end_works c.in_err-flush-in-Query.field-0.0 c.in_err-flush-in-Query.ensures.ends)

pub returns-in_err-flush-in-Query-clause-unput : goal.returns-in_err-flush-in-Query-clause-unput
returns-in_err-flush-in-Query-clause-unput g c = λ resting. ap (λ o. (g.O.Outside.shown o).taken) (c.flush.ensures.idle resting).0

pub returns-in_err-work_query-in-Query-clause-ends : goal.returns-in_err-work_query-in-Query-clause-ends
returns-in_err-work_query-in-Query-clause-ends g c =
    let p = err_from_is_err_and c.from_residual-in_err-work_query-in-Query.result c.from_residual-in_err-work_query-in-Query.ensures.1 in
    rw (p.1, p.2) (keep_end_works {T = Unit {0}} (Err c.in_err-work_query-in-Query.field-0.0) c.in_err-work_query-in-Query.ensures.ends)

pub returns-in_err-keep_method-in-Chunk-Method-clause-ends : goal.returns-in_err-keep_method-in-Chunk-Method-clause-ends
returns-in_err-keep_method-in-Chunk-Method-clause-ends g c =
    let p = err_from_is_err_and c.from_residual-in_err-keep_method-in-Chunk-Method.result c.from_residual-in_err-keep_method-in-Chunk-Method.ensures.1 in
    rw (p.1, p.2) (keep_end_works {T = Unit {0}} (Err c.in_err-keep_method-in-Chunk-Method.field-0.0) c.in_err-keep_method-in-Chunk-Method.ensures.ends)

pub returns-in_ok-keep_method-in-Chunk-Method-clause-unmarked : goal.returns-in_ok-keep_method-in-Chunk-Method-clause-unmarked
returns-in_ok-keep_method-in-Chunk-Method-clause-unmarked g c = λ readable grouped. c.keep_method.ensures.others Mark (no_log (keeper_of c.args.self.now).log.number)

pub returns-in_err-keep_method-in-Chunk-Method-clause-unmarked : goal.returns-in_err-keep_method-in-Chunk-Method-clause-unmarked
returns-in_err-keep_method-in-Chunk-Method-clause-unmarked g c = λ readable grouped. c.keep_method.ensures.others Mark (no_log (keeper_of c.args.self.now).log.number)

-- ---- an item whose change is no more than pending

pub returns-in_err-head_answer-in-Chunk-Head-clause-grouped : goal.returns-in_err-head_answer-in-Chunk-Head-clause-grouped
returns-in_err-head_answer-in-Chunk-Head-clause-grouped g c = λ work basis readable grouped at.
    nothing_happens g.O.Disk.moment g.O.Disk.left_since _ (g.O.Outside.shown c.args.outside.now) _ c.args.outside.now work basis (λ told image left. let x = g.met.O.Disk.only_now c.args.outside.now told image left in (x.0, x.1 ∙ told_beside g.met.O.Outside.beside_is g.met.O.Outside.shown_is c.args.outside.now)) at

pub returns-in_ok-head_answer-in-Chunk-Head-clause-grouped : goal.returns-in_ok-head_answer-in-Chunk-Head-clause-grouped
returns-in_ok-head_answer-in-Chunk-Head-clause-grouped g c = λ work basis readable grouped at.
    nothing_happens g.O.Disk.moment g.O.Disk.left_since _ (g.O.Outside.shown c.args.outside.now) _ c.args.outside.now work basis (λ told image left. let x = g.met.O.Disk.only_now c.args.outside.now told image left in (x.0, x.1 ∙ told_beside g.met.O.Outside.beside_is g.met.O.Outside.shown_is c.args.outside.now)) at

pub returns-in-Chunk-SectionEnd-clause-grouped : goal.returns-in-Chunk-SectionEnd-clause-grouped
returns-in-Chunk-SectionEnd-clause-grouped g c = λ work basis readable grouped at.
    nothing_happens g.O.Disk.moment g.O.Disk.left_since _ (g.O.Outside.shown c.args.outside.now) _ c.args.outside.now work basis (λ told image left. let x = g.met.O.Disk.only_now c.args.outside.now told image left in (x.0, x.1 ∙ told_beside g.met.O.Outside.beside_is g.met.O.Outside.shown_is c.args.outside.now)) at

pub returns-in-Chunk-TooLong-clause-grouped : goal.returns-in-Chunk-TooLong-clause-grouped
returns-in-Chunk-TooLong-clause-grouped g c = λ work basis readable grouped at.
    nothing_happens g.O.Disk.moment g.O.Disk.left_since _ (g.O.Outside.shown c.args.outside.now) _ c.args.outside.now work basis (λ told image left. let x = g.met.O.Disk.only_now c.args.outside.now told image left in (x.0, x.1 ∙ told_beside g.met.O.Outside.beside_is g.met.O.Outside.shown_is c.args.outside.now)) at

pub returns-in-Unended-clause-grouped : goal.returns-in-Unended-clause-grouped
returns-in-Unended-clause-grouped g c = λ work basis readable grouped at.
    nothing_happens g.O.Disk.moment g.O.Disk.left_since _ (g.O.Outside.shown c.args.outside.now) _ c.args.outside.now work basis (λ told image left. let x = g.met.O.Disk.only_now c.args.outside.now told image left in (x.0, x.1 ∙ told_beside g.met.O.Outside.beside_is g.met.O.Outside.shown_is c.args.outside.now)) at

pub returns-in_ok-keep_text-in-Chunk-Plain-clause-grouped : goal.returns-in_ok-keep_text-in-Chunk-Plain-clause-grouped
returns-in_ok-keep_text-in-Chunk-Plain-clause-grouped g c = λ work basis readable grouped at.
    let is = c.in-Chunk-Plain.is ∙ ap Chunk c.in-Chunk-Plain.field-0-is in
    let sound = subst IsReadable is readable in
    c.keep_text.ensures.grouped work basis sound.0 sound.1 (subst IsGrouped is grouped) at

pub returns-in_ok-keep_text-in-Chunk-Plain-clause-unmarked : goal.returns-in_ok-keep_text-in-Chunk-Plain-clause-unmarked
returns-in_ok-keep_text-in-Chunk-Plain-clause-unmarked g c = λ readable grouped.
    let is = c.in-Chunk-Plain.is ∙ ap Chunk c.in-Chunk-Plain.field-0-is in
    let sound = subst IsReadable is readable in
    c.keep_text.ensures.unmarked sound.0 sound.1 (subst IsGrouped is grouped)

pub returns-in_ok-keep_text-in-Chunk-Plain-clause-silent : goal.returns-in_ok-keep_text-in-Chunk-Plain-clause-silent
returns-in_ok-keep_text-in-Chunk-Plain-clause-silent g c = λ readable grouped.
    let is = c.in-Chunk-Plain.is ∙ ap Chunk c.in-Chunk-Plain.field-0-is in
    let sound = subst IsReadable is readable in
    c.keep_text.ensures.silent sound.0 sound.1 (subst IsGrouped is grouped)

pub returns-in_err-keep_text-in-Chunk-Plain-clause-grouped : goal.returns-in_err-keep_text-in-Chunk-Plain-clause-grouped
returns-in_err-keep_text-in-Chunk-Plain-clause-grouped g c = λ work basis readable grouped at.
    let is = c.in-Chunk-Plain.is ∙ ap Chunk c.in-Chunk-Plain.field-0-is in
    let sound = subst IsReadable is readable in
    c.keep_text.ensures.grouped work basis sound.0 sound.1 (subst IsGrouped is grouped) at

pub returns-in_err-keep_text-in-Chunk-Plain-clause-unmarked : goal.returns-in_err-keep_text-in-Chunk-Plain-clause-unmarked
returns-in_err-keep_text-in-Chunk-Plain-clause-unmarked g c = λ readable grouped.
    let is = c.in-Chunk-Plain.is ∙ ap Chunk c.in-Chunk-Plain.field-0-is in
    let sound = subst IsReadable is readable in
    c.keep_text.ensures.unmarked sound.0 sound.1 (subst IsGrouped is grouped)

pub returns-in_err-keep_text-in-Chunk-Plain-clause-silent : goal.returns-in_err-keep_text-in-Chunk-Plain-clause-silent
returns-in_err-keep_text-in-Chunk-Plain-clause-silent g c = λ readable grouped.
    let is = c.in-Chunk-Plain.is ∙ ap Chunk c.in-Chunk-Plain.field-0-is in
    let sound = subst IsReadable is readable in
    c.keep_text.ensures.silent sound.0 sound.1 (subst IsGrouped is grouped)

pub returns-in_ok-keep_method-in-Chunk-Method-clause-grouped : goal.returns-in_ok-keep_method-in-Chunk-Method-clause-grouped
returns-in_ok-keep_method-in-Chunk-Method-clause-grouped g c = λ work basis readable grouped at.
    let is = c.in-Chunk-Method.is ∙ ap Chunk c.in-Chunk-Method.field-0-is in
    let sound = subst IsReadable is readable in
    c.keep_method.ensures.any_moment work basis sound.0 sound.1 at

pub returns-in_err-keep_method-in-Chunk-Method-clause-grouped : goal.returns-in_err-keep_method-in-Chunk-Method-clause-grouped
returns-in_err-keep_method-in-Chunk-Method-clause-grouped g c = λ work basis readable grouped at.
    let is = c.in-Chunk-Method.is ∙ ap Chunk c.in-Chunk-Method.field-0-is in
    let sound = subst IsReadable is readable in
    c.keep_method.ensures.any_moment work basis sound.0 sound.1 at

pub returns-in_ok-work_query-in-Query-clause-grouped : goal.returns-in_ok-work_query-in-Query-clause-grouped
returns-in_ok-work_query-in-Query-clause-grouped g c = λ work basis readable grouped at. absurd (subst IsGrouped c.in-Query.is grouped)

pub returns-in_ok-work_query-in-Query-clause-unmarked : goal.returns-in_ok-work_query-in-Query-clause-unmarked
returns-in_ok-work_query-in-Query-clause-unmarked g c = λ readable grouped. absurd (subst IsGrouped c.in-Query.is grouped)

pub returns-in_ok-work_query-in-Query-clause-silent : goal.returns-in_ok-work_query-in-Query-clause-silent
returns-in_ok-work_query-in-Query-clause-silent g c = λ readable grouped. absurd (subst IsGrouped c.in-Query.is grouped)

pub returns-in_err-work_query-in-Query-clause-grouped : goal.returns-in_err-work_query-in-Query-clause-grouped
returns-in_err-work_query-in-Query-clause-grouped g c = λ work basis readable grouped at. absurd (subst IsGrouped c.in-Query.is grouped)

pub returns-in_err-work_query-in-Query-clause-unmarked : goal.returns-in_err-work_query-in-Query-clause-unmarked
returns-in_err-work_query-in-Query-clause-unmarked g c = λ readable grouped. absurd (subst IsGrouped c.in-Query.is grouped)

pub returns-in_err-work_query-in-Query-clause-silent : goal.returns-in_err-work_query-in-Query-clause-silent
returns-in_err-work_query-in-Query-clause-silent g c = λ readable grouped. absurd (subst IsGrouped c.in-Query.is grouped)

pub returns-in_err-flush-in-Query-clause-grouped : goal.returns-in_err-flush-in-Query-clause-grouped
returns-in_err-flush-in-Query-clause-grouped g c = λ work basis readable grouped at. absurd (subst IsGrouped c.in-Query.is grouped)

pub returns-in_err-flush-in-Query-clause-unmarked : goal.returns-in_err-flush-in-Query-clause-unmarked
returns-in_err-flush-in-Query-clause-unmarked g c = λ readable grouped. absurd (subst IsGrouped c.in-Query.is grouped)

pub returns-in_err-flush-in-Query-clause-silent : goal.returns-in_err-flush-in-Query-clause-silent
returns-in_err-flush-in-Query-clause-silent g c = λ readable grouped. absurd (subst IsGrouped c.in-Query.is grouped)

-- ---- what a chunk leaves of the files, and of the log

pub returns-in_ok-keep_text-in-Chunk-Plain-clause-elsewhere : goal.returns-in_ok-keep_text-in-Chunk-Plain-clause-elsewhere
returns-in_ok-keep_text-in-Chunk-Plain-clause-elsewhere g c =
    let D = g.O.Disk in
    let o = c.args.outside.now in
    let P : SessionItem → Type 0 = λ i. LeavesOnly D.moment D.left_since o c.keep_text.new.outside (IsElsewhere (D.may_leave o) (IsUnwritten i (keeper_of c.args.self.now).log.number)) in
    subst P (sym (c.in-Chunk-Plain.is ∙ ap Chunk c.in-Chunk-Plain.field-0-is)) c.keep_text.ensures.elsewhere

pub returns-in_ok-keep_text-in-Chunk-Plain-clause-others : goal.returns-in_ok-keep_text-in-Chunk-Plain-clause-others
returns-in_ok-keep_text-in-Chunk-Plain-clause-others g c = λ other unwritten.
    let P : SessionItem → Type 0 = λ i. IsUnwritten i (keeper_of c.args.self.now).log.number other in
    c.keep_text.ensures.others other (subst P (c.in-Chunk-Plain.is ∙ ap Chunk c.in-Chunk-Plain.field-0-is) unwritten)

pub returns-in_ok-keep_text-in-Chunk-Plain-clause-log : goal.returns-in_ok-keep_text-in-Chunk-Plain-clause-log
returns-in_ok-keep_text-in-Chunk-Plain-clause-log g c =
    let P : SessionItem → Type 0 = λ i. LogAfter i (keeper_of c.args.self.now).log.number (keeper_of c.keep_text.new.self).log.number in
    subst P (sym (c.in-Chunk-Plain.is ∙ ap Chunk c.in-Chunk-Plain.field-0-is)) c.keep_text.ensures.log

pub returns-in_ok-keep_method-in-Chunk-Method-clause-elsewhere : goal.returns-in_ok-keep_method-in-Chunk-Method-clause-elsewhere
returns-in_ok-keep_method-in-Chunk-Method-clause-elsewhere g c =
    let o = c.args.outside.now in
    let number = (keeper_of c.args.self.now).log.number in
    elsewhere_fewer g.O.Disk.moment g.O.Disk.left_since o c.keep_method.new.outside (g.O.Disk.may_leave o) (IsOther number) (IsUnwritten c.args.item number) (λ other is. is.other) c.keep_method.ensures.elsewhere

pub returns-in_ok-keep_method-in-Chunk-Method-clause-others : goal.returns-in_ok-keep_method-in-Chunk-Method-clause-others
returns-in_ok-keep_method-in-Chunk-Method-clause-others g c = λ other is. c.keep_method.ensures.others other is.other.no_log

pub returns-in_ok-keep_method-in-Chunk-Method-clause-log : goal.returns-in_ok-keep_method-in-Chunk-Method-clause-log
returns-in_ok-keep_method-in-Chunk-Method-clause-log g c = inl c.keep_method.ensures.log

pub returns-in_err-keep_text-in-Chunk-Plain-clause-elsewhere : goal.returns-in_err-keep_text-in-Chunk-Plain-clause-elsewhere
returns-in_err-keep_text-in-Chunk-Plain-clause-elsewhere g c =
    let D = g.O.Disk in
    let o = c.args.outside.now in
    let P : SessionItem → Type 0 = λ i. LeavesOnly D.moment D.left_since o c.keep_text.new.outside (IsElsewhere (D.may_leave o) (IsUnwritten i (keeper_of c.args.self.now).log.number)) in
    subst P (sym (c.in-Chunk-Plain.is ∙ ap Chunk c.in-Chunk-Plain.field-0-is)) c.keep_text.ensures.elsewhere

pub returns-in_err-keep_text-in-Chunk-Plain-clause-others : goal.returns-in_err-keep_text-in-Chunk-Plain-clause-others
returns-in_err-keep_text-in-Chunk-Plain-clause-others g c = λ other unwritten.
    let P : SessionItem → Type 0 = λ i. IsUnwritten i (keeper_of c.args.self.now).log.number other in
    c.keep_text.ensures.others other (subst P (c.in-Chunk-Plain.is ∙ ap Chunk c.in-Chunk-Plain.field-0-is) unwritten)

pub returns-in_err-keep_text-in-Chunk-Plain-clause-log : goal.returns-in_err-keep_text-in-Chunk-Plain-clause-log
returns-in_err-keep_text-in-Chunk-Plain-clause-log g c =
    let P : SessionItem → Type 0 = λ i. LogAfter i (keeper_of c.args.self.now).log.number (keeper_of c.keep_text.new.self).log.number in
    subst P (sym (c.in-Chunk-Plain.is ∙ ap Chunk c.in-Chunk-Plain.field-0-is)) c.keep_text.ensures.log

pub returns-in_err-keep_method-in-Chunk-Method-clause-elsewhere : goal.returns-in_err-keep_method-in-Chunk-Method-clause-elsewhere
returns-in_err-keep_method-in-Chunk-Method-clause-elsewhere g c =
    let o = c.args.outside.now in
    let number = (keeper_of c.args.self.now).log.number in
    elsewhere_fewer g.O.Disk.moment g.O.Disk.left_since o c.keep_method.new.outside (g.O.Disk.may_leave o) (IsOther number) (IsUnwritten c.args.item number) (λ other is. is.other) c.keep_method.ensures.elsewhere

pub returns-in_err-keep_method-in-Chunk-Method-clause-others : goal.returns-in_err-keep_method-in-Chunk-Method-clause-others
returns-in_err-keep_method-in-Chunk-Method-clause-others g c = λ other is. c.keep_method.ensures.others other is.other.no_log

pub returns-in_err-keep_method-in-Chunk-Method-clause-log : goal.returns-in_err-keep_method-in-Chunk-Method-clause-log
returns-in_err-keep_method-in-Chunk-Method-clause-log g c = inl c.keep_method.ensures.log

-- a flush before a query broke off
pub returns-in_err-flush-in-Query-clause-elsewhere : goal.returns-in_err-flush-in-Query-clause-elsewhere
returns-in_err-flush-in-Query-clause-elsewhere g c =
    let o = c.args.outside.now in
    let number = (keeper_of c.args.self.now).log.number in
    elsewhere_fewer g.O.Disk.moment g.O.Disk.left_since o c.flush.new.outside (g.O.Disk.may_leave o) (IsOther number) (IsUnwritten c.args.item number) (λ other is. is.other) c.flush.ensures.elsewhere

pub returns-in_err-flush-in-Query-clause-others : goal.returns-in_err-flush-in-Query-clause-others
returns-in_err-flush-in-Query-clause-others g c = λ other is. c.flush.ensures.others other is.other.no_mark

pub returns-in_err-flush-in-Query-clause-log : goal.returns-in_err-flush-in-Query-clause-log
returns-in_err-flush-in-Query-clause-log g c = inl (ap (λ (l : LogEnd). l.number) c.flush.ensures.log)

-- ---- what is known stays known

pub returns-in_ok-keep_text-in-Chunk-Plain-clause-known : goal.returns-in_ok-keep_text-in-Chunk-Plain-clause-known
returns-in_ok-keep_text-in-Chunk-Plain-clause-known g c = λ readable fed knows.
    let sound = subst IsReadable (c.in-Chunk-Plain.is ∙ ap Chunk c.in-Chunk-Plain.field-0-is) readable in
    c.in_ok-keep_text-in-Chunk-Plain.ensures.known sound.0 sound.1 knows

pub returns-in_err-keep_text-in-Chunk-Plain-clause-known : goal.returns-in_err-keep_text-in-Chunk-Plain-clause-known
returns-in_err-keep_text-in-Chunk-Plain-clause-known g c = λ readable fed knows.
    let sound = subst IsReadable (c.in-Chunk-Plain.is ∙ ap Chunk c.in-Chunk-Plain.field-0-is) readable in
    let p = err_from_is_err_and c.from_residual.result c.from_residual.ensures.1 in
    rw (p.1, p.2) (text_ends c.in_err-keep_text-in-Chunk-Plain.field-0.0 (g.O.Outside.shown c.keep_text.new.outside) c.keep_text.new.self (c.in_err-keep_text-in-Chunk-Plain.ensures.known sound.0 sound.1 knows))

pub returns-in_ok-head_answer-in-Chunk-Head-clause-known : goal.returns-in_ok-head_answer-in-Chunk-Head-clause-known
returns-in_ok-head_answer-in-Chunk-Head-clause-known g c = λ readable fed knows. knows

pub returns-in_ok-keep_method-in-Chunk-Method-clause-known : goal.returns-in_ok-keep_method-in-Chunk-Method-clause-known
returns-in_ok-keep_method-in-Chunk-Method-clause-known g c = λ readable fed knows.
    let sound = subst IsReadable (c.in-Chunk-Method.is ∙ ap Chunk c.in-Chunk-Method.field-0-is) readable in
    c.in_ok-keep_method-in-Chunk-Method.ensures.known sound.0 sound.1 knows

pub returns-in_err-keep_method-in-Chunk-Method-clause-known : goal.returns-in_err-keep_method-in-Chunk-Method-clause-known
returns-in_err-keep_method-in-Chunk-Method-clause-known g c = λ readable fed knows.
    let sound = subst IsReadable (c.in-Chunk-Method.is ∙ ap Chunk c.in-Chunk-Method.field-0-is) readable in
    let p = err_from_is_err_and c.from_residual-in_err-keep_method-in-Chunk-Method.result c.from_residual-in_err-keep_method-in-Chunk-Method.ensures.1 in
    rw (p.1, p.2) (text_ends c.in_err-keep_method-in-Chunk-Method.field-0.0 (g.O.Outside.shown c.keep_method.new.outside) c.keep_method.new.self (c.in_err-keep_method-in-Chunk-Method.ensures.known sound.0 sound.1 knows))

pub returns-in-Chunk-SectionEnd-clause-known : goal.returns-in-Chunk-SectionEnd-clause-known
returns-in-Chunk-SectionEnd-clause-known g c = λ readable fed knows. knows

pub returns-in-Chunk-TooLong-clause-known : goal.returns-in-Chunk-TooLong-clause-known
returns-in-Chunk-TooLong-clause-known g c = λ readable fed knows. knows

pub returns-in-Unended-clause-known : goal.returns-in-Unended-clause-known
returns-in-Unended-clause-known g c = λ readable fed knows. knows

-- a query is none of an input
pub returns-in_ok-work_query-in-Query-clause-known : goal.returns-in_ok-work_query-in-Query-clause-known
returns-in_ok-work_query-in-Query-clause-known g c = λ readable fed knows. absurd (subst IsFed c.in-Query.is fed)

pub returns-in_err-work_query-in-Query-clause-known : goal.returns-in_err-work_query-in-Query-clause-known
returns-in_err-work_query-in-Query-clause-known g c = λ readable fed knows. absurd (subst IsFed c.in-Query.is fed)

pub returns-in_err-flush-in-Query-clause-known : goal.returns-in_err-flush-in-Query-clause-known
returns-in_err-flush-in-Query-clause-known g c = λ readable fed knows. absurd (subst IsFed c.in-Query.is fed)

-- ---- what keeps a change breaks off

pub returns-in_err-keep_text-in-Chunk-Plain-clause-any_moment : goal.returns-in_err-keep_text-in-Chunk-Plain-clause-any_moment
returns-in_err-keep_text-in-Chunk-Plain-clause-any_moment g c = λ work basis readable at.
    let is = c.in-Chunk-Plain.is ∙ ap Chunk c.in-Chunk-Plain.field-0-is in
    let sound = subst IsReadable is readable in
    let P : SessionItem → Type 0 = λ i. LeavesOnly g.O.Disk.moment g.O.Disk.left_since c.args.outside.now c.keep_text.new.outside (WorkLeaves work basis i) in
    subst P (sym is) (c.keep_text.ensures.any_moment work basis sound.0 sound.1 at)

pub returns-in_err-keep_method-in-Chunk-Method-clause-answers : goal.returns-in_err-keep_method-in-Chunk-Method-clause-answers
returns-in_err-keep_method-in-Chunk-Method-clause-answers g c = λ work basis readable at.
    let is = c.in-Chunk-Method.is ∙ ap Chunk c.in-Chunk-Method.field-0-is in
    let sound = subst IsReadable is readable in
    let p = err_from_is_err_and c.from_residual-in_err-keep_method-in-Chunk-Method.result c.from_residual-in_err-keep_method-in-Chunk-Method.ensures.1 in
    let P : SessionItem → Type 0 = λ i. Answers (Err c.in_err-keep_method-in-Chunk-Method.field-0.0) (g.O.Disk.may_leave c.keep_method.new.outside) (g.O.Outside.shown c.keep_method.new.outside) c.keep_method.new.self (was_of c.args.self.now) work basis i in
    rw (p.1, p.2) (subst P (sym is) (c.in_err-keep_method-in-Chunk-Method.ensures.replied work basis sound.0 sound.1 at))

-- ---- the section that is answered is brief

pub returns-in_ok-keep_text-in-Chunk-Plain-clause-brief : goal.returns-in_ok-keep_text-in-Chunk-Plain-clause-brief
returns-in_ok-keep_text-in-Chunk-Plain-clause-brief g c = λ readable fed knows told.
    let sound = subst IsReadable (c.in-Chunk-Plain.is ∙ ap Chunk c.in-Chunk-Plain.field-0-is) readable in
    brief_staying c.keep_text.new.self _ c.staying.result c.staying.ensures (c.in_ok-keep_text-in-Chunk-Plain.ensures.known sound.0 sound.1 knows told).0

pub returns-in_ok-head_answer-in-Chunk-Head-clause-brief : goal.returns-in_ok-head_answer-in-Chunk-Head-clause-brief
returns-in_ok-head_answer-in-Chunk-Head-clause-brief g c = λ readable fed knows told.
    let was = knows told in
    let sound = subst IsReadable (c.in-Chunk-Head.is ∙ ap Chunk c.in-Chunk-Head.field-0-is) readable in
    let classes = ap (λ (s : SystemState). s.table.classes) c.system.ensures ∙ was.2.made.system.classes in
    let work : Work = work_on was.1 (section_of c.args.self.now) in
    let answers = c.in_ok-head_answer-in-Chunk-Head.ensures.answer work classes sound.1 in
    brief_answered work (Chunk (items.Head c.in-Chunk-Head.text)) answers.0 c.in_ok-head_answer-in-Chunk-Head.field-0 answers.1 answers.2 was.0

pub returns-in_ok-keep_method-in-Chunk-Method-clause-brief : goal.returns-in_ok-keep_method-in-Chunk-Method-clause-brief
returns-in_ok-keep_method-in-Chunk-Method-clause-brief g c = λ readable fed knows told.
    let sound = subst IsReadable (c.in-Chunk-Method.is ∙ ap Chunk c.in-Chunk-Method.field-0-is) readable in
    brief_staying c.keep_method.new.self _ c.staying-in-Chunk-Method.result c.staying-in-Chunk-Method.ensures (c.in_ok-keep_method-in-Chunk-Method.ensures.known sound.0 sound.1 knows told).0

pub returns-in-Chunk-SectionEnd-clause-brief : goal.returns-in-Chunk-SectionEnd-clause-brief
returns-in-Chunk-SectionEnd-clause-brief g c = λ readable fed knows told. tt

pub returns-in-Chunk-TooLong-clause-brief : goal.returns-in-Chunk-TooLong-clause-brief
returns-in-Chunk-TooLong-clause-brief g c = λ readable fed knows told.
    let was = knows told in
    let work : Work = work_on was.1 (section_of c.args.self.now) in
    let role = c.in-Chunk-TooLong.role in
    brief_answered work (Chunk (items.TooLong role c.in-Chunk-TooLong.length)) (ask_of_too_long role c.in-Chunk-TooLong.length) c.too_long_answer.result refl (c.too_long_answer.ensures work refl) was.0

pub returns-in-Unended-clause-brief : goal.returns-in-Unended-clause-brief
returns-in-Unended-clause-brief g c = λ readable fed knows told. brief_staying c.args.self.now _ c.staying-in-Unended.result c.staying-in-Unended.ensures (knows told).0

pub returns-in_ok-work_query-in-Query-clause-brief : goal.returns-in_ok-work_query-in-Query-clause-brief
returns-in_ok-work_query-in-Query-clause-brief g c = λ readable fed knows told. absurd (subst IsFed c.in-Query.is fed)

-- ---- the counts of a chunk's faults

pub returns-in_ok-keep_text-in-Chunk-Plain-clause-counts : goal.returns-in_ok-keep_text-in-Chunk-Plain-clause-counts
returns-in_ok-keep_text-in-Chunk-Plain-clause-counts g c =
    let a = g.O.Outside.faults c.args.outside.now in
    let b = g.O.Outside.faults c.keep_text.new.outside in
    let P : SessionItem → Type 0 = λ i. CountsFor {T = Answer} i a b (Ok c.staying.result) in
    subst P (sym (c.in-Chunk-Plain.is ∙ ap Chunk c.in-Chunk-Plain.field-0-is)) (done_on {T = Reply} {U = Answer} (Chunk (items.Plain c.in-Chunk-Plain.text)) a a b _ c.staying.result refl c.in_ok-keep_text-in-Chunk-Plain.ensures.counts)

pub returns-in_err-keep_text-in-Chunk-Plain-clause-counts : goal.returns-in_err-keep_text-in-Chunk-Plain-clause-counts
returns-in_err-keep_text-in-Chunk-Plain-clause-counts g c =
    let a = g.O.Outside.faults c.args.outside.now in
    let b = g.O.Outside.faults c.keep_text.new.outside in
    let end = c.in_err-keep_text-in-Chunk-Plain.field-0.0 in
    let P : SessionItem → Type 0 = λ i. CountsFor {T = Answer} i a b (Err end) in
    let p = err_from_is_err_and c.from_residual.result c.from_residual.ensures.1 in
    rw (p.1, p.2) (subst P (sym (c.in-Chunk-Plain.is ∙ ap Chunk c.in-Chunk-Plain.field-0-is)) (broke_on Reply Answer (Chunk (items.Plain c.in-Chunk-Plain.text)) a a b end refl c.in_err-keep_text-in-Chunk-Plain.ensures.counts))

pub returns-in_ok-head_answer-in-Chunk-Head-clause-counts : goal.returns-in_ok-head_answer-in-Chunk-Head-clause-counts
returns-in_ok-head_answer-in-Chunk-Head-clause-counts g c = let a = g.O.Outside.faults c.args.outside.now in any_counts c.args.item a a _ (done_counts a a c.in_ok-head_answer-in-Chunk-Head.field-0 refl)

pub returns-in_err-head_answer-in-Chunk-Head-clause-counts : goal.returns-in_err-head_answer-in-Chunk-Head-clause-counts
returns-in_err-head_answer-in-Chunk-Head-clause-counts g c =
    let a = g.O.Outside.faults c.args.outside.now in
    let p = err_from_is_err_and c.from_residual-in_err-head_answer-in-Chunk-Head.result c.from_residual-in_err-head_answer-in-Chunk-Head.ensures.1 in
    rw (p.1, p.2) (any_counts {U = Answer} c.args.item a a (Err ends.Memory) (memory_counts Answer a a refl))

pub returns-in_ok-keep_method-in-Chunk-Method-clause-counts : goal.returns-in_ok-keep_method-in-Chunk-Method-clause-counts
returns-in_ok-keep_method-in-Chunk-Method-clause-counts g c =
    let a = g.O.Outside.faults c.args.outside.now in
    let b = g.O.Outside.faults c.keep_method.new.outside in
    any_counts c.args.item a b _ (done_counts a b c.staying-in-Chunk-Method.result c.in_ok-keep_method-in-Chunk-Method.ensures.counts.reason)

pub returns-in_err-keep_method-in-Chunk-Method-clause-counts : goal.returns-in_err-keep_method-in-Chunk-Method-clause-counts
returns-in_err-keep_method-in-Chunk-Method-clause-counts g c =
    let a = g.O.Outside.faults c.args.outside.now in
    let b = g.O.Outside.faults c.keep_method.new.outside in
    let end = c.in_err-keep_method-in-Chunk-Method.field-0.0 in
    let p = err_from_is_err_and c.from_residual-in_err-keep_method-in-Chunk-Method.result c.from_residual-in_err-keep_method-in-Chunk-Method.ensures.1 in
    rw (p.1, p.2) (any_counts {U = Answer} c.args.item a b (Err end) (err_counts Reply Answer a b end c.in_err-keep_method-in-Chunk-Method.ensures.counts))

pub returns-in-Chunk-SectionEnd-clause-counts : goal.returns-in-Chunk-SectionEnd-clause-counts
returns-in-Chunk-SectionEnd-clause-counts g c = let a = g.O.Outside.faults c.args.outside.now in any_counts c.args.item a a _ (done_counts a a _ refl)

pub returns-in-Chunk-TooLong-clause-counts : goal.returns-in-Chunk-TooLong-clause-counts
returns-in-Chunk-TooLong-clause-counts g c = let a = g.O.Outside.faults c.args.outside.now in any_counts c.args.item a a _ (done_counts a a c.too_long_answer.result refl)

pub returns-in-Unended-clause-counts : goal.returns-in-Unended-clause-counts
returns-in-Unended-clause-counts g c = let a = g.O.Outside.faults c.args.outside.now in any_counts c.args.item a a _ (done_counts a a c.staying-in-Unended.result refl)
