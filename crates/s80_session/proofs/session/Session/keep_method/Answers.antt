use Rattle.std.proofs.Common.{◌≤◌, length, ap, refl, sym, subst, ◌∙◌}
use Rattle.std.proofs.lemmas.Result.{err_from_is_err_and}
use Rattle.s80_change.specs.declared.change.Change.{Change}
use Rattle.s80_change.specs.declared.change.Change.TheVariants as changes
use Rattle.s80_chunk.specs.declared.item.Item.TheVariants as items
use Rattle.s80_chunk.specs.declared.item.Role.TheVariants as roles
use Rattle.s80_chunk.specs.Chunks.{IsChunkText, longest}
use Rattle.s80_disk.specs.Moments.{LeavesOnly}
use Rattle.s80_disk.proofs.lemmas.Showing.{told_beside}
use Rattle.s80_model.specs.declared.item.SessionItem.TheVariants.{Chunk}
use Rattle.s80_model.specs.Replies.{Work}
use Rattle.s80_model.specs.Section.{IsBriefSection}
use Rattle.s80_session.specs.Known.{IsLawfulAnywhere}
use Rattle.s80_session.specs.Session.{last_run_of, room_of, section_of, was_of}
use Rattle.s80_session.specs.Run.{HasKept}
use Rattle.s80_session.specs.Working.{Ground, IsAmid, IsLawfulFor}
use Rattle.s80_session.proofs.lemmas.Grounds.{nothing_happens}
use Rattle.s80_session.proofs.Holding.{keeping_room, too_long_room}
use Rattle.s80_session.proofs.Knowing.{keeping_ends}
use Rattle.s80_session.proofs.Lawful.{source_lawful}
use Rattle.s80_session.proofs.Stepping.{replied_source, passed_top, passed_refused, unreplied}
use Rattle.s80_session.proofs.session.Session.keep_method.Goals as goal
use Rattle.s80_session.proofs.session.Session.keep_method.Goals.{After-keep}

pub returns-in_err-source-clause-any_moment : goal.returns-in_err-source-clause-any_moment
returns-in_err-source-clause-any_moment g c = λ work basis text short at.
    nothing_happens g.O.Disk.moment g.O.Disk.left_since _ (g.O.Outside.shown c.args.outside.now) _ c.args.outside.now work basis (λ told image left. let x = g.met.O.Disk.only_now c.args.outside.now told image left in (x.0, x.1 ∙ told_beside g.met.O.Outside.beside_is g.met.O.Outside.shown_is c.args.outside.now)) at

pub returns-in_err-method-in-Open-clause-any_moment : goal.returns-in_err-method-in-Open-clause-any_moment
returns-in_err-method-in-Open-clause-any_moment g c = λ work basis text short at.
    nothing_happens g.O.Disk.moment g.O.Disk.left_since _ (g.O.Outside.shown c.args.outside.now) _ c.args.outside.now work basis (λ told image left. let x = g.met.O.Disk.only_now c.args.outside.now told image left in (x.0, x.1 ∙ told_beside g.met.O.Outside.beside_is g.met.O.Outside.shown_is c.args.outside.now)) at

-- what the paths behind the keeping share
module _ (g : _) (c : After-keep g) (work : Work) (basis : Ground) (text : IsChunkText c.args.source) (short : length c.args.source ≤ longest) (at : IsAmid (g.O.Disk.may_leave c.args.outside.now) (g.O.Outside.shown c.args.outside.now) c.args.self.now work basis) where
  lawful : IsLawfulFor work.changes (changes.Method c.in_ok-method-in-Open.method)
  lawful =
      let P : Change → Type 0 = λ x. IsLawfulFor work.changes x in
      subst P (sym c.in_ok-method-in-Open.ensures) (source_lawful work.changes c.in-Open.head c.in_ok-source.source c.args.source (c.classes_are_named.ensures work.changes) (subst IsBriefSection (sym at.section ∙ c.in-Open.is) at.brief) (c.in_ok-source.ensures.text, c.in_ok-source.ensures.check) text short)

  run : LeavesOnly g.O.Disk.moment g.O.Disk.left_since c.args.outside.now c.keep.new.outside (HasKept basis.kept (length basis.put))
  run = c.keep.ensures.any_moment work basis lawful at

pub returns-in_err-refusal-in-Open-clause-replied : goal.returns-in_err-refusal-in-Open-clause-replied
returns-in_err-refusal-in-Open-clause-replied g c = λ work basis text short at.
    let after = (goal.at.returns-in_err-refusal-in-Open-clause-replied g c).After-keep in
    let p = err_from_is_err_and c.from_residual-in_err-refusal-in-Open.result c.from_residual-in_err-refusal-in-Open.ensures.1 in
    rw (p.1, p.2) (unreplied c.in_err-refusal-in-Open.field-0.0 (g.O.Disk.may_leave c.keep.new.outside) (g.O.Outside.shown c.keep.new.outside) c.keep.new.self work basis (Chunk (items.Method c.args.source)) (c.in_err-refusal-in-Open.ensures.kept work basis (lawful g after work basis text short at) at))

pub returns-in_err-refusal-in-Open-clause-any_moment : goal.returns-in_err-refusal-in-Open-clause-any_moment
returns-in_err-refusal-in-Open-clause-any_moment g c = run g (goal.at.returns-in_err-refusal-in-Open-clause-any_moment g c).After-keep

pub returns-in_ok-refusal-in-Open-clause-replied : goal.returns-in_ok-refusal-in-Open-clause-replied
returns-in_ok-refusal-in-Open-clause-replied g c = λ work basis text short at.
    let after = (goal.at.returns-in_ok-refusal-in-Open-clause-replied g c).After-keep in
    replied_source (g.O.Disk.may_leave c.keep.new.outside) (g.O.Outside.shown c.keep.new.outside) c.keep.new.self (was_of c.args.self.now) work basis c.args.source c.in_ok-source.source c.in-Open.head (changes.Method c.in_ok-method-in-Open.method) c.in_ok-refusal-in-Open.refusal c.reply_to_keeping.result (ap last_run_of c.keep.ensures.rest) c.in_ok-method-in-Open.ensures (sym at.section ∙ c.in-Open.is) (c.in_ok-source.ensures.text, c.in_ok-source.ensures.check) c.reply_to_keeping.ensures (c.in_ok-refusal-in-Open.ensures.kept work basis (lawful g after work basis text short at) at)

pub returns-in_ok-refusal-in-Open-clause-any_moment : goal.returns-in_ok-refusal-in-Open-clause-any_moment
returns-in_ok-refusal-in-Open-clause-any_moment g c = run g (goal.at.returns-in_ok-refusal-in-Open-clause-any_moment g c).After-keep

pub returns-in-Top-clause-replied : goal.returns-in-Top-clause-replied
returns-in-Top-clause-replied g c = λ work basis text short at.
    passed_top (g.O.Disk.may_leave c.args.outside.now) (g.O.Outside.shown c.args.outside.now) _ (was_of c.args.self.now) work basis c.args.source c.in_ok-source.source refl (sym at.section ∙ c.in-Top.is) (c.in_ok-source.ensures.text, c.in_ok-source.ensures.check) at

pub returns-in-Top-clause-any_moment : goal.returns-in-Top-clause-any_moment
returns-in-Top-clause-any_moment g c = λ work basis text short at.
    nothing_happens g.O.Disk.moment g.O.Disk.left_since _ (g.O.Outside.shown c.args.outside.now) _ c.args.outside.now work basis (λ told image left. let x = g.met.O.Disk.only_now c.args.outside.now told image left in (x.0, x.1 ∙ told_beside g.met.O.Outside.beside_is g.met.O.Outside.shown_is c.args.outside.now)) at

pub returns-in-Refused-clause-replied : goal.returns-in-Refused-clause-replied
returns-in-Refused-clause-replied g c = λ work basis text short at.
    passed_refused (g.O.Disk.may_leave c.args.outside.now) (g.O.Outside.shown c.args.outside.now) _ (was_of c.args.self.now) work basis c.args.source c.in_ok-source.source refl (sym at.section ∙ c.in-Refused.is) (c.in_ok-source.ensures.text, c.in_ok-source.ensures.check) at

pub returns-in-Refused-clause-any_moment : goal.returns-in-Refused-clause-any_moment
returns-in-Refused-clause-any_moment g c = λ work basis text short at.
    nothing_happens g.O.Disk.moment g.O.Disk.left_since _ (g.O.Outside.shown c.args.outside.now) _ c.args.outside.now work basis (λ told image left. let x = g.met.O.Disk.only_now c.args.outside.now told image left in (x.0, x.1 ∙ told_beside g.met.O.Outside.beside_is g.met.O.Outside.shown_is c.args.outside.now)) at

pub returns-in_ok-refusal-in-Open-clause-room : goal.returns-in_ok-refusal-in-Open-clause-room
returns-in_ok-refusal-in-Open-clause-room g c = λ enough.
    keeping_room c.in_ok-refusal-in-Open.refusal c.reply_to_keeping.result (room_of c.keep.new.self) c.reply_to_keeping.ensures (subst (λ n. 3 ≤ n) (sym (ap room_of c.keep.ensures.rest)) enough)

pub returns-then-length-gt-LONGEST-clause-room : goal.returns-then-length-gt-LONGEST-clause-room
returns-then-length-gt-LONGEST-clause-room g c = λ enough. too_long_room _ roles.Method (length c.bytes-length.result.now) c.too_long_answer.result _ c.too_long_answer.ensures

-- ---- what is known stays known

-- whichever list accepts it, the method is lawful where the head of its section is brief
module _ (g : _) (c : After-keep g) (text : IsChunkText c.args.source) (short : length c.args.source ≤ longest) where
  anywhere : IsBriefSection (section_of c.args.self.now) → IsLawfulAnywhere (changes.Method c.in_ok-method-in-Open.method)
  anywhere brief all each =
      let P : Change → Type 0 = λ x. IsLawfulFor all x in
      subst P (sym c.in_ok-method-in-Open.ensures) (source_lawful all c.in-Open.head c.in_ok-source.source c.args.source (c.classes_are_named.ensures all) (subst IsBriefSection c.in-Open.is brief) (c.in_ok-source.ensures.text, c.in_ok-source.ensures.check) text short)

pub returns-in_err-refusal-in-Open-clause-known : goal.returns-in_err-refusal-in-Open-clause-known
returns-in_err-refusal-in-Open-clause-known g c = λ text short knows.
    let after = (goal.at.returns-in_err-refusal-in-Open-clause-known g c).After-keep in
    let p = err_from_is_err_and c.from_residual-in_err-refusal-in-Open.result c.from_residual-in_err-refusal-in-Open.ensures.1 in
    rw (p.1, p.2) (keeping_ends c.in_err-refusal-in-Open.field-0.0 (g.O.Outside.shown c.keep.new.outside) c.keep.new.self (c.in_err-refusal-in-Open.ensures.known (λ told. anywhere g after text short (knows told).0) knows))

pub returns-in_ok-refusal-in-Open-clause-known : goal.returns-in_ok-refusal-in-Open-clause-known
returns-in_ok-refusal-in-Open-clause-known g c = λ text short knows.
    let after = (goal.at.returns-in_ok-refusal-in-Open-clause-known g c).After-keep in
    c.in_ok-refusal-in-Open.ensures.known (λ told. anywhere g after text short (knows told).0) knows
