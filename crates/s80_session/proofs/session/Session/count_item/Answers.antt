use Rattle.std.proofs.Common.{◌≡◌, ⊎_elim, [], refl, sym, ap, subst, ◌∙◌, Ok, Err}
use Rattle.std.proofs.lemmas.Result.{err_from_is_err_and}
use Rattle.s80_keeper.specs.Keeper.{KeeperState}
use Rattle.s80_model.specs.declared.item.SessionItem.TheVariants.{Chunk}
use Rattle.s80_model.specs.declared.reply.Answer.{Answer}
use Rattle.s80_model.specs.Section.{IsBriefSection}
use Rattle.s80_session.specs.Session.{held_of}
use Rattle.s80_session.proofs.Answering.{readable}
use Rattle.s80_session.proofs.Breaking.{err_sources_on, memory_only}
use Rattle.s80_session.proofs.Holding.{chunk_counts, done_both, memory_both}
use Rattle.s80_session.proofs.Knowing.{answer_ends, knows_entered}
use Rattle.s80_session.proofs.Making.{answered_run, entered_noted, IsEntered, item_broke, item_lasts, item_made, item_stalls, noted_count, noted_trouble, run_same}
use Rattle.s80_session.proofs.session.Session.count_item.Goals as goal
use Rattle.s80_session.proofs.session.Session.count_item.Goals.{After-answer_to, After-note}

module _ (g : _) (c : After-answer_to g) where
  unheld_then : held_of c.answer_to.new.self ≡ []
  unheld_then = ⊎_elim (λ same. same ∙ c.requires.unheld) (λ none. none) c.answer_to.ensures.held

-- it breaks off

pub returns-in_err-reply-clause-made : goal.returns-in_err-reply-clause-made
returns-in_err-reply-clause-made g c = λ was work put count done is m.
    let p = err_from_is_err_and c.from_residual.result c.from_residual.ensures.1 in
    rw (p.1, p.2) (item_broke (g.O.Disk.may_leave c.args.outside.now) (g.O.Outside.shown c.args.outside.now) c.args.self.now was work put count done c.args.tally.now c.args.item c.requires.sound is m _ (g.O.Disk.may_leave c.answer_to.new.outside) (g.O.Outside.shown c.answer_to.new.outside) c.answer_to.new.self c.in_err-reply.ensures.answers)

pub returns-in_err-reply-clause-any_moment : goal.returns-in_err-reply-clause-any_moment
returns-in_err-reply-clause-any_moment g c = λ was work put count done is m.
    item_lasts (g.O.Disk.may_leave c.args.outside.now) (g.O.Outside.shown c.args.outside.now) c.args.self.now was work put count done c.args.tally.now c.args.item c.requires.sound is m g.O.Disk.moment g.O.Disk.left_since c.args.outside.now c.answer_to.new.outside c.answer_to.ensures.any_moment

pub returns-in_err-reply-clause-held : goal.returns-in_err-reply-clause-held
returns-in_err-reply-clause-held g c = unheld_then g (goal.at.returns-in_err-reply-clause-held g c).After-answer_to

pub returns-in_err-reply-clause-last_run : goal.returns-in_err-reply-clause-last_run
returns-in_err-reply-clause-last_run g c = run_same c.args.self.now c.answer_to.new.self c.answer_to.ensures.budget c.in_err-reply.ensures.last_run

pub returns-in_err-reply-clause-known : goal.returns-in_err-reply-clause-known
returns-in_err-reply-clause-known g c = λ knows.
    let p = err_from_is_err_and c.from_residual.result c.from_residual.ensures.1 in
    rw (p.1, p.2) (answer_ends c.in_err-reply.field-0.0 (g.O.Outside.shown c.answer_to.new.outside) c.answer_to.new.self (c.in_err-reply.ensures.known (readable c.args.item c.requires.sound) tt knows))

pub returns-in_err-reply-clause-counts : goal.returns-in_err-reply-clause-counts
returns-in_err-reply-clause-counts g c =
    let a = g.O.Outside.faults c.args.outside.now in
    let b = g.O.Outside.faults c.answer_to.new.outside in
    let end = c.in_err-reply.field-0.0 in
    let p = err_from_is_err_and c.from_residual.result c.from_residual.ensures.1 in
    rw (p.1, p.2) (err_sources_on Answer (Unit {0}) a a b end refl (chunk_counts {U = Answer} c.args.item a b (Err end) c.in_err-reply.ensures.counts))

pub returns-in_err-reply-clause-faultless : goal.returns-in_err-reply-clause-faultless
returns-in_err-reply-clause-faultless g c =
    let p = err_from_is_err_and c.from_residual.result c.from_residual.ensures.1 in
    rw (p.1, p.2) (memory_only (Unit {0}) Answer _ c.in_err-reply.field-0.0 c.in_err-reply.ensures.faultless)

-- it is answered: what the paths share

module _ (g : _) (c : After-note g) where
  noted : IsEntered c.in_ok-reply.field-0.section c.answer_to.new.self c.note.new.self
  noted = entered_noted c.in_ok-reply.field-0.section c.answer_to.new.self c.enter.new.self c.note.new.self c.enter.ensures.section c.enter.ensures.rest c.note.ensures.rest

-- memory is wanting to count it

pub returns-in_err-note-clause-made : goal.returns-in_err-note-clause-made
returns-in_err-note-clause-made g c = λ was work put count done is m.
    let after = (goal.at.returns-in_err-note-clause-made g c).After-note in
    let p = err_from_is_err_and c.from_residual-in_err-note.result c.from_residual-in_err-note.ensures.1 in
    rw (p.1, p.2) (item_stalls (g.O.Disk.may_leave c.args.outside.now) (g.O.Outside.shown c.args.outside.now) c.args.self.now was work put count done c.args.tally.now c.args.item c.requires.sound is m (g.O.Disk.may_leave c.answer_to.new.outside) (g.O.Outside.shown c.answer_to.new.outside) c.answer_to.new.self c.note.new.self c.in_ok-reply.field-0 (noted g after) c.in_ok-reply.ensures.answers)

pub returns-in_err-note-clause-any_moment : goal.returns-in_err-note-clause-any_moment
returns-in_err-note-clause-any_moment g c = λ was work put count done is m.
    item_lasts (g.O.Disk.may_leave c.args.outside.now) (g.O.Outside.shown c.args.outside.now) c.args.self.now was work put count done c.args.tally.now c.args.item c.requires.sound is m g.O.Disk.moment g.O.Disk.left_since c.args.outside.now c.answer_to.new.outside c.answer_to.ensures.any_moment

pub returns-in_err-note-clause-held : goal.returns-in_err-note-clause-held
returns-in_err-note-clause-held g c =
    let at = goal.at.returns-in_err-note-clause-held g c in
    (noted g at.After-note).held ∙ unheld_then g at.After-answer_to

pub returns-in_err-note-clause-last_run : goal.returns-in_err-note-clause-last_run
returns-in_err-note-clause-last_run g c =
    let after = (goal.at.returns-in_err-note-clause-last_run g c).After-note in
    answered_run c.in_ok-reply.field-0 (Chunk c.args.item) c.args.self.now c.answer_to.new.self c.note.new.self (noted g after) c.answer_to.ensures.budget c.in_ok-reply.ensures.last_run

pub returns-in_err-note-clause-known : goal.returns-in_err-note-clause-known
returns-in_err-note-clause-known g c = λ knows.
    let p = err_from_is_err_and c.from_residual-in_err-note.result c.from_residual-in_err-note.ensures.1 in
    rw (p.1, p.2) tt

pub returns-in_err-note-clause-counts : goal.returns-in_err-note-clause-counts
returns-in_err-note-clause-counts g c =
    let a = g.O.Outside.faults c.args.outside.now in
    let b = g.O.Outside.faults c.answer_to.new.outside in
    let p = err_from_is_err_and c.from_residual-in_err-note.result c.from_residual-in_err-note.ensures.1 in
    rw (p.1, p.2) (memory_both a b (chunk_counts {U = Answer} c.args.item a b (Ok c.in_ok-reply.field-0) c.in_ok-reply.ensures.counts).reason).1

pub returns-in_err-note-clause-faultless : goal.returns-in_err-note-clause-faultless
returns-in_err-note-clause-faultless g c =
    let after = (goal.at.returns-in_err-note-clause-faultless g c).After-note in
    let p = err_from_is_err_and c.from_residual-in_err-note.result c.from_residual-in_err-note.ensures.1 in
    rw (p.1, p.2) (ap (λ (k : KeeperState). k.fault) (noted g after).keeper ∙ c.in_ok-reply.ensures.faultless)

-- it is counted

pub returns-clause-made : goal.returns-clause-made
returns-clause-made g c = λ was work put count done is m.
    let after = (goal.at.returns-clause-made g c).After-note in
    let reply = c.in_ok-reply.field-0.reply in
    let counted = noted_count c.enter.new.self c.note.new.self reply c.args.tally.now c.note.new.tally c.note.ensures.rest c.in_ok-note.ensures.tally in
    item_made (g.O.Disk.may_leave c.args.outside.now) (g.O.Outside.shown c.args.outside.now) c.args.self.now was work put count done c.args.tally.now c.args.item c.requires.sound is m (g.O.Disk.may_leave c.answer_to.new.outside) (g.O.Outside.shown c.answer_to.new.outside) c.answer_to.new.self c.note.new.self c.in_ok-reply.field-0 (noted g after) c.in_ok-reply.ensures.answers
    c.runs_answer_the_smalls_of_trees.ensures c.note.new.tally c.answer_to.ensures.troubled (noted_trouble c.answer_to.new.self c.enter.new.self c.note.new.self reply c.enter.ensures.rest c.note.ensures.troubled) counted

pub returns-clause-any_moment : goal.returns-clause-any_moment
returns-clause-any_moment g c = λ was work put count done is m.
    item_lasts (g.O.Disk.may_leave c.args.outside.now) (g.O.Outside.shown c.args.outside.now) c.args.self.now was work put count done c.args.tally.now c.args.item c.requires.sound is m g.O.Disk.moment g.O.Disk.left_since c.args.outside.now c.answer_to.new.outside c.answer_to.ensures.any_moment

pub returns-clause-held : goal.returns-clause-held
returns-clause-held g c =
    let at = goal.at.returns-clause-held g c in
    (noted g at.After-note).held ∙ unheld_then g at.After-answer_to

pub returns-clause-last_run : goal.returns-clause-last_run
returns-clause-last_run g c =
    let after = (goal.at.returns-clause-last_run g c).After-note in
    answered_run c.in_ok-reply.field-0 (Chunk c.args.item) c.args.self.now c.answer_to.new.self c.note.new.self (noted g after) c.answer_to.ensures.budget c.in_ok-reply.ensures.last_run

pub returns-clause-known : goal.returns-clause-known
returns-clause-known g c = λ knows.
    let after = (goal.at.returns-clause-known g c).After-note in
    let reads = readable c.args.item c.requires.sound in
    knows_entered (g.O.Outside.shown c.answer_to.new.outside) c.answer_to.new.self c.note.new.self (noted g after).keeper (λ told. subst IsBriefSection (sym (noted g after).section_is) (c.in_ok-reply.ensures.brief reads tt knows told)) (c.in_ok-reply.ensures.known reads tt knows)

pub returns-clause-counts : goal.returns-clause-counts
returns-clause-counts g c =
    let a = g.O.Outside.faults c.args.outside.now in
    let b = g.O.Outside.faults c.answer_to.new.outside in
    (done_both a b (chunk_counts {U = Answer} c.args.item a b (Ok c.in_ok-reply.field-0) c.in_ok-reply.ensures.counts).reason).1

pub returns-clause-faultless : goal.returns-clause-faultless
returns-clause-faultless g c =
    let after = (goal.at.returns-clause-faultless g c).After-note in
    ap (λ (k : KeeperState). k.fault) (noted g after).keeper ∙ c.in_ok-reply.ensures.faultless
