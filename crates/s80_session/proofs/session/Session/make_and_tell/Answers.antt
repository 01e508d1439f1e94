use Rattle.std.proofs.Common.{◌≡◌, ⊎_elim, ℕ, List, [], refl, ◌∙◌}
use Rattle.std.proofs.lemmas.Result.{err_from_is_err_and}
use Rattle.s80_disk.specs.Moments.{LeavesOnly}
use Rattle.s80_make.specs.Tally.{made_line, small_in, with_reply}
use Rattle.s80_model.specs.declared.reply.Reply.{Reply}
use Rattle.s80_model.specs.Replies.{Work}
use Rattle.s80_session.specs.Making.{IsStalled, MakeKeeps}
use Rattle.s80_session.specs.Session.{held_of, last_run_of, was_of, IsFaultless, RunSince}
use Rattle.s80_session.specs.Working.{IsAt}
use Rattle.s80_session.proofs.Answering.{run_of_rest}
use Rattle.s80_session.proofs.Breaking.{err_sources_on, flush_calm, memory_only}
use Rattle.s80_session.proofs.Holding.{memory_both, source_counts, sources_on}
use Rattle.s80_session.proofs.Knowing.{reply_ends}
use Rattle.s80_session.proofs.Making.{all_made, all_stalls, condense_broke, condense_lasts, faultless_noted, held_noted, IsMade, knows_noted, line_flushed, line_lasts, line_only, run_noted, stalled_noted, stalled_unheld}
use Rattle.s80_session.proofs.Marking.{both_runs}
use Rattle.s80_session.proofs.session.Session.make_and_tell.Goals as goal
use Rattle.s80_session.proofs.session.Session.make_and_tell.Goals.{After-condense, After-note}

-- not all items are worked

pub returns-in_err-make_items-clause-made : goal.returns-in_err-make_items-clause-made
returns-in_err-make_items-clause-made g c = λ work put at.
    let p = err_from_is_err_and c.from_residual.result c.from_residual.ensures.1 in
    rw (p.1, p.2) (c.in_err-make_items.ensures.made work put at)

pub returns-in_err-make_items-clause-any_moment : goal.returns-in_err-make_items-clause-any_moment
returns-in_err-make_items-clause-any_moment g c = c.make_items.ensures.any_moment

pub returns-in_err-make_items-clause-last_run : goal.returns-in_err-make_items-clause-last_run
returns-in_err-make_items-clause-last_run g c = c.make_items.ensures.last_run

pub returns-in_err-make_items-clause-known : goal.returns-in_err-make_items-clause-known
returns-in_err-make_items-clause-known g c = λ knows.
    let p = err_from_is_err_and c.from_residual.result c.from_residual.ensures.1 in
    rw (p.1, p.2) (c.in_err-make_items.ensures.known knows)

pub returns-in_err-make_items-clause-counts : goal.returns-in_err-make_items-clause-counts
returns-in_err-make_items-clause-counts g c =
    let p = err_from_is_err_and c.from_residual.result c.from_residual.ensures.1 in
    rw (p.1, p.2) c.in_err-make_items.ensures.counts

pub returns-in_err-make_items-clause-faultless : goal.returns-in_err-make_items-clause-faultless
returns-in_err-make_items-clause-faultless g c =
    let p = err_from_is_err_and c.from_residual.result c.from_residual.ensures.1 in
    rw (p.1, p.2) c.in_err-make_items.ensures.faultless

-- it condenses

module _ (g : _) (c : After-condense g) where
  condensed_run : RunSince c.args.self.now c.condense.new.self
  condensed_run = both_runs c.args.self.now c.make_items.new.self c.condense.new.self c.make_items.ensures.last_run (run_of_rest c.make_items.new.self c.condense.new.self c.condense.ensures.rest)

  module _ (work : Work) (put : List ℕ) (at : IsAt (g.O.Disk.may_leave c.args.outside.now) (g.O.Outside.shown c.args.outside.now) c.args.self.now work put) where
    lasts : LeavesOnly g.O.Disk.moment g.O.Disk.left_since c.args.outside.now c.condense.new.outside (MakeKeeps work c.args.classes put)
    lasts = condense_lasts (g.O.Disk.may_leave c.make_items.new.outside) (g.O.Outside.shown c.make_items.new.outside) c.make_items.new.self (was_of c.args.self.now) work put c.args.classes c.make_items.new.tally (c.in_ok-make_items.ensures.made work put at) g.O.Disk.moment g.O.Disk.left_since c.args.outside.now c.make_items.new.outside c.condense.new.outside (c.make_items.ensures.any_moment work put at) c.condense.ensures.any_moment

pub returns-in_err-reply-clause-made : goal.returns-in_err-reply-clause-made
returns-in_err-reply-clause-made g c = λ work put at.
    let p = err_from_is_err_and c.from_residual-in_err-reply.result c.from_residual-in_err-reply.ensures.1 in
    rw (p.1, p.2) (condense_broke (g.O.Disk.may_leave c.make_items.new.outside) (g.O.Outside.shown c.make_items.new.outside) c.make_items.new.self (was_of c.args.self.now) work put c.args.classes c.make_items.new.tally (c.in_ok-make_items.ensures.made work put at) _ (g.O.Disk.may_leave c.condense.new.outside) (g.O.Outside.shown c.condense.new.outside) c.condense.new.self c.in_err-reply.ensures.condensed)

pub returns-in_err-reply-clause-any_moment : goal.returns-in_err-reply-clause-any_moment
returns-in_err-reply-clause-any_moment g c = λ work put at. lasts g (goal.at.returns-in_err-reply-clause-any_moment g c).After-condense work put at

pub returns-in_err-reply-clause-last_run : goal.returns-in_err-reply-clause-last_run
returns-in_err-reply-clause-last_run g c = condensed_run g (goal.at.returns-in_err-reply-clause-last_run g c).After-condense

pub returns-in_err-reply-clause-known : goal.returns-in_err-reply-clause-known
returns-in_err-reply-clause-known g c = λ knows.
    let p = err_from_is_err_and c.from_residual-in_err-reply.result c.from_residual-in_err-reply.ensures.1 in
    rw (p.1, p.2) (reply_ends c.in_err-reply.field-0.0 (g.O.Outside.shown c.condense.new.outside) c.condense.new.self (c.in_err-reply.ensures.known (c.in_ok-make_items.ensures.known knows)))

pub returns-in_err-reply-clause-counts : goal.returns-in_err-reply-clause-counts
returns-in_err-reply-clause-counts g c =
    let a = g.O.Outside.faults c.args.outside.now in
    let m = g.O.Outside.faults c.make_items.new.outside in
    let b = g.O.Outside.faults c.condense.new.outside in
    let p = err_from_is_err_and c.from_residual-in_err-reply.result c.from_residual-in_err-reply.ensures.1 in
    rw (p.1, p.2) (err_sources_on Reply (Unit {0}) a m b c.in_err-reply.field-0.0 c.in_ok-make_items.ensures.counts.reason c.in_err-reply.ensures.counts)

pub returns-in_err-reply-clause-faultless : goal.returns-in_err-reply-clause-faultless
returns-in_err-reply-clause-faultless g c =
    let p = err_from_is_err_and c.from_residual-in_err-reply.result c.from_residual-in_err-reply.ensures.1 in
    rw (p.1, p.2) (memory_only (Unit {0}) Reply _ c.in_err-reply.field-0.0 c.in_err-reply.ensures.faultless)

-- its reply is noted: what the paths share

module _ (g : _) (c : After-note g) where
  noted_faultless : IsFaultless c.note.new.self
  noted_faultless = faultless_noted c.condense.new.self c.note.new.self c.note.ensures.rest c.in_ok-reply.ensures.faultless

  noted_run : RunSince c.args.self.now c.note.new.self
  noted_run = both_runs c.args.self.now c.condense.new.self c.note.new.self (both_runs c.args.self.now c.make_items.new.self c.condense.new.self c.make_items.ensures.last_run (run_of_rest c.make_items.new.self c.condense.new.self c.condense.ensures.rest)) (run_noted c.condense.new.self c.note.new.self c.note.ensures.rest)

  noted_faults : g.O.Outside.faults c.condense.new.outside ≡ g.O.Outside.faults c.args.outside.now
  noted_faults = c.in_ok-reply.ensures.counts.reason ∙ c.in_ok-make_items.ensures.counts.reason

  noted_none : held_of c.note.new.self ≡ []
  noted_none = held_noted c.condense.new.self c.note.new.self c.note.ensures.rest ∙ ⊎_elim (λ same. same ∙ c.make_items.ensures.held) (λ none. none) c.condense.ensures.held

  module _ (work : Work) (put : List ℕ) (at : IsAt (g.O.Disk.may_leave c.args.outside.now) (g.O.Outside.shown c.args.outside.now) c.args.self.now work put) where
    stalled : IsStalled (g.O.Disk.may_leave c.condense.new.outside) (g.O.Outside.shown c.condense.new.outside) c.note.new.self work put c.args.classes
    stalled =
        stalled_noted (g.O.Disk.may_leave c.condense.new.outside) (g.O.Outside.shown c.condense.new.outside) c.condense.new.self c.note.new.self work put c.args.classes c.note.ensures.rest
        (all_stalls (g.O.Disk.may_leave c.make_items.new.outside) (g.O.Outside.shown c.make_items.new.outside) c.make_items.new.self (was_of c.args.self.now) work put c.args.classes c.make_items.new.tally (c.in_ok-make_items.ensures.made work put at) (g.O.Disk.may_leave c.condense.new.outside) (g.O.Outside.shown c.condense.new.outside) c.condense.new.self c.in_ok-reply.reply c.in_ok-reply.ensures.condensed)

    noted_lasts : LeavesOnly g.O.Disk.moment g.O.Disk.left_since c.args.outside.now c.condense.new.outside (MakeKeeps work c.args.classes put)
    noted_lasts = condense_lasts (g.O.Disk.may_leave c.make_items.new.outside) (g.O.Outside.shown c.make_items.new.outside) c.make_items.new.self (was_of c.args.self.now) work put c.args.classes c.make_items.new.tally (c.in_ok-make_items.ensures.made work put at) g.O.Disk.moment g.O.Disk.left_since c.args.outside.now c.make_items.new.outside c.condense.new.outside (c.make_items.ensures.any_moment work put at) c.condense.ensures.any_moment

-- memory is wanting to count it

pub returns-in_err-note-clause-made : goal.returns-in_err-note-clause-made
returns-in_err-note-clause-made g c = λ work put at.
    let p = err_from_is_err_and c.from_residual-in_err-note.result c.from_residual-in_err-note.ensures.1 in
    rw (p.1, p.2) (stalled g (goal.at.returns-in_err-note-clause-made g c).After-note work put at)

pub returns-in_err-note-clause-any_moment : goal.returns-in_err-note-clause-any_moment
returns-in_err-note-clause-any_moment g c = λ work put at. noted_lasts g (goal.at.returns-in_err-note-clause-any_moment g c).After-note work put at

pub returns-in_err-note-clause-last_run : goal.returns-in_err-note-clause-last_run
returns-in_err-note-clause-last_run g c = noted_run g (goal.at.returns-in_err-note-clause-last_run g c).After-note

pub returns-in_err-note-clause-known : goal.returns-in_err-note-clause-known
returns-in_err-note-clause-known g c = λ knows.
    let p = err_from_is_err_and c.from_residual-in_err-note.result c.from_residual-in_err-note.ensures.1 in
    rw (p.1, p.2) tt

pub returns-in_err-note-clause-counts : goal.returns-in_err-note-clause-counts
returns-in_err-note-clause-counts g c =
    let p = err_from_is_err_and c.from_residual-in_err-note.result c.from_residual-in_err-note.ensures.1 in
    rw (p.1, p.2) (memory_both (g.O.Outside.faults c.args.outside.now) (g.O.Outside.faults c.condense.new.outside) (noted_faults g (goal.at.returns-in_err-note-clause-counts g c).After-note)).1

pub returns-in_err-note-clause-faultless : goal.returns-in_err-note-clause-faultless
returns-in_err-note-clause-faultless g c =
    let p = err_from_is_err_and c.from_residual-in_err-note.result c.from_residual-in_err-note.ensures.1 in
    rw (p.1, p.2) (noted_faultless g (goal.at.returns-in_err-note-clause-faultless g c).After-note)

-- or for the line

pub returns-in_err-line-clause-made : goal.returns-in_err-line-clause-made
returns-in_err-line-clause-made g c = λ work put at.
    let p = err_from_is_err_and c.from_residual-in_err-line.result c.from_residual-in_err-line.ensures.1 in
    rw (p.1, p.2) (stalled g (goal.at.returns-in_err-line-clause-made g c).After-note work put at)

pub returns-in_err-line-clause-any_moment : goal.returns-in_err-line-clause-any_moment
returns-in_err-line-clause-any_moment g c = λ work put at. noted_lasts g (goal.at.returns-in_err-line-clause-any_moment g c).After-note work put at

pub returns-in_err-line-clause-last_run : goal.returns-in_err-line-clause-last_run
returns-in_err-line-clause-last_run g c = noted_run g (goal.at.returns-in_err-line-clause-last_run g c).After-note

pub returns-in_err-line-clause-known : goal.returns-in_err-line-clause-known
returns-in_err-line-clause-known g c = λ knows.
    let p = err_from_is_err_and c.from_residual-in_err-line.result c.from_residual-in_err-line.ensures.1 in
    rw (p.1, p.2) tt

pub returns-in_err-line-clause-counts : goal.returns-in_err-line-clause-counts
returns-in_err-line-clause-counts g c =
    let p = err_from_is_err_and c.from_residual-in_err-line.result c.from_residual-in_err-line.ensures.1 in
    rw (p.1, p.2) (memory_both (g.O.Outside.faults c.args.outside.now) (g.O.Outside.faults c.condense.new.outside) (noted_faults g (goal.at.returns-in_err-line-clause-counts g c).After-note)).1

pub returns-in_err-line-clause-faultless : goal.returns-in_err-line-clause-faultless
returns-in_err-line-clause-faultless g c =
    let p = err_from_is_err_and c.from_residual-in_err-line.result c.from_residual-in_err-line.ensures.1 in
    rw (p.1, p.2) (noted_faultless g (goal.at.returns-in_err-line-clause-faultless g c).After-note)

-- or to hold it

pub returns-in_err-hold-clause-made : goal.returns-in_err-hold-clause-made
returns-in_err-hold-clause-made g c = λ work put at.
    let p = err_from_is_err_and c.from_residual-in_err-hold.result c.from_residual-in_err-hold.ensures.1 in
    rw (p.1, p.2) (stalled_unheld (g.O.Disk.may_leave c.condense.new.outside) (g.O.Outside.shown c.condense.new.outside) c.note.new.self (record c.note.new.self { held = c.hold.new.self }) work put c.args.classes refl refl refl refl c.in_err-hold.ensures.same (stalled g (goal.at.returns-in_err-hold-clause-made g c).After-note work put at))

pub returns-in_err-hold-clause-any_moment : goal.returns-in_err-hold-clause-any_moment
returns-in_err-hold-clause-any_moment g c = λ work put at. noted_lasts g (goal.at.returns-in_err-hold-clause-any_moment g c).After-note work put at

pub returns-in_err-hold-clause-last_run : goal.returns-in_err-hold-clause-last_run
returns-in_err-hold-clause-last_run g c =
    let run = noted_run g (goal.at.returns-in_err-hold-clause-last_run g c).After-note in
    record { budget = run.budget; last_run = run.last_run }

pub returns-in_err-hold-clause-known : goal.returns-in_err-hold-clause-known
returns-in_err-hold-clause-known g c = λ knows.
    let p = err_from_is_err_and c.from_residual-in_err-hold.result c.from_residual-in_err-hold.ensures.1 in
    rw (p.1, p.2) tt

pub returns-in_err-hold-clause-counts : goal.returns-in_err-hold-clause-counts
returns-in_err-hold-clause-counts g c =
    let p = err_from_is_err_and c.from_residual-in_err-hold.result c.from_residual-in_err-hold.ensures.1 in
    rw (p.1, p.2) (memory_both (g.O.Outside.faults c.args.outside.now) (g.O.Outside.faults c.condense.new.outside) (noted_faults g (goal.at.returns-in_err-hold-clause-counts g c).After-note)).1

pub returns-in_err-hold-clause-faultless : goal.returns-in_err-hold-clause-faultless
returns-in_err-hold-clause-faultless g c =
    let p = err_from_is_err_and c.from_residual-in_err-hold.result c.from_residual-in_err-hold.ensures.1 in
    rw (p.1, p.2) (noted_faultless g (goal.at.returns-in_err-hold-clause-faultless g c).After-note)

-- it is flushed

module _ (g : _) (c : After-note g) (work : Work) (put : List ℕ) (at : IsAt (g.O.Disk.may_leave c.args.outside.now) (g.O.Outside.shown c.args.outside.now) c.args.self.now work put) where
  made_by : c.note.new.tally ≡ with_reply c.in_ok-reply.reply (small_in (last_run_of c.condense.new.self)) c.make_items.new.tally → IsMade (g.O.Disk.may_leave c.condense.new.outside) (g.O.Outside.shown c.condense.new.outside) c.note.new.self (was_of c.args.self.now) work put c.args.classes c.note.new.tally
  made_by counted =
      let same = c.condense.ensures.rest in
      all_made (g.O.Disk.may_leave c.make_items.new.outside) (g.O.Outside.shown c.make_items.new.outside) c.make_items.new.self (was_of c.args.self.now) work put c.args.classes c.make_items.new.tally (c.in_ok-make_items.ensures.made work put at) (g.O.Disk.may_leave c.condense.new.outside) (g.O.Outside.shown c.condense.new.outside) c.condense.new.self c.in_ok-reply.reply c.in_ok-reply.ensures.condensed
      c.note.new.self c.note.new.tally c.note.ensures.rest same.troubled same.last_run c.note.ensures.troubled counted

pub returns-clause-made : goal.returns-clause-made
returns-clause-made g c = λ work put at.
    let after = (goal.at.returns-clause-made g c).After-note in
    let line = c.bytes.ensures ∙ c.in_ok-line.ensures in
    let held = line_only c.hold.new.self.bytes (held_of c.note.new.self) c.bytes.result.now (made_line c.args.classes c.note.new.tally) c.in_ok-hold.ensures.bytes (noted_none g after) line in
    line_flushed (g.O.Disk.may_leave c.condense.new.outside) (g.O.Outside.shown c.condense.new.outside) c.note.new.self (was_of c.args.self.now) work put c.args.classes c.note.new.tally (made_by g after work put at c.in_ok-note.ensures.tally) (record c.note.new.self { held = c.hold.new.self }) refl refl refl refl held
    c.flush.result (g.O.Disk.may_leave c.flush.new.outside) (g.O.Outside.shown c.flush.new.outside) c.flush.new.self c.flush.ensures.rest.troubled c.flush.ensures.rest.last_run c.flush.ensures.flushed

pub returns-clause-any_moment : goal.returns-clause-any_moment
returns-clause-any_moment g c = λ work put at.
    let after = (goal.at.returns-clause-any_moment g c).After-note in
    let line = c.bytes.ensures ∙ c.in_ok-line.ensures in
    let held = line_only c.hold.new.self.bytes (held_of c.note.new.self) c.bytes.result.now (made_line c.args.classes c.note.new.tally) c.in_ok-hold.ensures.bytes (noted_none g after) line in
    line_lasts (g.O.Disk.may_leave c.condense.new.outside) (g.O.Outside.shown c.condense.new.outside) c.note.new.self (was_of c.args.self.now) work put c.args.classes c.note.new.tally (made_by g after work put at c.in_ok-note.ensures.tally) (record c.note.new.self { held = c.hold.new.self }) refl refl refl refl held
    g.O.Disk.moment g.O.Disk.left_since c.args.outside.now c.condense.new.outside c.flush.new.outside (noted_lasts g after work put at) c.flush.ensures.any_moment

pub returns-clause-last_run : goal.returns-clause-last_run
returns-clause-last_run g c =
    let run = noted_run g (goal.at.returns-clause-last_run g c).After-note in
    let before = record c.note.new.self { held = c.hold.new.self } in
    both_runs c.args.self.now before c.flush.new.self (record { budget = run.budget; last_run = run.last_run }) (run_of_rest before c.flush.new.self c.flush.ensures.rest)

pub returns-clause-known : goal.returns-clause-known
returns-clause-known g c = λ knows.
    c.flush.ensures.known (knows_noted c.condense.new.self c.note.new.self c.note.ensures.rest (g.O.Outside.shown c.condense.new.outside) (record c.note.new.self { held = c.hold.new.self }) refl refl (c.in_ok-reply.ensures.known (c.in_ok-make_items.ensures.known knows)))

pub returns-clause-counts : goal.returns-clause-counts
returns-clause-counts g c =
    let a = g.O.Outside.faults c.args.outside.now in
    let m = g.O.Outside.faults c.condense.new.outside in
    let b = g.O.Outside.faults c.flush.new.outside in
    sources_on a m b c.flush.result (source_counts {U = Unit {0}} m b c.flush.result c.flush.ensures.counts) (noted_faults g (goal.at.returns-clause-counts g c).After-note)

pub returns-clause-faultless : goal.returns-clause-faultless
returns-clause-faultless g c = flush_calm c.flush.result c.flush.new.self c.flush.ensures.resting c.flush.ensures.ends
