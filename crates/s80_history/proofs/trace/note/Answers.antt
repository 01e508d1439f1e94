use Rattle.std.proofs.Common.{◌≡◌, ◌∙◌, None, Some, ap, sym}
use Rattle.s80_history.specs.Traces.{held}
use Rattle.s80_history.proofs.Naming.{named_written}
use Rattle.s80_history.proofs.Noting.{class_absent, class_noted, place_under}
use Rattle.s80_history.proofs.trace.note.Goals as goal
use Rattle.s80_history.proofs.trace.note.Goals.{In-Some}

-- the class is there
there : (c : In-Some) → held c.args.classes.now.entries c.args.noted.now.class_name ≡ Some c.in-Some.class.now
there c = sym (c.in-Some.ensures.value ∙ ap (held c.args.classes.now.entries) c.bytes.ensures)

pub note-requires : goal.note-requires
note-requires c = place_under c.args.noted.now c.args.classes.now.entries c.in-Some.class.now (there c) c.requires

pub returns-in-Some : goal.returns-in-Some
returns-in-Some c =
    let es = c.args.classes.now.entries in
    let new = (c.get_mut.follows.lender c.note.new.self).entries in
    class_noted c.args.noted.now c.args.begun c.args.number es new c.in-Some.class.now c.note.new.self c.note.result (there (goal.at.returns-in-Some c).In-Some)
    (named_written es new c.args.noted.now.class_name c.bytes.result.now c.in-Some.class.now c.note.new.self c.bytes.ensures c.in-Some.ensures.value ((c.get_mut.follows.holds c.note.new.self).0))
    c.note.ensures

pub returns-in-None : goal.returns-in-None
returns-in-None c =
    let es = c.args.classes.now.entries in
    let absent : held es c.args.noted.now.class_name ≡ None = sym (c.in-None.ensures.value ∙ ap (held es) c.bytes.ensures) in
    rw c.get_mut.follows.holds-at-none (class_absent c.args.noted.now c.args.begun c.args.number es absent c.requires)
