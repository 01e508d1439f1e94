use Rattle.s80_history.proofs.Noting.{among_noted}
use Rattle.s80_history.proofs.trace.note_among.Goals as goal

pub returns-in-Some : goal.returns-in-Some
returns-in-Some c =
    among_noted c.args.noted.now c.args.from c.args.number c.args.methods.now.entries (c.get_mut.follows.lender c.note.new.self).entries c.bytes.result.now
    c.in-Some.method.now c.note.new.self c.note.result c.bytes.ensures c.in-Some.ensures.value ((c.get_mut.follows.holds c.note.new.self).0) c.note.ensures
