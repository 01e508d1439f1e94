use Rattle.std.proofs.Common.{◌≡◌, ◌∙◌, Some, ap, sym}
use Rattle.s80_history.specs.Lists.{MethodName}
use Rattle.s80_history.specs.Traces.{held}
use Rattle.s80_history.proofs.Naming.{named_written}
use Rattle.s80_history.proofs.Noting.{class_more, room_in}
use Rattle.s80_history.proofs.trace.add_version.Goals as goal
use Rattle.s80_history.proofs.trace.add_version.Goals.{In-Some}

abbrev name : In-Some → MethodName
name c = record { class_name = c.args.class_name.now; side = c.args.side; selector = c.args.selector.now }

-- the class is there
there : (c : In-Some) → held c.args.classes.now.entries c.args.class_name.now ≡ Some c.in-Some.class.now
there c = sym (c.in-Some.ensures.value ∙ ap (held c.args.classes.now.entries) c.bytes.ensures)

pub add_version-requires : goal.add_version-requires
add_version-requires c =
    let at = goal.at.add_version-requires c in
    room_in (name at.In-Some) c.args.classes.now.entries c.in-Some.class.now (there at.In-Some) c.requires

pub returns-in-Some : goal.returns-in-Some
returns-in-Some c =
    let at = (goal.at.returns-in-Some c).In-Some in
    let es = c.args.classes.now.entries in
    let new = (c.get_mut.follows.lender c.add_version.new.self).entries in
    class_more (name at) c.args.at es new c.in-Some.class.now c.add_version.new.self (there at)
    (named_written es new c.args.class_name.now c.bytes.result.now c.in-Some.class.now c.add_version.new.self c.bytes.ensures c.in-Some.ensures.value ((c.get_mut.follows.holds c.add_version.new.self).0))
    c.add_version.ensures
