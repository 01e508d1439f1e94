use Rattle.std.proofs.Common.{◌∙◌, ap, sym}
use Rattle.std.specs.Option.{option_copied_mut}
use Rattle.s80_history.proofs.Staying.{class_written}
use Rattle.s80_history.proofs.trace.make_method_room.Goals as goal

pub returns-clause-same : goal.returns-clause-same
returns-clause-same c =
    class_written c.args.classes.now.entries c.add_class.new.classes.entries (c.get_mut.follows.lender c.make_room.new.self).entries c.bytes.result.now c.unwrap-class.result.now c.make_room.new.self
    c.add_class.ensures.same (ap option_copied_mut (sym c.unwrap-class.ensures) ∙ c.get_mut.ensures.value) ((c.get_mut.follows.holds c.make_room.new.self).0) c.make_room.ensures.same
