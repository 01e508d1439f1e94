use Rattle.std.proofs.Common.{◌∙◌, ap, refl, sym}
use Rattle.std.specs.Option.{option_copied_mut}
use Rattle.s80_history.specs.declared.trace.MethodTrace.{MethodTrace}
use Rattle.s80_history.proofs.Staying.{method_written}
use Rattle.s80_history.proofs.trace.make_room.Goals as goal

pub returns-in_err-reserve-clause-same : goal.returns-in_err-reserve-clause-same
returns-in_err-reserve-clause-same c =
    let x = c.unwrap-method.result.now in
    let y : MethodTrace = record { versions = c.reserve.new.self; group = x.group } in
    method_written c.args.methods.now.entries c.add_method.new.methods.entries (c.get_mut.follows.lender y).entries c.bytes.result.now x y c.add_method.ensures.same
    (ap option_copied_mut (sym c.unwrap-method.ensures) ∙ c.get_mut.ensures.value) ((c.get_mut.follows.holds y).0) refl c.reserve.ensures.items

pub returns-clause-same : goal.returns-clause-same
returns-clause-same c =
    let x = c.unwrap-method.result.now in
    let y : MethodTrace = record { versions = c.reserve.new.self; group = x.group } in
    method_written c.args.methods.now.entries c.add_method.new.methods.entries (c.get_mut.follows.lender y).entries c.bytes.result.now x y c.add_method.ensures.same
    (ap option_copied_mut (sym c.unwrap-method.ensures) ∙ c.get_mut.ensures.value) ((c.get_mut.follows.holds y).0) refl c.reserve.ensures.items
