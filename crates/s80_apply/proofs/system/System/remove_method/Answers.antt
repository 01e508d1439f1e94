use Rattle.std.proofs.Common.{refl}
use Rattle.s80_apply.specs.System.{SystemState}
use Rattle.s80_apply.proofs.Sound.{sound_without_method}
use Rattle.s80_apply.proofs.system.System.remove_method.Goals as goal

pub invariant_of-self : goal.invariant_of-self
invariant_of-self c =
    let before : SystemState = record { table = c.self.inside.classes; methods = c.self.inside.methods } in
    let now : SystemState = record { table = c.self.inside.classes; methods = c.remove.new.self } in
    sound_without_method before now c.args.number c.args.side c.args.selector.now c.self.invariant (record { table = refl; methods = c.remove.ensures.methods; count = c.remove.ensures.count })
