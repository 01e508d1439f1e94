use Rattle.std.proofs.Common.{subst, sym}
use Rattle.s80_apply.specs.System.{CanPutMethod, HasMethod, SystemState}
use Rattle.s80_apply.proofs.Sound.{method_is_put, sound_with_method}
use Rattle.s80_apply.proofs.system.System.put_method.Goals as goal

pub returns : goal.returns
returns c =
    let before : SystemState = record { table = c.self.inside.classes; methods = c.self.inside.methods } in
    let now : SystemState = record { table = c.self.inside.classes; methods = c.insert.new.self } in
    subst (λ s. HasMethod s c.args.placed c.args.at now) c.self.view_is (method_is_put before c.args.placed c.args.at c.insert.new.self c.insert.ensures.methods c.insert.ensures.count)

pub invariant_of-self : goal.invariant_of-self
invariant_of-self c =
    let before : SystemState = record { table = c.self.inside.classes; methods = c.self.inside.methods } in
    let now : SystemState = record { table = c.self.inside.classes; methods = c.insert.new.self } in
    sound_with_method before now c.args.placed c.args.at (subst (λ s. CanPutMethod s c.args.placed) (sym c.self.view_is) c.requires.ready) c.self.invariant
    (method_is_put before c.args.placed c.args.at c.insert.new.self c.insert.ensures.methods c.insert.ensures.count)
