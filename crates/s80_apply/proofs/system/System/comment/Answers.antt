use Rattle.std.proofs.Common.{refl, subst, sym}
use Rattle.s80_apply.specs.System.{HasClassAt, SystemState}
use Rattle.s80_apply.proofs.Sound.{sound_commented}
use Rattle.s80_apply.proofs.system.System.comment.Goals as goal

pub invariant_of-self : goal.invariant_of-self
invariant_of-self c =
    let before : SystemState = record { table = c.self.inside.classes; methods = c.self.inside.methods } in
    let now : SystemState = record { table = c.set_comment.new.self; methods = c.self.inside.methods } in
    sound_commented before now c.args.number c.args.text (subst (λ s. HasClassAt s c.args.number) (sym c.self.view_is) c.requires) c.self.invariant
    (record { classes = c.set_comment.ensures.classes; names = c.set_comment.ensures.names; methods = λ n s. refl; count = refl })
