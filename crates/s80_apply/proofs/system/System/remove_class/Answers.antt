use Rattle.std.proofs.Common.{subst, sym}
use Rattle.s80_class.proofs.lemmas.Subclasses.{alone_by_number}
use Rattle.s80_apply.specs.System.{CanTakeClass, SystemState}
use Rattle.s80_apply.proofs.Passing.{removal_accepted}
use Rattle.s80_apply.proofs.Sound.{class_is_taken, sound_without_class}
use Rattle.s80_apply.proofs.system.System.remove_class.Goals as goal

pub remove-requires-clause-alone : goal.remove-requires-clause-alone
remove-requires-clause-alone c =
    let can = subst (λ s. CanTakeClass s c.args.number) (sym c.self.view_is) c.requires in
    alone_by_number c.self.inside.classes c.args.number can.class can.number_is.named (removal_accepted can.class c.self.inside.classes.classes can.removable).alone

pub invariant_of-self : goal.invariant_of-self
invariant_of-self c =
    let before : SystemState = record { table = c.self.inside.classes; methods = c.self.inside.methods } in
    let now : SystemState = record { table = c.remove.new.self; methods = c.clear.new.self } in
    sound_without_class before now c.args.number (subst (λ s. CanTakeClass s c.args.number) (sym c.self.view_is) c.requires) c.self.invariant
    (class_is_taken before c.args.number c.remove.new.self c.clear.new.self c.remove.result c.remove.ensures.old c.remove.ensures.classes c.remove.ensures.names c.clear.ensures.dicts c.clear.ensures.count)
