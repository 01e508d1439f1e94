use Rattle.std.proofs.Common.{◌∙◌, sym}
use Rattle.s80_prims.specs.Classes.{class_of}
use Rattle.s80_machine.proofs.CameClasses.{has_class, place_there}
use Rattle.s80_machine.proofs.sends.not_understood.Goals as goal

pub not_understood_by-requires : goal.not_understood_by-requires
not_understood_by-requires c =
    let t = c.args.on.now.classes.now in
    let class = has_class t c.args.on.now.methods.now c.args.on.now.doit.now c.requires.setting c.args.objects.now c.requires.objects c.args.receiver c.requires.receiver in
    record { class = (place_there t (class_of t c.args.objects.now c.args.receiver) c.in-Some.class c.in-Some.side class (sym c.in-Some.is ∙ c.class_of.ensures)).1 }
