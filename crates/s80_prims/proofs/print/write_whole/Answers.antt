use Rattle.std.proofs.Common.{◌∙◌, sym}
use Rattle.s80_prims.proofs.PrintBodies.{class_known}
use Rattle.s80_prims.proofs.print.write_whole.Goals as goal

pub write_object-requires-clause-class : goal.write_object-requires-clause-class
write_object-requires-clause-class c =
    class_known c.args.classes.now c.args.objects.now c.args.v c.in-Some.c c.in-Some.field-0-1 c.requires.objects (sym c.in-Some.is ∙ c.class_at.ensures)
