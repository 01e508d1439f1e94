use Rattle.std.proofs.Common.{◌∙◌, sym}
use Rattle.s80_prims.proofs.PrintBodies.{array_whole, ok_same}
use Rattle.s80_prims.proofs.print.write_object.Goals as goal

pub returns-then-branch : goal.returns-then-branch
returns-then-branch c =
    ok_same c.write_array.result c.args.front.now c.write_array.new.front _ _
    (array_whole c.args.classes.now c.args.objects.now c.args.v c.args.c c.requires.of (sym c.in_ok-is_kind_of.ensures ∙ c.if-branch.true)) c.write_array.ensures
