use Rattle.std.proofs.Common.{◌∙◌, sym}
use Rattle.s80_prims.proofs.PrintBodies.{block_plain, class_known, home_plain, ok_same}
use Rattle.s80_prims.proofs.print.write_body.Goals as goal

pub write_made-requires-clause-class : goal.write_made-requires-clause-class
write_made-requires-clause-class c =
    class_known c.args.classes.now c.args.objects.now c.args.v c.in-Some.c c.in-Some.kind c.requires.objects (sym c.in-Some.is ∙ c.class_at.ensures)

pub returns-in-Some-home_parts : goal.returns-in-Some-home_parts
returns-in-Some-home_parts c =
    ok_same c.write.result c.args.front.now c.write.new.self _ _
    (home_plain c.args.classes.now c.args.objects.now c.args.v c.in-Some-home_parts.field-0 (sym c.in-Some-home_parts.is ∙ c.home_parts.ensures)) c.write.ensures

pub returns-in-None-home_parts : goal.returns-in-None-home_parts
returns-in-None-home_parts c =
    ok_same c.write-in-None-home_parts.result c.args.front.now c.write-in-None-home_parts.new.self _ _
    (block_plain c.args.classes.now c.args.objects.now c.args.v c.requires.there (sym c.in-None.is ∙ c.class_at.ensures) (sym c.in-None-home_parts.is ∙ c.home_parts.ensures))
    c.write-in-None-home_parts.ensures
