use Rattle.std.proofs.Common.{sym, ◌∙◌}
use Rattle.s80_prims.proofs.ApplyLemmas.{class_known}
use Rattle.s80_prims.proofs.applied.strings.is_text.Goals as goal

pub is_string-requires-clause-class : goal.is_string-requires-clause-class
is_string-requires-clause-class c =
    class_known c.args.classes.now c.args.objects.now c.args.v c.in-Some-default-Bytes.class c.in-Some-default-Bytes.field-0-1 c.requires.objects
    (sym c.class_at.ensures ∙ c.in-Some-default-Bytes.is)
