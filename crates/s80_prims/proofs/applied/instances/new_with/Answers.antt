use Rattle.std.proofs.Common.{refl, sym, ◌∙◌}
use Rattle.std.proofs.lemmas.Result.{IfOk-weaker}
use Rattle.s80_prims.proofs.ApplyLemmas.{bytes_are, words_are}
use Rattle.s80_prims.proofs.applied.instances.new_with.Goals as goal

pub returns-in-Bytes-clause-ok : goal.returns-in-Bytes-clause-ok
returns-in-Bytes-clause-ok c =
    IfOk-weaker c.make-in-Bytes.result _ _
    (λ applied made. bytes_are c.args.classes.now c.args.objects.now c.make-in-Bytes.new.objects c.args.r c.in-Some.class c.args.count applied
    (sym c.class_to_make.ensures.is ∙ c.in-Some.is) (sym c.kind_of_class.ensures ∙ c.in-Bytes.is) (made 0 refl))
    c.make-in-Bytes.ensures.ok

pub returns-in-Words-clause-ok : goal.returns-in-Words-clause-ok
returns-in-Words-clause-ok c =
    IfOk-weaker c.make-in-Words.result _ _
    (λ applied made. words_are c.args.classes.now c.args.objects.now c.make-in-Words.new.objects c.args.r c.in-Some.class c.args.count applied
    (sym c.class_to_make.ensures.is ∙ c.in-Some.is) (sym c.kind_of_class.ensures ∙ c.in-Words.is) (made 0 refl))
    c.make-in-Words.ensures.ok
