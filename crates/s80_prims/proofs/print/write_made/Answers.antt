use Rattle.std.proofs.Common.{◌∙◌, Some, ap}
use Rattle.s80_prims.proofs.PrintBodies.{bytes_plain, ok_same, pointers_plain, words_plain}
use Rattle.std.proofs.Common.{sym}
use Rattle.s80_prims.proofs.print.write_made.Goals as goal

pub returns-in-Pointers : goal.returns-in-Pointers
returns-in-Pointers c =
    ok_same c.write_with_article.result c.args.front.now c.write_with_article.new.front _ _
    (pointers_plain c.args.classes.now c.args.objects.now c.args.v c.args.c (ap (λ k. Some (c.args.c, k)) (sym c.in-Pointers.is) ∙ c.requires.of)) c.write_with_article.ensures

pub returns-in-Bytes : goal.returns-in-Bytes
returns-in-Bytes c =
    ok_same c.write_bytes.result c.args.front.now c.write_bytes.new.front _ _
    (bytes_plain c.args.classes.now c.args.objects.now c.args.v c.args.c (ap (λ k. Some (c.args.c, k)) (sym c.in-Bytes.is) ∙ c.requires.of)) c.write_bytes.ensures

pub returns-in-Words : goal.returns-in-Words
returns-in-Words c =
    ok_same c.write_with_article-in-Words.result c.args.front.now c.write_with_article-in-Words.new.front _ _
    (words_plain c.args.classes.now c.args.objects.now c.args.v c.args.c (ap (λ k. Some (c.args.c, k)) (sym c.in-Words.is) ∙ c.requires.of)) c.write_with_article-in-Words.ensures
