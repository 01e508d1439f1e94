use Rattle.std.proofs.Common.{sym, subst}
use Rattle.s80_class.specs.Table.{IsNumberOf}
use Rattle.s80_prims.proofs.ClassesNumbered.{kind_by_descent, kind_of_itself}
use Rattle.s80_prims.proofs.classes.is_kind_of.Goals as goal

pub returns-then-c-of : goal.returns-then-c-of
returns-then-c-of c =
    let number = subst (λ n. IsNumberOf c.args.classes.now.names n c.args.name.now) (sym c.if-c-of.true) c.in_ok-of.ensures.named in
    sym (kind_of_itself c.args.classes.now c.args.c c.args.name.now c.requires.kernel c.requires.name c.in_ok-of.ensures.valid number)

pub returns : goal.returns
returns c =
    kind_by_descent c.args.classes.now c.args.c c.in_ok-of.of c.args.name.now c.is_descendant.result c.requires.class c.if-c-of.false c.in_ok-of.ensures.named
    c.in_ok-of.ensures.only c.is_descendant.ensures
