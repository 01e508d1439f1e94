use Rattle.std.proofs.Common.{codes}
use Rattle.std.specs.Prelude.{IfOk}
use Rattle.s80_base.specs.declared.names.Side.TheVariants as side
use Rattle.s80_tree.specs.Tree.{method_of}
use Rattle.s80_compile.specs.Compiles.{Compiles}
use Rattle.s80_compile.proofs.Headed.{doit_related}
use Rattle.s80_compile.proofs.method.compile_doit.Goals as goal

pub returns-clause-related : goal.returns-clause-related
returns-clause-related c =
    doit_related (λ v b o. IfOk c.compile.result (λ code. Compiles (method_of c.args.tree.now) (record { inst_vars = v; class_vars = b }) o side.Instance code))
    c.empty.result c.empty-2.result c.in_ok-owner.owner (codes "UndefinedObject") c.empty.ensures c.empty-2.ensures c.in_ok-owner.ensures c.compile.ensures.related
