use Rattle.std.proofs.Common.{IfOk, subst}
use Rattle.s80_tree.specs.Tree.{method_of}
use Rattle.s80_method.specs.Code.{IsMethodCode}
use Rattle.s80_method.proofs.Fitting.{selector_is}
use Rattle.s80_method.proofs.code.compile_source.Goals as goal

pub returns-clause-code : goal.returns-clause-code
returns-clause-code c = λ name selector named check.
    let source = c.args.source.now in
    let is = c.in_ok-tree.ensures.tree in
    subst (λ word. IfOk c.compile_tree.result (λ code. IsMethodCode c.args.classes.now.classes name c.args.side word source code))
    (selector_is source selector (method_of c.in_ok-tree.tree) is check) (c.compile_tree.ensures.code name source named is)
