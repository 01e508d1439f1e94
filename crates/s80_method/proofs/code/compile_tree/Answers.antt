use Rattle.std.proofs.Common.{◌≤◌, length, subst, sym}
use Rattle.std.proofs.lemmas.Result.{IfOk-weaker}
use Rattle.s80_tree.specs.Tree.{method_of}
use Rattle.s80_scope.specs.declared.shape.Shape.{Shape}
use Rattle.s80_compile.specs.Compiles.{Compiles}
use Rattle.s80_class.proofs.lemmas.Walks.{same_name}
use Rattle.s80_method.specs.Code.{IsMethodCode}
use Rattle.s80_method.proofs.Fitting.{is_code, size_fits}
use Rattle.s80_method.proofs.code.compile_tree.Goals as goal

pub compile-requires-clause-fits : goal.compile-requires-clause-fits
compile-requires-clause-fits c = size_fits (method_of c.args.tree.now) c.requires.fits

pub compile-requires-clause-in_order : goal.compile-requires-clause-in_order
compile-requires-clause-in_order c = c.places_of_uses_rise.ensures.method c.requires.source.0 (method_of c.args.tree.now) c.requires.source.1

pub compile-requires-clause-sent : goal.compile-requires-clause-sent
compile-requires-clause-sent c = c.trees_are_well_sent.ensures.method c.requires.source.0 (method_of c.args.tree.now) c.requires.source.1

pub compile-requires-clause-inst_vars : goal.compile-requires-clause-inst_vars
compile-requires-clause-inst_vars c =
    let class = c.requires.class in
    subst (λ (s : Shape). length s.inst_vars ≤ 64) (sym (c.in_ok-shape.ensures class.0 class.1)) (c.requires.few class.0 class.1)

pub returns-clause-code : goal.returns-clause-code
returns-clause-code c = λ name source named is.
    let table = c.args.classes.now in
    let tree = method_of c.args.tree.now in
    let shape = c.in_ok-shape.shape in
    let owner = c.at.result.now.class_name in
    IfOk-weaker c.compile.result (Compiles tree shape owner c.args.side) (IsMethodCode table.classes name c.args.side tree.selector source)
    (λ code compiled. is_code table.classes name owner c.args.side source tree shape code is (c.in_ok-shape.ensures name named) (same_name table c.args.c owner name c.at.ensures.named named) compiled)
    c.compile.ensures.related
