use Rattle.std.proofs.Common.{◌≡◌, [], codes, subst, sym}
use Rattle.std.proofs.lemmas.Result.{IfOk-weaker}
use Rattle.s80_base.specs.declared.names.Side.TheVariants.{Instance}
use Rattle.s80_tree.specs.Tree.{MethodParts, method_of}
use Rattle.s80_scope.specs.Fit.{fit, measures}
use Rattle.s80_scope.specs.Names.{AreInOrder, uses_of}
use Rattle.s80_scope.specs.declared.fit.Fit.TheVariants as fits
use Rattle.s80_compile.specs.Compiles.{Compiles}
use Rattle.s80_compile.specs.Sent.{AreWellSent}
use Rattle.s80_doit.specs.DoIt.{IsDoItCode}
use Rattle.s80_doit.proofs.Fitting.{is_code, tree_fits}
use Rattle.s80_doit.proofs.code.doit_code.Goals as goal

pub compile_doit-requires-clause-fits : goal.compile_doit-requires-clause-fits
compile_doit-requires-clause-fits c =
    let is = c.requires.1 in
    subst (λ (m : MethodParts). fit (measures m) ≡ fits.Fits) (sym is.method_is) (tree_fits is.tree is.fits)

pub compile_doit-requires-clause-in_order : goal.compile_doit-requires-clause-in_order
compile_doit-requires-clause-in_order c =
    let is = c.requires.1 in
    subst (λ (m : MethodParts). AreInOrder (uses_of m)) (sym is.method_is) (c.places_of_uses_rise.ensures.doit c.requires.0 is.tree is.tree_is)

pub compile_doit-requires-clause-sent : goal.compile_doit-requires-clause-sent
compile_doit-requires-clause-sent c =
    let is = c.requires.1 in
    subst AreWellSent (sym is.method_is) (c.trees_are_well_sent.ensures.doit c.requires.0 is.tree is.tree_is)

pub returns : goal.returns
returns c = λ text is.
    let m = method_of c.args.method.now in
    IfOk-weaker c.compile_doit.result (Compiles m (record { inst_vars = []; class_vars = [] }) (codes "UndefinedObject") Instance) (IsDoItCode text)
    (λ code compiled. is_code text is.tree m code is.tree_is is.fits is.method_is compiled)
    c.compile_doit.ensures.related
