use Rattle.std.proofs.Common.{arith}
use Rattle.s80_tree.specs.Tree.{method_of}
use Rattle.s80_scope.specs.Fit.{measures}
use Rattle.s80_core.specs.Core.{core_of}
use Rattle.s80_core.proofs.Declared.{declared}
use Rattle.s80_core.proofs.lemmas.FitAll.{fits_small}
use Rattle.s80_compile.proofs.Related.{related}
use Rattle.s80_compile.proofs.Headed.{ready}
use Rattle.s80_compile.proofs.method.compile.Goals as goal

pub elaborate-requires-clause-declarations : goal.elaborate-requires-clause-declarations
elaborate-requires-clause-declarations c =
    omega (arith, declared (method_of c.args.tree.now), (fits_small (measures (method_of c.args.tree.now)) c.requires.fits).temporaries)

pub code_of-requires-clause-core : goal.code_of-requires-clause-core
code_of-requires-clause-core c =
    (ready (method_of c.args.tree.now) c.args.shape.now (core_of c.in_ok-core.core) c.in_ok-core.ensures c.requires.fits c.requires.in_order c.requires.sent c.requires.inst_vars).fits

pub known-requires : goal.known-requires
known-requires c =
    let is = ready (method_of c.args.tree.now) c.args.shape.now (core_of c.in_ok-core.core) c.in_ok-core.ensures c.requires.fits c.requires.in_order c.requires.sent c.requires.inst_vars in
    related (method_of c.args.tree.now) (core_of c.in_ok-core.core) c.args.owner.now c.args.side c.in_ok-code.code is.fits
    (fits_small (measures (method_of c.args.tree.now)) c.requires.fits).stack (fits_small (measures (method_of c.args.tree.now)) c.requires.fits).temporaries
    is.sent c.in_ok-code.ensures
