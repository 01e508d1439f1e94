use Rattle.std.proofs.Common.{◌∙◌, ap}
use Rattle.s80_tree.specs.Tree.{method_of}
use Rattle.s80_scope.specs.Fit.{fit, measures}
use Rattle.s80_scope.proofs.Wholes.{told_is}
use Rattle.s80_scope.proofs.fit.fits.Goals as goal

pub returns-clause-told : goal.returns-clause-told
returns-clause-told c = λ told. c.fit.ensures ∙ ap fit (c.in_ok-measured.ensures ∙ told_is (measures (method_of c.args.tree.now)) told)
