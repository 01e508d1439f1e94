use Rattle.std.proofs.Common.{◌≡◌, OnOk, subst}
use Rattle.s80_tree.specs.Tree.{body_of}
use Rattle.s80_scope.specs.FitLiterals.{body_entries}
use Rattle.s80_scope.specs.Walk.{with_entries}
use Rattle.s80_scope.proofs.Scopes.{declares_more}
use Rattle.s80_scope.proofs.fit.walk.home.Goals as goal

pub returns-clause-entries : goal.returns-clause-entries
returns-clause-entries c =
    subst (λ declared. OnOk c.body.result (c.body.new.entries ≡ with_entries c.args.entries.now (body_entries declared (body_of c.args.statements.now))))
    (declares_more _ _ _ _ _ c.within.ensures c.in_ok-temporaries.ensures (declares_more _ _ _ _ _ c.within-scope.ensures c.in_ok-parameters.ensures c.outside-outside.ensures))
    c.body.ensures.entries
