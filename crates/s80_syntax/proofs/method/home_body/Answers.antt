use Rattle.std.proofs.Common.{subst, ◌∷◌, []}
use Rattle.s80_tree.specs.Tree.{body_of}
use Rattle.s80_syntax.specs.Grammar.{IsBody}
use Rattle.s80_syntax.specs.Stack.{body as body_symbol}
use Rattle.s80_syntax.specs.Reads.{Parses}
use Rattle.s80_syntax.proofs.FoundNames.{at_home}
use Rattle.s80_syntax.proofs.method.home_body.Goals as goal

pub returns : goal.returns
returns c = subst (λ names. Parses c.args.text.now 0 names (body_symbol ∷ []) (λ found. IsBody (body_of found)) c.args.tokens.now c.body.result) (at_home _ _ _ _ _ c.home-scope.ensures c.in_ok-parameters.ensures c.in_ok-temporaries.ensures) c.body.ensures
