use Rattle.s80_syntax.proofs.Parameters.{name_found, name_missing}
use Rattle.s80_syntax.proofs.Patterns.{binary_missing, binary_done}
use Rattle.s80_syntax.proofs.pattern.binary_pattern.Goals as goal

pub returns-in_default : goal.returns-in_default
returns-in_default c = binary_missing _ _ _ (name_missing _ _ _ c.in_ok-name.ensures c.in_default.is) c.place_of.ensures

pub returns : goal.returns
returns c = binary_done _ _ _ _ _ _ _ _ (name_found _ _ _ _ c.in_ok-name.ensures c.in-Some.is) c.empty-parameters.ensures c.in_ok-push.ensures.ok c.in_ok-spelled.ensures
