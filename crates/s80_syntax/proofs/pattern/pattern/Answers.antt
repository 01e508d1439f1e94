use Rattle.s80_syntax.proofs.Patterns.{unary_pattern, pattern_end, pattern_refused, pattern_binary}
use Rattle.s80_syntax.proofs.pattern.pattern.Goals as goal

pub returns-in_default : goal.returns-in_default
returns-in_default c = pattern_end _ _ _ c.in_default.ensures c.place_of.ensures

pub returns-in_ok-selector-in-Name : goal.returns-in_ok-selector-in-Name
returns-in_ok-selector-in-Name c = unary_pattern _ _ _ _ _ c.in-Some.token c.requires.slices c.in-Some.ensures c.in-Name.is c.in_ok-selector-in-Name.ensures c.empty.ensures

pub returns-in-Binary : goal.returns-in-Binary
returns-in-Binary c = pattern_binary _ _ _ c.in-Some.token _ c.in-Some.ensures c.in-Binary.is c.binary_pattern.ensures

pub returns-in_default-kind : goal.returns-in_default-kind
returns-in_default-kind c = pattern_refused _ _ _ c.in-Some.token _ c.in-Some.ensures c.in_default-kind.not-Name c.in_default-kind.not-Binary c.in_default-kind.not-Keyword c.place_of-in_default-kind.ensures
