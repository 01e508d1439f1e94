use Rattle.s80_syntax.proofs.Literals.{simple_name, token_some}
use Rattle.s80_syntax.proofs.literal.simple_element.Goals as goal

pub returns-in_ok-name_literal-in-Name : goal.returns-in_ok-name_literal-in-Name
returns-in_ok-name_literal-in-Name c = simple_name _ _ _ _ _ c.requires c.in-Some-next.ensures c.in-Name.is c.in_ok-name_literal-in-Name.ensures

pub returns-in-Some-2 : goal.returns-in-Some-2
returns-in-Some-2 c = token_some _ _ _ _ _ _ c.requires c.in-Some-next.ensures c.in_ok-literal-in_default-kind.ensures c.in-Some-2.is
