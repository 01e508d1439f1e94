use Rattle.s80_scope.proofs.Innermost.{innermost}
use Rattle.s80_scope.proofs.names.the_innermost_declaration_is_meant.Goals as goal

pub returns : goal.returns
returns c = innermost
