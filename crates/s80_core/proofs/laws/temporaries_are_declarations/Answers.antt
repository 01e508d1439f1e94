use Rattle.s80_core.proofs.Declared.{declared}
use Rattle.s80_core.proofs.laws.temporaries_are_declarations.Goals as goal

pub returns : goal.returns
returns c = declared
