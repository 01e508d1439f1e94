use Rattle.s80_compile.proofs.Related.{related}
use Rattle.s80_compile.proofs.agreement.related_code_is_verified.Goals as goal

pub returns : goal.returns
returns c = related
