use Rattle.s80_prims.proofs.KeptKnown.{primitive_keeps}
use Rattle.s80_prims.proofs.laws.primitives_keep_known.Goals as goal

pub returns : goal.returns
returns c = primitive_keeps
