use Rattle.s80_chunk.proofs.Stopping.{given_first}
use Rattle.s80_chunk.proofs.laws.given_come_first.Goals as goal

pub returns : goal.returns
returns c = λ held bytes more given all rest h e r. given_first held bytes more given all rest e h r
