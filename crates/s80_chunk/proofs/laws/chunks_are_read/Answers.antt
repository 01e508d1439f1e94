use Rattle.s80_chunk.proofs.Lines.{lines_reading}
use Rattle.s80_chunk.proofs.laws.chunks_are_read.Goals as goal

pub returns : goal.returns
returns c = λ texts h. lines_reading texts h
