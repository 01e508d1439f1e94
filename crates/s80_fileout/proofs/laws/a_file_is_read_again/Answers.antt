use Rattle.s80_fileout.proofs.HeaderRead.{file_read}
use Rattle.s80_fileout.proofs.laws.a_file_is_read_again.Goals as goal

pub returns : goal.returns
returns c = file_read
