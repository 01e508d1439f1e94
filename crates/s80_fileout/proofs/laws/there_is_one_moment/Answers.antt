use Rattle.s80_fileout.proofs.OneMoment.{one_file, one_moment}
use Rattle.s80_fileout.proofs.laws.there_is_one_moment.Goals as goal

pub returns-clause-moment : goal.returns-clause-moment
returns-clause-moment c = one_moment

pub returns-clause-file : goal.returns-clause-file
returns-clause-file c = one_file
