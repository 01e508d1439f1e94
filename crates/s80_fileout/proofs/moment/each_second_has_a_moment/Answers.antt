use Rattle.std.proofs.Common.{refl}
use Rattle.s80_fileout.specs.Moment.{civil_text}
use Rattle.s80_fileout.proofs.moment.each_second_has_a_moment.Goals as goal

pub returns : goal.returns
returns c = (civil_text c.civil.result, (c.civil.result, c.civil.ensures, refl))
