use Rattle.s80_verify.proofs.lemmas.LawLemmas.{fits_there}
use Rattle.s80_verify.proofs.laws.what_is_reached_fits.Goals as goal

pub returns : goal.returns
returns c = λ code h at stack depth reached. fits_there code h at stack depth reached
