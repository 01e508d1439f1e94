use Rattle.s80_scope.proofs.lemmas.Apart.{used_once}
use Rattle.s80_scope.proofs.names.a_use_has_its_place_alone.Goals as goal

pub returns : goal.returns
returns c = used_once
