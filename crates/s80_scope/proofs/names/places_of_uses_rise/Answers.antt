use Rattle.s80_scope.proofs.lemmas.Apart.{method_in_order, doit_in_order}
use Rattle.s80_scope.proofs.names.places_of_uses_rise.Goals as goal

pub returns : goal.returns
returns c = record { method = method_in_order; doit = doit_in_order }
