use Rattle.s80_dict.proofs.SlotLemmas.{sound_empty}
use Rattle.s80_dict.proofs.dict.MethodDict.empty.Goals as goal

pub invariant_of-result : goal.invariant_of-result
invariant_of-result g c = sound_empty c.new.result.entries c.new.ensures.empty
