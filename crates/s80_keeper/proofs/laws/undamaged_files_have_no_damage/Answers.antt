use Rattle.s80_keeper.proofs.lemmas.Damages.{no_damage}
use Rattle.s80_keeper.proofs.laws.undamaged_files_have_no_damage.Goals as goal

pub returns : goal.returns
returns c = λ files keeper damage sound is.
    no_damage files (record { mark = sound.mark; begun = sound.begun; changes = sound.changes; reads = sound.reads; counted = sound.counted }) damage is
