use Rattle.s80_machine.proofs.SoundTurns.{start_sound, turn_sound}
use Rattle.s80_machine.proofs.laws.verified_code_is_never_stuck.Goals as goal

pub returns-clause-begins : goal.returns-clause-begins
returns-clause-begins c = λ t methods code budget setting. start_sound t methods code setting (λ n r arguments w. c.primitives_keep_known.ensures t n r arguments w setting.numbers) budget

pub returns-clause-goes_on : goal.returns-clause-goes_on
returns-clause-goes_on c = λ t methods code budget setting s h. turn_sound t methods code setting (λ n r arguments w. c.primitives_keep_known.ensures t n r arguments w setting.numbers) budget s h
