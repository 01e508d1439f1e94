use Rattle.std.proofs.Common.{rules}
use Rattle.s80_keeper.proofs.Spells.{spells_none}
use Rattle.s80_keeper.proofs.unspell.unspelled.Goals as goal

pub returns-in-33-2 : goal.returns-in-33-2
returns-in-33-2 c = spells_none c.args.bytes.now c.bytes.text c.bytes.rest.now c.bytes.invariant (search rules) (λ long. search rules)
