use Rattle.std.proofs.Common.{◌∙◌, sym}
use Rattle.s80_scope.proofs.lemmas.Opens.{chain_last}
use Rattle.s80_scope.proofs.fit.ending.chain_ending.Goals as goal

pub returns-in-len2-up : goal.returns-in-len2-up
returns-in-len2-up c = c.message_ending-in-len2-up.ensures ∙ sym (chain_last c.args.to_super c.args.condition c.args.messages.now c.last-item.result c.in-len2-up.len_at_least c.last-item.is)
