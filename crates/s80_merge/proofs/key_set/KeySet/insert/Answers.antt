use Rattle.std.proofs.Common.{◌∙◌, ap, cond, true}
use Rattle.s80_merge.specs.Order.{has, same_key}
use Rattle.s80_merge.proofs.KeySets.{key_put}
use Rattle.s80_merge.proofs.key_set.KeySet.insert.Goals as goal

pub returns : goal.returns
returns c = λ other.
    key_put other c.args.key (has other c.args.self.now) (has other c.insert.new.self.keys)
    (c.in_ok-insert.ensures.updates.0 other ∙ ap (λ keys. cond (same_key c.args.key other) true (has other keys)) c.self.view_is)
