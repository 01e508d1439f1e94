use Rattle.std.proofs.Common.{ap, ◌∙◌}
use Rattle.std.specs.FinSet as set
use Rattle.s80_scope.proofs.KeySets.{one_key_more, still_counted}
use Rattle.s80_scope.proofs.fit.entries.Entries.add.Goals as goal

pub invariant_of-self-2 : goal.invariant_of-self-2
invariant_of-self-2 c = still_counted c.self.inside.keys c.insert.new.self c.args.key c.in_ok-insert.field-0 c.self.invariant c.in_ok-insert.ensures.keys c.in_ok-insert.ensures.added c.in_ok-insert.ensures.len

pub returns : goal.returns
returns c = one_key_more c.self.inside.keys c.insert.new.self c.args.key c.in_ok-insert.ensures.keys ∙ ap (λ s. set.insert s c.args.key.items) c.self.view_is
