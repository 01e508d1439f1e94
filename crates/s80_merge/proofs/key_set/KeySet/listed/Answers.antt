use Rattle.std.proofs.Common.{◌≡◌, ◌∙◌, ◌++◌, map, sym, ap, subst, append-nil}
use Rattle.std.specs.List.Sorted.{IsStrictlySortedBy}
use Rattle.std.specs.Map.Iter.{deref}
use Rattle.std.proofs.lemmas.Map.Iter.{rest_so_far}
use Rattle.s80_merge.specs.Order.{key_cmp}
use Rattle.s80_merge.proofs.KeySets.{one_listed}
use Rattle.s80_merge.proofs.key_set.KeySet.listed.Goals as goal
use Rattle.s80_merge.proofs.key_set.KeySet.listed.Goals.{In-None}

pub loop-key-preserved : goal.loop-key-preserved
loop-key-preserved c = one_listed c.loop-key.yielded c.in-Some.key c.loop-key.keys c.push.new.self c.in_ok-copy.field-0 c.loop-key.invariant c.in_ok-push.ensures c.in_ok-copy.ensures

all_keys : (c : In-None) → c.loop-key.keys ≡ c.self.inside.items.keys
all_keys c =
    let all =
    sym (append-nil (map deref c.loop-key.yielded)) ∙ ap (λ rest. map deref c.loop-key.yielded ++ rest) (sym c.in-None.ensures.steps.0)
    ∙ sym (rest_so_far deref c.loop-key.yielded c.into_iter-key-iterator.result c.loop-key.key-iterator c.loop-key.yielded_by)
    ∙ c.into_iter-key-iterator.ensures.into_iter_gives.0 in
    c.loop-key.invariant ∙ all

pub returns-clause-same : goal.returns-clause-same
returns-clause-same c = all_keys c ∙ c.self.view_is

pub returns-clause-ascending : goal.returns-clause-ascending
returns-clause-ascending c = subst (IsStrictlySortedBy key_cmp) (sym (all_keys c)) c.into_iter-key-iterator.ensures.into_iter_gives.4
