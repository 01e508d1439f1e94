use Rattle.std.proofs.Common.{rules}
use Rattle.std.proofs.lemmas.List.Sorted.{IsPartitionPoint-from_clause}
use Rattle.std.specs.Ordering.{is_lt}
use Rattle.s80_history.specs.Keys.{key_name}
use Rattle.s80_history.specs.Order.{name_cmp}
use Rattle.s80_history.proofs.Keying.{parted}
use Rattle.s80_history.proofs.keys.place.Goals as goal

pub returns-clause-point : goal.returns-clause-point
returns-clause-point c =
    IsPartitionPoint-from_clause (λ k. is_lt (name_cmp (key_name k) (key_name c.args.key.now))) c.args.keys.now c.partition_point.result c.partition_point.ensures.partitioned
    (parted c.args.keys.now (key_name c.args.key.now) c.requires)
    (λ a r g called. (search rules, search rules))
