use Rattle.std.proofs.Common.{rules}
use Rattle.std.proofs.lemmas.List.Sorted.{IsPartitionPoint-from_clause}
use Rattle.std.specs.Cmp.Lexicographic.{slice_cmp}
use Rattle.std.specs.Ordering.{is_lt, nat_cmp}
use Rattle.s80_snapshot.proofs.ClassPlaces.{parted}
use Rattle.s80_snapshot.proofs.ranks.lower_bound.Goals as goal

pub returns-clause-point : goal.returns-clause-point
returns-clause-point c =
    IsPartitionPoint-from_clause (λ k. is_lt (slice_cmp nat_cmp k.heading.name c.args.name.now)) c.args.classes.now c.partition_point.result c.partition_point.ensures.partitioned
    (parted c.args.classes.now c.args.name.now c.requires)
    (λ a r g called. (search rules, search rules))
