use Rattle.std.proofs.Common.{rules}
use Rattle.std.proofs.lemmas.List.Sorted.{IsPartitionPoint-from_clause}
use Rattle.s80_class.proofs.Pairs.{sought, parted, placed}
use Rattle.s80_class.proofs.below.place_below.Goals as goal

pub returns : goal.returns
returns c =
    let pairs = c.args.pairs.now in
    let pair = c.args.pair in
    placed pairs pair c.partition_point.result c.partition_point.ensures.bound
    (IsPartitionPoint-from_clause (sought pairs pair) pairs c.partition_point.result c.partition_point.ensures.partitioned (parted pairs pair c.requires)
    (λ a r g called. (search rules, search rules)))
