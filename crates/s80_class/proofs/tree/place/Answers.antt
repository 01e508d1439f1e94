use Rattle.std.proofs.Common.{rules}
use Rattle.std.proofs.lemmas.List.Sorted.{IsPartitionPoint-from_clause}
use Rattle.s80_class.specs.Kept.{names_of}
use Rattle.s80_class.proofs.Keeping.{placed, parted, sought}
use Rattle.s80_class.proofs.tree.place.Goals as goal

pub returns : goal.returns
returns c =
    let names = names_of c.args.entries.now in
    let order = c.args.order.now in
    let name = c.args.name.now in
    placed names order name c.partition_point.result c.partition_point.ensures.bound
    (IsPartitionPoint-from_clause (sought names order name) order c.partition_point.result c.partition_point.ensures.partitioned (parted names order name c.requires)
    (λ a r g called. (search rules, search rules)))
