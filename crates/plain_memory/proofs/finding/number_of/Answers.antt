use Rattle.std.proofs.{Common.{leb, rules}, lemmas.List.Sorted.{IsPartitionPoint-from_clause, IsPartitionedBy-leb}}
use Rattle.machine_types.specs.PlainMemory.{object_end}
use Rattle.plain_memory.proofs.ApartLaws.{ends_rise, only_one}
use Rattle.plain_memory.proofs.finding.number_of.Goals as goal

pub returns : goal.returns
returns c =
    let parted = IsPartitionedBy-leb (λ o. object_end o) c.args.objects.now c.args.place (ends_rise _ c.requires) in
    let point = IsPartitionPoint-from_clause (λ o. leb (object_end o) c.args.place) _ _ c.partition_point.ensures.partitioned parted (λ a r q k. search rules) in
    only_one _ _ _ c.requires point
