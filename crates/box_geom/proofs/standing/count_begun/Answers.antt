use Rattle.std.proofs.Common.{rules}
use Rattle.std.proofs.lemmas.List.Sorted.{IsPartitionPoint-from_clause}
use Rattle.box_geom.proofs.Rising.{begins_by, parted}
use Rattle.box_geom.proofs.standing.count_begun.Goals as goal

pub returns-clause-parts : goal.returns-clause-parts
returns-clause-parts c = IsPartitionPoint-from_clause (begins_by c.args.y) c.args.blocks.now _ c.partition_point.ensures.partitioned (parted c.args.y c.args.blocks.now c.requires) (λ a r g h. search rules)
