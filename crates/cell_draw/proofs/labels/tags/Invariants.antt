use Rattle.std.proofs.Common.{◌≡◌, filter_map}
use Rattle.std.specs.List.{range_with_len}
use Rattle.cell_draw.specs.Layouts.{tag_of, net_no}
use Rattle.cell_draw.proofs.labels.tags.Given as goal

abbrev pub invariant-loop-net : goal.invariant-loop-net
invariant-loop-net l = l.tags ≡ filter_map (λ n. tag_of l.pins l.frame l.nodes l.trunks l.xs l.gates (net_no n)) (range_with_len 0 l.net)
