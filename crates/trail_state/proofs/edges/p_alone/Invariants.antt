use Rattle.std.proofs.Common.{◌≡◌, map, take}
use Rattle.std.specs.List.{flat_map}
use Rattle.trail_state.specs.Edges.{edge_of}
use Rattle.trail_state.proofs.edges.p_alone.Given as goal

abbrev pub invariant-loop-left : goal.invariant-loop-left
invariant-loop-left l = l.all.items ≡ flat_map (λ left. map (λ right. edge_of l.x.lo left l.x.hi right) l.nets) (take l.left-index l.nets)
