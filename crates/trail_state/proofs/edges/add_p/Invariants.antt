use Rattle.std.proofs.Common.{◌≡◌, ◌++◌, map, take}
use Rattle.trail_state.specs.Edges.{edge_of}
use Rattle.trail_state.proofs.edges.add_p.Given as goal

abbrev pub invariant-loop-right : goal.invariant-loop-right
invariant-loop-right l = l.all.items ≡ l.fn.all.items ++ map (λ right. edge_of l.x.lo l.left l.x.hi right) (take l.right-index l.nets)
