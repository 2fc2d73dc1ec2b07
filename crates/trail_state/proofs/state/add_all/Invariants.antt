use Rattle.std.proofs.Common.{◌≡◌, fold, take}
use Rattle.trail_state.specs.Places.{met_places, with_edge}
use Rattle.trail_state.proofs.state.add_all.Given as goal

abbrev pub invariant-loop-edge : goal.invariant-loop-edge
invariant-loop-edge l = l.all.items ≡ fold with_edge (met_places l.nodes l.places l.edges) (take l.edge-index l.edges)
