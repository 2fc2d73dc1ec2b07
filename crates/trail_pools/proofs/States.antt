-- What holds of a state before and after a gate.
use Rattle.std.proofs.Common.{ℕ, ◌+◌, ◌*◌, ◌≤◌, Bool, List, [], IsPermutation}
use Rattle.cell_num.specs.declared.finger.Row.{Row}
use Rattle.trail_state.specs.declared.edge.Edge.{Edge}
use Rattle.trail_state.specs.declared.edge.FingerEnds.{FingerEnds}
use Rattle.trail_state.proofs.Follows.{Follows}
use Rattle.trail_halves.specs.Halves.{AreBelow, links, place_ends}
use Rattle.trail_pools.specs.declared.level.OpenPlaces.{OpenPlaces}
use Rattle.trail_pools.specs.declared.state.PoolState.{PoolState}
use Rattle.trail_pools.proofs.Counted.{settled}
use Rattle.trail_pools.proofs.Held.{Held}
use Rattle.trail_pools.proofs.Tracks.{Tracks}
use Rattle.trail_state.specs.declared.edge.Node.{Node}

module _ (n : ℕ) (r : Row) (pool : ℕ → Bool) where
  -- the state of the edges and half edges so far
  pub record IsState (all last_edges : List Edge) (last_halves : List FingerEnds) (edges : List Edge)
      (halves : List FingerEnds) (left : OpenPlaces) (s : PoolState) : Type 0 where
    pub below : AreBelow n edges
    pub same : IsPermutation all (links n r pool edges halves)
    pub follows : Follows all [] left.places s.places
    pub tracked : Tracks n r pool edges halves left s
    pub held : Held (place_ends n r pool last_edges last_halves) all s.places

  -- the ends that are certain of the last edges and half edges
  abbrev pub certain : List Edge → List FingerEnds → List Edge → List Node → ℕ
  certain last_edges last_halves all nodes = settled (2 * n) (place_ends n r pool last_edges last_halves) all nodes

  -- a gate that is done
  pub record After (last_edges : List Edge) (last_halves : List FingerEnds) (all new_all new_edges : List Edge)
      (new_halves : List FingerEnds) (now next : OpenPlaces) (after : PoolState) (ends : ℕ) : Type 0 where
    pub state : IsState new_all last_edges last_halves new_edges new_halves next after
    pub counted : certain last_edges last_halves all now.places + ends
        ≤ certain last_edges last_halves new_all next.places
