-- Graphs some of whose edges are known in one row alone, and the ends that they have, whatever is in the other row.
use Rattle.std.specs.Prelude.{ℕ, ◌≡◌, ◌+◌, ◌-◌, ◌*◌, ◌%◌, ◌<◌, ◌==◌, ◌&&◌, ◌⊎◌, Bool, true, not, if◌then◌else◌}
use Rattle.std.specs.Prelude.{leb, ltb, List, ◌++◌, map, sum_by, All}
use Rattle.std.specs.List.{AllZip}
use Rattle.cell_num.specs.declared.finger.Row.{Row}
use Rattle.cell_num.specs.Fingers.{sum_below}
use Rattle.row_trails.specs.Trails.{size}
use Rattle.trail_state.specs.declared.edge.Edge.{Edge}
use Rattle.trail_state.specs.declared.edge.FingerEnds.{FingerEnds}
use Rattle.trail_state.specs.Places.{node_at}
use Rattle.open_gates.specs.Merged.{net_in}
use Rattle.trail_check.specs.Graph.{class_of, has_edge, is_odd}

-- the nets of the row at the two ends of an edge
abbrev pub HasNets : Row → Edge → ℕ → ℕ → Type 0
HasNets r e a b = (net_in r e.a.0 ≡ a) × (net_in r e.b.0 ≡ b)

-- A half edge is the nets at the ends of a finger of the row. An edge between two nodes with these nets fills it,
-- whatever their nets in the other row are.
abbrev pub Fills : Row → FingerEnds → Edge → Type 0
Fills r half e = HasNets r e half.lo half.hi ⊎ HasNets r e half.hi half.lo

-- each half edge by one edge
abbrev pub AreFilled : Row → List FingerEnds → List Edge → Type 0
AreFilled r halves filled = AllZip (λ (half : FingerEnds) (e : Edge). Fills r half e) halves filled

-- The nodes of one net are a pool where that net may be at the end of a half edge: it ends at one of them.
abbrev pub HavePools : (ℕ → Bool) → List FingerEnds → Type 0
HavePools pool halves = All (λ (half : FingerEnds). (pool half.lo ≡ true) × (pool half.hi ≡ true)) halves

-- the nodes of edges are below n
abbrev pub AreBelow : ℕ → List Edge → Type 0
AreBelow n es = All (λ (e : Edge). (e.a.0 < n) × (e.b.0 < n)) es

-- Places: a node below n in no pool is a place with its number, and a pool one with the number of its net after them.
abbrev pub place_of : ℕ → Row → (ℕ → Bool) → ℕ → ℕ
place_of n r pool v = if pool (net_in r v) then n + net_in r v else v

abbrev pub edge_placed : ℕ → Row → (ℕ → Bool) → Edge → Edge
edge_placed n r pool e = record { a = node_at (place_of n r pool e.a.0); b = node_at (place_of n r pool e.b.0) }

abbrev pub half_placed : ℕ → FingerEnds → Edge
half_placed n half = record { a = node_at (n + half.lo); b = node_at (n + half.hi) }

-- edges and half edges, as edges between places
abbrev pub links : ℕ → Row → (ℕ → Bool) → List Edge → List FingerEnds → List Edge
links n r pool edges halves = map (edge_placed n r pool) edges ++ map (half_placed n) halves

-- how many nodes of the net are odd by the edges
abbrev pub waiting : ℕ → Row → List Edge → ℕ → ℕ
waiting n r edges net = size n (λ v. (net_in r v == net) && is_odd edges v)

-- how many ends of half edges have the net
abbrev pub free : List FingerEnds → ℕ → ℕ
free halves net =
    sum_by (λ (half : FingerEnds). (if half.lo == net then 1 else 0) + (if half.hi == net then 1 else 0)) halves

-- So many of a pool's nodes stay odd at least: a free end turns one of them, from odd to even or from even to odd.
abbrev pub short : ℕ → ℕ → ℕ
short odd ends = if leb ends odd then odd - ends else (ends - odd) % 2

abbrev pub node_ends : Row → (ℕ → Bool) → List Edge → ℕ → ℕ
node_ends r pool edges v = if not (pool (net_in r v)) && is_odd edges v then 1 else 0

abbrev pub pool_ends : ℕ → Row → (ℕ → Bool) → List Edge → List FingerEnds → ℕ → ℕ
pool_ends n r pool edges halves net = if pool net then short (waiting n r edges net) (free halves net) else 0

abbrev pub place_ends : ℕ → Row → (ℕ → Bool) → List Edge → List FingerEnds → ℕ → ℕ
place_ends n r pool edges halves p =
    if ltb p n then node_ends r pool edges p else pool_ends n r pool edges halves (p - n)

-- a class of places with an edge or a half edge, none of which has an end
abbrev pub is_even_class : ℕ → Row → (ℕ → Bool) → List Edge → List FingerEnds → ℕ → Bool
is_even_class n r pool edges halves h =
    has_edge (links n r pool edges halves) h
    && (size (2 * n) (λ p. (class_of (links n r pool edges halves) p == h)
    && not (place_ends n r pool edges halves p == 0)) == 0)

-- The ends of trails that are counted with open half edges: those of all places, and two of each class without any,
-- since a trail through it ends where it begins, or some of its nodes are odd after all.
unfoldable pub half_ends : ℕ → Row → (ℕ → Bool) → List Edge → List FingerEnds → ℕ
half_ends n r pool edges halves =
    sum_below (place_ends n r pool edges halves) (2 * n) + 2 * size (2 * n) (is_even_class n r pool edges halves)
