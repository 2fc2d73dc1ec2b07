-- Whether two choices are equal is decided edge by edge.
use Rattle.std.proofs.Common.{◌≡◌, Bool, true, List, ap}
use Rattle.std.specs.Bool.{Decides}
use Rattle.std.specs.Cmp.Lexicographic.{pointwise_decides}
use Rattle.trail_state.specs.declared.edge.Edge.{Edge}
use Rattle.trail_state.specs.Same.{edge_decides}
use Rattle.open_gates.specs.declared.choices.Way.{Way}
use Rattle.open_gates.specs.Merged.{same_choice}

pub choice_decides : (c d : List Edge) → Decides (same_choice c d) (c ≡ d)
choice_decides c d = pointwise_decides edge_decides c d

abbrev pub same_way : Way → Way → Bool
same_way v w = same_choice v.edges w.edges

way_of : List Edge → Way
way_of edges = record { edges = edges }

way_same : (v w : Way) → same_way v w ≡ true → v ≡ w
unfolding way_of
way_same v w h =
    let whole : way_of v.edges ≡ way_of w.edges = ap way_of ((choice_decides v.edges w.edges).0 h) in
    whole

pub way_decides : (v w : Way) → Decides (same_way v w) (v ≡ w)
way_decides v w = (way_same v w, λ same. (choice_decides v.edges w.edges).1 (ap (λ (u : Way). u.edges) same))
