-- The test of whether choices are equal decides it.
use Rattle.std.proofs.Common.{◌≡◌, ◌&&◌, Bool, true, List, ap, ◌∙◌}
use Rattle.std.specs.Bool.{Decides}
use Rattle.std.specs.Cmp.Lexicographic.{pointwise, pointwise_decides}
use Rattle.std.proofs.lemmas.Bool.{and_from, and_parts}
use Rattle.trail_state.specs.declared.edge.Edge.{Edge}
use Rattle.trail_state.specs.declared.edge.FingerEnds.{FingerEnds}
use Rattle.trail_state.specs.Fronts.{same_edge, same_nets}
use Rattle.trail_state.specs.Same.{edge_decides, nets_decides}
use Rattle.trail_halves.specs.declared.choice.OpenChoice.{OpenChoice}

abbrev pub is_same : OpenChoice → OpenChoice → Bool
is_same c d = pointwise same_edge c.edges d.edges && pointwise same_nets c.halves d.halves

choice_of : List Edge → List FingerEnds → OpenChoice
choice_of edges halves = record { edges = edges; halves = halves }

choice_same : (c d : OpenChoice) → is_same c d ≡ true → c ≡ d
unfolding choice_of
choice_same c d h =
    let parts : (pointwise same_edge c.edges d.edges ≡ true) × (pointwise same_nets c.halves d.halves ≡ true) =
    and_parts (pointwise same_edge c.edges d.edges) (pointwise same_nets c.halves d.halves) h in
    let whole : choice_of c.edges c.halves ≡ choice_of d.edges d.halves =
    ap (λ v. choice_of v c.halves) ((pointwise_decides edge_decides c.edges d.edges).0 parts.0)
    ∙ ap (λ v. choice_of d.edges v) ((pointwise_decides nets_decides c.halves d.halves).0 parts.1) in
    whole

pub choice_decides : (c d : OpenChoice) → Decides (is_same c d) (c ≡ d)
choice_decides c d =
    let edges : Decides (pointwise same_edge c.edges d.edges) (c.edges ≡ d.edges) =
    pointwise_decides edge_decides c.edges d.edges in
    let halves : Decides (pointwise same_nets c.halves d.halves) (c.halves ≡ d.halves) =
    pointwise_decides nets_decides c.halves d.halves in (
      choice_same c d,
      λ same. and_from (pointwise same_edge c.edges d.edges) (pointwise same_nets c.halves d.halves)
          (edges.1 (ap (λ (x : OpenChoice). x.edges) same)) (halves.1 (ap (λ (x : OpenChoice). x.halves) same)),
    )
