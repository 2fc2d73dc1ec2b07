-- Tests of whether edges, fingers' nets and parts are equal decide it.
use Rattle.std.proofs.Common.{ℕ, ◌≡◌, ◌==◌, Bool, true, false, List, refl, sym, ap, ◌∙◌}
use Rattle.std.specs.Bool.{Decides}
use Rattle.std.specs.Cmp.{IsEquivalence, IsPartialEquivalence, partial_equiv_from_equiv}
use Rattle.std.specs.Cmp.Lexicographic.{pointwise, pointwise_decides}
use Rattle.std.proofs.lemmas.Bool.{and_from, and_parts, eq-eqb, eqb-true}
use Rattle.trail_state.specs.declared.edge.Edge.{Edge}
use Rattle.trail_state.specs.declared.edge.FingerEnds.{FingerEnds}
use Rattle.trail_state.specs.declared.edge.Node.{Node}
use Rattle.trail_state.specs.declared.front.Part.{Part}
use Rattle.trail_state.specs.Fronts.{is_same, same_edge, same_nets}

node_same : (a b : Node) → (a.0 == b.0) ≡ true → a ≡ b
node_same a b e = ap (λ (v : ℕ). let n : Node = record { 0 = v } in n) (eqb-true a.0 b.0 e)

edge : Node → Node → Edge
edge a b = record { a = a; b = b }

edge_same : (d e : Edge) → same_edge d e ≡ true → d ≡ e
unfolding edge
edge_same d e h =
    let parts : ((d.a.0 == e.a.0) ≡ true) × ((d.b.0 == e.b.0) ≡ true) = and_parts (d.a.0 == e.a.0) (d.b.0 == e.b.0) h in
    let whole : edge d.a d.b ≡ edge e.a e.b =
    ap (λ v. edge v d.b) (node_same d.a e.a parts.0) ∙ ap (λ v. edge e.a v) (node_same d.b e.b parts.1) in
    whole

pub edge_decides : (d e : Edge) → Decides (same_edge d e) (d ≡ e)
edge_decides d e = (
  edge_same d e,
  λ same. and_from (d.a.0 == e.a.0) (d.b.0 == e.b.0)
      (eq-eqb d.a.0 e.a.0 (ap (λ (x : Edge). x.a.0) same)) (eq-eqb d.b.0 e.b.0 (ap (λ (x : Edge). x.b.0) same)),
)

nets : ℕ → ℕ → FingerEnds
nets a b = record { lo = a; hi = b }

pub nets_same : (x y : FingerEnds) → same_nets x y ≡ true → x ≡ y
unfolding nets
nets_same x y h =
    let parts : ((x.lo == y.lo) ≡ true) × ((x.hi == y.hi) ≡ true) = and_parts (x.lo == y.lo) (x.hi == y.hi) h in
    let whole : nets x.lo x.hi ≡ nets y.lo y.hi =
    ap (λ v. nets v x.hi) (eqb-true x.lo y.lo parts.0) ∙ ap (λ v. nets y.lo v) (eqb-true x.hi y.hi parts.1) in
    whole

pub nets_decides : (x y : FingerEnds) → Decides (same_nets x y) (x ≡ y)
nets_decides x y = (
  nets_same x y,
  λ same. and_from (x.lo == y.lo) (x.hi == y.hi)
      (eq-eqb x.lo y.lo (ap (λ (z : FingerEnds). z.lo) same)) (eq-eqb x.hi y.hi (ap (λ (z : FingerEnds). z.hi) same)),
)

part_of : List Edge → List FingerEnds → Part
part_of edges left = record { edges = edges; left = left }

pub part_same : (p q : Part) → is_same p q ≡ true → p ≡ q
unfolding part_of
part_same p q h =
    let parts : (pointwise same_edge p.edges q.edges ≡ true) × (pointwise same_nets p.left q.left ≡ true) =
    and_parts (pointwise same_edge p.edges q.edges) (pointwise same_nets p.left q.left) h in
    let whole : part_of p.edges p.left ≡ part_of q.edges q.left =
    ap (λ v. part_of v p.left) ((pointwise_decides edge_decides p.edges q.edges).0 parts.0)
    ∙ ap (λ v. part_of q.edges v) ((pointwise_decides nets_decides p.left q.left).0 parts.1) in
    whole

pub part_decides : (p q : Part) → Decides (is_same p q) (p ≡ q)
part_decides p q =
    let edges : Decides (pointwise same_edge p.edges q.edges) (p.edges ≡ q.edges) =
    pointwise_decides edge_decides p.edges q.edges in
    let left : Decides (pointwise same_nets p.left q.left) (p.left ≡ q.left) =
    pointwise_decides nets_decides p.left q.left in (
      part_same p q,
      λ same. and_from (pointwise same_edge p.edges q.edges) (pointwise same_nets p.left q.left)
          (edges.1 (ap (λ (x : Part). x.edges) same)) (left.1 (ap (λ (x : Part). x.left) same)),
    )

is_same_back : (p q : Part) → is_same p q ≡ true → is_same q p ≡ true
is_same_back p q h = (part_decides q p).1 (sym (part_same p q h))

either_way : (b c : Bool) → (b ≡ true → c ≡ true) → (c ≡ true → b ≡ true) → b ≡ c
either_way true c f g = sym (f refl)
either_way false true f g = g refl
either_way false false f g = refl

pub parts_equiv : IsEquivalence is_same
parts_equiv = record {
  refl = λ p. (part_decides p p).1 refl;
  symm = λ p q. either_way (is_same p q) (is_same q p) (is_same_back p q) (is_same_back q p);
  congr = λ p q r h. ap (λ (x : Part). is_same x r) (part_same p q h);
}

pub parts_per : IsPartialEquivalence is_same
parts_per = partial_equiv_from_equiv parts_equiv
