-- Places of two nets at one line.
use Rattle.std.proofs.Common.{ℕ, ◌≡◌, ◌≢◌, ◌⊎◌, ◌==◌, inl, inr, sym, ap, subst, arith, Contains, map, filter}
use Rattle.std.proofs.lemmas.List.Elements.{Contains-append_cases}
use Rattle.cell_num.specs.declared.net.NetNo.{NetNo}
use Rattle.cell_num.specs.declared.net.Pins.{Pins}
use Rattle.cell_num.specs.declared.finger.Row.{Row}
use Rattle.cell_num.specs.declared.finger.Row.TheVariants.{P, N}
use Rattle.cell_num.proofs.In.{Image, in_map}
use Rattle.row_model.proofs.Decide.{net_decides}
use Rattle.row_place.specs.declared.placement.NodePlace.{NodePlace}
use Rattle.row_place.specs.declared.placement.GatePlace.{GatePlace}
use Rattle.row_place.specs.declared.placement.Placement.{Placement}
use Rattle.row_place.specs.Places.{StandsBefore, IsPlacement}
use Rattle.row_place.specs.Trunks.{lines_of, HasTrunk}
use Rattle.row_place.proofs.Apart.{alternate}
use Rattle.channel_route.specs.Routing.{HasNoAbove}
use Rattle.channel_route.proofs.OneRouting.{either}
use Rattle.dogleg_route.specs.Pieces.{HasNode}
use Rattle.dogleg_route.proofs.Finds.{Found, filtered}

-- with nothing above anything two nets have no node places at one line
pub two_nodes : (p : Placement) (pins : Pins) → IsPlacement p → HasNoAbove p pins → (a b : NetNo) (line : ℕ) → HasTrunk p pins a → HasTrunk p pins b → a ≢ b → HasNode p a line → HasNode p b line → ⊥
two_nodes p pins is none a b line ta tb differ x y =
    elim (either StandsBefore p.nodes x.node y.node is.node_order x.there y.there) [
      | inl same ↦ differ (let e : x.node.net ≡ y.node.net = ap (λ (z : NodePlace). z.net) same in let f : x.node.net ≡ a = x.of in let g : y.node.net ≡ b = y.of in cc)
      | inr other ↦ elim other [ inl before ↦ over a b ta tb differ x y before | inr behind ↦ over b a tb ta (λ e. differ (sym e)) y x behind ]
    ]
  where
    at : (n : NetNo) (h : HasNode p n line) (row : Row) → h.node.row ≡ row → Contains p.nodes (record { row = row; line = line; net = n })
    at n h row e = subst (λ m. Contains p.nodes (record { row = row; line = line; net = m })) h.of (subst (λ k. Contains p.nodes (record { row = row; line = k; net = h.node.net })) h.at (subst (λ r. Contains p.nodes (record { row = r; line = h.node.line; net = h.node.net })) e h.there))

    over : (c d : NetNo) → HasTrunk p pins c → HasTrunk p pins d → c ≢ d → (u : HasNode p c line) (v : HasNode p d line) → StandsBefore u.node v.node → ⊥
    over c d tc td other u v (inl less) = omega (arith, less, u.at, v.at)
    over c d tc td other u v (inr (_, low, high)) = none d c line (record { p = at d v P high; n = at c u N low; differ = λ e. other (sym e); upper_trunk = td; lower_trunk = tc })

-- a place of a net is a node place, or stands at a line that has none
pub node_or_gate : (p : Placement) → IsPlacement p → (net : NetNo) (line : ℕ) → Contains (lines_of p net) line → HasNode p net line ⊎ ((other : NetNo) → HasNode p other line → ⊥)
node_or_gate p is net line there = elim (Contains-append_cases (map (λ (z : NodePlace). z.line) (filter (λ (z : NodePlace). z.net.0 == net.0) p.nodes)) (map (λ (z : GatePlace). z.line) (filter (λ (z : GatePlace). z.net.0 == net.0) p.gates)) line there) [
  | inl c ↦
      let i : Image (λ (z : NodePlace). z.line) (filter (λ (z : NodePlace). z.net.0 == net.0) p.nodes) line = in_map (λ (z : NodePlace). z.line) (filter (λ (z : NodePlace). z.net.0 == net.0) p.nodes) line c in
      let k : Found (λ (z : NodePlace). z.net.0 == net.0) p.nodes i.of = filtered (λ (z : NodePlace). z.net.0 == net.0) p.nodes i.of i.listed in
      inl (record { node = i.of; there = k.there; of = (net_decides i.of.net net).0 k.passes; at = i.is })
  | inr c ↦
      let i : Image (λ (z : GatePlace). z.line) (filter (λ (z : GatePlace). z.net.0 == net.0) p.gates) line = in_map (λ (z : GatePlace). z.line) (filter (λ (z : GatePlace). z.net.0 == net.0) p.gates) line c in
      let k : Found (λ (z : GatePlace). z.net.0 == net.0) p.gates i.of = filtered (λ (z : GatePlace). z.net.0 == net.0) p.gates i.of i.listed in
      inr (λ other h. alternate p.row h.node i.of ((is.nodes h.node).0 h.there) ((is.gates i.of).0 k.there) (omega (arith, h.at, i.is)))
]
