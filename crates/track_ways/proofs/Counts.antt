-- How many places a net has, by the lines of a placement.
use Rattle.std.proofs.Common.{ℕ, suc, ◌≡◌, ◌+◌, ◌++◌, ◌==◌, Bool, cond, List, [], ◌∷◌, Option, Some, None, map, filter, length, refl, sym, subst, arith, count_by, length-append}
use Rattle.std.proofs.lemmas.List.{length-map}
use Rattle.std.proofs.lemmas.List.Sums.{length-filter, sum_by-append}
use Rattle.cell_num.specs.declared.net.NetNo.{NetNo}
use Rattle.cell_num.specs.declared.finger.Row.{Row}
use Rattle.cell_num.specs.declared.finger.Row.TheVariants.{P, N}
use Rattle.cell_num.proofs.Permutations.{count_cons}
use Rattle.row_place.specs.declared.placement.NodePlace.{NodePlace}
use Rattle.row_place.specs.declared.placement.GatePlace.{GatePlace}
use Rattle.row_place.specs.declared.placement.Placement.{Placement}
use Rattle.row_place.specs.Trunks.{lines_of}
use Rattle.track_ways.specs.declared.line.Line.{Line}
use Rattle.track_ways.specs.Lines.{is_net}
use Rattle.track_ways.specs.Channel.{node_of, nodes_from, gate_of, gates_from, AreLinesOf}
use Rattle.track_ways.proofs.Places.{the_gate, the_node}

-- how many places a net has at a line, and at lines
abbrev pub one_if : Bool → ℕ
one_if b = cond b 1 0

abbrev pub places : Line → NetNo → ℕ
places line net = one_if (is_net line.n net) + one_if (is_net line.p net) + one_if (is_net line.gate net)

abbrev pub all_places : List Line → NetNo → ℕ
all_places [] net = 0
all_places (line ∷ lines) net = places line net + all_places lines net

abbrev node_places : List Line → NetNo → ℕ
node_places [] net = 0
node_places (line ∷ lines) net = one_if (is_net line.n net) + one_if (is_net line.p net) + node_places lines net

abbrev gate_places : List Line → NetNo → ℕ
gate_places [] net = 0
gate_places (line ∷ lines) net = one_if (is_net line.gate net) + gate_places lines net

both_places : (lines : List Line) (net : NetNo) → all_places lines net ≡ node_places lines net + gate_places lines net
both_places [] net = refl
both_places (line ∷ lines) net = omega (arith, both_places lines net)

count_node : (row : Row) (k : ℕ) (o : Option NetNo) (net : NetNo) → count_by (λ (z : NodePlace). z.net.0 == net.0) (node_of row k o) ≡ one_if (is_net o net)
count_node row k None net = refl
count_node row k (Some x) net = omega (arith, count_cons (λ (z : NodePlace). z.net.0 == net.0) (the_node row k x) [])

count_nodes : (k : ℕ) (lines : List Line) (net : NetNo) → count_by (λ (z : NodePlace). z.net.0 == net.0) (nodes_from k lines) ≡ node_places lines net
count_nodes k [] net = refl
count_nodes k (line ∷ lines) net =
    omega (
      arith,
      count_node N k line.n net,
      count_node P k line.p net,
      count_nodes (suc k) lines net,
      sum_by-append (λ (z : NodePlace). cond (z.net.0 == net.0) 1 0) (node_of N k line.n) (node_of P k line.p ++ nodes_from (suc k) lines),
      sum_by-append (λ (z : NodePlace). cond (z.net.0 == net.0) 1 0) (node_of P k line.p) (nodes_from (suc k) lines),
    )

count_gate : (k : ℕ) (o : Option NetNo) (net : NetNo) → count_by (λ (z : GatePlace). z.net.0 == net.0) (gate_of k o) ≡ one_if (is_net o net)
count_gate k None net = refl
count_gate k (Some x) net = omega (arith, count_cons (λ (z : GatePlace). z.net.0 == net.0) (the_gate k x) [])

count_gates : (k : ℕ) (lines : List Line) (net : NetNo) → count_by (λ (z : GatePlace). z.net.0 == net.0) (gates_from k lines) ≡ gate_places lines net
count_gates k [] net = refl
count_gates k (line ∷ lines) net =
    omega (
      arith,
      count_gate k line.gate net,
      count_gates (suc k) lines net,
      sum_by-append (λ (z : GatePlace). cond (z.net.0 == net.0) 1 0) (gate_of k line.gate) (gates_from (suc k) lines),
    )

pub count_is : (p : Placement) (lines : List Line) → AreLinesOf p lines → (net : NetNo) → length (lines_of p net) ≡ all_places lines net
count_is p lines h net =
    let nodes : count_by (λ (z : NodePlace). z.net.0 == net.0) p.nodes ≡ node_places lines net = subst (λ ns. count_by (λ (z : NodePlace). z.net.0 == net.0) ns ≡ node_places lines net) (sym h.nodes) (count_nodes 0 lines net) in
    let gates : count_by (λ (z : GatePlace). z.net.0 == net.0) p.gates ≡ gate_places lines net = subst (λ ns. count_by (λ (z : GatePlace). z.net.0 == net.0) ns ≡ gate_places lines net) (sym h.gates) (count_gates 0 lines net) in
    omega (
      arith,
      nodes,
      gates,
      both_places lines net,
      length-append (map (λ (z : NodePlace). z.line) (filter (λ (z : NodePlace). z.net.0 == net.0) p.nodes)) (map (λ (z : GatePlace). z.line) (filter (λ (z : GatePlace). z.net.0 == net.0) p.gates)),
      length-map (filter (λ (z : NodePlace). z.net.0 == net.0) p.nodes) (λ (z : NodePlace). z.line),
      length-filter (λ (z : NodePlace). z.net.0 == net.0) p.nodes,
      length-map (filter (λ (z : GatePlace). z.net.0 == net.0) p.gates) (λ (z : GatePlace). z.line),
      length-filter (λ (z : GatePlace). z.net.0 == net.0) p.gates,
    )
