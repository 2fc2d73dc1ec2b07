-- A net that some place names has a line.
use Rattle.std.proofs.Common.{ℕ, ◌≡◌, ◌<◌, ◌==◌, ◌||◌, true, List, inl, inr, subst, arith, Contains, length}
use Rattle.std.specs.List.{list_any}
use Rattle.std.proofs.lemmas.Bool.{cases_Bool}
use Rattle.std.proofs.lemmas.List.Elements.{Contains-append_left, Contains-append_right}
use Rattle.cell_num.specs.declared.net.NetNo.{NetNo}
use Rattle.cell_num.proofs.Pairs.{Some', test_finds}
use Rattle.row_model.proofs.Decide.{net_decides}
use Rattle.row_place.specs.declared.placement.NodePlace.{NodePlace}
use Rattle.row_place.specs.declared.placement.GatePlace.{GatePlace}
use Rattle.row_place.specs.declared.placement.Placement.{Placement}
use Rattle.row_place.specs.Trunks.{lines_of}
use Rattle.channel_route.proofs.NetWires.{line_kept}

some_line : (lines : List ℕ) (line : ℕ) → Contains lines line → 0 < length lines
some_line lines line (k, short, is) = omega (arith, short)

pub has_line : (p : Placement) (net : NetNo) → (list_any (λ (node : NodePlace). node.net.0 == net.0) p.nodes || list_any (λ (gate : GatePlace). gate.net.0 == net.0) p.gates) ≡ true → 0 < length (lines_of p net)
has_line p net e =
    elim (cases_Bool (list_any (λ (node : NodePlace). node.net.0 == net.0) p.nodes)) [
      | inl found ↦
          let s : Some' (λ (node : NodePlace). (node.net.0 == net.0) ≡ true) p.nodes = test_finds (λ (node : NodePlace). node.net.0 == net.0) p.nodes found in
          some_line (lines_of p net) s.it.line (subst (λ n. Contains (lines_of p n) s.it.line) ((net_decides s.it.net net).0 s.holds) (Contains-append_left _ _ s.it.line (line_kept (λ (z : NodePlace). z.net) (λ (z : NodePlace). z.line) p.nodes s.it s.there)))
      | inr none ↦
          let found : list_any (λ (gate : GatePlace). gate.net.0 == net.0) p.gates ≡ true = grind (arith, none, e) in
          let s : Some' (λ (gate : GatePlace). (gate.net.0 == net.0) ≡ true) p.gates = test_finds (λ (gate : GatePlace). gate.net.0 == net.0) p.gates found in
          some_line (lines_of p net) s.it.line (subst (λ n. Contains (lines_of p n) s.it.line) ((net_decides s.it.net net).0 s.holds) (Contains-append_right _ _ s.it.line (line_kept (λ (z : GatePlace). z.net) (λ (z : GatePlace). z.line) p.gates s.it s.there)))
    ]
