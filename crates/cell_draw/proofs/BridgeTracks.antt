-- What a wiring on allowed lines gives: the trunks of nets, their tracks and their lines.
use Rattle.std.proofs.Common.{ℕ, ◌≡◌, ◌≢◌, ◌*◌, ◌==◌, ◌<◌, ◌≤◌, List, Some, inl, inr, ◌⊎◌, refl, sym, ap, subst, ◌∙◌, arith, Contains, filter, length, map}
use Rattle.std.proofs.lemmas.Bool.{cases_eq, eq-eqb}
use Rattle.std.proofs.lemmas.List.Elements.{All-contains, Contains-append_left, Contains-append_right}
use Rattle.cell_num.specs.declared.net.NetNo.{NetNo}
use Rattle.cell_num.specs.declared.net.Pins.{Pins}
use Rattle.cell_num.specs.declared.finger.Row.{Row}
use Rattle.cell_num.specs.declared.finger.Row.TheVariants.{P, N}
use Rattle.cell_num.proofs.In.{contains_map}
use Rattle.cell_num.proofs.Pairs.{any_at}
use Rattle.row_model.proofs.Decide.{net_decides}
use Rattle.row_place.specs.declared.placement.NodePlace.{NodePlace}
use Rattle.row_place.specs.declared.placement.GatePlace.{GatePlace}
use Rattle.row_place.specs.declared.placement.Placement.{Placement}
use Rattle.row_place.specs.Places.{IsPlacement}
use Rattle.row_place.specs.Trunks.{lines_of, HasTrunk, IsAbove}
use Rattle.row_place.proofs.Bounds.{node_line}
use Rattle.channel_route.specs.declared.routing.Trunk.{Trunk}
use Rattle.channel_route.specs.declared.routing.Routing.{Routing}
use Rattle.channel_route.specs.Wiring.{HoldsLine, IsHeldAt, AreEnds, IsWiring}
use Rattle.row_compact.specs.Solution.{x_of}
use Rattle.row_compact.specs.Allowed.{stretches_of, AreAllowed}
use Rattle.row_compact.proofs.Within.{net_line}
use Rattle.box_geom.proofs.Filters.{contains_filter}
use Rattle.cell_draw.specs.declared.layout.Frame.{Frame}
use Rattle.cell_draw.specs.declared.layout.Contact.{Contact}
use Rattle.cell_draw.specs.Frame.{track_y}
use Rattle.cell_draw.specs.Laid.{IsTrack, KeepClear, GoesTo}
use Rattle.cell_draw.specs.Sound.{AreLines}
use Rattle.cell_draw.proofs.BridgeLines.{behind, same_line}
use Rattle.cell_draw.proofs.BridgeFrom.{ReachFrom, reach_from, Kind, rail, signal, ContactFrom}

-- a wired placement on lines that it allows
pub record IsRouted (p : Placement) (pins : Pins) (r : Routing) (xs : List ℕ) : Type 0 where
  pub placed : IsPlacement p
  pub wiring : IsWiring p pins r
  pub allowed : AreAllowed p pins (stretches_of r.trunks) xs

pub are_lines : (p : Placement) (pins : Pins) (r : Routing) (xs : List ℕ) → IsRouted p pins r xs → AreLines p xs
are_lines p pins r xs w = let a = w.allowed in record { lines = a.lines; first = a.first; next = a.next }

pub two_nets : (a b : NetNo) → (a ≡ b) ⊎ (a ≢ b)
two_nets a b = elim (cases_eq a.0 b.0) [
  | inl e ↦ inl ((net_decides a b).0 (eq-eqb a.0 b.0 e))
  | inr ne ↦ inr (λ e. ne (ap (λ (n : NetNo). n.0) e))
]

pub has_trunk : (p : Placement) (pins : Pins) (r : Routing) → IsWiring p pins r → (t : Trunk) → Contains r.trunks t → HasTrunk p pins t.net
has_trunk p pins r wiring t there = (wiring.nets t.net).1 (any_at (λ (u : Trunk). u.net ≡ t.net) r.trunks t there refl)

-- the line of a place of a net is one of the net
pub node_in_lines : (p : Placement) (node : NodePlace) (net : NetNo) → Contains p.nodes node → node.net ≡ net → Contains (lines_of p net) node.line
node_in_lines p node net there e =
    Contains-append_left (map (λ (z : NodePlace). z.line) (filter (λ (z : NodePlace). z.net.0 == net.0) p.nodes)) (map (λ (z : GatePlace). z.line) (filter (λ (z : GatePlace). z.net.0 == net.0) p.gates)) node.line
    (contains_map (λ (z : NodePlace). z.line) (filter (λ (z : NodePlace). z.net.0 == net.0) p.nodes) node
    (contains_filter (λ (z : NodePlace). z.net.0 == net.0) p.nodes node there ((net_decides node.net net).1 e)))

pub gate_in_lines : (p : Placement) (gate : GatePlace) (net : NetNo) → Contains p.gates gate → gate.net ≡ net → Contains (lines_of p net) gate.line
gate_in_lines p gate net there e =
    Contains-append_right (map (λ (z : NodePlace). z.line) (filter (λ (z : NodePlace). z.net.0 == net.0) p.nodes)) (map (λ (z : GatePlace). z.line) (filter (λ (z : GatePlace). z.net.0 == net.0) p.gates)) gate.line
    (contains_map (λ (z : GatePlace). z.line) (filter (λ (z : GatePlace). z.net.0 == net.0) p.gates) gate
    (contains_filter (λ (z : GatePlace). z.net.0 == net.0) p.gates gate there ((net_decides gate.net net).1 e)))

-- a net with a trunk has one that holds the line of each of its places
pub held_at : (p : Placement) (pins : Pins) (r : Routing) → IsWiring p pins r → (t : Trunk) (net : NetNo) (line : ℕ) → Contains r.trunks t → t.net ≡ net → Contains (lines_of p net) line → IsHeldAt r.trunks net line
held_at p pins r wiring t net line there of c = wiring.held net line (subst (λ n. HasTrunk p pins n) of (has_trunk p pins r wiring t there)) c

pub on_track : (p : Placement) (pins : Pins) (r : Routing) → IsWiring p pins r → (f : Frame) (t : Trunk) → Contains r.trunks t → IsTrack f r.tracks (track_y f t.track)
on_track p pins r wiring f t there = record { number = t.track; below = All-contains (λ (u : Trunk). u.track < r.tracks) r.trunks t wiring.tracks there; is = refl }

pub ends_of : (p : Placement) (pins : Pins) (r : Routing) → IsWiring p pins r → (t : Trunk) → Contains r.trunks t → AreEnds p t
ends_of p pins r wiring t there = All-contains (AreEnds p) r.trunks t wiring.ends there

-- a line that the trunk holds lies between its ends as a place
pub record Between (xs : List ℕ) (t : Trunk) (line : ℕ) : Type 0 where
  pub left : x_of xs t.left ≤ x_of xs line
  pub right : x_of xs line ≤ x_of xs t.right

pub between : (p : Placement) (pins : Pins) (r : Routing) (xs : List ℕ) → IsRouted p pins r xs → (t : Trunk) (line : ℕ) → Contains r.trunks t → HoldsLine t line → Between xs t line
between p pins r xs w t line there on =
    let first : t.left ≤ line = on.begins in
    let last : line ≤ t.right = on.ends in
    let end : t.right ≤ 2 * length p.units = net_line p w.placed t.net t.right (ends_of p pins r w.wiring t there).right in
    let lines : AreLines p xs = are_lines p pins r xs w in
    record {
      left = omega (arith, behind p xs lines t.left line 0 (omega (arith, first)) (omega (arith, last, end)));
      right = omega (arith, behind p xs lines line t.right 0 (omega (arith, last)) end);
    }

-- the track that a contact of a signal reaches
pub reach_of_contact : (f : Frame) (pins : Pins) (trunks : List Trunk) (xs : List ℕ) (nodes : List NodePlace) (c : Contact) (y : ℕ) (from : ContactFrom f pins trunks xs nodes c) → c.reach ≡ Some y → ReachFrom f trunks from.node y
reach_of_contact f pins trunks xs nodes c y from e = by from.kind
  where
    by : Kind f pins trunks from.node c.reach → ReachFrom f trunks from.node y
    by (rail is none) = absurd cc
    by (signal other is z some) = reach_from f trunks from.node y (sym is ∙ e)

pub reaches : (p : Placement) (pins : Pins) (r : Routing) → IsWiring p pins r → (f : Frame) (xs : List ℕ) (c : Contact) (y : ℕ) → ContactFrom f pins r.trunks xs p.nodes c → c.reach ≡ Some y → IsTrack f r.tracks y
reaches p pins r wiring f xs c y from e =
    let reach : ReachFrom f r.trunks from.node y = reach_of_contact f pins r.trunks xs p.nodes c y from e in
    subst (IsTrack f r.tracks) (ap (track_y f) reach.far.track ∙ sym reach.is) (on_track p pins r wiring f reach.far.trunk reach.far.listed)

abbrev node_with : Row → ℕ → NetNo → NodePlace
node_with row line net = record { row = row; line = line; net = net }

as_node : (nodes : List NodePlace) (node : NodePlace) (row : Row) (line : ℕ) (net : NetNo) → Contains nodes node → node.row ≡ row → node.line ≡ line → node.net ≡ net → Contains nodes (node_with row line net)
as_node nodes node row line net there e f g =
    subst (λ z. Contains nodes (node_with row line z)) g
    (subst (λ z. Contains nodes (node_with row z node.net)) f
    (subst (λ z. Contains nodes (node_with z node.line node.net)) e there))

-- Contacts of the N and the P row at one line are of one net, or keep clear.
pub keep_clear : (p : Placement) (pins : Pins) (r : Routing) (xs : List ℕ) → IsRouted p pins r xs → (f : Frame) (a b : Contact) (n q : ℕ) → ContactFrom f pins r.trunks xs p.nodes a → ContactFrom f pins r.trunks xs p.nodes b → a.row ≡ N → b.row ≡ P → a.x ≡ b.x → a.reach ≡ Some n → b.reach ≡ Some q → KeepClear a b n q
keep_clear p pins r xs w f a b n q ca cb rn rp line ra rb =
    by (reach_of_contact f pins r.trunks xs p.nodes a n ca ra) (reach_of_contact f pins r.trunks xs p.nodes b q cb rb) (two_nets ca.node.net cb.node.net)
  where
    same : ca.node.line ≡ cb.node.line
    same = same_line p xs (are_lines p pins r xs w) ca.node.line cb.node.line (node_line p w.placed ca.node ca.there) (node_line p w.placed cb.node cb.there) (sym ca.x ∙ (line ∙ cb.x))

    over : (low : ReachFrom f r.trunks ca.node n) (high : ReachFrom f r.trunks cb.node q) → ca.node.net ≢ cb.node.net → IsAbove p pins high.far.trunk.net low.far.trunk.net ca.node.line
    over low high differ = record {
      p = as_node p.nodes cb.node P ca.node.line high.far.trunk.net cb.there (sym cb.row ∙ rp) (sym same) (sym high.far.of);
      n = as_node p.nodes ca.node N ca.node.line low.far.trunk.net ca.there (sym ca.row ∙ rn) refl (sym low.far.of);
      differ = λ e. differ (sym low.far.of ∙ (sym e ∙ high.far.of));
      upper_trunk = has_trunk p pins r w.wiring high.far.trunk high.far.listed;
      lower_trunk = has_trunk p pins r w.wiring low.far.trunk low.far.listed;
    }

    on_line : (high : ReachFrom f r.trunks cb.node q) → HoldsLine high.far.trunk ca.node.line
    on_line high = subst (λ z. HoldsLine high.far.trunk z) (sym same) high.far.on

    by : (low : ReachFrom f r.trunks ca.node n) (high : ReachFrom f r.trunks cb.node q) → (ca.node.net ≡ cb.node.net) ⊎ (ca.node.net ≢ cb.node.net) → KeepClear a b n q
    by low high (inl e) =
        let most : high.far.trunk.track ≤ low.track = subst (λ row. GoesTo row low.track high.far.trunk.track) (sym ca.row ∙ rn) (low.far.most high.far.trunk high.far.listed (high.far.of ∙ sym e) (on_line high)) in
        inl (omega (arith, low.is, high.is, most, high.far.track), ca.net ∙ (e ∙ sym cb.net))
    by low high (inr ne) =
        let above : low.far.trunk.track < high.far.trunk.track = w.wiring.above high.far.trunk low.far.trunk high.far.listed low.far.listed ca.node.line (over low high ne) (on_line high) low.far.on in
        inr (omega (arith, low.is, high.is, above, low.far.track, high.far.track))
