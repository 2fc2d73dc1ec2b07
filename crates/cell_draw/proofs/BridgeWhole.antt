-- A routed row on allowed lines is laid as the rules ask.
use Rattle.std.proofs.Common.{ℕ, ◌≡◌, ◌*◌, List, [], length, refl, arith, All, Contains}
use Rattle.cell_num.specs.declared.net.Pins.{Pins}
use Rattle.cell_num.specs.declared.finger.Row.TheVariants.{P, N}
use Rattle.cell_num.proofs.Lists.{contains_none, all_from_contains}
use Rattle.row_place.specs.declared.placement.Placement.{Placement}
use Rattle.row_place.specs.Places.{IsPlacement}
use Rattle.channel_route.specs.declared.routing.Routing.{Routing}
use Rattle.row_compact.specs.Allowed.{AreAllowed, stretches_of}
use Rattle.cell_draw.specs.declared.layout.Frame.{Frame}
use Rattle.cell_draw.specs.declared.layout.Contact.{Contact}
use Rattle.cell_draw.specs.declared.layout.Gate.{Gate}
use Rattle.cell_draw.specs.Drawings.{base_of}
use Rattle.cell_draw.specs.Frame.{height_of, frame_of}
use Rattle.cell_draw.specs.Laid.{IsFrame, IsInside, IsStrip, IsGate, IsLaid}
use Rattle.cell_draw.specs.Layouts.{width_of, laid_out}
use Rattle.cell_draw.specs.Small.{HasWidths}
use Rattle.cell_draw.specs.Sound.{AreLines}
use Rattle.cell_draw.proofs.BridgeRouted.{reaches, clear, pads, bars, bar_spread, vias}
use Rattle.cell_draw.proofs.BridgeFrom.{IsDrawn, strip_from, ContactFrom, contact_from, GateFrom, gate_from}
use Rattle.cell_draw.proofs.BridgeGates.{gate_is, gate_spread, beside, over}
use Rattle.cell_draw.proofs.BridgeLines.{after_first}
use Rattle.cell_draw.proofs.BridgePlaces.{strip_is, ordered, inside, spread, single, rails, ends, node_last}
use Rattle.cell_draw.proofs.BridgeRow.{height_least, widths}

pub lines_of_allowed : (p : Placement) (pins : Pins) (r : Routing) (xs : List ℕ) → AreAllowed p pins (stretches_of r.trunks) xs → AreLines p xs
lines_of_allowed p pins r xs a = record { lines = a.lines; first = a.first; next = a.next }

-- the frame of a row has room for its tracks
pub frame_is : (p : Placement) (tracks height : ℕ) (xs : List ℕ) → AreLines p xs → IsFrame (frame_of p.row tracks height (width_of p xs)) tracks
frame_is p tracks height xs lines = record {
  rows = record {
    low = refl;
    channel = omega arith;
    n_least = height_least N p.row;
    p_least = height_least P p.row;
    wide = omega (arith, after_first p xs lines (2 * length p.units) (omega arith));
  };
  room = omega arith;
}

pub laid : (names : List (List ℕ)) (pins : Pins) (p : Placement) (r : Routing) (xs : List ℕ) (f : Frame) (nets : ℕ) → IsDrawn names pins p r xs f → IsLaid (laid_out f nets pins p r.trunks xs)
laid names pins p r xs f nets d = record {
  tracks = r.tracks;
  frame = d.frame;
  strips = all_from_contains (IsStrip f) (laid_out f nets pins p r.trunks xs).strips (λ s there. strip_is p xs f d.placement lines wide d.width d.n_height d.p_height s (strip_from p.row xs s there));
  ordered = λ a b la lb row. ordered p xs d.placement lines a b (strip_from p.row xs a la) (strip_from p.row xs b lb) row;
  inside = all_from_contains (λ (c : Contact). IsInside f c.x) (laid_out f nets pins p r.trunks xs).contacts (λ c there. let from = contact c there in inside p xs f d.placement lines d.width from.node.line (node_last p d.placement from.node from.there) c.x from.x);
  spread = λ a b la lb. spread p xs f pins r d.placement lines a b (contact a la) (contact b lb);
  single = λ a b la lb row x. single p xs f pins r d.placement lines a b (contact a la) (contact b lb) row x;
  rails = λ c there none. rails names xs f pins p r (laid_out f nets pins p r.trunks xs) d.placement d.row refl refl c (contact c there) none;
  reaches = reaches names pins p r xs f nets d;
  clear = clear names pins p r xs f nets d;
  ends = λ c s there listed row. ends p xs f pins r d.placement lines c s (contact c there) (strip_from p.row xs s listed);
  gates = all_from_contains (IsGate f) (laid_out f nets pins p r.trunks xs).gates (λ g there. gate_is p xs f r.trunks d.placement lines wide d.width d.n_height d.p_height g (gate g there));
  gate_spread = λ a b la lb. gate_spread p xs f r.trunks d.placement lines a b (gate a la) (gate b lb);
  beside = λ c g there listed. beside p xs f pins r d.placement d.wiring d.allowed lines c g (contact c there) (gate g listed);
  over = λ g s there listed. over p xs f r.trunks d.placement lines g s (gate g there) (strip_from p.row xs s listed);
  pads = pads names pins p r xs f nets d;
  bars = bars names pins p r xs f nets d;
  bar_spread = bar_spread names pins p r xs f nets d;
  vias = vias names pins p r xs f nets d;
}
  where
    lines : AreLines p xs
    lines = lines_of_allowed p pins r xs d.allowed

    wide : All HasWidths p.row
    wide = widths names pins p.row d.row

    contact : (c : Contact) → Contains (laid_out f nets pins p r.trunks xs).contacts c → ContactFrom f pins r.trunks xs p.nodes c
    contact c there = contact_from f pins r.trunks xs p.nodes c there

    gate : (g : Gate) → Contains (laid_out f nets pins p r.trunks xs).gates g → GateFrom p.row f r.trunks xs g
    gate g there = gate_from p.row f r.trunks xs g there

-- the rows alone are laid
pub base_laid : (pins : Pins) (p : Placement) (tracks : ℕ) (xs : List ℕ) (f : Frame) → IsPlacement p → AreLines p xs → All HasWidths p.row → IsFrame f tracks → f.width ≡ width_of p xs → f.n_height ≡ height_of N p.row → f.p_height ≡ height_of P p.row → IsLaid (base_of f pins p xs)
base_laid pins p tracks xs f is lines wide frame width hn hp = record {
  tracks = tracks;
  frame = frame;
  strips = all_from_contains (IsStrip f) (base_of f pins p xs).strips (λ s there. strip_is p xs f is lines wide width hn hp s (strip_from p.row xs s there));
  ordered = λ a b la lb row. ordered p xs is lines a b (strip_from p.row xs a la) (strip_from p.row xs b lb) row;
  inside = all_from_contains (λ (c : Contact). IsInside f c.x) [] (λ c there. absurd (contains_none c there));
  spread = λ a b la lb. absurd (contains_none a la);
  single = λ a b la lb row x. absurd (contains_none a la);
  rails = λ c there none. absurd (contains_none c there);
  reaches = λ c y there e. absurd (contains_none c there);
  clear = λ a b n m la lb ra rb x ea eb. absurd (contains_none a la);
  ends = λ c s there listed row. absurd (contains_none c there);
  gates = all_from_contains (IsGate f) [] (λ g there. absurd (contains_none g there));
  gate_spread = λ a b la lb. absurd (contains_none a la);
  beside = λ c g there listed. absurd (contains_none c there);
  over = λ g s there listed. absurd (contains_none g there);
  pads = λ g y there e. absurd (contains_none g there);
  bars = λ b there. absurd (contains_none b there);
  bar_spread = λ a b la lb. absurd (contains_none a la);
  vias = λ b x there met. absurd (contains_none b there);
}
