-- A finger that stands in a row is the device of its box.
use Rattle.std.proofs.Common.{ℕ, ◌≡◌, ◌+◌, ◌*◌, if◌then◌else◌, List, [], Option, Some, None, inl, inr, ◌⊎◌, refl, sym, ap, subst, ◌∙◌, Contains, length, slice_get}
use Rattle.std.specs.List.{flat_map}
use Rattle.std.proofs.lemmas.Bool.{cases_Bool}
use Rattle.std.proofs.lemmas.List.Elements.{All-contains}
use Rattle.cell_num.specs.declared.net.Pins.{Pins}
use Rattle.cell_num.specs.declared.finger.Row.{Row}
use Rattle.cell_num.specs.declared.finger.Row.TheVariants.{P, N}
use Rattle.cell_num.specs.Fingers.{IsFinger}
use Rattle.cell_num.specs.Pins.{ArePins}
use Rattle.cell_num.proofs.In.{contains_flat}
use Rattle.cell_num.proofs.Lists.{some_same, contains_get, contains_here}
use Rattle.row_model.specs.declared.column.Placed.{Placed}
use Rattle.row_model.specs.declared.column.Column.{Column}
use Rattle.row_model.specs.Arrangement.{place, IsColumn, AreOneColumn, gate_in}
use Rattle.row_model.specs.Gaps.{left_net, right_net}
use Rattle.row_place.specs.declared.placement.Placement.{Placement}
use Rattle.row_place.specs.declared.placement.Seat.{Seat}
use Rattle.row_place.specs.Units.{seats_of, unit_of}
use Rattle.row_place.proofs.Units.{SitsAt, seat_at}
use Rattle.channel_route.specs.declared.routing.Routing.{Routing}
use Rattle.row_compact.specs.Solution.{x_of}
use Rattle.scmos_rules.specs.declared.rules.Deck.TheVariants.{Plain}
use Rattle.net_extract.specs.Devices.{IsDevice}
use Rattle.net_extract.specs.Labels.{IsNamed}
use Rattle.cell_draw.specs.declared.layout.Frame.{Frame}
use Rattle.cell_draw.specs.declared.layout.Strip.{Strip}
use Rattle.cell_draw.specs.declared.layout.Gate.{Gate}
use Rattle.cell_draw.specs.Extracted.{IsFingerAt}
use Rattle.cell_draw.specs.Layouts.{strips_at}
use Rattle.cell_draw.specs.Named.{name_of}
use Rattle.cell_draw.specs.Sound.{IsSoundRow}
use Rattle.cell_draw.proofs.BridgeFrom.{StripFrom, GateFrom, gate_from}
use Rattle.cell_draw.proofs.BridgeRow.{p_finger, n_finger}
use Rattle.cell_draw.proofs.BridgeWhole.{lines_of_allowed}
use Rattle.cell_draw.proofs.DeviceBoxes.{box_of}
use Rattle.cell_draw.proofs.Devices.{gate_site, side_site, gate_site_in, left_site_in, right_site_in, device}
use Rattle.cell_draw.proofs.LabelsPlaced.{IsWired, layout}
use Rattle.cell_draw.proofs.NamesPlaced.{shapes, piece_named}
use Rattle.cell_draw.proofs.NetsFacts.{left_end, right_end, IsNetted}
use Rattle.cell_draw.proofs.NetsPlaces.{strip_with, in_strips, over_at}
use Rattle.cell_draw.proofs.NetsWires.{gate, half}
use Rattle.cell_draw.proofs.RulesPoly.{strip_of}

-- the strip of a seat
abbrev strip_at : List ℕ → Seat → Row → Placed → Strip
strip_at xs seat side x = strip_with xs seat.unit side x

-- a filled place of a seat
pub record IsSeated (p : Placement) (xs : List ℕ) (seat : Seat) (side : Row) (x : Placed) : Type 0 where
  pub at : ℕ
  pub stands : slice_get p.row at ≡ Some seat.column
  pub unit : seat.unit ≡ unit_of p.row at
  pub filled : place side seat.column ≡ Some x
  pub listed : Contains (flat_map (strips_at xs) (seats_of p.row)) (strip_with xs seat.unit side x)

pub seated : (p : Placement) (xs : List ℕ) (seat : Seat) (side : Row) (x : Placed) → Contains (seats_of p.row) seat → place side seat.column ≡ Some x → IsSeated p xs seat side x
seated p xs seat side x there filled =
    let at : SitsAt p.row seat = seat_at p.row seat there in
    let s : Strip = strip_with xs seat.unit side x in
    record { at = at.at; stands = at.stands; unit = at.unit; filled = filled; listed = contains_flat (strips_at xs) (seats_of p.row) seat s there (in_strips xs seat side x s filled (contains_here s [])) }

abbrev pub from_seat : (p : Placement) (xs : List ℕ) (seat : Seat) (side : Row) (x : Placed) (s : IsSeated p xs seat side x) → StripFrom p.row xs (strip_with xs seat.unit side x)
from_seat p xs seat side x s = record {
  at = s.at;
  column = seat.column;
  finger = x;
  stands = s.stands;
  filled = s.filled;
  left = ap (λ u. x_of xs (2 * u)) s.unit;
  right = ap (λ u. x_of xs (2 * u + 2)) s.unit;
  width = refl;
}

-- a column has one gate
one_gate : (p n : Option Placed) (side : Row) (x : Placed) (c : Column) → c.p ≡ p → c.n ≡ n → AreOneColumn p n → place side c ≡ Some x → gate_in p n ≡ Some x.finger.gate
one_gate (Some y) n P x c ep en one e = ap (λ (z : Placed). Some z.finger.gate) (some_same y x (sym ep ∙ e))
one_gate None n P x c ep en one e = absurd (let wrong : None ≡ Some x = sym ep ∙ e in cc)
one_gate None (Some y) N x c ep en one e = ap (λ (z : Placed). Some z.finger.gate) (some_same y x (sym en ∙ e))
one_gate (Some z) (Some y) N x c ep en one e = ap (λ g. Some g) (one.0 ∙ ap (λ (z : Placed). z.finger.gate) (some_same y x (sym en ∙ e)))
one_gate p None N x c ep en one e = absurd (let wrong : None ≡ Some x = sym en ∙ e in cc)

-- the gate over a finger is of the finger's net, at the middle of its unit
pub record OverSeat (xs : List ℕ) (seat : Seat) (x : Placed) (g : Gate) : Type 0 where
  pub net : g.net ≡ x.finger.gate
  pub line : g.x ≡ x_of xs (2 * seat.unit + 1)

pub over_seat : (names : List (List ℕ)) (pins : Pins) (p : Placement) (r : Routing) (xs : List ℕ) (f : Frame) (w : IsWired names pins p r xs f) → (seat : Seat) (side : Row) (x : Placed) (s : IsSeated p xs seat side x) → OverSeat xs seat x (w.has.netted.over (strip_with xs seat.unit side x))
over_seat names pins p r xs f w seat side x s =
    let t : Strip = strip_with xs seat.unit side x in
    let o = w.has.netted.gated t s.listed in
    let g : Gate = w.has.netted.over t in
    let a : GateFrom p.row f r.trunks xs g = gate_from p.row f r.trunks xs g o.0 in
    let at : a.at ≡ s.at = over_at p xs f r.trunks w.drawn.placement (lines_of_allowed p pins r xs w.drawn.allowed) g t a (from_seat p xs seat side x s) o.1 in
    let column : a.seat.column ≡ seat.column = some_same a.seat.column seat.column (sym a.stands ∙ ap (λ k. slice_get p.row k) at ∙ s.stands) in
    let is_column : IsColumn seat.column = All-contains IsColumn p.row seat.column w.drawn.placement.columns (contains_get p.row s.at seat.column s.stands) in
    let known : gate_in seat.column.p seat.column.n ≡ Some x.finger.gate = one_gate seat.column.p seat.column.n side x seat.column refl refl is_column s.filled in
    let found : gate_in seat.column.p seat.column.n ≡ Some a.place.net = subst (λ (c : Column). gate_in c.p c.n ≡ Some a.place.net) column a.gate in
    record { net = a.net ∙ some_same a.place.net x.finger.gate (sym found ∙ known); line = a.x ∙ (ap (λ k. x_of xs (2 * unit_of p.row k + 1)) at ∙ ap (λ u. x_of xs (2 * u + 1)) (sym s.unit)) }

finger_row : (names : List (List ℕ)) (pins : Pins) (row : List Column) (s : IsSoundRow names pins row) → (side : Row) (c : Column) (x : Placed) → Contains row c → place side c ≡ Some x → x.finger.row ≡ side
finger_row names pins row s N c x there e = (All-contains (IsFinger N s.fingers.nets) s.fingers.n x.finger s.sound.n (n_finger names pins row s c x there e)).row
finger_row names pins row s P c x there e = (All-contains (IsFinger P s.fingers.nets) s.fingers.p x.finger s.sound.p (p_finger names pins row s c x there e)).row

-- the gate and the two ends of a finger by their names
pub record NamedAt (names : List (List ℕ)) (pins : Pins) (p : Placement) (r : Routing) (xs : List ℕ) (f : Frame) (w : IsWired names pins p r xs f) (t : Strip) (x : Placed) : Type 0 where
  pub gate_named : IsNamed Plain (shapes names pins p r xs f) (name_of names x.finger.gate) (gate_site (layout names pins p r xs f) w.has.netted t)
  pub left_named : IsNamed Plain (shapes names pins p r xs f) (name_of names (left_net x)) (side_site (layout names pins p r xs f) w.has.netted t left_end)
  pub right_named : IsNamed Plain (shapes names pins p r xs f) (name_of names (right_net x)) (side_site (layout names pins p r xs f) w.has.netted t right_end)

pub named_at : (names : List (List ℕ)) (pins : Pins) (p : Placement) (r : Routing) (xs : List ℕ) (f : Frame) (w : IsWired names pins p r xs f) → ArePins (length names) pins → (seat : Seat) (side : Row) (x : Placed) (s : IsSeated p xs seat side x) → NamedAt names pins p r xs f w (strip_with xs seat.unit side x) x
named_at names pins p r xs f w are seat side x s =
    let t : Strip = strip_with xs seat.unit side x in
    let n : IsNetted (layout names pins p r xs f) = w.has.netted in
    let o = n.gated t s.listed in
    let b : StripFrom p.row xs t = from_seat p xs seat side x s in
    record {
      gate_named = subst (λ z. IsNamed Plain (shapes names pins p r xs f) (name_of names z) (gate_site (layout names pins p r xs f) n t)) (over_seat names pins p r xs f w seat side x s).net
          (piece_named names pins p r xs f w are (gate (strip_of (n.over t))) (gate_site (layout names pins p r xs f) n t) o.0 (record { kind = refl; holds = gate_site_in (layout names pins p r xs f) w.laid n t s.listed }));
      left_named = subst (λ z. IsNamed Plain (shapes names pins p r xs f) (name_of names z) (side_site (layout names pins p r xs f) n t left_end)) (w.has.at_end t left_end s.listed b)
          (piece_named names pins p r xs f w are (half t left_end) (side_site (layout names pins p r xs f) n t left_end) s.listed (record { kind = refl; holds = left_site_in (layout names pins p r xs f) w.laid n t s.listed }));
      right_named = subst (λ z. IsNamed Plain (shapes names pins p r xs f) (name_of names z) (side_site (layout names pins p r xs f) n t right_end)) (w.has.at_end t right_end s.listed b)
          (piece_named names pins p r xs f w are (half t right_end) (side_site (layout names pins p r xs f) n t right_end) s.listed (record { kind = refl; holds = right_site_in (layout names pins p r xs f) w.laid n t s.listed }));
    }

-- a finger that stands is the device of its box
pub finger_at : (names : List (List ℕ)) (pins : Pins) (p : Placement) (r : Routing) (xs : List ℕ) (f : Frame) (w : IsWired names pins p r xs f) → ArePins (length names) pins → (seat : Seat) (side : Row) (x : Placed) → IsSeated p xs seat side x → IsFingerAt Plain names (shapes names pins p r xs f) (box_of (layout names pins p r xs f) w.has.netted (strip_with xs seat.unit side x)) x.finger
finger_at names pins p r xs f w are seat side x s =
    let l = layout names pins p r xs f in
    let n : IsNetted (layout names pins p r xs f) = w.has.netted in
    let t : Strip = strip_with xs seat.unit side x in
    let row : x.finger.row ≡ side = finger_row names pins p.row w.drawn.row side seat.column x (contains_get p.row s.at seat.column s.stands) s.filled in
    let m : NamedAt names pins p r xs f w t x = named_at names pins p r xs f w are seat side x s in
    record {
      gate = gate_site (layout names pins p r xs f) n t;
      left = side_site (layout names pins p r xs f) n t left_end;
      right = side_site (layout names pins p r xs f) n t right_end;
      is = subst (λ z. IsDevice Plain (shapes names pins p r xs f).rects (box_of (layout names pins p r xs f) n t) z (gate_site (layout names pins p r xs f) n t) (side_site (layout names pins p r xs f) n t left_end) (side_site (layout names pins p r xs f) n t right_end) x.finger.width 4) (sym row) (device (layout names pins p r xs f) w.laid n t s.listed);
      gate_net = m.gate_named;
      ends = ends x m;
    }
  where
    ends : (x : Placed) {t : Strip} → NamedAt names pins p r xs f w t x → (IsNamed Plain (shapes names pins p r xs f) (name_of names x.finger.lo) (side_site (layout names pins p r xs f) w.has.netted t left_end) × IsNamed Plain (shapes names pins p r xs f) (name_of names x.finger.hi) (side_site (layout names pins p r xs f) w.has.netted t right_end)) ⊎ (IsNamed Plain (shapes names pins p r xs f) (name_of names x.finger.hi) (side_site (layout names pins p r xs f) w.has.netted t left_end) × IsNamed Plain (shapes names pins p r xs f) (name_of names x.finger.lo) (side_site (layout names pins p r xs f) w.has.netted t right_end))
    ends x {t} m = elim (cases_Bool x.flipped) [
      | inl turned ↦ inr (subst (λ b. IsNamed Plain (shapes names pins p r xs f) (name_of names (if b then x.finger.hi else x.finger.lo)) (side_site (layout names pins p r xs f) w.has.netted t left_end)) turned m.left_named, subst (λ b. IsNamed Plain (shapes names pins p r xs f) (name_of names (if b then x.finger.lo else x.finger.hi)) (side_site (layout names pins p r xs f) w.has.netted t right_end)) turned m.right_named)
      | inr straight ↦ inl (subst (λ b. IsNamed Plain (shapes names pins p r xs f) (name_of names (if b then x.finger.hi else x.finger.lo)) (side_site (layout names pins p r xs f) w.has.netted t left_end)) straight m.left_named, subst (λ b. IsNamed Plain (shapes names pins p r xs f) (name_of names (if b then x.finger.lo else x.finger.hi)) (side_site (layout names pins p r xs f) w.has.netted t right_end)) straight m.right_named)
    ]
