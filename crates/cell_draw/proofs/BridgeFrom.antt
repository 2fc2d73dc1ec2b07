-- Where each element of a layout comes from.
use Rattle.std.proofs.Common.{ℕ, ◌≡◌, ◌+◌, ◌*◌, ◌==◌, Bool, true, false, if◌then◌else◌, List, Option, Some, None, inl, inr, refl, sym, ap, subst, ◌∙◌, Contains, filter_map, find, flat_map, option_map, slice_get}
use Rattle.std.proofs.lemmas.List.Elements.{Contains-append_cases}
use Rattle.cell_num.specs.declared.net.NetNo.{NetNo}
use Rattle.cell_num.specs.declared.net.Pins.{Pins}
use Rattle.cell_num.specs.declared.finger.Row.{Row}
use Rattle.cell_num.specs.declared.finger.Row.TheVariants.{P, N}
use Rattle.cell_num.proofs.Lists.{some_same, contains_none, contains_one, all_from_contains, Kept, kept_from}
use Rattle.cell_num.proofs.In.{Piece, in_flat}
use Rattle.row_model.proofs.Decide.{net_decides}
use Rattle.row_model.specs.declared.column.Placed.{Placed}
use Rattle.row_model.specs.declared.column.Column.{Column}
use Rattle.row_model.specs.Arrangement.{place, gate_in}
use Rattle.row_place.specs.declared.placement.NodePlace.{NodePlace}
use Rattle.row_place.specs.declared.placement.GatePlace.{GatePlace}
use Rattle.row_place.specs.declared.placement.Seat.{Seat}
use Rattle.row_place.specs.declared.placement.Placement.{Placement}
use Rattle.row_place.specs.Places.{IsPlacement}
use Rattle.row_place.specs.Units.{seats_of, unit_of}
use Rattle.row_place.specs.Steps.{gate_of, gates_of}
use Rattle.row_place.proofs.Units.{SitsAt, seat_at}
use Rattle.cell_num.proofs.Lists.{contains_filter_map}
use Rattle.channel_route.specs.declared.routing.Trunk.{Trunk}
use Rattle.channel_route.specs.declared.routing.Routing.{Routing}
use Rattle.channel_route.specs.Wiring.{HoldsLine, IsWiring}
use Rattle.row_compact.specs.Solution.{x_of}
use Rattle.row_compact.specs.Allowed.{AreAllowed, stretches_of}
use Rattle.cell_draw.specs.declared.layout.Frame.{Frame}
use Rattle.cell_draw.specs.declared.layout.Strip.{Strip}
use Rattle.cell_draw.specs.declared.layout.Contact.{Contact}
use Rattle.cell_draw.specs.declared.layout.Gate.{Gate}
use Rattle.cell_draw.specs.Frame.{track_y, height_of}
use Rattle.cell_draw.specs.Laid.{IsFrame}
use Rattle.cell_draw.specs.Sound.{IsSoundRow}
use Rattle.cell_num.specs.Pins.{is_rail}
use Rattle.cell_draw.specs.Layouts.{strip_of, strips_at, trunk_of, holds, far, reach_of, gate_reach, contact_with, contact_of, finger_width, gate_with, gate_at, gates_on, width_of}
use Rattle.cell_draw.proofs.Found.{found_all, found_is}
use Rattle.cell_draw.proofs.Wirings.{IsFar, is_far, holds_it}

-- a strip is a finger of a column
pub record StripFrom (row : List Column) (xs : List ℕ) (s : Strip) : Type 0 where
  pub at : ℕ
  pub column : Column
  pub finger : Placed
  pub stands : slice_get row at ≡ Some column
  pub filled : place s.row column ≡ Some finger
  pub left : s.left ≡ x_of xs (2 * unit_of row at)
  pub right : s.right ≡ x_of xs (2 * unit_of row at + 2)
  pub width : s.width ≡ finger.finger.width

pub strip_from : (row : List Column) (xs : List ℕ) (s : Strip) → Contains (flat_map (strips_at xs) (seats_of row)) s → StripFrom row xs s
strip_from row xs s there = by (in_flat (strips_at xs) (seats_of row) s there)
  where
    one : (seat : Seat) → SitsAt row seat → (side : Row) (o : Option Placed) → place side seat.column ≡ o → Contains (strip_of xs seat.unit side o) s → StripFrom row xs s
    one seat at side None e c = absurd (contains_none s c)
    one seat at side (Some x) e c = subst (λ z. StripFrom row xs z) (contains_one _ s c) (record {
      at = at.at;
      column = seat.column;
      finger = x;
      stands = at.stands;
      filled = e;
      left = ap (λ n. x_of xs (2 * n)) at.unit;
      right = ap (λ n. x_of xs (2 * n + 2)) at.unit;
      width = refl;
    })

    by : Piece (strips_at xs) (seats_of row) s → StripFrom row xs s
    by piece =
        let at : SitsAt row piece.of = seat_at row piece.of piece.listed in
        elim (Contains-append_cases (strip_of xs piece.of.unit N piece.of.column.n) (strip_of xs piece.of.unit P piece.of.column.p) s piece.inside) [
          | inl c ↦ one piece.of at N piece.of.column.n refl c
          | inr c ↦ one piece.of at P piece.of.column.p refl c
        ]

-- the first trunk of a net
pub record TrunkFrom (trunks : List Trunk) (net : NetNo) (t : Trunk) : Type 0 where
  pub listed : Contains trunks t
  pub of : t.net ≡ net

pub trunk_from : (trunks : List Trunk) (net : NetNo) (t : Trunk) → trunk_of trunks net ≡ Some t → TrunkFrom trunks net t
trunk_from trunks net t e = record {
  listed = found_all (λ (u : Trunk). Contains trunks u) (λ (u : Trunk). u.net.0 == net.0) trunks t (all_from_contains (λ (u : Trunk). Contains trunks u) trunks (λ u there. there)) e;
  of = (net_decides t.net net).0 (found_is (λ (u : Trunk). u.net.0 == net.0) trunks t e);
}

-- the track that a place's metal2 goes to
pub record ReachFrom (f : Frame) (trunks : List Trunk) (node : NodePlace) (y : ℕ) : Type 0 where
  pub track : ℕ
  pub far : IsFar trunks node track
  pub is : y ≡ track_y f track

pub reach_from : (f : Frame) (trunks : List Trunk) (node : NodePlace) (y : ℕ) → reach_of f trunks node ≡ Some y → ReachFrom f trunks node y
reach_from f trunks node y e = by (far trunks node) refl e
  where
    by : (o : Option ℕ) → far trunks node ≡ o → option_map (track_y f) o ≡ Some y → ReachFrom f trunks node y
    by None is g = absurd cc
    by (Some k) is g = record { track = k; far = is_far trunks node k is; is = sym (some_same (track_y f k) y g) }

-- the trunk that a gate's pad is on
pub record PadFrom (f : Frame) (trunks : List Trunk) (place : GatePlace) (y : ℕ) : Type 0 where
  pub trunk : Trunk
  pub listed : Contains trunks trunk
  pub of : trunk.net ≡ place.net
  pub on : HoldsLine trunk place.line
  pub is : y ≡ track_y f trunk.track

pub pad_from : (f : Frame) (trunks : List Trunk) (place : GatePlace) (y : ℕ) → gate_reach f trunks place ≡ Some y → PadFrom f trunks place y
pad_from f trunks place y e = by (find (holds place.net place.line) trunks) refl e
  where
    by : (o : Option Trunk) → find (holds place.net place.line) trunks ≡ o → option_map (λ (t : Trunk). track_y f t.track) o ≡ Some y → PadFrom f trunks place y
    by None is g = absurd cc
    by (Some t) is g =
        let h = holds_it place.net place.line t (found_is (holds place.net place.line) trunks t is) in
        record {
          trunk = t;
          listed = found_all (λ (u : Trunk). Contains trunks u) (holds place.net place.line) trunks t (all_from_contains (λ (u : Trunk). Contains trunks u) trunks (λ u there. there)) is;
          of = h.0;
          on = h.1;
          is = sym (some_same (track_y f t.track) y g);
        }

-- a contact is a node place of a rail, or of a net with a trunk
pub data Kind (f : Frame) (pins : Pins) (trunks : List Trunk) (node : NodePlace) (reach : Option ℕ) : Type 0 where
  rail : is_rail pins node.net ≡ true → reach ≡ None → Kind f pins trunks node reach
  signal : is_rail pins node.net ≡ false → reach ≡ reach_of f trunks node → (y : ℕ) → reach ≡ Some y → Kind f pins trunks node reach

pub record ContactFrom (f : Frame) (pins : Pins) (trunks : List Trunk) (xs : List ℕ) (nodes : List NodePlace) (c : Contact) : Type 0 where
  pub node : NodePlace
  pub there : Contains nodes node
  pub gives : contact_of f pins trunks xs node ≡ Some c
  pub row : c.row ≡ node.row
  pub x : c.x ≡ x_of xs node.line
  pub net : c.net ≡ node.net
  pub kind : Kind f pins trunks node c.reach

pub contact_from : (f : Frame) (pins : Pins) (trunks : List Trunk) (xs : List ℕ) (nodes : List NodePlace) (c : Contact) → Contains (filter_map (contact_of f pins trunks xs) nodes) c → ContactFrom f pins trunks xs nodes c
contact_from f pins trunks xs nodes c there = by (kept_from (contact_of f pins trunks xs) nodes c there)
  where
    make : (node : NodePlace) → Contains nodes node → contact_of f pins trunks xs node ≡ Some c → (reach : Option ℕ) → contact_with xs node reach ≡ c → Kind f pins trunks node reach → ContactFrom f pins trunks xs nodes c
    make node stands gives reach is kind = record {
      node = node;
      there = stands;
      gives = gives;
      row = sym (ap (λ (z : Contact). z.row) is);
      x = sym (ap (λ (z : Contact). z.x) is);
      net = sym (ap (λ (z : Contact). z.net) is);
      kind = subst (λ r. Kind f pins trunks node r) (ap (λ (z : Contact). z.reach) is) kind;
    }

    reached : (node : NodePlace) → Contains nodes node → contact_of f pins trunks xs node ≡ Some c → is_rail pins node.net ≡ false → (o : Option ℕ) → reach_of f trunks node ≡ o → option_map (λ reach. contact_with xs node (Some reach)) o ≡ Some c → ContactFrom f pins trunks xs nodes c
    reached node stands gives other None e g = absurd cc
    reached node stands gives other (Some y) e g = make node stands gives (Some y) (some_same (contact_with xs node (Some y)) c g) (signal other (sym e) y refl)

    tested : (node : NodePlace) → Contains nodes node → contact_of f pins trunks xs node ≡ Some c → (b : Bool) → is_rail pins node.net ≡ b → (if b then Some (contact_with xs node None) else option_map (λ reach. contact_with xs node (Some reach)) (reach_of f trunks node)) ≡ Some c → ContactFrom f pins trunks xs nodes c
    tested node stands gives true e g = make node stands gives None (some_same (contact_with xs node None) c g) (rail e refl)
    tested node stands gives false e g = reached node stands gives e (reach_of f trunks node) refl g

    by : Kept (contact_of f pins trunks xs) nodes c → ContactFrom f pins trunks xs nodes c
    by k = tested k.from k.there k.gives (is_rail pins k.from.net) refl k.gives

-- a gate is that of a column
pub record GateFrom (row : List Column) (f : Frame) (trunks : List Trunk) (xs : List ℕ) (g : Gate) : Type 0 where
  pub at : ℕ
  pub seat : Seat
  pub gives : gate_at f trunks xs seat ≡ Some g
  pub stands : slice_get row at ≡ Some seat.column
  pub unit : seat.unit ≡ unit_of row at
  pub x : g.x ≡ x_of xs (2 * unit_of row at + 1)
  pub place : GatePlace
  pub listed : Contains (gates_of (seats_of row)) place
  pub line : place.line ≡ 2 * unit_of row at + 1
  pub net : g.net ≡ place.net
  pub gate : gate_in seat.column.p seat.column.n ≡ Some place.net
  pub n : g.n ≡ finger_width seat.column.n
  pub p : g.p ≡ finger_width seat.column.p
  pub track : g.track ≡ gate_reach f trunks place

record PlaceOf (seat : Seat) (place : GatePlace) : Type 0 where
  line : place.line ≡ 2 * seat.unit + 1
  gate : gate_in seat.column.p seat.column.n ≡ Some place.net

place_of : (seat : Seat) (place : GatePlace) → gate_of seat ≡ Some place → PlaceOf seat place
place_of seat place e = by (gate_in seat.column.p seat.column.n) refl e
  where
    by : (o : Option NetNo) → gate_in seat.column.p seat.column.n ≡ o → option_map (λ net. let gate : GatePlace = record { line = 2 * seat.unit + 1; net = net } in gate) o ≡ Some place → PlaceOf seat place
    by None is g = absurd cc
    by (Some net) is g =
        let same : (let gate : GatePlace = record { line = 2 * seat.unit + 1; net = net } in gate) ≡ place = some_same _ _ g in
        record { line = sym (ap (λ (z : GatePlace). z.line) same); gate = is ∙ ap (λ (z : GatePlace). Some z.net) same }

pub gate_from : (row : List Column) (f : Frame) (trunks : List Trunk) (xs : List ℕ) (g : Gate) → Contains (gates_on f trunks xs (seats_of row)) g → GateFrom row f trunks xs g
gate_from row f trunks xs g there = by (kept_from (gate_at f trunks xs) (seats_of row) g there)
  where
    placed : (seat : Seat) → Contains (seats_of row) seat → gate_at f trunks xs seat ≡ Some g → (o : Option GatePlace) → gate_of seat ≡ o → option_map (gate_with f trunks xs seat) o ≡ Some g → GateFrom row f trunks xs g
    placed seat stands gives None e h = absurd cc
    placed seat stands gives (Some place) e h =
        let at : SitsAt row seat = seat_at row seat stands in
        let is : gate_with f trunks xs seat place ≡ g = some_same _ _ h in
        let of : PlaceOf seat place = place_of seat place e in
        let line : place.line ≡ 2 * unit_of row at.at + 1 = of.line ∙ ap (λ n. 2 * n + 1) at.unit in
        record {
          at = at.at;
          seat = seat;
          gives = gives;
          stands = at.stands;
          unit = at.unit;
          x = sym (ap (λ (z : Gate). z.x) is) ∙ ap (λ n. x_of xs n) line;
          place = place;
          listed = contains_filter_map gate_of (seats_of row) seat place stands e;
          line = line;
          net = sym (ap (λ (z : Gate). z.net) is);
          gate = of.gate;
          n = sym (ap (λ (z : Gate). z.n) is);
          p = sym (ap (λ (z : Gate). z.p) is);
          track = sym (ap (λ (z : Gate). z.track) is);
        }

    by : Kept (gate_at f trunks xs) (seats_of row) g → GateFrom row f trunks xs g
    by k = placed k.from k.there k.gives (gate_of k.from) refl k.gives

-- What is asked of a row that is drawn in this frame.
pub record IsDrawn (names : List (List ℕ)) (pins : Pins) (p : Placement) (r : Routing) (xs : List ℕ) (f : Frame) : Type 0 where
  pub placement : IsPlacement p
  pub row : IsSoundRow names pins p.row
  pub wiring : IsWiring p pins r
  pub allowed : AreAllowed p pins (stretches_of r.trunks) xs
  pub frame : IsFrame f r.tracks
  pub width : f.width ≡ width_of p xs
  pub n_height : f.n_height ≡ height_of N p.row
  pub p_height : f.p_height ≡ height_of P p.row
