-- Devices of a drawing are the same with taps as without.
use Rattle.std.proofs.Common.{◌≡◌, ℕ, ℤ, pos, ◌≤ℤ◌, ◌+ℤ◌, ◌-ℤ◌, List, inl, inr, refl, arith}
use Rattle.std.proofs.lemmas.Int.{ints}
use Rattle.box_geom.specs.Chains.{Linked}
use Rattle.box_geom.specs.Rectangle.{Rectangle, IsProper, Holds}
use Rattle.box_geom.specs.Touching.{Cell}
use Rattle.box_geom.specs.declared.shape.Shape.{Shape}
use Rattle.cell_num.specs.declared.finger.Row.{Row}
use Rattle.cell_num.specs.declared.finger.Row.TheVariants.{P, N}
use Rattle.scmos_rules.specs.Failing.{SameClass}
use Rattle.scmos_rules.specs.Layout.{Gate}
use Rattle.scmos_rules.specs.declared.rules.Deck.{Deck}
use Rattle.scmos_rules.specs.declared.rules.Deck.TheVariants.{Plain}
use Rattle.net_extract.specs.Devices.{IsGateBox, InRow, diffusion_of, left_of, right_of, below, above, IsSide, IsClosed, source_side, drain_side, low_end, high_end, IsDevice, IsSomeDevice}
use Rattle.net_extract.specs.declared.side.Current.{Current}
use Rattle.net_extract.specs.declared.side.Current.TheVariants.{Rightward, Upward}
use Rattle.net_extract.specs.Nets.{Are, Site, site_at}
use Rattle.net_extract.specs.declared.piece.Conductor.{Conductor}
use Rattle.net_extract.specs.declared.piece.Conductor.TheVariants.{Poly}
use Rattle.net_extract.proofs.Bonds.{carried_steps}
use Rattle.net_extract.proofs.Wiring.{net_back, net_both, net_self}
use Rattle.well_tap.proofs.TapCells.{IsTap, IsInner, AreTapped}
use Rattle.well_tap.proofs.TapLabels.{are_down}
use Rattle.well_tap.proofs.TapNets.{conducts_up, not_both, net_up, net_down}

-- ---- gates
pub gate_up : (s t : List Shape) (h : ℤ) → AreTapped s t h → (x y : ℤ) → Gate s x y → Gate t x y
gate_up s t h a x y g = (a.active_up x y g.0, (a.on_poly x y).1 g.1)

pub gate_down : (s t : List Shape) (h : ℤ) → AreTapped s t h → (x y : ℤ) → Gate t x y → Gate s x y
gate_down s t h a x y g =
    let p = (a.on_poly x y).0 g.1 in
    elim (a.active x y g.0) [ inl old ↦ (old, p) | inr tap ↦ absurd (not_both s t h a y y (a.polys_inner x y p) tap (omega (arith, ints)) (omega (arith, ints))) ]

class_map : (A B : ℤ → ℤ → Type 0) → ((x y : ℤ) → A x y → B x y) → (x y u v : ℤ) → SameClass A x y u v → SameClass B x y u v
class_map A B map x y u v c = carried_steps (Linked A) (Linked B) (λ (z : Cell). z) (λ p q l. record { from = map p.x p.y l.from; to = map q.x q.y l.to; edge = l.edge }) c.count (record { x = x; y = y }) (record { x = u; y = v }) c.steps

box_up : (s t : List Shape) (h : ℤ) → AreTapped s t h → (box : Rectangle) → IsGateBox s box → IsGateBox t box
box_up s t h a box b = record {
  proper = b.proper;
  gate = λ x y i. gate_up s t h a x y (b.gate x y i);
  class = λ x y u v i. (
    λ c. (b.class x y u v i).0 (class_map (Gate t) (Gate s) (gate_down s t h a) x y u v c),
    λ j. class_map (Gate s) (Gate t) (gate_up s t h a) x y u v ((b.class x y u v i).1 j),
  );
}

box_down : (s t : List Shape) (h : ℤ) → AreTapped s t h → (box : Rectangle) → IsGateBox t box → IsGateBox s box
box_down s t h a box b = record {
  proper = b.proper;
  gate = λ x y i. gate_down s t h a x y (b.gate x y i);
  class = λ x y u v i. (
    λ c. (b.class x y u v i).0 (class_map (Gate s) (Gate t) (gate_up s t h a) x y u v c),
    λ j. class_map (Gate t) (Gate s) (gate_down s t h a) x y u v ((b.class x y u v i).1 j),
  );
}

-- ---- cells beside a gate
-- a cell of the box is at most one row away
record Nearby (box : Rectangle) (y : ℤ) : Type 0 where
  pub u : ℤ
  pub v : ℤ
  pub inside : Holds box u v
  pub up : v ≤ℤ (y +ℤ pos 1)
  pub down : y ≤ℤ (v +ℤ pos 1)

-- each cell of the strip has one
abbrev IsAlong : Rectangle → Rectangle → Type 0
IsAlong box strip = (x y : ℤ) → Holds strip x y → Nearby box y

along_left : (box : Rectangle) → IsProper box → IsAlong box (left_of box)
along_left box p x y i = record { u = box.x1; v = y; inside = omega (arith, ints); up = omega (arith, ints); down = omega (arith, ints) }

along_right : (box : Rectangle) → IsProper box → IsAlong box (right_of box)
along_right box p x y i = record { u = box.x1; v = y; inside = omega (arith, ints); up = omega (arith, ints); down = omega (arith, ints) }

along_below : (box : Rectangle) → IsProper box → IsAlong box (below box)
along_below box p x y i = record { u = x; v = box.y1; inside = omega (arith, ints); up = omega (arith, ints); down = omega (arith, ints) }

along_above : (box : Rectangle) → IsProper box → IsAlong box (above box)
along_above box p x y i = record { u = x; v = box.y2 -ℤ pos 1; inside = omega (arith, ints); up = omega (arith, ints); down = omega (arith, ints) }

source_along : (current : Current) (box : Rectangle) → IsProper box → IsAlong box (source_side current box)
source_along Rightward box p = along_left box p
source_along Upward box p = along_below box p

drain_along : (current : Current) (box : Rectangle) → IsProper box → IsAlong box (drain_side current box)
drain_along Rightward box p = along_right box p
drain_along Upward box p = along_above box p

low_along : (current : Current) (box : Rectangle) → IsProper box → IsAlong box (low_end current box)
low_along Rightward box p = along_below box p
low_along Upward box p = along_left box p

high_along : (current : Current) (box : Rectangle) → IsProper box → IsAlong box (high_end current box)
high_along Rightward box p = along_above box p
high_along Upward box p = along_right box p

-- no tap is beside a gate
no_tap : (s t : List Shape) (h : ℤ) → AreTapped s t h → (box : Rectangle) → IsGateBox s box → (y : ℤ) → Nearby box y → IsTap h y → ⊥
no_tap s t h a box b y n tap = not_both s t h a n.v y (a.polys_inner n.u n.v (b.gate n.u n.v n.inside).1) tap n.down n.up

beside_down : (s t : List Shape) (h : ℤ) → AreTapped s t h → (box : Rectangle) → IsGateBox s box → (k : Conductor) (x y : ℤ) → Nearby box y → Are t k x y → Are s k x y
beside_down s t h a box b k x y n c = elim (are_down s t h a k x y c) [ inl old ↦ old | inr tap ↦ absurd (no_tap s t h a box b y n tap.1) ]

closed_up : (s t : List Shape) (h : ℤ) → AreTapped s t h → (box strip : Rectangle) → IsGateBox s box → IsAlong box strip → IsClosed s strip → IsClosed t strip
closed_up s t h a box strip b along c = record { closed = λ x y i on. elim (a.active x y on) [ inl old ↦ c.closed x y i old | inr tap ↦ no_tap s t h a box b y (along x y i) tap ] }

closed_down : (s t : List Shape) (h : ℤ) → AreTapped s t h → (strip : Rectangle) → IsClosed t strip → IsClosed s strip
closed_down s t h a strip c = record { closed = λ x y i on. c.closed x y i (a.active_up x y on) }

side_up : (deck : Deck) (s t : List Shape) (h : ℤ) → AreTapped s t h → (k : Conductor) (strip : Rectangle) (p : Site) → IsSide Plain s k strip p → IsSide deck t k strip p
side_up deck s t h a k strip p i = record {
  conducts = conducts_up s t h a p.kind p.cell.x p.cell.y i.conducts;
  side = λ x y in_strip. let z = i.side x y in_strip in (conducts_up s t h a k x y z.0, net_up deck s t h a p (site_at k x y) z.1);
}

-- downward a side is given by a cell of its own
side_down : (deck : Deck) (s t : List Shape) (h : ℤ) → AreTapped s t h → (box : Rectangle) → IsGateBox s box → (k : Conductor) (strip : Rectangle) (p : Site) (x y : ℤ) → IsAlong box strip → Holds strip x y → IsSide deck t k strip p → IsSide Plain s k strip (site_at k x y)
side_down deck s t h a box b k strip p x y along here i = record {
  conducts = down x y here;
  side = λ u v there. (
    down u v there,
    net_down deck s t h a (site_at k x y) (site_at k u v) (down x y here) (down u v there) (net_both deck t (site_at k x y) p (site_at k u v) (net_back deck t p (site_at k x y) (i.side x y here).1) (i.side u v there).1),
  );
}
  where
    down : (u v : ℤ) → Holds strip u v → Are s k u v
    down u v there = beside_down s t h a box b k u v (along u v there) (i.side u v there).0

-- ---- rows
row_up : (s t : List Shape) (h : ℤ) → AreTapped s t h → (row : Row) (x y : ℤ) → IsInner h y → InRow row s x y → InRow row t x y
row_up s t h a P x y i w = a.well_up x y w
row_up s t h a N x y i out = λ w. elim (a.well x y w) [ inl old ↦ out old | inr le ↦ omega (arith, ints) ]

row_down : (s t : List Shape) (h : ℤ) → AreTapped s t h → (row : Row) (x y : ℤ) → IsInner h y → InRow row t x y → InRow row s x y
row_down s t h a P x y i w = elim (a.well x y w) [ inl old ↦ old | inr le ↦ absurd (omega (arith, ints)) ]
row_down s t h a N x y i out = λ w. out (a.well_up x y w)

-- ---- devices
pub device_up : (deck : Deck) (s t : List Shape) (h : ℤ) → AreTapped s t h → (box : Rectangle) (row : Row) (gate left right : Site) (width length : ℕ) → (d : IsDevice Plain s box row gate left right width length) → (e : IsDevice deck t box row gate left right width length) × (e.current ≡ d.current)
device_up deck s t h a box row gate left right width length d = (
  record {
    current = d.current;
    class = box_up s t h a box d.class;
    of_row = λ x y i. row_up s t h a row x y (a.polys_inner x y (d.class.gate x y i).1) (d.of_row x y i);
    gate_net = net_up deck s t h a gate (site_at Poly box.x1 box.y1) d.gate_net;
    left_side = side_up deck s t h a (diffusion_of row) (source_side d.current box) left d.left_side;
    right_side = side_up deck s t h a (diffusion_of row) (drain_side d.current box) right d.right_side;
    low = closed_up s t h a box (low_end d.current box) d.class (low_along d.current box d.class.proper) d.low;
    high = closed_up s t h a box (high_end d.current box) d.class (high_along d.current box d.class.proper) d.high;
    size = d.size;
  },
  refl,
)

-- a cell of each side
source_cell : (current : Current) (box : Rectangle) → IsProper box → (c : Cell) × Holds (source_side current box) c.x c.y
source_cell Rightward box p = (record { x = box.x1 -ℤ pos 1; y = box.y1 }, omega (arith, ints))
source_cell Upward box p = (record { x = box.x1; y = box.y1 -ℤ pos 1 }, omega (arith, ints))

drain_cell : (current : Current) (box : Rectangle) → IsProper box → (c : Cell) × Holds (drain_side current box) c.x c.y
drain_cell Rightward box p = (record { x = box.x2; y = box.y1 }, omega (arith, ints))
drain_cell Upward box p = (record { x = box.x1; y = box.y2 }, omega (arith, ints))

pub device_down : (deck : Deck) (s t : List Shape) (h : ℤ) → AreTapped s t h → (box : Rectangle) → (e : IsSomeDevice deck t box) → (d : IsSomeDevice Plain s box) × (d.row ≡ e.row)
device_down deck s t h a box e =
    let d = e.is in
    let b : IsGateBox s box = box_down s t h a box d.class in
    let p : IsProper box = d.class.proper in
    let corner : Holds box box.x1 box.y1 = omega (arith, ints) in
    let one = source_cell d.current box p in
    let two = drain_cell d.current box p in (
      record {
        row = e.row;
        gate = site_at Poly box.x1 box.y1;
        left = site_at (diffusion_of e.row) one.0.x one.0.y;
        right = site_at (diffusion_of e.row) two.0.x two.0.y;
        width = e.width;
        length = e.length;
        is = record {
          current = d.current;
          class = b;
          of_row = λ x y i. row_down s t h a e.row x y (a.polys_inner x y (b.gate x y i).1) (d.of_row x y i);
          gate_net = net_self Plain s (site_at Poly box.x1 box.y1) (b.gate box.x1 box.y1 corner).1;
          left_side = side_down deck s t h a box b (diffusion_of e.row) (source_side d.current box) e.left one.0.x one.0.y (source_along d.current box p) one.1 d.left_side;
          right_side = side_down deck s t h a box b (diffusion_of e.row) (drain_side d.current box) e.right two.0.x two.0.y (drain_along d.current box p) two.1 d.right_side;
          low = closed_down s t h a (low_end d.current box) d.low;
          high = closed_down s t h a (high_end d.current box) d.high;
          size = d.size;
        };
      },
      refl,
    )
