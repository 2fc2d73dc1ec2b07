-- Devices of shapes moved to the right.
use Rattle.std.proofs.Common.{ℕ, ℤ, neg_ℤ, ◌+ℤ◌, ◌-ℤ◌, List, arith, subst}
use Rattle.std.proofs.lemmas.Int.{ints}
use Rattle.box_geom.specs.Rectangle.{Rectangle, Holds}
use Rattle.box_geom.specs.declared.layer.Layer.TheVariants.{Well, Active}
use Rattle.box_geom.specs.declared.shape.Shape.{Shape}
use Rattle.cell_num.specs.declared.finger.Row.{Row}
use Rattle.cell_num.specs.declared.finger.Row.TheVariants.{P, N}
use Rattle.scmos_rules.specs.Layout.{On, Gate}
use Rattle.scmos_rules.specs.declared.rules.Deck.TheVariants.{Plain}
use Rattle.net_extract.specs.Devices.{IsGateBox, InRow, diffusion_of, IsSide, IsClosed, source_side, drain_side, low_end, high_end, IsSize, IsDevice}
use Rattle.net_extract.specs.Nets.{Site, site_at, Conducts, SameNet}
use Rattle.net_extract.specs.declared.piece.Conductor.{Conductor}
use Rattle.net_extract.specs.declared.piece.Conductor.TheVariants.{Poly}
use Rattle.net_extract.specs.declared.side.Current.{Current}
use Rattle.net_extract.specs.declared.side.Current.TheVariants.{Rightward, Upward}
use Rattle.row_abut.proofs.Moved.{AreMoved, gate}
use Rattle.row_abut.proofs.MovedNets.{back, moved_site, conducts, net, moved_at}
use Rattle.row_abut.proofs.Shifts.{down, class}

abbrev pub moved_rect : ℤ → Rectangle → Rectangle
moved_rect by r = record { x1 = r.x1 +ℤ by; y1 = r.y1; x2 = r.x2 +ℤ by; y2 = r.y2 }

pub inside_back : (by : ℤ) (r : Rectangle) (x y : ℤ) → Holds (moved_rect by r) x y → Holds r (x -ℤ by) y
inside_back by r x y h = let a = h.left in let b = h.right in record { left = omega (arith, ints, a); right = omega (arith, ints, b); low = h.low; high = h.high }

pub inside_there : (by : ℤ) (r : Rectangle) (x y : ℤ) → Holds r (x -ℤ by) y → Holds (moved_rect by r) x y
inside_there by r x y h = let a = h.left in let b = h.right in record { left = omega (arith, ints, a); right = omega (arith, ints, b); low = h.low; high = h.high }

-- ---- the strips along the sides move with the rectangle
source_back : (by : ℤ) (current : Current) (r : Rectangle) (x y : ℤ) → Holds (source_side current (moved_rect by r)) x y → Holds (source_side current r) (x -ℤ by) y
source_back by Rightward r x y h = omega (arith, ints)
source_back by Upward r x y h = omega (arith, ints)

drain_back : (by : ℤ) (current : Current) (r : Rectangle) (x y : ℤ) → Holds (drain_side current (moved_rect by r)) x y → Holds (drain_side current r) (x -ℤ by) y
drain_back by Rightward r x y h = omega (arith, ints)
drain_back by Upward r x y h = omega (arith, ints)

low_back : (by : ℤ) (current : Current) (r : Rectangle) (x y : ℤ) → Holds (low_end current (moved_rect by r)) x y → Holds (low_end current r) (x -ℤ by) y
low_back by Rightward r x y h = omega (arith, ints)
low_back by Upward r x y h = omega (arith, ints)

high_back : (by : ℤ) (current : Current) (r : Rectangle) (x y : ℤ) → Holds (high_end current (moved_rect by r)) x y → Holds (high_end current r) (x -ℤ by) y
high_back by Rightward r x y h = omega (arith, ints)
high_back by Upward r x y h = omega (arith, ints)

-- ---- devices
gate_box : (by : ℤ) (s t : List Shape) → AreMoved by s t → (box : Rectangle) → IsGateBox s box → IsGateBox t (moved_rect by box)
gate_box by s t m box b = record {
  proper = let w = b.proper.wide in record { wide = omega (arith, ints, w); high = b.proper.high };
  gate = λ x y h. ((gate by s t m).same (x -ℤ by) x y (omega (arith, ints))).0 (b.gate (x -ℤ by) y (inside_back by box x y h));
  class = λ x y u v h. let same = b.class (x -ℤ by) y (u -ℤ by) v (inside_back by box x y h) in (
    λ c. inside_there by box u v (same.0 (class (neg_ℤ by) (Gate t) (Gate s) (gate (neg_ℤ by) t s (back by s t m)) x y u v (x -ℤ by) (u -ℤ by) (omega (arith, ints)) (omega (arith, ints)) c)),
    λ i. class by (Gate s) (Gate t) (gate by s t m) (x -ℤ by) y (u -ℤ by) v x u (omega (arith, ints)) (omega (arith, ints)) (same.1 (inside_back by box u v i)),
  );
}

in_row : (by : ℤ) (s t : List Shape) → AreMoved by s t → (row : Row) (x y : ℤ) → InRow row s (x -ℤ by) y → InRow row t x y
in_row by s t m P x y w = ((m.on Well).same (x -ℤ by) x y (omega (arith, ints))).0 w
in_row by s t m N x y out = λ w. out (((m.on Well).same (x -ℤ by) x y (omega (arith, ints))).1 w)

side : (by : ℤ) (s t : List Shape) → AreMoved by s t → (k : Conductor) (strip moved : Rectangle) (a : Site) → ((x y : ℤ) → Holds moved x y → Holds strip (x -ℤ by) y) → IsSide Plain s k strip a → IsSide Plain t k moved (moved_site by a)
side by s t m k strip moved a into i = record {
  conducts = conducts by s t m a i.conducts;
  side = λ x y h.
      let z = i.side (x -ℤ by) y (into x y h) in
      let e = moved_at by k x y in (
        subst (Conducts t) e (conducts by s t m (site_at k (x -ℤ by) y) z.0),
        subst (SameNet Plain t (moved_site by a)) e (net by s t m a (site_at k (x -ℤ by) y) z.1),
      );
}

closed : (by : ℤ) (s t : List Shape) → AreMoved by s t → (strip moved : Rectangle) → ((x y : ℤ) → Holds moved x y → Holds strip (x -ℤ by) y) → IsClosed s strip → IsClosed t moved
closed by s t m strip moved into i = record { closed = λ x y h on. i.closed (x -ℤ by) y (into x y h) (down by (On Active s) (On Active t) (m.on Active) x y on) }

sized : (by : ℤ) (current : Current) (r : Rectangle) (width length : ℕ) → IsSize current r width length → IsSize current (moved_rect by r) width length
sized by current r width length z = record {
  across = λ e. let k = z.across e in let across = k.1 in (k.0, omega (arith, ints, across));
  upright = λ e. let k = z.upright e in let across = k.0 in (omega (arith, ints, across), k.1);
}

pub device : (by : ℤ) (s t : List Shape) → AreMoved by s t → (box : Rectangle) (row : Row) (g l r : Site) (width length : ℕ) → IsDevice Plain s box row g l r width length → IsDevice Plain t (moved_rect by box) row (moved_site by g) (moved_site by l) (moved_site by r) width length
device by s t m box row g l r width length d = record {
  current = d.current;
  class = gate_box by s t m box d.class;
  of_row = λ x y h. in_row by s t m row x y (d.of_row (x -ℤ by) y (inside_back by box x y h));
  gate_net = net by s t m g (site_at Poly box.x1 box.y1) d.gate_net;
  left_side = side by s t m (diffusion_of row) (source_side d.current box) (source_side d.current (moved_rect by box)) l (source_back by d.current box) d.left_side;
  right_side = side by s t m (diffusion_of row) (drain_side d.current box) (drain_side d.current (moved_rect by box)) r (drain_back by d.current box) d.right_side;
  low = closed by s t m (low_end d.current box) (low_end d.current (moved_rect by box)) (low_back by d.current box) d.low;
  high = closed by s t m (high_end d.current box) (high_end d.current (moved_rect by box)) (high_back by d.current box) d.high;
  size = sized by d.current box width length d.size;
}
