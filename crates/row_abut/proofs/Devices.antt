-- Devices of a row are those of its cells.
use Rattle.std.proofs.Common.{◌≡◌, ℕ, ℤ, pos, ◌-ℤ◌, refl, sym, subst, arith}
use Rattle.std.proofs.lemmas.Int.{ints}
use Rattle.box_geom.specs.Chains.{Chain, Linked}
use Rattle.box_geom.specs.Near.{Near}
use Rattle.box_geom.specs.Rectangle.{Rectangle, IsProper, Holds}
use Rattle.box_geom.specs.Touching.{Cell, Edge, to_right, to_left, upward, downward}
use Rattle.box_geom.specs.declared.layer.Layer.TheVariants.{Well, Active, Poly as PolyLayer}
use Rattle.cell_num.specs.declared.finger.Row.{Row as FingerRow}
use Rattle.cell_num.specs.declared.finger.Row.TheVariants.{P, N}
use Rattle.scmos_rules.specs.Failing.{SameClass}
use Rattle.scmos_rules.specs.Layout.{On, Gate}
use Rattle.scmos_rules.specs.declared.rules.Deck.TheVariants.{Plain}
use Rattle.number_trees.proofs.Chains.{one, followed}
use Rattle.net_extract.specs.Devices.{IsGateBox, InRow, diffusion_of, IsSide, IsClosed, source_side, drain_side, low_end, high_end, IsDevice}
use Rattle.net_extract.specs.Nets.{Site, site_at}
use Rattle.net_extract.specs.declared.piece.Conductor.{Conductor}
use Rattle.net_extract.specs.declared.piece.Conductor.TheVariants.{Poly}
use Rattle.net_extract.specs.declared.side.Current.{Current}
use Rattle.net_extract.specs.declared.side.Current.TheVariants.{Rightward, Upward}
use Rattle.net_extract.proofs.Bonds.{carried_steps}
use Rattle.row_abut.proofs.Nets.{NamedRow, poly_own, of_whole, kept}
use Rattle.row_abut.proofs.Rows.{Row, Spot, own, whole, consists, on_up, clear_active, one_spot, well_own}

-- ---- gates
pub gate_up : (g : Row) (i : Spot g) (x y : ℤ) → Gate (own g i) x y → Gate (whole g) x y
gate_up g i x y c = (on_up g Active i x y c.0, on_up g PolyLayer i x y c.1)

pub active_near : (g : Row) (i : Spot g) (x y s t : ℤ) → On Active (own g i) x y → Near 1 x y s t → On Active (whole g) s t → On Active (own g i) s t
active_near g i x y s t c near w =
    let a = (consists g Active s t).0 w in
    let e = one_spot g i a.of 1 3 x s (omega arith) near.left near.right (clear_active g i x y c).column (clear_active g a.of s t a.inside).column in
    subst (λ k. On Active (own g k) s t) (sym e) a.inside

gate_near : (g : Row) (i : Spot g) (x y s t : ℤ) → Gate (own g i) x y → Near 1 x y s t → Gate (whole g) s t → Gate (own g i) s t
gate_near g i x y s t c near w = let a = active_near g i x y s t c.0 near w.0 in (a, poly_own g i s t a w.1)

edge_near : (a b : Cell) → Edge a b → Near 1 a.x a.y b.x b.y
edge_near a b (to_right e f) = omega (arith, ints, e, f)
edge_near a b (to_left e f) = omega (arith, ints, e, f)
edge_near a b (upward e f) = omega (arith, ints, e, f)
edge_near a b (downward e f) = omega (arith, ints, e, f)

-- a class of gate cells of the row that begins in a cell stays there
class_down : (g : Row) (i : Spot g) (x y u v : ℤ) → Gate (own g i) x y → SameClass (Gate (whole g)) x y u v → SameClass (Gate (own g i)) x y u v
class_down g i x y u v c chain =
    let f = followed (Linked (Gate (whole g))) (Linked (Gate (own g i))) IsHere step chain.count (record { x = x; y = y }) (record { x = u; y = v }) (record { x = x; y = y }) chain.steps (refl, c) in
    subst (λ z. Chain (Linked (Gate (own g i))) (record { x = x; y = y }) z) (sym f.1.0) f.2
  where
    IsHere : Cell → Cell → Type 0
    IsHere a p = (a ≡ p) × Gate (own g i) a.x a.y

    step : (a b p : Cell) → Linked (Gate (whole g)) a b → IsHere a p → (q : Cell) × IsHere b q × Chain (Linked (Gate (own g i))) p q
    step a b p l h =
        let there : Gate (own g i) b.x b.y = gate_near g i a.x a.y b.x b.y h.1 (edge_near a b l.edge) l.to in
        (b, (refl, there), subst (λ z. Chain (Linked (Gate (own g i))) z b) h.0 (one (Linked (Gate (own g i))) a b (record { from = h.1; to = there; edge = l.edge })))

gate_box : (g : Row) (i : Spot g) (box : Rectangle) → IsGateBox (own g i) box → IsGateBox (whole g) box
gate_box g i box b = record {
  proper = b.proper;
  gate = λ x y h. gate_up g i x y (b.gate x y h);
  class = λ x y u v h. (
    λ c. (b.class x y u v h).0 (class_down g i x y u v (b.gate x y h) c),
    λ k. let c = (b.class x y u v h).1 k in carried_steps (Linked (Gate (own g i))) (Linked (Gate (whole g))) (λ (z : Cell). z) (λ p q l. record { from = gate_up g i p.x p.y l.from; to = gate_up g i q.x q.y l.to; edge = l.edge }) c.count _ _ c.steps,
  );
}

-- ---- cells beside a gate
-- a cell of the box is next to this one
record IsBeside (box : Rectangle) (x y : ℤ) : Type 0 where
  u : ℤ
  v : ℤ
  inside : Holds box u v
  near : Near 1 u v x y

low_beside : (current : Current) (box : Rectangle) → IsProper box → (x y : ℤ) → Holds (low_end current box) x y → IsBeside box x y
low_beside Rightward box p x y h = record { u = x; v = box.y1; inside = omega (arith, ints); near = omega (arith, ints) }
low_beside Upward box p x y h = record { u = box.x1; v = y; inside = omega (arith, ints); near = omega (arith, ints) }

high_beside : (current : Current) (box : Rectangle) → IsProper box → (x y : ℤ) → Holds (high_end current box) x y → IsBeside box x y
high_beside Rightward box p x y h = record { u = x; v = box.y2 -ℤ pos 1; inside = omega (arith, ints); near = omega (arith, ints) }
high_beside Upward box p x y h = record { u = box.x2 -ℤ pos 1; v = y; inside = omega (arith, ints); near = omega (arith, ints) }

closed : (g : Row) (i : Spot g) (box strip : Rectangle) → IsGateBox (own g i) box → ((x y : ℤ) → Holds strip x y → IsBeside box x y) → IsClosed (own g i) strip → IsClosed (whole g) strip
closed g i box strip b beside c = record { closed = λ x y h on. let k = beside x y h in c.closed x y h (active_near g i k.u k.v x y (b.gate k.u k.v k.inside).0 k.near on) }

side : (n : NamedRow) (i : Spot n.row) (k : Conductor) (strip : Rectangle) (a : Site) → IsSide Plain (own n.row i) k strip a → IsSide Plain (whole n.row) k strip a
side n i k strip a s = record {
  conducts = of_whole n.row i a.kind a.cell.x a.cell.y s.conducts;
  side = λ x y h. let z = s.side x y h in (of_whole n.row i k x y z.0, kept n i a (site_at k x y) z.1);
}

in_row : (g : Row) (i : Spot g) (row : FingerRow) (x y : ℤ) → On Active (own g i) x y → InRow row (own g i) x y → InRow row (whole g) x y
in_row g i P x y c w = on_up g Well i x y w
in_row g i N x y c out = λ w. out (well_own g i x y c w)

pub device : (n : NamedRow) (i : Spot n.row) (box : Rectangle) (row : FingerRow) (gate left right : Site) (width length : ℕ) → IsDevice Plain (own n.row i) box row gate left right width length → IsDevice Plain (whole n.row) box row gate left right width length
device n i box row gate left right width length d = record {
  current = d.current;
  class = gate_box n.row i box d.class;
  of_row = λ x y h. in_row n.row i row x y (d.class.gate x y h).0 (d.of_row x y h);
  gate_net = kept n i gate (site_at Poly box.x1 box.y1) d.gate_net;
  left_side = side n i (diffusion_of row) (source_side d.current box) left d.left_side;
  right_side = side n i (diffusion_of row) (drain_side d.current box) right d.right_side;
  low = closed n.row i box (low_end d.current box) d.class (low_beside d.current box d.class.proper) d.low;
  high = closed n.row i box (high_end d.current box) d.class (high_beside d.current box d.class.proper) d.high;
  size = d.size;
}
