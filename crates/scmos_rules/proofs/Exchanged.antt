-- Cells with a cell of another class near them, with x and y exchanged.
use Rattle.std.proofs.Common.{◌↔◌, ℕ, zero, suc, ℤ, List, ap}
use Rattle.box_geom.specs.Chains.{Steps, Linked}
use Rattle.box_geom.specs.Rectangle.{Rectangle, Covers}
use Rattle.box_geom.specs.Touching.{Cell, Edge, to_right, to_left, upward, downward}
use Rattle.scmos_rules.specs.Failing.{FailsApart}
use Rattle.scmos_rules.specs.Cells.{AreCells}
use Rattle.scmos_rules.proofs.RunLengths.{swap}

abbrev at : ℤ → ℤ → Cell
at x y = record { x = x; y = y }

exchanged_edge : (a b : Cell) → Edge a b → Edge (at a.y a.x) (at b.y b.x)
exchanged_edge a b (to_right e f) = upward f e
exchanged_edge a b (to_left e f) = downward f e
exchanged_edge a b (upward e f) = to_right f e
exchanged_edge a b (downward e f) = to_left f e

exchanged_steps : (P Q : ℤ → ℤ → Type 0) → ((x y : ℤ) → P x y → Q y x) → (n : ℕ) (a b : Cell) → Steps (Linked P) n a b → Steps (Linked Q) n (at a.y a.x) (at b.y b.x)
exchanged_steps P Q same zero a b e = ap (λ (c : Cell). at c.y c.x) e
exchanged_steps P Q same (suc n) a b (m, s, rest) = (at m.y m.x, record { from = same a.x a.y s.from; to = same m.x m.y s.to; edge = exchanged_edge a m s.edge }, exchanged_steps P Q same n m b rest)

exchanged_apart : (P Q : ℤ → ℤ → Type 0) (d : ℕ) (x y : ℤ) → ((s t : ℤ) → P s t ↔ Q t s) → FailsApart P d x y → FailsApart Q d y x
exchanged_apart P Q d x y same f = record {
  covered = (same x y).0 f.covered;
  s = f.t;
  t = f.s;
  other = (same f.s f.t).0 f.other;
  near = record { left = f.near.low; right = f.near.high; low = f.near.left; high = f.near.right };
  apart = λ c. f.apart (record { count = c.count; steps = exchanged_steps Q P (λ s t. (same t s).1) c.count (at y x) (at f.t f.s) c.steps });
}

pub near_turned : (set turned near r : List Rectangle) (d : ℕ) → ((x y : ℤ) → Covers turned x y ↔ Covers set y x) → AreCells (FailsApart (Covers turned) d) near → ((x y : ℤ) → Covers r x y ↔ Covers near y x) → AreCells (FailsApart (Covers set) d) r
near_turned set turned near r d t n m = record {
  same = λ x y. (
    λ c. exchanged_apart (Covers turned) (Covers set) d y x t ((n.same y x).0 ((m x y).0 c)),
    λ f. (m x y).1 ((n.same y x).1 (exchanged_apart (Covers set) (Covers turned) d x y (λ s u. swap (t u s)) f)),
  );
}
