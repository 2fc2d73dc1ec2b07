-- Sets of cells of which one is the other, so far to the right: what fails in the one fails in the other.
use Rattle.std.proofs.Common.{◌≡◌, ◌↔◌, ℕ, ℤ, pos, ◌+ℤ◌, ◌-ℤ◌, inl, inr, arith, sym, subst}
use Rattle.std.proofs.lemmas.Int.{ints}
use Rattle.box_geom.specs.Chains.{Linked}
use Rattle.box_geom.specs.Near.{Near}
use Rattle.box_geom.specs.Regions.{IsEmpty}
use Rattle.box_geom.specs.Runs.{IsRun, IsShort, IsOff, IsNotch}
use Rattle.box_geom.specs.Touching.{Cell, Edge, to_right, to_left, upward, downward}
use Rattle.scmos_rules.specs.Lengths.{FailsWidth, FailsSize}
use Rattle.scmos_rules.specs.Failing.{SameClass, FailsSpacing, FailsSurround, FailsAway, FailsPartly}
use Rattle.net_extract.proofs.Bonds.{carried_steps}

-- Q is P, so far to the right
pub record AreShifted (by : ℤ) (P Q : ℤ → ℤ → Type 0) : Type 0 where
  pub same : (x z y : ℤ) → z ≡ x +ℤ by → P x y ↔ Q z y

pub up : (by : ℤ) (P Q : ℤ → ℤ → Type 0) → AreShifted by P Q → (x y : ℤ) → P x y → Q (x +ℤ by) y
up by P Q a x y = (a.same x (x +ℤ by) y (omega (arith, ints))).0

pub down : (by : ℤ) (P Q : ℤ → ℤ → Type 0) → AreShifted by P Q → (x y : ℤ) → Q x y → P (x -ℤ by) y
down by P Q a x y = (a.same (x -ℤ by) x y (omega (arith, ints))).1

pub both : (by : ℤ) (P Q R S : ℤ → ℤ → Type 0) → AreShifted by P Q → AreShifted by R S → AreShifted by (λ x y. P x y × R x y) (λ x y. Q x y × S x y)
both by P Q R S a b = record { same = λ x z y e. (λ c. ((a.same x z y e).0 c.0, (b.same x z y e).0 c.1), λ c. ((a.same x z y e).1 c.0, (b.same x z y e).1 c.1)) }

pub not : (by : ℤ) (P Q : ℤ → ℤ → Type 0) → AreShifted by P Q → AreShifted by (λ x y. P x y → ⊥) (λ x y. Q x y → ⊥)
not by P Q a = record { same = λ x z y e. (λ c q. c ((a.same x z y e).1 q), λ c p. c ((a.same x z y e).0 p)) }

-- ---- along a line
abbrev AlongLine : ℤ → (ℤ → Type 0) → (ℤ → Type 0) → Type 0
AlongLine by P Q = (x z : ℤ) → z ≡ x +ℤ by → P x ↔ Q z

run : (by : ℤ) (P Q : ℤ → Type 0) → AlongLine by P Q → (a b s t : ℤ) → t ≡ s +ℤ by → IsRun Q a b t → IsRun P (a -ℤ by) (b -ℤ by) s
run by P Q same a b s t e r =
    let from = r.from in
    let to = r.to in
    record {
      from = omega (arith, ints, from, e);
      to = omega (arith, ints, to, e);
      all = λ z l h. (same z (z +ℤ by) (omega (arith, ints))).1 (r.all (z +ℤ by) (omega (arith, ints, l)) (omega (arith, ints, h)));
      before = λ p. r.before ((same (a -ℤ by -ℤ pos 1) (a -ℤ pos 1) (omega (arith, ints))).0 p);
      behind = λ p. r.behind ((same (b -ℤ by) b (omega (arith, ints))).0 p);
    }

short : (by : ℤ) (P Q : ℤ → Type 0) → AlongLine by P Q → (v : ℕ) (s t : ℤ) → t ≡ s +ℤ by → IsShort Q v t → IsShort P v s
short by P Q same v s t e i = let k = i.short in record { a = i.a -ℤ by; b = i.b -ℤ by; run = run by P Q same i.a i.b s t e i.run; short = omega (arith, ints, k) }

off : (by : ℤ) (P Q : ℤ → Type 0) → AlongLine by P Q → (v : ℕ) (s t : ℤ) → t ≡ s +ℤ by → IsOff Q v t → IsOff P v s
off by P Q same v s t e i = record { a = i.a -ℤ by; b = i.b -ℤ by; run = run by P Q same i.a i.b s t e i.run; off = λ f. i.off (omega (arith, ints, f)) }

notch : (by : ℤ) (P Q : ℤ → Type 0) → AlongLine by P Q → (v : ℕ) (s t : ℤ) → t ≡ s +ℤ by → IsNotch Q v t → IsNotch P v s
notch by P Q same v s t e n =
    let from = n.from in
    let to = n.to in
    let k = n.short in
    record {
      a = n.a -ℤ by;
      b = n.b -ℤ by;
      from = omega (arith, ints, from, e);
      to = omega (arith, ints, to, e);
      all = λ z l h p. n.all (z +ℤ by) (omega (arith, ints, l)) (omega (arith, ints, h)) ((same z (z +ℤ by) (omega (arith, ints))).0 p);
      before = (same (n.a -ℤ by -ℤ pos 1) (n.a -ℤ pos 1) (omega (arith, ints))).1 n.before;
      behind = (same (n.b -ℤ by) n.b (omega (arith, ints))).1 n.behind;
      short = omega (arith, ints, k);
    }

-- the row and the column of a cell
row : (by : ℤ) (P Q : ℤ → ℤ → Type 0) → AreShifted by P Q → (y : ℤ) → AlongLine by (λ x. P x y) (λ z. Q z y)
row by P Q a y = λ x z e. a.same x z y e

column : (by : ℤ) (P Q : ℤ → ℤ → Type 0) → AreShifted by P Q → (x : ℤ) → AlongLine (pos 0) (λ y. P (x -ℤ by) y) (λ y. Q x y)
column by P Q a x = λ y w e. let f : w ≡ y = omega (arith, ints, e) in subst (λ v. P (x -ℤ by) y ↔ Q x v) (sym f) (a.same (x -ℤ by) x y (omega (arith, ints)))

-- ---- ways to fail
pub width : (by : ℤ) (P Q : ℤ → ℤ → Type 0) (v : ℕ) → AreShifted by P Q → IsEmpty (FailsWidth P v) → IsEmpty (FailsWidth Q v)
width by P Q v a none x y f = none (x -ℤ by) y (record {
  covered = down by P Q a x y f.covered;
  short = elim f.short [
    | inl s ↦ inl (short by (λ z. P z y) (λ z. Q z y) (row by P Q a y) v (x -ℤ by) x (omega (arith, ints)) s)
    | inr s ↦ inr (short (pos 0) (λ z. P (x -ℤ by) z) (λ z. Q x z) (column by P Q a x) v y y (omega (arith, ints)) s)
  ];
})

pub size : (by : ℤ) (P Q : ℤ → ℤ → Type 0) (v : ℕ) → AreShifted by P Q → IsEmpty (FailsSize P v) → IsEmpty (FailsSize Q v)
size by P Q v a none x y f = none (x -ℤ by) y (record {
  covered = down by P Q a x y f.covered;
  off = elim f.off [
    | inl s ↦ inl (off by (λ z. P z y) (λ z. Q z y) (row by P Q a y) v (x -ℤ by) x (omega (arith, ints)) s)
    | inr s ↦ inr (off (pos 0) (λ z. P (x -ℤ by) z) (λ z. Q x z) (column by P Q a x) v y y (omega (arith, ints)) s)
  ];
})

abbrev pub moved_cell : ℤ → Cell → Cell
moved_cell by c = record { x = c.x +ℤ by; y = c.y }

pub moved_edge : (by : ℤ) (a b : Cell) → Edge a b → Edge (moved_cell by a) (moved_cell by b)
moved_edge by a b (to_right e f) = to_right (omega (arith, ints, e)) f
moved_edge by a b (to_left e f) = to_left (omega (arith, ints, e)) f
moved_edge by a b (upward e f) = upward (omega (arith, ints, e)) f
moved_edge by a b (downward e f) = downward (omega (arith, ints, e)) f

pub class : (by : ℤ) (P Q : ℤ → ℤ → Type 0) → AreShifted by P Q → (x y s t u v : ℤ) → u ≡ x +ℤ by → v ≡ s +ℤ by → SameClass P x y s t → SameClass Q u y v t
class by P Q a x y s t u v e f c =
    subst (λ z. SameClass Q z y v t) (sym e) (subst (λ z. SameClass Q (x +ℤ by) y z t) (sym f)
    (carried_steps (Linked P) (Linked Q) (moved_cell by) (λ p q l. record { from = up by P Q a p.x p.y l.from; to = up by P Q a q.x q.y l.to; edge = moved_edge by p q l.edge }) c.count _ _ c.steps))

near_back : (by : ℤ) (d : ℕ) (x y s t : ℤ) → Near d x y s t → Near d (x -ℤ by) y (s -ℤ by) t
near_back by d x y s t n = let a = n.left in let b = n.right in record { left = omega (arith, ints, a); right = omega (arith, ints, b); low = n.low; high = n.high }

pub spacing : (by : ℤ) (P Q : ℤ → ℤ → Type 0) (v : ℕ) → AreShifted by P Q → IsEmpty (FailsSpacing P v) → IsEmpty (FailsSpacing Q v)
spacing by P Q v a none x y (inl f) = none (x -ℤ by) y (inl (record {
  bare = λ p. f.bare ((a.same (x -ℤ by) x y (omega (arith, ints))).0 p);
  notch = elim f.notch [
    | inl n ↦ inl (notch by (λ z. P z y) (λ z. Q z y) (row by P Q a y) v (x -ℤ by) x (omega (arith, ints)) n)
    | inr n ↦ inr (notch (pos 0) (λ z. P (x -ℤ by) z) (λ z. Q x z) (column by P Q a x) v y y (omega (arith, ints)) n)
  ];
}))
spacing by P Q v a none x y (inr f) = none (x -ℤ by) y (inr (record {
  covered = down by P Q a x y f.covered;
  s = f.s -ℤ by;
  t = f.t;
  other = down by P Q a f.s f.t f.other;
  near = near_back by v x y f.s f.t f.near;
  apart = λ c. f.apart (class by P Q a (x -ℤ by) y (f.s -ℤ by) f.t x f.s (omega (arith, ints)) (omega (arith, ints)) c);
}))

pub fails_surround : (by : ℤ) (P Q R S : ℤ → ℤ → Type 0) (d : ℕ) → AreShifted by P Q → AreShifted by R S → (x y : ℤ) → FailsSurround Q S d x y → FailsSurround P R d (x -ℤ by) y
fails_surround by P Q R S d a b x y f = record { covered = down by P Q a x y f.covered; s = f.s -ℤ by; t = f.t; near = near_back by d x y f.s f.t f.near; out = λ r. f.out ((b.same (f.s -ℤ by) f.s f.t (omega (arith, ints))).0 r) }

pub fails_away : (by : ℤ) (P Q R S : ℤ → ℤ → Type 0) (d : ℕ) → AreShifted by P Q → AreShifted by R S → (x y : ℤ) → FailsAway Q S d x y → FailsAway P R d (x -ℤ by) y
fails_away by P Q R S d a b x y f = record { covered = down by P Q a x y f.covered; s = f.s -ℤ by; t = f.t; near = near_back by d x y f.s f.t f.near; within = down by R S b f.s f.t f.within }

pub fails_partly : (by : ℤ) (P Q R S : ℤ → ℤ → Type 0) (d : ℕ) → AreShifted by P Q → AreShifted by R S → (x y : ℤ) → FailsPartly Q S d x y → FailsPartly P R d (x -ℤ by) y
fails_partly by P Q R S d a b x y f = (fails_away by P Q R S d a b x y f.0, fails_surround by P Q R S d a b x y f.1)
