-- What a reference moves without a turn, in grid units and in file units.
use Rattle.std.proofs.Common.{ℕ, zero, suc, ◌≡◌, ◌≤◌, ℤ, pos, ◌+ℤ◌, ◌*ℤ◌, unsigned_abs, false, refl, ap, ◌∙◌, arith}
use Rattle.std.proofs.lemmas.Int.{ints}
use Rattle.std.proofs.Math.IntN.{*ℤ_comm, *ℤ-zero, suc_ℤ-*ℤ}
use Rattle.box_geom.specs.Rectangle.{Rectangle, IsProper, IsRectangle}
use Rattle.gds_area.specs.declared.placement.Turn.TheVariants as turn
use Rattle.gds_area.specs.declared.placement.Move.{Move}
use Rattle.gds_area.specs.Areas.{area_of}
use Rattle.gds_area.specs.Moves.{moved_area, stays}
use Rattle.gds_read.specs.RoundTrip.{rect_moved}
use Rattle.gds_area.proofs.Moved.{area_stays}
use Rattle.gds_read.proofs.RoundTripWords.{scaled_up}

-- so many grid units in x and in y, of so many file units each
abbrev pub shift_by : ℕ → ℤ → ℤ → Move
shift_by unit x y = record { mirrored = false; turn = turn.Zero; x = x *ℤ pos unit; y = y *ℤ pos unit }

-- a move of file units takes rectangles of grid units to others
pub record Takes (unit : ℕ) (m : Move) (f : Rectangle → Rectangle) : Type 0 where
  pub moves : (r : Rectangle) → moved_area m (area_of (scaled_up unit r)) ≡ area_of (scaled_up unit (f r))

pub staying : (unit : ℕ) → Takes unit stays (λ r. r)
staying unit = record { moves = λ r. area_stays (area_of (scaled_up unit r)) }

once_more : (z : ℤ) (n : ℕ) → z *ℤ pos (suc n) ≡ (z *ℤ pos n) +ℤ z
once_more z n = *ℤ_comm z (pos (suc n)) ∙ (suc_ℤ-*ℤ (pos n) z ∙ ap (λ (t : ℤ). t +ℤ z) (*ℤ_comm (pos n) z))

times_sum : (a b : ℤ) (n : ℕ) → (a +ℤ b) *ℤ pos n ≡ (a *ℤ pos n) +ℤ (b *ℤ pos n)
times_sum a b zero = rw (*ℤ-zero (a +ℤ b), *ℤ-zero a, *ℤ-zero b) refl
times_sum a b (suc n) = sum _ _ _ _ _ _ (times_sum a b n) (once_more (a +ℤ b) n) (once_more a n) (once_more b n)
  where
    sum : (p q r s t u : ℤ) → p ≡ q +ℤ r → s ≡ p +ℤ (a +ℤ b) → t ≡ q +ℤ a → u ≡ r +ℤ b → s ≡ t +ℤ u
    sum p q r s t u e f g h = omega (arith, ints, e, f, g, h)

-- twice a number that is moved
side_moved : (unit : ℕ) (a b : ℤ) → (pos 2 *ℤ (a *ℤ pos unit)) +ℤ (pos 2 *ℤ (b *ℤ pos unit)) ≡ pos 2 *ℤ ((a +ℤ b) *ℤ pos unit)
side_moved unit a b = twice (a *ℤ pos unit) (b *ℤ pos unit) ((a +ℤ b) *ℤ pos unit) (times_sum a b unit)
  where
    twice : (p q r : ℤ) → r ≡ p +ℤ q → (pos 2 *ℤ p) +ℤ (pos 2 *ℤ q) ≡ pos 2 *ℤ r
    twice p q r e = omega (arith, ints, e)

pub shifting : (unit : ℕ) (x y : ℤ) → Takes unit (shift_by unit x y) (rect_moved x y)
unfolding area_of moved_area
shifting unit x y = record {
  moves = λ r. rw (side_moved unit r.x1 x, side_moved unit r.x2 x, side_moved unit r.y1 y, side_moved unit r.y2 y) refl;
}

-- what may be written stays within the limits of a drawing where it is moved so
pub within_limits : (r : Rectangle) (x y : ℤ) → IsProper r → unsigned_abs r.x1 ≤ 214748364 → unsigned_abs r.x2 ≤ 214748364 → unsigned_abs r.y1 ≤ 214748364 → unsigned_abs r.y2 ≤ 214748364 → unsigned_abs x ≤ 214748364 → unsigned_abs y ≤ 214748364 → IsRectangle (rect_moved x y r)
within_limits r x y proper x1 x2 y1 y2 fx fy = record {
  proper = record { wide = omega (arith, ints, proper.wide); high = omega (arith, ints, proper.high) };
  left = omega (arith, ints, x1, fx);
  right = omega (arith, ints, x2, fx);
  low = omega (arith, ints, y1, fy);
  top = omega (arith, ints, y2, fy);
}
