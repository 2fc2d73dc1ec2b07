-- Which comparisons decide how spans lie.
use Rattle.std.proofs.Common.{int_le, int_lt, ℤ, ◌≤ℤ◌, ◌<ℤ◌, arith}
use Rattle.std.specs.Bool.{Decides}
use Rattle.std.proofs.lemmas.Int.{ints}
use Rattle.std.proofs.lemmas.Bool.Decides.{Decides-and}
use Rattle.box_geom.specs.Comparisons.{within, overlapping, reaching}

pub int_le_decides : (a b : ℤ) → Decides (int_le a b) (a ≤ℤ b)
int_le_decides a b = (λ e. omega (arith, ints), λ h. grind (arith, ints))

pub int_lt_decides : (a b : ℤ) → Decides (int_lt a b) (a <ℤ b)
int_lt_decides a b = (λ e. omega (arith, ints), λ h. grind (arith, ints))

pub within_decides : (a b x : ℤ) → Decides (within a b x) ((a ≤ℤ x) × (x <ℤ b))
unfolding within
within_decides a b x = Decides-and (int_le a x) (int_lt x b) (int_le_decides a x) (int_lt_decides x b)

pub overlap_decides : (a b c d : ℤ) → Decides (overlapping a b c d) ((a <ℤ d) × (c <ℤ b))
unfolding overlapping
overlap_decides a b c d = Decides-and (int_lt a d) (int_lt c b) (int_lt_decides a d) (int_lt_decides c b)

pub reach_decides : (a b c d : ℤ) → Decides (reaching a b c d) ((a ≤ℤ d) × (c ≤ℤ b))
unfolding reaching
reach_decides a b c d = Decides-and (int_le a d) (int_le c b) (int_le_decides a d) (int_le_decides c b)
