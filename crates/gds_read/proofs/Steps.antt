-- The steps of an array stay near.
use Rattle.std.proofs.Common.{ℕ, suc, ◌/◌, ◌^◌, ◌≤◌, ℤ, pos, negsuc, neg_ℤ, ◌≤ℤ◌, arith}
use Rattle.std.specs.Int.{int_div_euclid}
use Rattle.std.proofs.lemmas.Int.{ints}
use Rattle.std.proofs.Math.Nat.{div-le_self}
use Rattle.gds_area.specs.declared.placement.Move.{Move}
use Rattle.gds_area.specs.Moves.{IsNear}

-- a step is no longer than the way
step_short : (z : ℤ) (whole : ℕ) → neg_ℤ (pos (2 ^ 32)) ≤ℤ z → z ≤ℤ pos (2 ^ 32) → (neg_ℤ (pos (2 ^ 33)) ≤ℤ int_div_euclid z (pos whole)) × (int_div_euclid z (pos whole) ≤ℤ pos (2 ^ 33))
step_short (pos n) whole low high =
    let q : n / whole ≤ n = div-le_self n whole in
    let top : n ≤ 2 ^ 32 = omega (arith, ints, high) in
    (let all : n / whole ≤ 2 ^ 32 = omega (arith, q, top) in near (n / whole) all)
  where
    near : (k : ℕ) → k ≤ 2 ^ 32 → (neg_ℤ (pos (2 ^ 33)) ≤ℤ pos k) × (pos k ≤ℤ pos (2 ^ 33))
    near k h = (omega (arith, ints), omega (arith, ints, h))
step_short (negsuc n) whole low high =
    let q : n / whole ≤ n = div-le_self n whole in
    let top : suc n ≤ 2 ^ 32 = omega (arith, ints, low) in
    (let all : n / whole ≤ 2 ^ 32 = omega (arith, q, top) in below (n / whole) all)
  where
    below : (k : ℕ) → k ≤ 2 ^ 32 → (neg_ℤ (pos (2 ^ 33)) ≤ℤ negsuc k) × (negsuc k ≤ℤ pos (2 ^ 33))
    below k h = (omega (arith, ints, h), omega (arith, ints))

pub step_low : (z : ℤ) (whole : ℕ) → neg_ℤ (pos (2 ^ 32)) ≤ℤ z → z ≤ℤ pos (2 ^ 32) → neg_ℤ (pos (2 ^ 33)) ≤ℤ int_div_euclid z (pos whole)
step_low z whole low high = (step_short z whole low high).0

pub step_high : (z : ℤ) (whole : ℕ) → neg_ℤ (pos (2 ^ 32)) ≤ℤ z → z ≤ℤ pos (2 ^ 32) → int_div_euclid z (pos whole) ≤ℤ pos (2 ^ 33)
step_high z whole low high = (step_short z whole low high).1

pub near_one : (m : Move) → neg_ℤ (pos (2 ^ 52)) ≤ℤ m.x → m.x ≤ℤ pos (2 ^ 52) → neg_ℤ (pos (2 ^ 52)) ≤ℤ m.y → m.y ≤ℤ pos (2 ^ 52) → IsNear 1 m
near_one m left right low high = record { left = left; right = right; low = low; high = high }
