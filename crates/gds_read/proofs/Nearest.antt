-- The nearest whole number without large powers.
use Rattle.std.proofs.Common.{ℕ, ◌≡◌, ◌+◌, ◌-◌, ◌*◌, ◌/◌, ◌^◌, ◌<◌, ◌≤◌, sym, ap, ◌∙◌, arith}
use Rattle.std.proofs.Math.Nat.{mul-div-mul_left, div-eq_of_lt, pow-le-pow_right, one-le-pow, mul-le-mul}
use Rattle.std.proofs.lemmas.Nat.{pow-add, div-mul-add}
use Rattle.gds_read.specs.Real.{nearest}

out_of_sum : (s x y : ℕ) → 2 * (s * x) + x * y ≡ x * (2 * s + y)
out_of_sum s x y = omega arith

out_of_double : (x y : ℕ) → 2 * (x * y) ≡ x * (2 * y)
out_of_double x y = omega arith

over_double : (s x y : ℕ) → 2 * (s * (x * y)) ≡ s * x * (2 * y)
over_double s x y = omega arith

pow_split : (e k : ℕ) → e + k ≡ 78 → 16 ^ 78 ≡ 16 ^ e * 16 ^ k
pow_split e k h = ap (λ (n : ℕ). 16 ^ n) (sym h) ∙ pow-add 16 e k

positive : (e : ℕ) → 0 < 16 ^ e
positive e = one-le-pow e 16 (omega arith)

-- the same over any unit
abbrev nearest_over : ℕ → ℕ → ℕ → ℕ
nearest_over s x unit = (2 * (s * x) + unit) / (2 * unit)

over_below : (s x y unit : ℕ) → unit ≡ x * y → 0 < x → nearest_over s x unit ≡ (2 * s + y) / (2 * y)
over_below s x y unit h pos =
    let top : 2 * (s * x) + unit ≡ x * (2 * s + y) = rw h (out_of_sum s x y) in
    let bottom : 2 * unit ≡ x * (2 * y) = rw h (out_of_double x y) in
    rw (top, bottom) (mul-div-mul_left (2 * s + y) (2 * y) pos)

over_above : (s x y unit : ℕ) → x ≡ y * unit → 0 < unit → nearest_over s x unit ≡ s * y
over_above s x y unit h pos =
    let top : 2 * (s * x) ≡ s * y * (2 * unit) = rw h (over_double s y unit) in
    rw top (div-mul-add (s * y) (2 * unit) unit (omega arith))

pub below : (m e k : ℕ) → e + k ≡ 78 → nearest m e ≡ (2 * (m * 10 ^ 12) + 16 ^ k) / (2 * 16 ^ k)
below m e k h = over_below (m * 10 ^ 12) (16 ^ e) (16 ^ k) (16 ^ 78) (pow_split e k h) (positive e)

pub above : (m e k : ℕ) → e ≡ k + 78 → nearest m e ≡ m * 10 ^ 12 * 16 ^ k
above m e k h = over_above (m * 10 ^ 12) (16 ^ e) (16 ^ k) (16 ^ 78) (rw h (pow-add 16 k 78)) (omega arith)

pub small : (m e : ℕ) → m < 2 ^ 56 → e ≤ 53 → nearest m e ≡ 0
small m e lt le =
    let long : 25 ≤ 78 - e = omega arith in
    let p : 16 ^ 25 ≤ 16 ^ (78 - e) = pow-le-pow_right (omega arith) long in
    below m e (78 - e) (omega arith) ∙ div-eq_of_lt (omega (arith, p, lt))

pub large : (m e : ℕ) → 0 < m → 83 ≤ e → 10 ^ 18 ≤ nearest m e
large m e pos le =
    let long : 5 ≤ e - 78 = omega arith in
    let p : 16 ^ 5 ≤ 16 ^ (e - 78) = pow-le-pow_right (omega arith) long in
    let s : 10 ^ 12 ≤ m * 10 ^ 12 = omega (arith, pos) in
    let q : 10 ^ 12 * 16 ^ 5 ≤ m * 10 ^ 12 * 16 ^ (e - 78) = mul-le-mul s p in
    rw (above m e (e - 78) (omega arith)) (omega (arith, q))

pub power_pos : (k : ℕ) → 0 < 16 ^ k
power_pos k = positive k

pub power_small : (k : ℕ) → k < 5 → 16 ^ k ≤ 16 ^ 4
power_small k lt = let small : k ≤ 4 = omega arith in pow-le-pow_right (omega arith) small

pub power_fits : (k : ℕ) → k < 25 → 16 ^ k ≤ 16 ^ 24
power_fits k lt = let small : k ≤ 24 = omega arith in pow-le-pow_right (omega arith) small

pub ruleset nearest_rules = (small, below, above, large)

pub ruleset power_rules = (power_fits, power_pos, power_small)
