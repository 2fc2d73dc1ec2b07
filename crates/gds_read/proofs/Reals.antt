-- Reals that are whole numbers, without large powers.
use Rattle.std.proofs.Common.{ℕ, zero, suc, ◌≡◌, ◌+◌, ◌-◌, ◌*◌, ◌%◌, ◌^◌, ◌<◌, ◌≤◌, ◌==◌, false, sym, ap, ◌∙◌, arith, inl, inr}
use Rattle.std.proofs.Math.Nat.{pow-le-pow_right, one-le-pow, mul-le-mul, mul-mod_left}
use Rattle.std.proofs.lemmas.Nat.{pow-add}
use Rattle.std.proofs.lemmas.Bool.{cases_eq, cases_lt, eq-eqb, ne_eqb}

same_test : (a b c d : ℕ) → (a ≡ b → c ≡ d) → (c ≡ d → a ≡ b) → (a == b) ≡ (c == d)
same_test a b c d there back = elim (cases_eq a b) [
  | inl e ↦ eq-eqb a b e ∙ sym (eq-eqb c d (there e))
  | inr ne ↦ ne_eqb a b ne ∙ sym (ne_eqb c d (λ e. ne (back e)))
]

split_at : (e k : ℕ) → e + k ≡ 78 → 16 ^ 78 ≡ 16 ^ e * 16 ^ k
split_at e k h = ap (λ (n : ℕ). 16 ^ n) (sym h) ∙ pow-add 16 e k

cancelled : (a b x : ℕ) → 0 < x → a * x ≡ b * x → a ≡ b
cancelled a b x some e = elim (cases_lt a b) [
  | inl lt ↦ absurd (let more : suc a * x ≤ b * x = mul-le-mul (let l : suc a ≤ b = omega (arith, lt) in l) (let l : x ≤ x = omega arith in l) in omega (arith, more, e, some))
  | inr ge ↦ elim (cases_lt b a) [
    | inl lt ↦ absurd (let more : suc b * x ≤ a * x = mul-le-mul (let l : suc b ≤ a = omega (arith, lt) in l) (let l : x ≤ x = omega arith in l) in omega (arith, more, e, some))
    | inr le ↦ (let same : a ≡ b = omega (arith, ge, le) in same)
  ]
]

moved_over : (v x y : ℕ) → v * (x * y) ≡ v * y * x
moved_over v x y = omega arith

pub as_whole : (m e k v : ℕ) → e + k ≡ 78 → (m * 16 ^ e == v * 16 ^ 78) ≡ (m == v * 16 ^ k)
as_whole m e k v h =
    let all : v * 16 ^ 78 ≡ v * 16 ^ k * 16 ^ e = ap (λ (n : ℕ). v * n) (split_at e k h) ∙ moved_over v (16 ^ e) (16 ^ k) in
    same_test (m * 16 ^ e) (v * 16 ^ 78) m (v * 16 ^ k)
    (λ same. cancelled m (v * 16 ^ k) (16 ^ e) (one-le-pow e 16 (omega arith)) (same ∙ all))
    (λ same. ap (λ (n : ℕ). n * 16 ^ e) same ∙ sym all)

pub too_small : (m e v : ℕ) → 0 < v → m < 2 ^ 56 → e ≤ 53 → (m * 16 ^ e == v * 16 ^ 78) ≡ false
too_small m e v some lt le =
    let p : 16 ^ e ≤ 16 ^ 53 = pow-le-pow_right (omega arith) le in
    let q : m * 16 ^ e ≤ 2 ^ 56 * 16 ^ 53 = mul-le-mul (let l : m ≤ 2 ^ 56 = omega (arith, lt) in l) p in
    let r : 1 * 16 ^ 78 ≤ v * 16 ^ 78 = mul-le-mul (let l : 1 ≤ v = omega (arith, some) in l) (let l : 16 ^ 78 ≤ 16 ^ 78 = omega arith in l) in
    ne_eqb (m * 16 ^ e) (v * 16 ^ 78) (λ same. omega (arith, q, r, same))

sixteenth : (m e k v : ℕ) → e ≡ k + 78 → 0 < k → m * 16 ^ e ≡ v * 16 ^ 78 → v % 16 ≡ 0
sixteenth m e zero v h some same = absurd (omega (arith, some))
sixteenth m e (suc k) v h some same =
    let power : 16 ^ e ≡ 16 ^ suc k * 16 ^ 78 = ap (λ (n : ℕ). 16 ^ n) h ∙ pow-add 16 (suc k) 78 in
    let all : m * (16 ^ suc k * 16 ^ 78) ≡ m * 16 ^ suc k * 16 ^ 78 = moved_out m (16 ^ suc k) (16 ^ 78) in
    let whole : m * 16 ^ suc k ≡ v = cancelled (m * 16 ^ suc k) v (16 ^ 78) (omega arith) (sym all ∙ (ap (λ (n : ℕ). m * n) (sym power) ∙ same)) in
    let parts : m * 16 ^ suc k ≡ m * 16 ^ k * 16 = ap (λ (n : ℕ). m * n) (one_power k) ∙ moved_out m (16 ^ k) 16 in
    ap (λ (n : ℕ). n % 16) (sym whole ∙ parts) ∙ mul-mod_left (m * 16 ^ k) 16
  where
    moved_out : (m x y : ℕ) → m * (x * y) ≡ m * x * y
    moved_out m x y = omega arith

    one_power : (k : ℕ) → 16 ^ suc k ≡ 16 ^ k * 16
    one_power k = omega arith

pub too_large : (m e v : ℕ) → (v % 16 ≡ 0 → ⊥) → 78 < e → (m * 16 ^ e == v * 16 ^ 78) ≡ false
too_large m e v odd lt = ne_eqb (m * 16 ^ e) (v * 16 ^ 78) (λ same. odd (sixteenth m e (e - 78) v (omega (arith, lt)) (omega (arith, lt)) same))
