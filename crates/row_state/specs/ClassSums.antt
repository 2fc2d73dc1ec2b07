-- Sums over the classes, with two of them apart.
use Rattle.std.proofs.Common.{ℕ, zero, suc, ◌≡◌, ◌+◌, ◌<◌, ◌≤◌, ◌==◌, if◌then◌else◌, max, min, refl, sym, ap, arith}
use Rattle.std.proofs.Common.{inl, inr}
use Rattle.std.proofs.lemmas.Bool.{cases_eq, cases_lt, eq-eqb, ne_eqb}
use Rattle.cell_num.specs.Fingers.{sum_below}
use Rattle.row_state.specs.Gates.{OneDiffers, one_differs}

pub sum_below_mono : (f g : ℕ → ℕ) (n : ℕ) → ((h : ℕ) → f h ≤ g h) → sum_below f n ≤ sum_below g n
sum_below_mono f g zero le = omega arith
sum_below_mono f g (suc n) le = omega (arith, sum_below_mono f g n le, le n)

pub but : (ℕ → ℕ) → ℕ → ℕ → ℕ
but f at h = if h == at then 0 else f h

but_at : (f : ℕ → ℕ) (at h : ℕ) → h ≡ at → but f at h ≡ 0
unfolding but
but_at f at h e = rw (eq-eqb h at e) refl

pub but_other : (f : ℕ → ℕ) (at h : ℕ) → (h ≡ at → ⊥) → but f at h ≡ f h
unfolding but
but_other f at h other = rw (ne_eqb h at other) refl

sum_at : (f : ℕ → ℕ) (n at : ℕ) → at < n → sum_below f n ≡ f at + sum_below (but f at) n
sum_at f n at within =
    let differs : OneDiffers f (but f at) n at =
    one_differs f (but f at) n at (λ h other. sym (but_other f at h other)) in
    let none : but f at at ≡ 0 = but_at f at at refl in
    omega (arith, differs.within within, none)

-- the sum over the classes but for two of them
pub rest : (ℕ → ℕ) → ℕ → ℕ → ℕ → ℕ
rest f a b n = sum_below (but (but f b) a) n

pub sum_pair : (f : ℕ → ℕ) (n a b : ℕ) → a < n → b < n → sum_below f n ≡ f b + but f b a + rest f a b n
unfolding rest
sum_pair f n a b a_net b_net = omega (arith, sum_at f n b b_net, sum_at (but f b) n a a_net)

pub rest_le : (f g : ℕ → ℕ) (n a b : ℕ) → ((h : ℕ) → (h ≡ a → ⊥) → (h ≡ b → ⊥) → f h ≤ g h) → rest f a b n
    ≤ rest g a b n
unfolding rest
rest_le f g n a b le =
    sum_below_mono (but (but f b) a) (but (but g b) a) n (λ h. elim (cases_eq h a) [
      | inl e ↦ omega (arith, but_at (but f b) a h e)
      | inr not_a ↦ elim (cases_eq h b) [
        | inl e ↦ omega (arith, but_other (but f b) a h not_a, but_at f b h e)
        | inr not_b ↦ omega (
          arith,
          but_other (but f b) a h not_a,
          but_other f b h not_b,
          but_other (but g b) a h not_a,
          but_other g b h not_b,
          le h not_a not_b,
        )
      ]
    ])

-- a sum in which the two classes are one
pub sum_low : (f g : ℕ → ℕ) (n a b : ℕ) → a < n → b < n → ((h : ℕ) → (h ≡ a → ⊥) → (h ≡ b → ⊥) → f h ≤ g h)
    → ((a ≡ b → ⊥) → f (max a b) ≡ 0) → sum_below f n ≤ f (min a b) + rest g a b n
sum_low f g n a b a_net b_net le high =
    let pair : sum_below f n ≡ f b + but f b a + rest f a b n = sum_pair f n a b a_net b_net in
    let behind : rest f a b n ≤ rest g a b n = rest_le f g n a b le in
    elim (cases_eq a b) [
      | inl e ↦
          let low : b ≡ min a b = omega (arith, e) in
          omega (arith, pair, behind, but_at f b a e, ap f low)
      | inr differ ↦ elim (cases_lt a b) [
        | inl less ↦
            let low : a ≡ min a b = omega (arith, less) in
            let top : b ≡ max a b = omega (arith, less) in
            omega (arith, pair, behind, but_other f b a differ, ap f low, ap f top, high differ)
        | inr above ↦
            let low : b ≡ min a b = omega (arith, above) in
            let top : a ≡ max a b = omega (arith, above) in
            omega (arith, pair, behind, but_other f b a differ, ap f low, ap f top, high differ)
      ]
    ]
