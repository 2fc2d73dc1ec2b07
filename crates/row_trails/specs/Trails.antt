-- One row of a list of columns as a walk: what it costs, and which nets it meets an odd number of times.
use Rattle.std.specs.Prelude.{ℕ, zero, suc, ◌≡◌, ◌+◌, ◌*◌, ◌<◌, ◌≤◌, Bool, true, false, not, ◌||◌, ◌==◌, if◌then◌else◌}
use Rattle.std.specs.Prelude.{cond, List, [], ◌∷◌, Option, Some, None, refl}
use Rattle.std.proofs.Common.{arith, ◌∙◌, inl, inr}
use Rattle.std.proofs.lemmas.Bool.{cases_eq, eq-eqb, ne_eqb}
use Rattle.cell_num.specs.declared.net.NetNo.{NetNo}
use Rattle.row_model.specs.declared.column.Placed.{Placed}
use Rattle.row_model.specs.Gaps.{left_net, right_net}
use Rattle.std.specs.Prelude.{map, option_map}
use Rattle.cell_num.specs.declared.finger.Row.{Row}
use Rattle.cell_num.specs.declared.finger.Row.TheVariants.{P, N}
use Rattle.row_model.specs.declared.column.Column.{Column}
use Rattle.row_model.specs.Arrangement.{place}
use Rattle.row_model.specs.Gaps.{gaps_of, is_gap, facing_differs}
use Rattle.std.specs.List.{zip}
use Rattle.std.proofs.lemmas.List.Sums.{sum_by-cons}

-- the open end and the place that follows differ
abbrev pub end_differs : Option NetNo → Option Placed → Bool
end_differs (Some v) (Some x) = not (v.0 == (left_net x).0)
end_differs _ _ = false

-- the gaps of a row behind an open end
abbrev pub row_cost : Option NetNo → List (Option Placed) → ℕ
row_cost end [] = 0
row_cost end (None ∷ xs) = row_cost None xs
row_cost end (Some x ∷ xs) = (if end_differs end (Some x) then 1 else 0) + row_cost (Some (right_net x)) xs

abbrev pub empties : List (Option Placed) → ℕ
empties [] = 0
empties (None ∷ xs) = 1 + empties xs
empties (Some x ∷ xs) = empties xs

-- the set with v taken out, or put in
abbrev pub toggle : ℕ → (ℕ → Bool) → ℕ → Bool
toggle v f u = if u == v then not (f u) else f u

-- how many numbers below n are in the set
abbrev pub size : ℕ → (ℕ → Bool) → ℕ
size zero f = 0
size (suc n) f = size n f + (if f n then 1 else 0)

-- the nets that a row meets an odd number of times
abbrev pub odd : List (Option Placed) → ℕ → Bool
odd [] = λ u. false
odd (None ∷ xs) = odd xs
odd (Some x ∷ xs) = toggle (left_net x).0 (toggle (right_net x).0 (odd xs))

bit : Bool → ℕ
bit b = if b then 1 else 0

bit_le : (b : Bool) → (if b then 1 else 0) ≤ 1
bit_le true = omega arith
bit_le false = omega arith

pub size_same : (n : ℕ) (f g : ℕ → Bool) → ((u : ℕ) → u < n → f u ≡ g u) → size n f ≡ size n g
size_same zero f g same = refl
size_same (suc n) f g same =
    let before : size n f ≡ size n g = size_same n f g (λ u l. same u (omega arith)) in
    let here : f n ≡ g n = same n (omega arith) in
    rw (before, here) refl

pub toggle_other : (v : ℕ) (f : ℕ → Bool) (u : ℕ) → (u ≡ v → ⊥) → toggle v f u ≡ f u
toggle_other v f u other = rw (ne_eqb u v other) refl

pub toggle_twice : (v : ℕ) (f : ℕ → Bool) (u : ℕ) → toggle v (toggle v f) u ≡ f u
toggle_twice v f u =
    elim (cases_eq u v) [
      | inl same ↦ rw (eq-eqb u v same) (twice (f u))
      | inr other ↦ toggle_other v (toggle v f) u other ∙ toggle_other v f u other
    ]
  where
    twice : (b : Bool) → not (not b) ≡ b
    twice true = refl
    twice false = refl

-- one net more or less changes the size by one at most
pub size_toggle : (n v : ℕ) (f : ℕ → Bool) → size n (toggle v f) ≤ size n f + 1
size_toggle zero v f = omega arith
size_toggle (suc n) v f =
    elim (cases_eq n v) [
      | inl same ↦
          let below : size n (toggle v f) ≡ size n f =
          size_same n (toggle v f) f (λ u l. toggle_other v f u (λ e. omega (arith, same))) in
          omega (arith, below, bit_le (toggle v f n))
      | inr other ↦
          let here : toggle v f n ≡ f n = toggle_other v f n other in
          let bits : ◌≡◌ {A = ℕ} (if toggle v f n then 1 else 0) (if f n then 1 else 0) = rw here refl in
          omega (arith, bits, size_toggle n v f)
    ]

-- the odd nets are at most twice the breaks of the walk, and one more, or two where its start is free
pub record Bounds (n : ℕ) (xs : List (Option Placed)) : Type 0 where
  pub after : (v : NetNo) → size n (toggle v.0 (odd xs)) ≤ 2 * (row_cost (Some v) xs + empties xs) + 1
  pub free : size n (odd xs) ≤ 2 * (row_cost None xs + empties xs) + 2

pub size_none : (n : ℕ) → size n (λ u. false) ≡ 0
size_none zero = refl
size_none (suc n) = omega (arith, size_none n)

pub bounds : (n : ℕ) (xs : List (Option Placed)) → Bounds n xs
bounds n [] = record {
  after = λ v. omega (arith, size_toggle n v.0 (λ u. false), size_none n);
  free = omega (arith, size_none n);
}
bounds n (None ∷ xs) =
    let rest = bounds n xs in
    record { after = λ v. omega (arith, rest.free, size_toggle n v.0 (odd xs)); free = omega (arith, rest.free) }
bounds n (Some x ∷ xs) =
    let rest : Bounds n xs = bounds n xs in
    let inner : size n (toggle (right_net x).0 (odd xs)) ≤ 2 * (row_cost (Some (right_net x)) xs + empties xs) + 1 =
    rest.after (right_net x) in
    record {
      after = λ v. elim (cases_eq v.0 (left_net x).0) [
        | inl same ↦
            let gone : size n (toggle v.0 (toggle (left_net x).0 (toggle (right_net x).0 (odd xs))))
            ≡ size n (toggle (right_net x).0 (odd xs)) =
            size_same n _ _ (λ u l. rw same (toggle_twice (left_net x).0 (toggle (right_net x).0 (odd xs)) u)) in
            omega (arith, gone, inner)
        | inr other ↦
            let costs : ◌≡◌ {A = ℕ} (if end_differs (Some v) (Some x) then 1 else 0) 1 =
            rw (ne_eqb v.0 (left_net x).0 other) refl in
            omega (
              arith,
              costs,
              inner,
              size_toggle n v.0 (toggle (left_net x).0 (toggle (right_net x).0 (odd xs))),
              size_toggle n (left_net x).0 (toggle (right_net x).0 (odd xs)),
            )
      ];
      free = omega (arith, inner, size_toggle n (left_net x).0 (toggle (right_net x).0 (odd xs)));
    }

-- what stands in a row
abbrev pub places : Row → List Column → List (Option Placed)
places row columns = map (place row) columns

abbrev pub cost_at : Option NetNo → Option NetNo → Column → ℕ
cost_at p n c = if end_differs p c.p || end_differs n c.n then 1 else 0

-- what a list of columns costs behind two open ends
abbrev pub cost_behind : Option NetNo → Option NetNo → List Column → ℕ
cost_behind p n [] = 0
cost_behind p n (c ∷ cs) = cost_at p n c + cost_behind (option_map right_net c.p) (option_map right_net c.n) cs

or_left_le : (a b : Bool) → (if a then 1 else 0) ≤ (if a || b then 1 else 0)
or_left_le true b = omega arith
or_left_le false b = omega arith

or_right_le : (a b : Bool) → (if b then 1 else 0) ≤ (if a || b then 1 else 0)
or_right_le true b = bit_le b
or_right_le false b = omega arith

p_cost_step : (p n : Option NetNo) (x y : Option Placed) (cs : List Column)
    → ((e f : Option NetNo) → row_cost e (places P cs) ≤ cost_behind e f cs) → row_cost p (x ∷ places P cs)
    ≤ (if end_differs p x || end_differs n y then 1 else 0) + cost_behind (option_map right_net x)
    (option_map right_net y) cs
p_cost_step p n None y cs rest = omega (arith, rest None (option_map right_net y))
p_cost_step p n (Some x) y cs rest = omega (
  arith,
  or_left_le (end_differs p (Some x)) (end_differs n y),
  rest (Some (right_net x)) (option_map right_net y),
)

pub p_cost_le : (p n : Option NetNo) (cs : List Column) → row_cost p (places P cs) ≤ cost_behind p n cs
p_cost_le p n [] = omega arith
p_cost_le p n (c ∷ cs) = p_cost_step p n c.p c.n cs (λ e f. p_cost_le e f cs)

n_cost_step : (p n : Option NetNo) (x y : Option Placed) (cs : List Column)
    → ((e f : Option NetNo) → row_cost f (places N cs) ≤ cost_behind e f cs) → row_cost n (y ∷ places N cs)
    ≤ (if end_differs p x || end_differs n y then 1 else 0) + cost_behind (option_map right_net x)
    (option_map right_net y) cs
n_cost_step p n x None cs rest = omega (arith, rest (option_map right_net x) None)
n_cost_step p n x (Some y) cs rest = omega (
  arith,
  or_right_le (end_differs p x) (end_differs n (Some y)),
  rest (option_map right_net x) (Some (right_net y)),
)

pub n_cost_le : (p n : Option NetNo) (cs : List Column) → row_cost n (places N cs) ≤ cost_behind p n cs
n_cost_le p n [] = omega arith
n_cost_le p n (c ∷ cs) = n_cost_step p n c.p c.n cs (λ e f. n_cost_le e f cs)

end_facing : (x y : Option Placed) → end_differs (option_map right_net x) y ≡ facing_differs x y
end_facing None y = refl
end_facing (Some x) None = refl
end_facing (Some x) (Some y) = refl

gap_cost : (c d : Column) → cost_at (option_map right_net c.p) (option_map right_net c.n) d
    ≡ (if is_gap (c, d) then 1 else 0)
gap_cost c d = rw (end_facing c.p d.p, end_facing c.n d.n) refl

-- behind a column these are gaps
pub gaps_behind : (c : Column) (cs : List Column) → cost_behind (option_map right_net c.p) (option_map right_net c.n) cs
    ≡ gaps_of (c ∷ cs)
gaps_behind c [] = refl
gaps_behind c (d ∷ cs) = omega (
  arith,
  gap_cost c d,
  gaps_behind d cs,
  sum_by-cons (λ x. cond (is_gap x) 1 0) (c, d) (zip (d ∷ cs) cs),
)
