-- Counts of ends, and balances that are small.
use Rattle.std.proofs.Common.{ℕ, ◌≡◌, ◌+◌, ◌≤◌, ◌^◌, ◌==◌, Bool, true, false, cond, if◌then◌else◌, leb, List, []}
use Rattle.std.proofs.Common.{◌∷◌, length, refl, arith, inl, inr}
use Rattle.std.proofs.Common.{count_by}
use Rattle.std.specs.List.{list_all}
use Rattle.std.proofs.lemmas.Bool.{and_parts, cases_Bool, leb-true}
use Rattle.std.proofs.lemmas.List.Sums.{count_by-le-length, sum_by-cons}
use Rattle.cell_num.specs.declared.finger.Row.{Row}
use Rattle.trail_state.specs.declared.edge.FingerEnds.{FingerEnds}
use Rattle.trail_check.proofs.OddEnds.{count_cons}
use Rattle.open_gates.specs.Merged.{net_in}
use Rattle.trail_halves.specs.Halves.{free}
use Rattle.trail_pools.specs.declared.state.Balance.{Balance}
use Rattle.trail_pools.specs.State.{balance_in, is_small}
use Rattle.trail_pools.specs.Stepping.{count_of}

-- ---- free ends

abbrev at_low : ℕ → FingerEnds → Bool
at_low net half = half.lo == net

abbrev at_high : ℕ → FingerEnds → Bool
at_high net half = half.hi == net

bit_is : (b : Bool) → ◌≡◌ {A = ℕ} (cond b 1 0) (if b then 1 else 0)
bit_is true = refl
bit_is false = refl

pub free_parts : (halves : List FingerEnds) (net : ℕ)
    → count_by (at_low net) halves + count_by (at_high net) halves ≡ free halves net
free_parts [] net = refl
free_parts (half ∷ halves) net =
    omega (
      arith,
      free_parts halves net,
      count_cons (at_low net) half halves,
      count_cons (at_high net) half halves,
      bit_is (half.lo == net),
      bit_is (half.hi == net),
      sum_by-cons (λ (h : FingerEnds). (if h.lo == net then 1 else 0) + (if h.hi == net then 1 else 0)) half halves,
    )

pub few_low : (halves : List FingerEnds) (net k : ℕ) → k ≡ count_by (at_low net) halves → k ≤ length halves
few_low halves net k is = omega (arith, is, count_by-le-length (at_low net) halves)

pub few_high : (halves : List FingerEnds) (net k : ℕ) → k ≡ count_by (at_high net) halves → k ≤ length halves
few_high halves net k is = omega (arith, is, count_by-le-length (at_high net) halves)

pub few_odd : (r : Row) (shut : List ℕ) (net : ℕ) → count_of r shut net ≤ length shut
few_odd r shut net = count_by-le-length (λ v. net_in r v == net) shut

-- ---- small balances

both_small : (b : Balance) → is_small b ≡ true → (b.waiting ≤ 2 ^ 31) × (b.free ≤ 2 ^ 31)
both_small b e =
    let parts : (leb b.waiting (2 ^ 31) ≡ true) × (leb b.free (2 ^ 31) ≡ true) =
    and_parts (leb b.waiting (2 ^ 31)) (leb b.free (2 ^ 31)) e in
    (leb-true b.waiting (2 ^ 31) parts.0, leb-true b.free (2 ^ 31) parts.1)

pub small_in : (balances : List Balance) (net : ℕ) → list_all is_small balances ≡ true
    → ((balance_in balances net).waiting ≤ 2 ^ 31) × ((balance_in balances net).free ≤ 2 ^ 31)
small_in [] net all = (omega arith, omega arith)
small_in (b ∷ balances) net all =
    let parts : (is_small b ≡ true) × (list_all is_small balances ≡ true) =
    and_parts (is_small b) (list_all is_small balances) all in
    elim (cases_Bool (b.net == net)) [
      | inl on ↦ rw on (both_small b parts.0)
      | inr off ↦ rw off (small_in balances net parts.1)
    ]
