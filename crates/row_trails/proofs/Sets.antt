-- Sets and counts of nets as tables.
use Rattle.std.specs.Prelude.{ℕ, zero, suc, ◌≡◌, ◌+◌, ◌≤◌, ◌<◌, Bool, true, false, not, ◌&&◌, ◌==◌, if◌then◌else◌, List, get_or, length, replicate, slice_set}
use Rattle.std.proofs.Common.{inl, inr, refl, ap, arith}
use Rattle.std.proofs.lemmas.Bool.{cases_eq, eq-eqb, ne_eqb}
use Rattle.std.proofs.lemmas.List.{get_or-set_other, get_or-set_same}
use Rattle.row_trails.specs.Counts.{size_in}
use Rattle.row_trails.specs.Trails.{size, toggle}

pub size_more : (n : ℕ) (f : ℕ → Bool) → size (n + 1) f ≡ size n f + (if f n then 1 else 0)
size_more n f = let e : n + 1 ≡ suc n = omega arith in ap (λ m. size m f) e

bit_le : (b : Bool) → (if b then 1 else 0) ≤ 1
bit_le true = omega arith
bit_le false = omega arith

pub size_le : (n : ℕ) (f : ℕ → Bool) → size n f ≤ n
size_le zero f = omega arith
size_le (suc n) f = omega (arith, bit_le (f n), size_le n f)

pub toggled_at : (set : List Bool) (net u : ℕ) → net < length set → get_or (slice_set set net (not (get_or set net false))) u false ≡ toggle net (λ v. get_or set v false) u
toggled_at set net u within = elim (cases_eq u net) [
  | inl e ↦
      let there : get_or (slice_set set net (not (get_or set net false))) net false ≡ not (get_or set net false) = get_or-set_same set net (not (get_or set net false)) false within in
      rw (e, eq-eqb net net refl) there
  | inr ne ↦
      let there : get_or (slice_set set net (not (get_or set net false))) u false ≡ get_or set u false = get_or-set_other set net u (not (get_or set net false)) false ne in
      rw (ne_eqb u net ne) there
]

pub none_counted : (n h : ℕ) → ◌≡◌ {A = ℕ} (get_or (replicate n 0) h 0) 0
none_counted zero h = refl
none_counted (suc n) zero = refl
none_counted (suc n) (suc h) = none_counted n h

pub size_in_le : (n : ℕ) (c : ℕ → ℕ) (o : ℕ → Bool) (h : ℕ) → size_in n c o h ≤ n
size_in_le n c o h = size_le n (λ u. (c u == h) && o u)
