-- What is taken is counted up to the limit.
use Rattle.std.proofs.Common.{ℕ, ◌≡◌, ◌+◌, ◌-◌, ◌<◌, ◌≤◌, nat_lt, length, Ok, Err, refl, sym, append-nil, arith, inl, inr}
use Rattle.std.proofs.lemmas.Bool.{cases_Bool, ltb-true, ltb-false}
use Rattle.gds_area.specs.declared.fault.GdsFault.TheVariants as fault
use Rattle.gds_area.specs.declared.progress.Progress.{Progress}
use Rattle.gds_area.specs.Progress.{one_reference, both, amount, within_limit, Adds}

pub within : (at count : ℕ) (one : Progress) → count + amount one ≤ 1000000 → within_limit at count one ≡ Ok one
within at count one h = elim (cases_Bool (nat_lt 1000000 (count + amount one))) [
  | inl e ↦ absurd (let l = ltb-true 1000000 (count + amount one) e in omega (arith, h, l))
  | inr e ↦ rw e refl
]

pub beyond : (at count : ℕ) (one : Progress) → 1000000 < count + amount one → within_limit at count one ≡ Err (fault.Wide at)
beyond at count one h = elim (cases_Bool (nat_lt 1000000 (count + amount one))) [
  | inl e ↦ rw e refl
  | inr e ↦ absurd (let l = ltb-false 1000000 (count + amount one) e in omega (arith, h, l))
]

-- ---- one reference more

abbrev one_more : Progress → Progress
one_more old = record { shapes = old.shapes; refs = old.refs + 1 }

one_is : (old : Progress) → both old one_reference ≡ one_more old
one_is old = rw (append-nil old.shapes.rects, append-nil old.shapes.labels) refl

pub counted : (outer : ℕ) (old : Progress) → amount old ≤ 1000000 → length old.shapes.rects < 1000000 - old.refs → Adds (Ok tt) old (one_more old) (within_limit outer (amount old) one_reference)
counted outer old fit few = rw (within outer (amount old) one_reference (omega (arith, few))) (sym (one_is old))

pub counted_wide : (outer : ℕ) (old : Progress) → amount old ≤ 1000000 → 1000000 - old.refs ≤ length old.shapes.rects → within_limit outer (amount old) one_reference ≡ Err (fault.Wide outer)
counted_wide outer old fit many = beyond outer (amount old) one_reference (omega (arith, many, fit))
