-- A span past two coordinates, in halves of a file unit.
use Rattle.std.proofs.Common.{ℕ, ◌≡◌, ℤ, pos, ◌+ℤ◌, ◌-ℤ◌, ◌*ℤ◌, refl}
use Rattle.gds_area.specs.declared.area.Span.{Span}
use Rattle.gds_area.specs.Paths.{stretch}

span_is : (a b x y : ℤ) → a ≡ x → b ≡ y → ◌≡◌ {A = Span} (record { low = a; high = b }) (record { low = x; high = y })
span_is a b x y e f = rw (e, f) refl

pub stretch_is : (s : Span) (before behind : ℕ) (low high : ℤ) → s.low ≡ (pos 2 *ℤ low) -ℤ pos before → s.high ≡ (pos 2 *ℤ high) +ℤ pos behind → s ≡ stretch before behind low high
unfolding stretch
stretch_is s before behind low high e f = span_is s.low s.high ((pos 2 *ℤ low) -ℤ pos before) ((pos 2 *ℤ high) +ℤ pos behind) e f
