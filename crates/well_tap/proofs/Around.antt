-- The rules on what lies around a cell: wells and selects around active, active and metal around contacts, what keeps
-- away.
use Rattle.std.proofs.Common.{ℕ, ◌≤◌, ℤ, pos, ◌+ℤ◌, ◌-ℤ◌, ◌≤ℤ◌, ◌<ℤ◌, inl, inr, arith}
use Rattle.std.proofs.lemmas.Int.{ints}
use Rattle.box_geom.specs.Near.{Near}
use Rattle.box_geom.specs.Rectangle.{Holds}
use Rattle.box_geom.specs.Regions.{IsEmpty}
use Rattle.box_geom.specs.declared.layer.Layer.TheVariants.{Well, Active, PSelect, NSelect, Metal1}
use Rattle.scmos_rules.specs.Layout.{On, Gate, PActive, NActive, WellTap, SubstrateTap}
use Rattle.scmos_rules.specs.Rules.{Fails}
use Rattle.scmos_rules.specs.declared.number.RuleNo.TheVariants.{N2_3, N2_4, N4_2, N5_2, N5_4, N6_2, N7_3, N8_4, N8_5}
use Rattle.scmos_rules.specs.declared.rules.Deck.TheVariants.{Plain, Taps}
use Rattle.cell_draw.specs.Shapes.{around}
use Rattle.well_tap.proofs.TapCells.{IsTap, IsInner}
use Rattle.well_tap.proofs.Covered.{active_cases, active_up, active_there, contact_cases, inner_active, inner_poly, inner_contact, inner_via, poly_down, poly_up, via_down, metal1_up, old_well, old_well_there, new_well, new_well_there, p_select_up, n_select_up, new_p_select, new_n_select, p_select_there, n_select_there, gnd_there, vdd_there}
use Rattle.well_tap.proofs.Tapping.{Tapping, base, whole, height, high_well, InTap, first_low, first_high, last_low, last_high, tap_cell, wider, AtEither, at_first, at_last}

-- a cell of a tap is not near one that is clear of them
pub far : (g : Tapping) (y t : ℤ) → IsInner (height g) y → IsTap (height g) t → y ≤ℤ (t +ℤ pos 6) → t ≤ℤ (y +ℤ pos 6) → ⊥
far g y t i (inl l) up down = omega (arith, ints)
far g y t i (inr l) up down = omega (arith, ints)

pub never_both : (g : Tapping) (y : ℤ) → IsInner (height g) y → IsTap (height g) y → ⊥
never_both g y i t = far g y y i t (omega (arith, ints)) (omega (arith, ints))

pub tap_row : (g : Tapping) (by : ℕ) (x y : ℤ) → by ≤ 5 → InTap g by x y → IsTap (height g) y
tap_row g by x y few i = (tap_cell g by x y few i).row

-- ---- the well
pub well_up : (g : Tapping) (x y : ℤ) → On Well (base g) x y → On Well (whole g) x y
well_up g x y c = let h = old_well g x y c in new_well_there g x y (omega (arith, ints))

pub well_below : (g : Tapping) (x y : ℤ) → y <ℤ height g → On Well (whole g) x y → On Well (base g) x y
well_below g x y low c = let h = new_well g x y c in old_well_there g x y (omega (arith, ints))

pub well_down : (g : Tapping) (x y : ℤ) → IsInner (height g) y → On Well (whole g) x y → On Well (base g) x y
well_down g x y i c = well_below g x y (omega (arith, ints)) c

-- the taps of the upper rail stand in the well, those of the lower one outside
high_in_well : (g : Tapping) (x y s t : ℤ) → AtEither g g.high 5 x y → Near 6 x y s t → Holds (high_well g.frame).rect s t
high_in_well g x y s t (at_first h) near = let k = g.stacked in let w = g.spread in let e = g.top in omega (arith, ints, k.n_edge, k.p_edge, k.n_row, k.p_row, w.left, w.apart, w.right, e)
high_in_well g x y s t (at_last h) near = let k = g.stacked in let w = g.spread in let e = g.top in omega (arith, ints, k.n_edge, k.p_edge, k.n_row, k.p_row, w.left, w.apart, w.right, e)

low_far : (g : Tapping) (x y s t : ℤ) → AtEither g 8 5 x y → Holds (high_well g.frame).rect s t → Near 6 x y s t → ⊥
low_far g x y s t (at_first h) w near = let k = g.stacked in omega (arith, ints, k.n_edge, k.p_edge, k.n_row, k.p_row)
low_far g x y s t (at_last h) w near = let k = g.stacked in omega (arith, ints, k.n_edge, k.p_edge, k.n_row, k.p_row)

pub high_well_there : (g : Tapping) (x y : ℤ) → AtEither g g.high 5 x y → On Well (whole g) x y
high_well_there g x y i = new_well_there g x y (high_in_well g x y x y i (omega (arith, ints)))

abbrev here : (d : ℕ) (x y : ℤ) → Near d x y x y
here d x y = omega (arith, ints)

pub in_well_high : (g : Tapping) (x y : ℤ) → InTap g 5 x y → On Well (whole g) x y → AtEither g g.high 5 x y
in_well_high g x y (first_low h) w = absurd (low_far g x y x y (at_first h) (new_well g x y w) (here 6 x y))
in_well_high g x y (last_low h) w = absurd (low_far g x y x y (at_last h) (new_well g x y w) (here 6 x y))
in_well_high g x y (first_high h) w = at_first h
in_well_high g x y (last_high h) w = at_last h

pub out_low : (g : Tapping) (x y : ℤ) → InTap g 5 x y → (On Well (whole g) x y → ⊥) → AtEither g 8 5 x y
out_low g x y (first_low h) out = at_first h
out_low g x y (last_low h) out = at_last h
out_low g x y (first_high h) out = absurd (out (new_well_there g x y (high_in_well g x y x y (at_first h) (here 6 x y))))
out_low g x y (last_high h) out = absurd (out (new_well_there g x y (high_in_well g x y x y (at_last h) (here 6 x y))))

at_wider : (g : Tapping) (m by more : ℕ) (x y s t : ℤ) → ((a : ℕ) → Holds (around Active a (pos m) by).rect x y → Holds (around Active a (pos m) more).rect s t) → AtEither g m by x y → AtEither g m more s t
at_wider g m by more x y s t grow (at_first h) = at_first (grow g.first h)
at_wider g m by more x y s t grow (at_last h) = at_last (grow g.last h)

pub at_row : (g : Tapping) (m by : ℕ) (x y : ℤ) → AtEither g m by x y → ((pos m -ℤ pos by) ≤ℤ y) × (y <ℤ (pos m +ℤ pos by))
at_row g m by x y (at_first h) = (omega (arith, ints), omega (arith, ints))
at_row g m by x y (at_last h) = (omega (arith, ints), omega (arith, ints))

-- ---- which cells are taps, and which are not
no_n_select : (g : Tapping) (x y : ℤ) → On Active (base g) x y → On Well (whole g) x y → On NSelect (whole g) x y → ⊥
no_n_select g x y a w n =
    let i = inner_active g x y a in
    let h = new_well g x y w in
    let k = g.stacked in
    let e = g.top in
    elim (new_n_select g x y n) [
      | inl q ↦ omega (arith, ints, k.p_edge, h.low, q.high)
      | inr q ↦ let r = (at_row g g.high 9 x y q).0 in omega (arith, ints, i.high, r, e)
    ]

no_p_select : (g : Tapping) (x y : ℤ) → On Active (base g) x y → (On Well (whole g) x y → ⊥) → On PSelect (whole g) x y → ⊥
no_p_select g x y a out p =
    let i = inner_active g x y a in
    elim (new_p_select g x y p) [
      | inl q ↦ out (new_well_there g x y (omega (arith, ints)))
      | inr q ↦ let r = (at_row g 8 9 x y q).1 in omega (arith, ints, i.low, r)
    ]

pub well_tap : (g : Tapping) (x y : ℤ) → WellTap (whole g) x y → AtEither g g.high 5 x y
well_tap g x y c = elim (active_cases g x y c.0.0) [ inl o ↦ absurd (no_n_select g x y o c.0.1 c.1) | inr t ↦ in_well_high g x y t c.0.1 ]

pub substrate_tap : (g : Tapping) (x y : ℤ) → SubstrateTap (whole g) x y → AtEither g 8 5 x y
substrate_tap g x y c = elim (active_cases g x y c.0.0) [ inl o ↦ absurd (no_p_select g x y o c.0.1 c.1) | inr t ↦ out_low g x y t c.0.1 ]

p_old : (g : Tapping) (x y : ℤ) → PActive Taps (whole g) x y → PActive Plain (base g) x y
p_old g x y c = elim (active_cases g x y c.0.0) [
  | inl o ↦ (o, well_down g x y (inner_active g x y o) c.0.1)
  | inr t ↦ absurd (c.1 (n_select_there g x y (at_wider g g.high 5 9 x y x y (λ a h. omega (arith, ints)) (in_well_high g x y t c.0.1))))
]

n_old : (g : Tapping) (x y : ℤ) → NActive Taps (whole g) x y → NActive Plain (base g) x y
n_old g x y c = elim (active_cases g x y c.0.0) [
  | inl o ↦ (o, λ w. c.0.1 (well_up g x y w))
  | inr t ↦ absurd (c.1 (p_select_there g x y (at_wider g 8 5 9 x y x y (λ a h. omega (arith, ints)) (out_low g x y t c.0.1))))
]

pub n2_3 : (g : Tapping) → IsEmpty (Fails Plain N2_3 (base g)) → IsEmpty (Fails Taps N2_3 (whole g))
n2_3 g o x y (inl f) = o x y (inl (record { covered = p_old g x y f.covered; s = f.s; t = f.t; near = f.near; out = λ q. f.out (well_up g f.s f.t q) }))
n2_3 g o x y (inr f) =
    let a = n_old g x y f.covered in
    let i = inner_active g x y a.0 in
    let near = f.near in
    o x y (inr (record { covered = a; s = f.s; t = f.t; near = near; within = well_below g f.s f.t (omega (arith, ints, i.high, near.high)) f.within }))

pub n2_4 : (g : Tapping) → IsEmpty (Fails Taps N2_4 (whole g))
n2_4 g x y (inl f) = f.out (new_well_there g f.s f.t (high_in_well g x y f.s f.t (well_tap g x y f.covered) f.near))
n2_4 g x y (inr f) = low_far g x y f.s f.t (substrate_tap g x y f.covered) (new_well g f.s f.t f.within) f.near

pub n4_2 : (g : Tapping) → IsEmpty (Fails Plain N4_2 (base g)) → IsEmpty (Fails Taps N4_2 (whole g))
n4_2 g o x y (inl f) =
    let near = f.near in
    elim f.covered [
      | inl p ↦ o x y (inl (record { covered = p_old g x y p; s = f.s; t = f.t; near = near; out = λ q. f.out (p_select_up g f.s f.t q) }))
      | inr t ↦ f.out (p_select_there g f.s f.t (at_wider g 8 5 9 x y f.s f.t (λ a h. omega (arith, ints)) (substrate_tap g x y t)))
    ]
n4_2 g o x y (inr f) =
    let near = f.near in
    elim f.covered [
      | inl n ↦ o x y (inr (record { covered = n_old g x y n; s = f.s; t = f.t; near = near; out = λ q. f.out (n_select_up g f.s f.t q) }))
      | inr t ↦ f.out (n_select_there g f.s f.t (at_wider g g.high 5 9 x y f.s f.t (λ a h. omega (arith, ints)) (well_tap g x y t)))
    ]

-- ---- contacts
-- where poly is, or a via, active is the base's
pub active_inner : (g : Tapping) (x y : ℤ) → IsInner (height g) y → On Active (whole g) x y → On Active (base g) x y
active_inner g x y i a = elim (active_cases g x y a) [ inl o ↦ o | inr t ↦ absurd (never_both g y i (tap_row g 5 x y (omega arith) t)) ]

pub gate_down : (g : Tapping) (x y : ℤ) → Gate (whole g) x y → Gate (base g) x y
gate_down g x y c = let p = poly_down g x y c.1 in (active_inner g x y (inner_poly g x y p) c.0, p)

pub gate_up : (g : Tapping) (x y : ℤ) → Gate (base g) x y → Gate (whole g) x y
gate_up g x y c = (active_up g x y c.0, poly_up g x y c.1)

pub n5_2 : (g : Tapping) → IsEmpty (Fails Plain N5_2 (base g)) → IsEmpty (Fails Taps N5_2 (whole g))
n5_2 g o x y (inl f) = elim (contact_cases g x y f.0) [
  | inl c ↦ o x y (inl (c, (λ q. f.1.0 (poly_up g x y q), λ q. f.1.1 (active_up g x y q))))
  | inr t ↦ f.1.1 (active_there g x y (wider g 2 5 x y x y (λ a m h. omega (arith, ints)) t))
]
n5_2 g o x y (inr f) =
    let p = poly_down g x y f.covered.1 in
    elim (contact_cases g x y f.covered.0) [
      | inl c ↦ o x y (inr (record { covered = (c, p); s = f.s; t = f.t; near = f.near; out = λ q. f.out (poly_up g f.s f.t q) }))
      | inr t ↦ never_both g y (inner_poly g x y p) (tap_row g 2 x y (omega arith) t)
    ]

pub n5_4 : (g : Tapping) → IsEmpty (Fails Plain N5_4 (base g)) → IsEmpty (Fails Taps N5_4 (whole g))
n5_4 g o x y f =
    let q = gate_down g f.s f.t f.within in
    let near = f.near in
    elim (contact_cases g x y f.covered) [
      | inl c ↦ o x y (record { covered = c; s = f.s; t = f.t; near = near; within = q })
      | inr t ↦ far g f.t y (inner_active g f.s f.t q.0) (tap_row g 2 x y (omega arith) t) (omega (arith, ints, near.high)) (omega (arith, ints, near.low))
    ]

pub n6_2 : (g : Tapping) → IsEmpty (Fails Plain N6_2 (base g)) → IsEmpty (Fails Taps N6_2 (whole g))
n6_2 g o x y f =
    let near = f.near in
    let d = f.covered.1 in
    elim (contact_cases g x y f.covered.0) [
      | inl c ↦ o x y (record { covered = (c, (active_inner g x y (inner_contact g x y c) d.0, λ q. d.1 (poly_up g x y q))); s = f.s; t = f.t; near = near; out = λ q. f.out (active_up g f.s f.t q) })
      | inr t ↦ f.out (active_there g f.s f.t (wider g 2 5 x y f.s f.t (λ a m h. omega (arith, ints)) t))
    ]

-- ---- metal and vias
rail_around : (g : Tapping) (x y s t : ℤ) → InTap g 2 x y → Near 2 x y s t → On Metal1 (base g) s t
rail_around g x y s t (first_low h) near = let w = g.spread in gnd_there g s t (omega (arith, ints, w.left, w.apart, w.right))
rail_around g x y s t (last_low h) near = let w = g.spread in gnd_there g s t (omega (arith, ints, w.left, w.apart, w.right))
rail_around g x y s t (first_high h) near = let w = g.spread in let e = g.top in vdd_there g s t (omega (arith, ints, w.left, w.apart, w.right, e))
rail_around g x y s t (last_high h) near = let w = g.spread in let e = g.top in vdd_there g s t (omega (arith, ints, w.left, w.apart, w.right, e))

pub n7_3 : (g : Tapping) → IsEmpty (Fails Plain N7_3 (base g)) → IsEmpty (Fails Taps N7_3 (whole g))
n7_3 g o x y f = elim (contact_cases g x y f.covered) [
  | inl c ↦ o x y (record { covered = c; s = f.s; t = f.t; near = f.near; out = λ q. f.out (metal1_up g f.s f.t q) })
  | inr t ↦ f.out (metal1_up g f.s f.t (rail_around g x y f.s f.t t f.near))
]

pub n8_4 : (g : Tapping) → IsEmpty (Fails Plain N8_4 (base g)) → IsEmpty (Fails Taps N8_4 (whole g))
n8_4 g o x y f =
    let v = via_down g x y f.covered in
    let near = f.near in
    elim (contact_cases g f.s f.t f.within) [
      | inl c ↦ o x y (record { covered = v; s = f.s; t = f.t; near = near; within = c })
      | inr t ↦ far g y f.t (inner_via g x y v) (tap_row g 2 f.s f.t (omega arith) t) (omega (arith, ints, near.low)) (omega (arith, ints, near.high))
    ]

pub n8_5 : (g : Tapping) → IsEmpty (Fails Plain N8_5 (base g)) → IsEmpty (Fails Taps N8_5 (whole g))
n8_5 g o x y (inl (a, b)) = o x y (inl (
  record { covered = via_down g x y a.covered; s = a.s; t = a.t; near = a.near; within = poly_down g a.s a.t a.within },
  record { covered = via_down g x y b.covered; s = b.s; t = b.t; near = b.near; out = λ q. b.out (poly_up g b.s b.t q) },
))
n8_5 g o x y (inr (a, b)) =
    let v = via_down g x y a.covered in
    let near = a.near in
    elim (active_cases g a.s a.t a.within) [
      | inl c ↦ o x y (inr (
        record { covered = v; s = a.s; t = a.t; near = near; within = c },
        record { covered = v; s = b.s; t = b.t; near = b.near; out = λ q. b.out (active_up g b.s b.t q) },
      ))
      | inr t ↦ far g y a.t (inner_via g x y v) (tap_row g 5 a.s a.t (omega arith) t) (omega (arith, ints, near.low)) (omega (arith, ints, near.high))
    ]
