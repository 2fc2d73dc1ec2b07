-- The shapes with taps as two layouts that stand apart, the base and the taps: the rules on each layer by itself.
use Rattle.std.proofs.Common.{◌≡◌, ℕ, ◌≤◌, ℤ, List, inl, inr, refl, arith}
use Rattle.std.proofs.lemmas.Int.{ints}
use Rattle.box_geom.specs.Near.{Near}
use Rattle.box_geom.specs.Regions.{IsEmpty}
use Rattle.box_geom.specs.declared.shape.Shape.{Shape}
use Rattle.box_geom.specs.declared.layer.Layer.{Layer}
use Rattle.box_geom.specs.declared.layer.Layer.TheVariants.{Active, Poly, Contact}
use Rattle.scmos_rules.specs.Conditions.{IsWide, IsSquare}
use Rattle.scmos_rules.specs.Lengths.{FailsWidth, FailsSize}
use Rattle.scmos_rules.specs.Failing.{FailsSpacing}
use Rattle.scmos_rules.specs.Gates.{FailsPolyEnd, FailsActiveEnd, FailsFieldPoly}
use Rattle.scmos_rules.specs.Layout.{On}
use Rattle.scmos_rules.specs.Rules.{Fails}
use Rattle.scmos_rules.specs.declared.number.RuleNo.TheVariants.{N2_1, N2_2, N3_3, N3_4, N3_5, N5_1, N5_3}
use Rattle.scmos_rules.specs.declared.rules.Deck.TheVariants.{Plain, Taps}
use Rattle.scmos_rules.proofs.Families.{AnyOf, AreApart, any_width, any_size, any_spacing}
use Rattle.scmos_rules.proofs.FamilyGates.{Consists, AreGateParts, any_poly_end, any_active_end, any_field_poly}
use Rattle.scmos_rules.proofs.Sizes.{size}
use Rattle.scmos_rules.proofs.Widths.{width}
use Rattle.net_extract.proofs.Covering.{cover_none}
use Rattle.well_tap.proofs.Around.{far}
use Rattle.well_tap.proofs.Alike.{like_width, like_size, like_spacing}
use Rattle.well_tap.proofs.Layers.{on_either, on_left, on_right}
use Rattle.well_tap.proofs.Squares.{squares, all_squares, wide, exact, spaced, alone}
use Rattle.well_tap.proofs.TapCells.{IsTap, IsInner}
use Rattle.well_tap.proofs.Covered.{tap_active, tap_contact, inner_active, inner_poly, inner_contact}
use Rattle.well_tap.proofs.Tapping.{Tapping, base, taps, whole, height, tap_cell}

pub data Part : Type 0 where
  old : Part
  new : Part

abbrev pub part : Tapping → Part → List Shape
part g old = base g
part g new = taps g

-- ---- the two parts stand apart
apart : (g : Tapping) (a b : Layer) (d : ℕ) → d ≤ 6
    → ((x y : ℤ) → On a (base g) x y → IsInner (height g) y) → ((x y : ℤ) → On a (taps g) x y → IsTap (height g) y)
    → ((x y : ℤ) → On b (base g) x y → IsInner (height g) y) → ((x y : ℤ) → On b (taps g) x y → IsTap (height g) y)
    → AreApart (λ i. On a (part g i)) (λ i. On b (part g i)) d
apart g a b d few inner_a tap_a inner_b tap_b = record { same = by }
  where
    by : (i j : Part) (x y s t : ℤ) → On a (part g i) x y → On b (part g j) s t → Near d x y s t → i ≡ j
    by old old x y s t p q near = refl
    by new new x y s t p q near = refl
    by old new x y s t p q near = absurd (far g y t (inner_a x y p) (tap_b s t q) (omega (arith, ints, few, near.low)) (omega (arith, ints, few, near.high)))
    by new old x y s t p q near = absurd (far g t y (inner_b s t q) (tap_a x y p) (omega (arith, ints, few, near.high)) (omega (arith, ints, few, near.low)))

row_active : (g : Tapping) (x y : ℤ) → On Active (taps g) x y → IsTap (height g) y
row_active g x y c = (tap_cell g 5 x y (omega arith) (tap_active g x y c)).row

row_contact : (g : Tapping) (x y : ℤ) → On Contact (taps g) x y → IsTap (height g) y
row_contact g x y c = (tap_cell g 2 x y (omega arith) (tap_contact g x y c)).row

row_poly : (g : Tapping) (x y : ℤ) → On Poly (taps g) x y → IsTap (height g) y
row_poly g x y c = absurd (cover_none x y c)

apart_actives : (g : Tapping) (d : ℕ) → d ≤ 6 → AreApart (λ i. On Active (part g i)) (λ i. On Active (part g i)) d
apart_actives g d few = apart g Active Active d few (inner_active g) (row_active g) (inner_active g) (row_active g)

apart_contacts : (g : Tapping) (d : ℕ) → d ≤ 6 → AreApart (λ i. On Contact (part g i)) (λ i. On Contact (part g i)) d
apart_contacts g d few = apart g Contact Contact d few (inner_contact g) (row_contact g) (inner_contact g) (row_contact g)

-- ---- and are all of each layer without shapes of the frame
active_parts : (g : Tapping) → Consists (part g) (whole g) Active
active_parts g x y = (
  λ c. elim (on_either Active g.others (taps g) x y c) [ inl o ↦ record { of = old; inside = o } | inr t ↦ record { of = new; inside = t } ],
  λ c. by c.of c.inside,
)
  where
    by : (i : Part) → On Active (part g i) x y → On Active (whole g) x y
    by old c = on_left Active g.others (taps g) x y c
    by new c = on_right Active g.others (taps g) x y c

contact_parts : (g : Tapping) → Consists (part g) (whole g) Contact
contact_parts g x y = (
  λ c. elim (on_either Contact g.others (taps g) x y c) [ inl o ↦ record { of = old; inside = o } | inr t ↦ record { of = new; inside = t } ],
  λ c. by c.of c.inside,
)
  where
    by : (i : Part) → On Contact (part g i) x y → On Contact (whole g) x y
    by old c = on_left Contact g.others (taps g) x y c
    by new c = on_right Contact g.others (taps g) x y c

poly_parts : (g : Tapping) → Consists (part g) (whole g) Poly
poly_parts g x y = (
  λ c. elim (on_either Poly g.others (taps g) x y c) [ inl o ↦ record { of = old; inside = o } | inr t ↦ record { of = new; inside = t } ],
  λ c. by c.of c.inside,
)
  where
    by : (i : Part) → On Poly (part g i) x y → On Poly (whole g) x y
    by old c = on_left Poly g.others (taps g) x y c
    by new c = on_right Poly g.others (taps g) x y c

-- ---- the rules
pub n2_1 : (g : Tapping) → IsEmpty (Fails Plain N2_1 (base g)) → IsEmpty (Fails Taps N2_1 (whole g))
n2_1 g o = like_width (On Active (whole g)) (AnyOf (λ i. On Active (part g i))) 6 (active_parts g) (any_width (λ i. On Active (part g i)) 6 each)
  where
    each : (i : Part) → IsEmpty (FailsWidth (On Active (part g i)) 6)
    each old = o
    each new = width (squares g 5) 6 (all_squares g 5 (IsWide 6) (wide g))

pub n2_2 : (g : Tapping) → IsEmpty (Fails Plain N2_2 (base g)) → IsEmpty (Fails Taps N2_2 (whole g))
n2_2 g o = like_spacing (On Active (whole g)) (AnyOf (λ i. On Active (part g i))) 6 (active_parts g) (any_spacing (λ i. On Active (part g i)) 6 (apart_actives g 6 (omega arith)) each)
  where
    each : (i : Part) → IsEmpty (FailsSpacing (On Active (part g i)) 6)
    each old = o
    each new = spaced g 5 (omega arith) (omega arith)

pub n5_1 : (g : Tapping) → IsEmpty (Fails Plain N5_1 (base g)) → IsEmpty (Fails Taps N5_1 (whole g))
n5_1 g o = like_size (On Contact (whole g)) (AnyOf (λ i. On Contact (part g i))) 4 (contact_parts g) (any_size (λ i. On Contact (part g i)) 4 (apart_contacts g 1 (omega arith)) each)
  where
    each : (i : Part) → IsEmpty (FailsSize (On Contact (part g i)) 4)
    each old = o
    each new = size (squares g 2) 4 (all_squares g 2 (IsSquare 4) (exact g)) (alone g 2 (omega arith))

pub n5_3 : (g : Tapping) → IsEmpty (Fails Plain N5_3 (base g)) → IsEmpty (Fails Taps N5_3 (whole g))
n5_3 g o = like_spacing (On Contact (whole g)) (AnyOf (λ i. On Contact (part g i))) 6 (contact_parts g) (any_spacing (λ i. On Contact (part g i)) 6 (apart_contacts g 6 (omega arith)) each)
  where
    each : (i : Part) → IsEmpty (FailsSpacing (On Contact (part g i)) 6)
    each old = o
    each new = spaced g 2 (omega arith) (omega arith)

-- ---- the rules on gates: taps have no poly
gate_parts : (g : Tapping) → AreGateParts (part g) (whole g)
gate_parts g = record {
  active = active_parts g;
  poly = poly_parts g;
  actives = apart_actives g 2 (omega arith);
  gates = apart g Active Poly 2 (omega arith) (inner_active g) (row_active g) (inner_poly g) (row_poly g);
  polys = apart g Poly Active 2 (omega arith) (inner_poly g) (row_poly g) (inner_active g) (row_active g);
}

pub n3_3 : (g : Tapping) → IsEmpty (Fails Plain N3_3 (base g)) → IsEmpty (Fails Taps N3_3 (whole g))
n3_3 g o = any_poly_end (part g) (whole g) 4 (gate_parts g) each
  where
    each : (i : Part) → IsEmpty (FailsPolyEnd (part g i) 4)
    each old = o
    each new = λ x y f. cover_none x y f.gate.1

pub n3_4 : (g : Tapping) → IsEmpty (Fails Plain N3_4 (base g)) → IsEmpty (Fails Taps N3_4 (whole g))
n3_4 g o = any_active_end (part g) (whole g) 6 (gate_parts g) each
  where
    each : (i : Part) → IsEmpty (FailsActiveEnd (part g i) 6)
    each old = o
    each new = λ x y f. cover_none x y f.gate.1

pub n3_5 : (g : Tapping) → IsEmpty (Fails Plain N3_5 (base g)) → IsEmpty (Fails Taps N3_5 (whole g))
n3_5 g o = any_field_poly (part g) (whole g) (gate_parts g) each
  where
    each : (i : Part) → IsEmpty (FailsFieldPoly (part g i) 2)
    each old = o
    each new = λ x y f. cover_none x y f.field.0
