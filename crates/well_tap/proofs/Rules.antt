-- The shapes with taps obey the rules for cells with taps, where those without obey the rules for cells without.
use Rattle.std.proofs.Common.{◌↔◌, ℤ, [], ◌∷◌, inl, inr, arith, sym, subst, refl}
use Rattle.std.proofs.lemmas.Int.{ints}
use Rattle.cell_num.proofs.Lists.{all_one}
use Rattle.box_geom.specs.Rectangle.{Covers}
use Rattle.box_geom.specs.Regions.{IsEmpty}
use Rattle.box_geom.specs.declared.layer.Layer.TheVariants.{Well}
use Rattle.scmos_rules.specs.Conditions.{IsWide}
use Rattle.scmos_rules.specs.Lengths.{FailsWidth, FailsSize}
use Rattle.scmos_rules.specs.Failing.{FailsSpacing}
use Rattle.scmos_rules.specs.Layout.{On}
use Rattle.scmos_rules.specs.Rules.{Fails, Obeys}
use Rattle.scmos_rules.specs.declared.number.RuleNo.{RuleNo}
use Rattle.scmos_rules.specs.declared.number.RuleNo.TheVariants.{N1_1, N2_1, N2_2, N2_3, N2_4, N3_1, N3_2, N3_3, N3_4, N3_5, N4_2, N5_1, N5_2, N5_3, N5_4, N6_2, N7_1, N7_2, N7_3, N8_1, N8_2, N8_3, N8_4, N8_5, N9_1, N9_2, N9_3}
use Rattle.scmos_rules.specs.declared.rules.Deck.TheVariants.{Plain, Taps}
use Rattle.scmos_rules.proofs.Widths.{width}
use Rattle.net_extract.proofs.Covering.{cover_none, cover_first, cover_split}
use Rattle.well_tap.proofs.Alike.{like_width}
use Rattle.well_tap.proofs.Around.{n2_3, n2_4, n4_2, n5_2, n5_4, n6_2, n7_3, n8_4, n8_5}
use Rattle.well_tap.proofs.Parts.{n2_1, n2_2, n3_3, n3_4, n3_5, n5_1, n5_3}
use Rattle.well_tap.proofs.Covered.{same_poly, same_via, same_metal1, same_metal2, via_down, metal1_up, new_well, new_well_there}
use Rattle.well_tap.proofs.Tapping.{Tapping, base, whole, high_well}

n1_1 : (g : Tapping) → IsEmpty (Fails Taps N1_1 (whole g))
n1_1 g = like_width (On Well (whole g)) (Covers ((high_well g.frame).rect ∷ [])) 24 same (width ((high_well g.frame).rect ∷ []) 24 (all_one (IsWide 24) (high_well g.frame).rect wide))
  where
    same : (x y : ℤ) → On Well (whole g) x y ↔ Covers ((high_well g.frame).rect ∷ []) x y
    same x y = (
      λ c. cover_first (high_well g.frame).rect [] x y (new_well g x y c),
      λ c. elim (cover_split (high_well g.frame).rect [] x y c) [ inl h ↦ new_well_there g x y h | inr r ↦ absurd (cover_none x y r) ],
    )

    wide : IsWide 24 (high_well g.frame).rect
    wide = let k = g.stacked in let w = g.spread in omega (arith, ints, k.n_edge, k.p_edge, k.n_row, k.p_row, w.left, w.apart, w.right)

-- ---- layers that no tap is on
n3_1 : (g : Tapping) → IsEmpty (Fails Plain N3_1 (base g)) → IsEmpty (Fails Taps N3_1 (whole g))
n3_1 g o = subst (λ rs. IsEmpty (FailsWidth (Covers rs) 4)) (sym (same_poly g)) o

n3_2 : (g : Tapping) → IsEmpty (Fails Plain N3_2 (base g)) → IsEmpty (Fails Taps N3_2 (whole g))
n3_2 g o = subst (λ rs. IsEmpty (FailsSpacing (Covers rs) 6)) (sym (same_poly g)) o

n7_1 : (g : Tapping) → IsEmpty (Fails Plain N7_1 (base g)) → IsEmpty (Fails Taps N7_1 (whole g))
n7_1 g o = subst (λ rs. IsEmpty (FailsWidth (Covers rs) 6)) (sym (same_metal1 g)) o

n7_2 : (g : Tapping) → IsEmpty (Fails Plain N7_2 (base g)) → IsEmpty (Fails Taps N7_2 (whole g))
n7_2 g o = subst (λ rs. IsEmpty (FailsSpacing (Covers rs) 6)) (sym (same_metal1 g)) o

n8_1 : (g : Tapping) → IsEmpty (Fails Plain N8_1 (base g)) → IsEmpty (Fails Taps N8_1 (whole g))
n8_1 g o = subst (λ rs. IsEmpty (FailsSize (Covers rs) 4)) (sym (same_via g)) o

n8_2 : (g : Tapping) → IsEmpty (Fails Plain N8_2 (base g)) → IsEmpty (Fails Taps N8_2 (whole g))
n8_2 g o = subst (λ rs. IsEmpty (FailsSpacing (Covers rs) 6)) (sym (same_via g)) o

n8_3 : (g : Tapping) → IsEmpty (Fails Plain N8_3 (base g)) → IsEmpty (Fails Taps N8_3 (whole g))
n8_3 g o x y f = o x y (record { covered = via_down g x y f.covered; s = f.s; t = f.t; near = f.near; out = λ q. f.out (metal1_up g f.s f.t q) })

n9_1 : (g : Tapping) → IsEmpty (Fails Plain N9_1 (base g)) → IsEmpty (Fails Taps N9_1 (whole g))
n9_1 g o = subst (λ rs. IsEmpty (FailsWidth (Covers rs) 6)) (sym (same_metal2 g)) o

n9_2 : (g : Tapping) → IsEmpty (Fails Plain N9_2 (base g)) → IsEmpty (Fails Taps N9_2 (whole g))
n9_2 g o = subst (λ rs. IsEmpty (FailsSpacing (Covers rs) 8)) (sym (same_metal2 g)) o

n9_3 : (g : Tapping) → IsEmpty (Fails Plain N9_3 (base g)) → IsEmpty (Fails Taps N9_3 (whole g))
n9_3 g o x y f = o x y (record { covered = via_down g x y f.covered; s = f.s; t = f.t; near = f.near; out = λ q. f.out (subst (λ rs. Covers rs f.s f.t) (sym (same_metal2 g)) q) })

each : (g : Tapping) → Obeys Plain (base g) → (rule : RuleNo) → IsEmpty (Fails Taps rule (whole g))
each g o N1_1 = n1_1 g
each g o N2_1 = n2_1 g (o.none N2_1 (1, omega arith, refl))
each g o N2_2 = n2_2 g (o.none N2_2 (2, omega arith, refl))
each g o N2_3 = n2_3 g (o.none N2_3 (3, omega arith, refl))
each g o N2_4 = n2_4 g
each g o N3_1 = n3_1 g (o.none N3_1 (4, omega arith, refl))
each g o N3_2 = n3_2 g (o.none N3_2 (5, omega arith, refl))
each g o N3_3 = n3_3 g (o.none N3_3 (6, omega arith, refl))
each g o N3_4 = n3_4 g (o.none N3_4 (7, omega arith, refl))
each g o N3_5 = n3_5 g (o.none N3_5 (8, omega arith, refl))
each g o N4_2 = n4_2 g (o.none N4_2 (9, omega arith, refl))
each g o N5_1 = n5_1 g (o.none N5_1 (10, omega arith, refl))
each g o N5_2 = n5_2 g (o.none N5_2 (11, omega arith, refl))
each g o N5_3 = n5_3 g (o.none N5_3 (12, omega arith, refl))
each g o N5_4 = n5_4 g (o.none N5_4 (13, omega arith, refl))
each g o N6_2 = n6_2 g (o.none N6_2 (14, omega arith, refl))
each g o N7_1 = n7_1 g (o.none N7_1 (15, omega arith, refl))
each g o N7_2 = n7_2 g (o.none N7_2 (16, omega arith, refl))
each g o N7_3 = n7_3 g (o.none N7_3 (17, omega arith, refl))
each g o N8_1 = n8_1 g (o.none N8_1 (18, omega arith, refl))
each g o N8_2 = n8_2 g (o.none N8_2 (19, omega arith, refl))
each g o N8_3 = n8_3 g (o.none N8_3 (20, omega arith, refl))
each g o N8_4 = n8_4 g (o.none N8_4 (21, omega arith, refl))
each g o N8_5 = n8_5 g (o.none N8_5 (22, omega arith, refl))
each g o N9_1 = n9_1 g (o.none N9_1 (23, omega arith, refl))
each g o N9_2 = n9_2 g (o.none N9_2 (24, omega arith, refl))
each g o N9_3 = n9_3 g (o.none N9_3 (25, omega arith, refl))

pub obeys_taps : (g : Tapping) → Obeys Plain (base g) → Obeys Taps (whole g)
obeys_taps g o = record { none = λ rule listed. each g o rule }
