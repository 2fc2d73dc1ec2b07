-- Which cells each layer covers, without taps and with them.
use Rattle.std.proofs.Common.{◌≡◌, ◌≢◌, ℤ, ◌∷◌, ◌++◌, inl, inr, ◌⊎◌, refl, sym, subst, ap, arith}
use Rattle.std.proofs.lemmas.Int.{ints}
use Rattle.box_geom.specs.Rectangle.{Holds, Covers}
use Rattle.box_geom.specs.Layers.{rects_on}
use Rattle.box_geom.specs.declared.layer.Layer.{Layer}
use Rattle.box_geom.specs.declared.layer.Layer.TheVariants.{Well, Active, PSelect, NSelect, Poly, Contact, Metal1, Via, Metal2}
use Rattle.box_geom.specs.declared.shape.Shape.{Shape}
use Rattle.scmos_rules.specs.Layout.{On}
use Rattle.net_extract.proofs.Covering.{cover_none, cover_first, cover_later, cover_split}
use Rattle.cell_draw.specs.Shapes.{well, p_select, n_select, gnd_rail, vdd_rail}
use Rattle.well_tap.specs.Base.{IsBetweenTaps}
use Rattle.well_tap.proofs.Layers.{on_either, on_left, on_right, unchanged, found}
use Rattle.well_tap.proofs.TapCells.{IsInner}
use Rattle.well_tap.proofs.Tapping.{Tapping, height, base, taps, high_well, whole, InTap, in_tap, of_tap, AtEither, either, of_either}

pub tap_active : (g : Tapping) (x y : ℤ) → On Active (taps g) x y → InTap g 5 x y
tap_active g x y c = in_tap g 5 x y c

pub active_tap : (g : Tapping) (x y : ℤ) → InTap g 5 x y → On Active (taps g) x y
active_tap g x y i = of_tap g 5 x y i

pub tap_contact : (g : Tapping) (x y : ℤ) → On Contact (taps g) x y → InTap g 2 x y
tap_contact g x y c = in_tap g 2 x y c

pub contact_tap : (g : Tapping) (x y : ℤ) → InTap g 2 x y → On Contact (taps g) x y
contact_tap g x y i = of_tap g 2 x y i

-- ---- layers without shapes of the frame
pub active_cases : (g : Tapping) (x y : ℤ) → On Active (whole g) x y → On Active (base g) x y ⊎ InTap g 5 x y
active_cases g x y c = elim (on_either Active g.others (taps g) x y c) [ inl o ↦ inl o | inr t ↦ inr (tap_active g x y t) ]

pub active_up : (g : Tapping) (x y : ℤ) → On Active (base g) x y → On Active (whole g) x y
active_up g x y c = on_left Active g.others (taps g) x y c

pub active_there : (g : Tapping) (x y : ℤ) → InTap g 5 x y → On Active (whole g) x y
active_there g x y i = on_right Active g.others (taps g) x y (active_tap g x y i)

pub contact_cases : (g : Tapping) (x y : ℤ) → On Contact (whole g) x y → On Contact (base g) x y ⊎ InTap g 2 x y
contact_cases g x y c = elim (on_either Contact g.others (taps g) x y c) [ inl o ↦ inl o | inr t ↦ inr (tap_contact g x y t) ]

pub contact_up : (g : Tapping) (x y : ℤ) → On Contact (base g) x y → On Contact (whole g) x y
contact_up g x y c = on_left Contact g.others (taps g) x y c

pub contact_there : (g : Tapping) (x y : ℤ) → InTap g 2 x y → On Contact (whole g) x y
contact_there g x y i = on_right Contact g.others (taps g) x y (contact_tap g x y i)

pub same_poly : (g : Tapping) → rects_on Poly (whole g) ≡ rects_on Poly (base g)
same_poly g = unchanged Poly g.others (taps g) refl

pub same_via : (g : Tapping) → rects_on Via (whole g) ≡ rects_on Via (base g)
same_via g = unchanged Via g.others (taps g) refl

pub same_metal2 : (g : Tapping) → rects_on Metal2 (whole g) ≡ rects_on Metal2 (base g)
same_metal2 g = unchanged Metal2 g.others (taps g) refl

pub same_metal1 : (g : Tapping) → rects_on Metal1 (whole g) ≡ rects_on Metal1 (base g)
same_metal1 g = ap (λ rs. (gnd_rail g.frame).rect ∷ (vdd_rail g.frame).rect ∷ rs) (unchanged Metal1 g.others (taps g) refl)

-- what is no metal1 is clear of the taps
inner_other : (g : Tapping) (layer : Layer) → layer ≢ Metal1 → (x y : ℤ) → On layer g.others x y → IsInner (height g) y
inner_other g layer other x y c =
    let o = found (IsBetweenTaps g.frame) g.others layer x y g.between c in
    let clear = o.is.clear (λ e. other (subst (λ l. l ≡ Metal1) o.on e)) in
    let h = o.holds in
    record { low = omega (arith, ints, clear.low, h.low); high = omega (arith, ints, clear.high, h.high) }

pub inner_active : (g : Tapping) (x y : ℤ) → On Active (base g) x y → IsInner (height g) y
inner_active g x y c = inner_other g Active (λ e. absurd cc) x y c

pub inner_poly : (g : Tapping) (x y : ℤ) → On Poly (base g) x y → IsInner (height g) y
inner_poly g x y c = inner_other g Poly (λ e. absurd cc) x y c

pub inner_contact : (g : Tapping) (x y : ℤ) → On Contact (base g) x y → IsInner (height g) y
inner_contact g x y c = inner_other g Contact (λ e. absurd cc) x y c

pub inner_via : (g : Tapping) (x y : ℤ) → On Via (base g) x y → IsInner (height g) y
inner_via g x y c = inner_other g Via (λ e. absurd cc) x y c

pub poly_down : (g : Tapping) (x y : ℤ) → On Poly (whole g) x y → On Poly (base g) x y
poly_down g x y c = subst (λ rs. Covers rs x y) (same_poly g) c

pub poly_up : (g : Tapping) (x y : ℤ) → On Poly (base g) x y → On Poly (whole g) x y
poly_up g x y c = subst (λ rs. Covers rs x y) (sym (same_poly g)) c

pub via_down : (g : Tapping) (x y : ℤ) → On Via (whole g) x y → On Via (base g) x y
via_down g x y c = subst (λ rs. Covers rs x y) (same_via g) c

pub via_up : (g : Tapping) (x y : ℤ) → On Via (base g) x y → On Via (whole g) x y
via_up g x y c = subst (λ rs. Covers rs x y) (sym (same_via g)) c

pub metal2_down : (g : Tapping) (x y : ℤ) → On Metal2 (whole g) x y → On Metal2 (base g) x y
metal2_down g x y c = subst (λ rs. Covers rs x y) (same_metal2 g) c

pub metal2_up : (g : Tapping) (x y : ℤ) → On Metal2 (base g) x y → On Metal2 (whole g) x y
metal2_up g x y c = subst (λ rs. Covers rs x y) (sym (same_metal2 g)) c

pub metal1_down : (g : Tapping) (x y : ℤ) → On Metal1 (whole g) x y → On Metal1 (base g) x y
metal1_down g x y c = subst (λ rs. Covers rs x y) (same_metal1 g) c

pub metal1_up : (g : Tapping) (x y : ℤ) → On Metal1 (base g) x y → On Metal1 (whole g) x y
metal1_up g x y c = subst (λ rs. Covers rs x y) (sym (same_metal1 g)) c

-- ---- wells and selects
none_other : (g : Tapping) (layer : Layer) → ((s : Shape) → IsBetweenTaps g.frame s → s.layer ≢ layer) → (x y : ℤ) → On layer g.others x y → ⊥
none_other g layer other x y c = let o = found (IsBetweenTaps g.frame) g.others layer x y g.between c in other o.shape o.is o.on

pub old_well : (g : Tapping) (x y : ℤ) → On Well (base g) x y → Holds (well g.frame).rect x y
old_well g x y c = elim (cover_split (well g.frame).rect (rects_on Well g.others) x y c) [ inl h ↦ h | inr r ↦ absurd (none_other g Well (λ s b. b.no_well) x y r) ]

pub old_well_there : (g : Tapping) (x y : ℤ) → Holds (well g.frame).rect x y → On Well (base g) x y
old_well_there g x y h = cover_first (well g.frame).rect (rects_on Well g.others) x y h

pub new_well : (g : Tapping) (x y : ℤ) → On Well (whole g) x y → Holds (high_well g.frame).rect x y
new_well g x y c = elim (cover_split (high_well g.frame).rect (rects_on Well (g.others ++ taps g)) x y c) [
  | inl h ↦ h
  | inr r ↦ elim (on_either Well g.others (taps g) x y r) [ inl o ↦ absurd (none_other g Well (λ s b. b.no_well) x y o) | inr t ↦ absurd (cover_none x y t) ]
]

pub new_well_there : (g : Tapping) (x y : ℤ) → Holds (high_well g.frame).rect x y → On Well (whole g) x y
new_well_there g x y h = cover_first (high_well g.frame).rect (rects_on Well (g.others ++ taps g)) x y h

pub old_p_select : (g : Tapping) (x y : ℤ) → On PSelect (base g) x y → Holds (p_select g.frame).rect x y
old_p_select g x y c = elim (cover_split (p_select g.frame).rect (rects_on PSelect g.others) x y c) [ inl h ↦ h | inr r ↦ absurd (none_other g PSelect (λ s b. b.no_p_select) x y r) ]

pub old_n_select : (g : Tapping) (x y : ℤ) → On NSelect (base g) x y → Holds (n_select g.frame).rect x y
old_n_select g x y c = elim (cover_split (n_select g.frame).rect (rects_on NSelect g.others) x y c) [ inl h ↦ h | inr r ↦ absurd (none_other g NSelect (λ s b. b.no_n_select) x y r) ]

pub p_select_up : (g : Tapping) (x y : ℤ) → On PSelect (base g) x y → On PSelect (whole g) x y
p_select_up g x y c = elim (cover_split (p_select g.frame).rect (rects_on PSelect g.others) x y c) [
  | inl h ↦ cover_first (p_select g.frame).rect (rects_on PSelect (g.others ++ taps g)) x y h
  | inr r ↦ cover_later (p_select g.frame).rect (rects_on PSelect (g.others ++ taps g)) x y (on_left PSelect g.others (taps g) x y r)
]

pub n_select_up : (g : Tapping) (x y : ℤ) → On NSelect (base g) x y → On NSelect (whole g) x y
n_select_up g x y c = elim (cover_split (n_select g.frame).rect (rects_on NSelect g.others) x y c) [
  | inl h ↦ cover_first (n_select g.frame).rect (rects_on NSelect (g.others ++ taps g)) x y h
  | inr r ↦ cover_later (n_select g.frame).rect (rects_on NSelect (g.others ++ taps g)) x y (on_left NSelect g.others (taps g) x y r)
]

pub new_p_select : (g : Tapping) (x y : ℤ) → On PSelect (whole g) x y → Holds (p_select g.frame).rect x y ⊎ AtEither g 8 9 x y
new_p_select g x y c = elim (cover_split (p_select g.frame).rect (rects_on PSelect (g.others ++ taps g)) x y c) [
  | inl h ↦ inl h
  | inr r ↦ elim (on_either PSelect g.others (taps g) x y r) [ inl o ↦ absurd (none_other g PSelect (λ s b. b.no_p_select) x y o) | inr t ↦ inr (either g 8 9 x y t) ]
]

pub new_n_select : (g : Tapping) (x y : ℤ) → On NSelect (whole g) x y → Holds (n_select g.frame).rect x y ⊎ AtEither g g.high 9 x y
new_n_select g x y c = elim (cover_split (n_select g.frame).rect (rects_on NSelect (g.others ++ taps g)) x y c) [
  | inl h ↦ inl h
  | inr r ↦ elim (on_either NSelect g.others (taps g) x y r) [ inl o ↦ absurd (none_other g NSelect (λ s b. b.no_n_select) x y o) | inr t ↦ inr (either g g.high 9 x y t) ]
]

pub p_select_there : (g : Tapping) (x y : ℤ) → AtEither g 8 9 x y → On PSelect (whole g) x y
p_select_there g x y i = cover_later (p_select g.frame).rect (rects_on PSelect (g.others ++ taps g)) x y (on_right PSelect g.others (taps g) x y (of_either g 8 9 x y i))

pub n_select_there : (g : Tapping) (x y : ℤ) → AtEither g g.high 9 x y → On NSelect (whole g) x y
n_select_there g x y i = cover_later (n_select g.frame).rect (rects_on NSelect (g.others ++ taps g)) x y (on_right NSelect g.others (taps g) x y (of_either g g.high 9 x y i))

-- ---- rails
pub gnd_there : (g : Tapping) (x y : ℤ) → Holds (gnd_rail g.frame).rect x y → On Metal1 (base g) x y
gnd_there g x y h = cover_first (gnd_rail g.frame).rect (rects_on Metal1 (vdd_rail g.frame ∷ g.others)) x y h

pub vdd_there : (g : Tapping) (x y : ℤ) → Holds (vdd_rail g.frame).rect x y → On Metal1 (base g) x y
vdd_there g x y h = cover_later (gnd_rail g.frame).rect (rects_on Metal1 (vdd_rail g.frame ∷ g.others)) x y (cover_first (vdd_rail g.frame).rect (rects_on Metal1 g.others) x y h)
