-- What the shapes of a base gain by taps, and the net of each tap.
use Rattle.std.proofs.Common.{ℕ, ℤ, pos, ◌+ℤ◌, ◌-ℤ◌, ◌≤ℤ◌, ◌<ℤ◌, List, [], ◌∷◌, inl, inr, refl, arith}
use Rattle.std.proofs.lemmas.Int.{ints, by_lt_z}
use Rattle.cell_num.proofs.Lists.{contains_here}
use Rattle.box_geom.specs.Chains.{Linked}
use Rattle.box_geom.specs.Rectangle.{Rectangle, Holds, Covers}
use Rattle.box_geom.specs.Touching.{Cell}
use Rattle.box_geom.specs.declared.layer.Layer.TheVariants.{Well, Active, Poly as PolyLayer, Contact, Metal1 as Metal1Layer}
use Rattle.box_geom.specs.declared.shape.Shape.{Shape}
use Rattle.scmos_rules.specs.Layout.{On}
use Rattle.scmos_rules.specs.declared.rules.Deck.{Deck}
use Rattle.scmos_rules.specs.declared.rules.Deck.TheVariants.{Plain}
use Rattle.number_trees.proofs.Chains.{one}
use Rattle.scmos_rules.proofs.Chains.{inside}
use Rattle.net_extract.specs.Nets.{site_at, Are, IsLower, of_p, of_n, by_contact, along, through, Wired, SameNet}
use Rattle.net_extract.specs.declared.piece.Conductor.{Conductor}
use Rattle.net_extract.specs.declared.piece.Conductor.TheVariants.{PDiffusion, NDiffusion, Poly, Metal1, Metal2}
use Rattle.net_extract.proofs.Bonds.{carried_steps}
use Rattle.net_extract.proofs.Covering.{cover_none, cover_split}
use Rattle.net_extract.proofs.Wiring.{net_both}
use Rattle.cell_draw.specs.Shapes.{around, gnd_rail, vdd_rail}
use Rattle.well_tap.proofs.Around.{well_up, well_below, in_well_high, out_low, well_tap, substrate_tap, never_both, at_row, high_well_there}
use Rattle.well_tap.proofs.TapCells.{IsLow, IsHigh, IsTap, IsDiffusion, AreTapped}
use Rattle.well_tap.proofs.Covered.{active_cases, active_up, active_there, contact_cases, contact_up, contact_there, inner_active, inner_poly, poly_down, poly_up, via_down, via_up, metal1_down, metal1_up, metal2_down, metal2_up, gnd_there, vdd_there}
use Rattle.well_tap.proofs.Tapping.{Tapping, base, whole, height, InTap, first_low, first_high, last_low, last_high, tap_cell, AtEither, at_first, at_last}

-- ---- all cells of a rectangle of one kind of conductor are of one net
pub in_one : (deck : Deck) (s : List Shape) (k : Conductor) (r : Rectangle) → ((x y : ℤ) → Holds r x y → Are s k x y) → (x y u v : ℤ) → Holds r x y → Holds r u v → SameNet deck s (site_at k x y) (site_at k u v)
in_one deck s k r all x y u v h i =
    let c = inside (r ∷ []) r (contains_here r []) x y u v h i in
    record {
      conducts = all x y h;
      chain = carried_steps (Linked (Covers (r ∷ []))) (Wired deck s) (λ (z : Cell). record { kind = k; cell = z }) (λ p q l. record { from = held p l.from; to = held q l.to; meets = along refl l.edge }) c.count (record { x = x; y = y }) (record { x = u; y = v }) c.steps;
    }
  where
    held : (z : Cell) → Covers (r ∷ []) z.x z.y → Are s k z.x z.y
    held z c = elim (cover_split r [] z.x z.y c) [ inl h ↦ all z.x z.y h | inr n ↦ absurd (cover_none z.x z.y n) ]

pub gnd_net : (g : Tapping) (x y u v : ℤ) → Holds (gnd_rail g.frame).rect x y → Holds (gnd_rail g.frame).rect u v → SameNet Plain (base g) (site_at Metal1 x y) (site_at Metal1 u v)
gnd_net g x y u v = in_one Plain (base g) Metal1 (gnd_rail g.frame).rect (gnd_there g) x y u v

pub vdd_net : (g : Tapping) (x y u v : ℤ) → Holds (vdd_rail g.frame).rect x y → Holds (vdd_rail g.frame).rect u v → SameNet Plain (base g) (site_at Metal1 x y) (site_at Metal1 u v)
vdd_net g x y u v = in_one Plain (base g) Metal1 (vdd_rail g.frame).rect (vdd_there g) x y u v

-- active over a rail is a tap's
tap_of : (g : Tapping) (x y : ℤ) → On Active (whole g) x y → IsTap (height g) y → InTap g 5 x y
tap_of g x y on tap = elim (active_cases g x y on) [ inl old ↦ absurd (never_both g y (inner_active g x y old) tap) | inr t ↦ t ]

pub on_gnd : (g : Tapping) (x y : ℤ) → On Active (whole g) x y → IsLow y → Holds (gnd_rail g.frame).rect x y
on_gnd g x y on low = let c = (tap_cell g 5 x y (omega arith) (tap_of g x y on (inl low))).across in omega (arith, ints)

pub on_vdd : (g : Tapping) (x y : ℤ) → On Active (whole g) x y → IsHigh (height g) y → Holds (vdd_rail g.frame).rect x y
on_vdd g x y on high = let c = (tap_cell g 5 x y (omega arith) (tap_of g x y on (inr high))).across in omega (arith, ints)

-- ---- taps
no_poly : (g : Tapping) (x y : ℤ) → InTap g 5 x y → On PolyLayer (whole g) x y → ⊥
no_poly g x y i p = never_both g y (inner_poly g x y (poly_down g x y p)) (tap_cell g 5 x y (omega arith) i).row

pub low_are : (g : Tapping) (x y : ℤ) → AtEither g 8 5 x y → Are (whole g) NDiffusion x y
low_are g x y i = ((active_there g x y t, no_poly g x y t), out)
  where
    t : InTap g 5 x y
    t = elim i [ at_first h ↦ first_low h | at_last h ↦ last_low h ]

    out : On Well (whole g) x y → ⊥
    out w = let high = at_row g g.high 5 x y (in_well_high g x y t w) in let low = at_row g 8 5 x y i in let k = g.stacked in let e = g.top in omega (arith, ints, high.0, low.1, k.n_edge, k.p_edge, k.n_row, k.p_row, e)

pub high_are : (g : Tapping) (x y : ℤ) → AtEither g g.high 5 x y → Are (whole g) PDiffusion x y
high_are g x y i = ((active_there g x y t, no_poly g x y t), well)
  where
    t : InTap g 5 x y
    t = elim i [ at_first h ↦ first_high h | at_last h ↦ last_high h ]

    well : On Well (whole g) x y
    well = high_well_there g x y i

-- from the metal over a cell of a square to the cell: along the rail, through the contact in the middle, along the
-- square
over_square : (g : Tapping) (deck : Deck) (k : Conductor) (a m : ℕ) (rail : Rectangle) → IsLower k
    → ((x y : ℤ) → Holds (around Active a (pos m) 5).rect x y → Are (whole g) k x y)
    → ((x y : ℤ) → Holds (around Active a (pos m) 5).rect x y → Holds rail x y)
    → ((x y : ℤ) → Holds rail x y → On Metal1Layer (whole g) x y)
    → On Contact (whole g) (pos a) (pos m)
    → (x y : ℤ) → Holds (around Active a (pos m) 5).rect x y → SameNet deck (whole g) (site_at Metal1 x y) (site_at k x y)
over_square g deck k a m rail lower are in_rail metal cut x y h =
    let middle : Holds (around Active a (pos m) 5).rect (pos a) (pos m) = omega (arith, ints) in
    let link : SameNet deck (whole g) (site_at Metal1 (pos a) (pos m)) (site_at k (pos a) (pos m)) = record {
      conducts = metal (pos a) (pos m) (in_rail (pos a) (pos m) middle);
      chain = one (Wired deck (whole g)) (site_at Metal1 (pos a) (pos m)) (site_at k (pos a) (pos m)) (record {
        from = metal (pos a) (pos m) (in_rail (pos a) (pos m) middle);
        to = are (pos a) (pos m) middle;
        meets = through refl (inl (by_contact refl lower cut));
      });
    } in
    net_both deck (whole g) (site_at Metal1 x y) (site_at Metal1 (pos a) (pos m)) (site_at k x y)
    (in_one deck (whole g) Metal1 rail metal x y (pos a) (pos m) (in_rail x y h) (in_rail (pos a) (pos m) middle))
    (net_both deck (whole g) (site_at Metal1 (pos a) (pos m)) (site_at k (pos a) (pos m)) (site_at k x y) link
    (in_one deck (whole g) k (around Active a (pos m) 5).rect are (pos a) (pos m) x y middle h))

low_linked : (g : Tapping) (deck : Deck) (x y : ℤ) → AtEither g 8 5 x y → SameNet deck (whole g) (site_at Metal1 x y) (site_at NDiffusion x y)
low_linked g deck x y (at_first h) = over_square g deck NDiffusion g.first 8 (gnd_rail g.frame).rect of_n (λ u v i. low_are g u v (at_first i)) (λ u v i. let w = g.spread in omega (arith, ints, w.left, w.apart, w.right)) (λ u v i. metal1_up g u v (gnd_there g u v i)) (contact_there g (pos g.first) (pos 8) (first_low (omega (arith, ints)))) x y h
low_linked g deck x y (at_last h) = over_square g deck NDiffusion g.last 8 (gnd_rail g.frame).rect of_n (λ u v i. low_are g u v (at_last i)) (λ u v i. let w = g.spread in omega (arith, ints, w.left, w.apart, w.right)) (λ u v i. metal1_up g u v (gnd_there g u v i)) (contact_there g (pos g.last) (pos 8) (last_low (omega (arith, ints)))) x y h

high_linked : (g : Tapping) (deck : Deck) (x y : ℤ) → AtEither g g.high 5 x y → SameNet deck (whole g) (site_at Metal1 x y) (site_at PDiffusion x y)
high_linked g deck x y (at_first h) = over_square g deck PDiffusion g.first g.high (vdd_rail g.frame).rect of_p (λ u v i. high_are g u v (at_first i)) (λ u v i. let w = g.spread in let e = g.top in omega (arith, ints, w.left, w.apart, w.right, e)) (λ u v i. metal1_up g u v (vdd_there g u v i)) (contact_there g (pos g.first) (pos g.high) (first_high (omega (arith, ints)))) x y h
high_linked g deck x y (at_last h) = over_square g deck PDiffusion g.last g.high (vdd_rail g.frame).rect of_p (λ u v i. high_are g u v (at_last i)) (λ u v i. let w = g.spread in let e = g.top in omega (arith, ints, w.left, w.apart, w.right, e)) (λ u v i. metal1_up g u v (vdd_there g u v i)) (contact_there g (pos g.last) (pos g.high) (last_high (omega (arith, ints)))) x y h

pub linked : (g : Tapping) (deck : Deck) (k : Conductor) (x y : ℤ) → IsDiffusion k → Are (whole g) k x y → IsTap (height g) y → SameNet deck (whole g) (site_at Metal1 x y) (site_at k x y)
linked g deck PDiffusion x y d c tap = high_linked g deck x y (in_well_high g x y (tap_of g x y c.0.0 tap) c.1)
linked g deck NDiffusion x y d c tap = low_linked g deck x y (out_low g x y (tap_of g x y c.0.0 tap) c.1)
linked g deck Poly x y (inl e) c tap = absurd cc
linked g deck Poly x y (inr e) c tap = absurd cc
linked g deck Metal1 x y (inl e) c tap = absurd cc
linked g deck Metal1 x y (inr e) c tap = absurd cc
linked g deck Metal2 x y (inl e) c tap = absurd cc
linked g deck Metal2 x y (inr e) c tap = absurd cc

pub gains : (g : Tapping) → AreTapped (base g) (whole g) (height g)
gains g = record {
  tall = let k = g.stacked in omega (arith, ints, k.n_edge, k.p_edge, k.n_row, k.p_row);
  on_poly = λ x y. (poly_down g x y, poly_up g x y);
  on_metal1 = λ x y. (metal1_down g x y, metal1_up g x y);
  on_metal2 = λ x y. (metal2_down g x y, metal2_up g x y);
  on_via = λ x y. (via_down g x y, via_up g x y);
  active_up = active_up g;
  active = λ x y c. elim (active_cases g x y c) [ inl o ↦ inl o | inr t ↦ inr (tap_cell g 5 x y (omega arith) t).row ];
  contact_up = contact_up g;
  contact = λ x y c. elim (contact_cases g x y c) [ inl o ↦ inl o | inr t ↦ inr (tap_cell g 2 x y (omega arith) t).row ];
  well_up = well_up g;
  well = λ x y w. by_lt_z y (height g) (λ less. inl (well_below g x y less w)) (λ most. inr most);
  actives_inner = inner_active g;
  polys_inner = inner_poly g;
  well_taps = λ x y on w n. high_row x y (at_row g g.high 5 x y (well_tap g x y ((on, w), n)));
  substrate_taps = λ x y on out p. low_row x y (at_row g 8 5 x y (substrate_tap g x y ((on, out), p)));
  low_rail = λ x y u v on other low also. gnd_net g x y u v (on_gnd g x y on low) (on_gnd g u v other also);
  high_rail = λ x y u v on other high also. vdd_net g x y u v (on_vdd g x y on high) (on_vdd g u v other also);
  linked = linked g;
}
  where
    high_row : (x y : ℤ) → ((pos g.high -ℤ pos 5) ≤ℤ y) × (y <ℤ (pos g.high +ℤ pos 5)) → IsHigh (height g) y
    high_row x y r = let e = g.top in record { least = omega (arith, ints, r.0, e); most = omega (arith, ints, r.1, e) }

    low_row : (x y : ℤ) → ((pos 8 -ℤ pos 5) ≤ℤ y) × (y <ℤ (pos 8 +ℤ pos 5)) → IsLow y
    low_row x y r = record { least = omega (arith, ints, r.0); most = omega (arith, ints, r.1) }
