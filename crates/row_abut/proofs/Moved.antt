-- Shapes moved to the right: they obey the rules where the shapes do.
use Rattle.std.proofs.Common.{◌≡◌, ◌↔◌, ℕ, ◌+◌, ℤ, pos, ◌+ℤ◌, ◌-ℤ◌, List, map, true, inl, inr, arith, sym, subst}
use Rattle.std.proofs.lemmas.Int.{ints}
use Rattle.cell_num.proofs.In.{in_map, contains_map}
use Rattle.box_geom.specs.Layers.{same_layer}
use Rattle.box_geom.specs.Rectangle.{Holds}
use Rattle.box_geom.specs.Regions.{IsEmpty}
use Rattle.box_geom.specs.declared.shape.Shape.{Shape}
use Rattle.box_geom.specs.declared.layer.Layer.{Layer}
use Rattle.box_geom.specs.declared.layer.Layer.TheVariants.{Well, Active, PSelect, NSelect, Poly, Contact, Metal1, Via, Metal2}
use Rattle.scmos_rules.specs.Gates.{Way, right, left, up as upward_way, down as downward_way, Ahead, FailsPolyEnd, FailsActiveEnd, FailsFieldPoly}
use Rattle.scmos_rules.specs.Layout.{On, Gate, Diffusion, FieldPoly, Bare, InWell, OutOfWell, WellTap, SubstrateTap, PolyContact, DiffusionContact, BareContact}
use Rattle.scmos_rules.specs.Rules.{Fails}
use Rattle.scmos_rules.specs.declared.number.RuleNo.{RuleNo}
use Rattle.scmos_rules.specs.declared.number.RuleNo.TheVariants.{N1_1, N2_1, N2_2, N2_3, N2_4, N3_1, N3_2, N3_3, N3_4, N3_5, N4_2, N5_1, N5_2, N5_3, N5_4, N6_2, N7_1, N7_2, N7_3, N8_1, N8_2, N8_3, N8_4, N8_5, N9_1, N9_2, N9_3}
use Rattle.scmos_rules.specs.declared.rules.Deck.TheVariants.{Plain}
use Rattle.net_extract.proofs.Finding.{shows, shown}
use Rattle.row_abut.specs.Row.{shifted}
use Rattle.row_abut.proofs.Shifts.{AreShifted, down, both, not, width, size, spacing, fails_surround, fails_away, fails_partly}

-- on each layer t is s, so far to the right
pub record AreMoved (by : ℤ) (s t : List Shape) : Type 0 where
  pub on : (layer : Layer) → AreShifted by (On layer s) (On layer t)

pub moved_shapes : (by : ℕ) (s : List Shape) → AreMoved (pos by) s (map (shifted by) s)
moved_shapes by s = record { on = λ layer. record { same = λ x z y e. (there layer x z y e, back layer x z y e) } }
  where
    there : (layer : Layer) (x z y : ℤ) → z ≡ x +ℤ pos by → On layer s x y → On layer (map (shifted by) s) z y
    there layer x z y e c =
        let k = shows s layer x y c in
        let h = k.holds in
        shown (map (shifted by) s) layer (shifted by k.shape) z y (contains_map (shifted by) s k.shape k.listed) k.on (omega (arith, ints, e))

    back : (layer : Layer) (x z y : ℤ) → z ≡ x +ℤ pos by → On layer (map (shifted by) s) z y → On layer s x y
    back layer x z y e c =
        let k = shows (map (shifted by) s) layer z y c in
        let i = in_map (shifted by) s k.shape k.listed in
        let h = subst (λ (w : Shape). Holds w.rect z y) (sym i.is) k.holds in
        shown s layer i.of x y i.listed (subst (λ (w : Shape). same_layer w.layer layer ≡ true) (sym i.is) k.on) (omega (arith, ints, e))

-- ---- sets of several layers
pub gate : (by : ℤ) (s t : List Shape) → AreMoved by s t → AreShifted by (Gate s) (Gate t)
gate by s t a = both by (On Active s) (On Active t) (On Poly s) (On Poly t) (a.on Active) (a.on Poly)

pub diffusion : (by : ℤ) (s t : List Shape) → AreMoved by s t → AreShifted by (Diffusion s) (Diffusion t)
diffusion by s t a = both by (On Active s) (On Active t) (λ x y. On Poly s x y → ⊥) (λ x y. On Poly t x y → ⊥) (a.on Active) (not by (On Poly s) (On Poly t) (a.on Poly))

field : (by : ℤ) (s t : List Shape) → AreMoved by s t → AreShifted by (FieldPoly s) (FieldPoly t)
field by s t a = both by (On Poly s) (On Poly t) (λ x y. On Active s x y → ⊥) (λ x y. On Active t x y → ⊥) (a.on Poly) (not by (On Active s) (On Active t) (a.on Active))

bare : (by : ℤ) (s t : List Shape) → AreMoved by s t → AreShifted by (Bare s) (Bare t)
bare by s t a = both by (λ x y. On Poly s x y → ⊥) (λ x y. On Poly t x y → ⊥) (λ x y. On Active s x y → ⊥) (λ x y. On Active t x y → ⊥) (not by (On Poly s) (On Poly t) (a.on Poly)) (not by (On Active s) (On Active t) (a.on Active))

in_well : (by : ℤ) (s t : List Shape) → AreMoved by s t → AreShifted by (InWell s) (InWell t)
in_well by s t a = both by (On Active s) (On Active t) (On Well s) (On Well t) (a.on Active) (a.on Well)

out_of_well : (by : ℤ) (s t : List Shape) → AreMoved by s t → AreShifted by (OutOfWell s) (OutOfWell t)
out_of_well by s t a = both by (On Active s) (On Active t) (λ x y. On Well s x y → ⊥) (λ x y. On Well t x y → ⊥) (a.on Active) (not by (On Well s) (On Well t) (a.on Well))

-- ---- rules on gates
ahead : (by : ℤ) (P Q : ℤ → ℤ → Type 0) → AreShifted by P Q → (way : Way) (k : ℕ) (x z y : ℤ) → z ≡ x +ℤ by → Ahead P way k x y ↔ Ahead Q way k z y
ahead by P Q a right k x z y e = a.same (x +ℤ pos k) (z +ℤ pos k) y (omega (arith, ints, e))
ahead by P Q a left k x z y e = a.same (x -ℤ pos k) (z -ℤ pos k) y (omega (arith, ints, e))
ahead by P Q a upward_way k x z y e = a.same x z (y +ℤ pos k) e
ahead by P Q a downward_way k x z y e = a.same x z (y -ℤ pos k) e

from_there : (by x : ℤ) → x ≡ (x -ℤ by) +ℤ by
from_there by x = omega (arith, ints)

poly_end : (by : ℤ) (s t : List Shape) (v : ℕ) → AreMoved by s t → IsEmpty (FailsPolyEnd s v) → IsEmpty (FailsPolyEnd t v)
poly_end by s t v a none x y f = none (x -ℤ by) y (record {
  gate = down by (Gate s) (Gate t) (gate by s t a) x y f.gate;
  way = f.way;
  beyond = λ c. f.beyond ((ahead by (On Active s) (On Active t) (a.on Active) f.way 1 (x -ℤ by) x y (from_there by x)).0 c);
  at = f.at;
  first = f.first;
  last = f.last;
  out = λ c. f.out ((ahead by (On Poly s) (On Poly t) (a.on Poly) f.way f.at (x -ℤ by) x y (from_there by x)).0 c);
})

active_end : (by : ℤ) (s t : List Shape) (v : ℕ) → AreMoved by s t → IsEmpty (FailsActiveEnd s v) → IsEmpty (FailsActiveEnd t v)
active_end by s t v a none x y f = none (x -ℤ by) y (record {
  gate = down by (Gate s) (Gate t) (gate by s t a) x y f.gate;
  way = f.way;
  beside = (ahead by (Diffusion s) (Diffusion t) (diffusion by s t a) f.way 1 (x -ℤ by) x y (from_there by x)).1 f.beside;
  at = f.at;
  first = f.first;
  last = f.last;
  out = λ c. f.out ((ahead by (On Active s) (On Active t) (a.on Active) f.way f.at (x -ℤ by) x y (from_there by x)).0 c);
})

field_poly : (by : ℤ) (s t : List Shape) (v : ℕ) → AreMoved by s t → IsEmpty (FailsFieldPoly s v) → IsEmpty (FailsFieldPoly t v)
field_poly by s t v a none x y f = none (x -ℤ by) y (record {
  field = down by (FieldPoly s) (FieldPoly t) (field by s t a) x y f.field;
  way = f.way;
  count = f.count;
  few = f.few;
  between = λ k l h. (ahead by (Bare s) (Bare t) (bare by s t a) f.way k (x -ℤ by) x y (from_there by x)).1 (f.between k l h);
  meets = (ahead by (Diffusion s) (Diffusion t) (diffusion by s t a) f.way (f.count + 1) (x -ℤ by) x y (from_there by x)).1 f.meets;
})

-- ---- all rules
pub moved_rule : (by : ℤ) (s t : List Shape) → AreMoved by s t → (rule : RuleNo) → IsEmpty (Fails Plain rule s) → IsEmpty (Fails Plain rule t)
moved_rule by s t a N1_1 o = width by (On Well s) (On Well t) 24 (a.on Well) o
moved_rule by s t a N2_1 o = width by (On Active s) (On Active t) 6 (a.on Active) o
moved_rule by s t a N2_2 o = spacing by (On Active s) (On Active t) 6 (a.on Active) o
moved_rule by s t a N2_3 o = λ x y f. elim f [
  | inl g ↦ o (x -ℤ by) y (inl (fails_surround by (InWell s) (InWell t) (On Well s) (On Well t) 12 (in_well by s t a) (a.on Well) x y g))
  | inr g ↦ o (x -ℤ by) y (inr (fails_away by (OutOfWell s) (OutOfWell t) (On Well s) (On Well t) 12 (out_of_well by s t a) (a.on Well) x y g))
]
moved_rule by s t a N2_4 o = λ x y f. elim f [
  | inl g ↦ o (x -ℤ by) y (inl (fails_surround by (WellTap s) (WellTap t) (On Well s) (On Well t) 6 (both by (InWell s) (InWell t) (On NSelect s) (On NSelect t) (in_well by s t a) (a.on NSelect)) (a.on Well) x y g))
  | inr g ↦ o (x -ℤ by) y (inr (fails_away by (SubstrateTap s) (SubstrateTap t) (On Well s) (On Well t) 6 (both by (OutOfWell s) (OutOfWell t) (On PSelect s) (On PSelect t) (out_of_well by s t a) (a.on PSelect)) (a.on Well) x y g))
]
moved_rule by s t a N3_1 o = width by (On Poly s) (On Poly t) 4 (a.on Poly) o
moved_rule by s t a N3_2 o = spacing by (On Poly s) (On Poly t) 6 (a.on Poly) o
moved_rule by s t a N3_3 o = poly_end by s t 4 a o
moved_rule by s t a N3_4 o = active_end by s t 6 a o
moved_rule by s t a N3_5 o = field_poly by s t 2 a o
moved_rule by s t a N4_2 o = λ x y f. elim f [
  | inl g ↦ o (x -ℤ by) y (inl (fails_surround by (InWell s) (InWell t) (On PSelect s) (On PSelect t) 4 (in_well by s t a) (a.on PSelect) x y g))
  | inr g ↦ o (x -ℤ by) y (inr (fails_surround by (OutOfWell s) (OutOfWell t) (On NSelect s) (On NSelect t) 4 (out_of_well by s t a) (a.on NSelect) x y g))
]
moved_rule by s t a N5_1 o = size by (On Contact s) (On Contact t) 4 (a.on Contact) o
moved_rule by s t a N5_2 o = λ x y f. elim f [
  | inl g ↦ o (x -ℤ by) y (inl (down by (BareContact s) (BareContact t) (both by (On Contact s) (On Contact t) (Bare s) (Bare t) (a.on Contact) (bare by s t a)) x y g))
  | inr g ↦ o (x -ℤ by) y (inr (fails_surround by (PolyContact s) (PolyContact t) (On Poly s) (On Poly t) 3 (both by (On Contact s) (On Contact t) (On Poly s) (On Poly t) (a.on Contact) (a.on Poly)) (a.on Poly) x y g))
]
moved_rule by s t a N5_3 o = spacing by (On Contact s) (On Contact t) 6 (a.on Contact) o
moved_rule by s t a N5_4 o = λ x y f. o (x -ℤ by) y (fails_away by (On Contact s) (On Contact t) (Gate s) (Gate t) 4 (a.on Contact) (gate by s t a) x y f)
moved_rule by s t a N6_2 o = λ x y f. o (x -ℤ by) y (fails_surround by (DiffusionContact s) (DiffusionContact t) (On Active s) (On Active t) 3 (both by (On Contact s) (On Contact t) (Diffusion s) (Diffusion t) (a.on Contact) (diffusion by s t a)) (a.on Active) x y f)
moved_rule by s t a N7_1 o = width by (On Metal1 s) (On Metal1 t) 6 (a.on Metal1) o
moved_rule by s t a N7_2 o = spacing by (On Metal1 s) (On Metal1 t) 6 (a.on Metal1) o
moved_rule by s t a N7_3 o = λ x y f. o (x -ℤ by) y (fails_surround by (On Contact s) (On Contact t) (On Metal1 s) (On Metal1 t) 2 (a.on Contact) (a.on Metal1) x y f)
moved_rule by s t a N8_1 o = size by (On Via s) (On Via t) 4 (a.on Via) o
moved_rule by s t a N8_2 o = spacing by (On Via s) (On Via t) 6 (a.on Via) o
moved_rule by s t a N8_3 o = λ x y f. o (x -ℤ by) y (fails_surround by (On Via s) (On Via t) (On Metal1 s) (On Metal1 t) 2 (a.on Via) (a.on Metal1) x y f)
moved_rule by s t a N8_4 o = λ x y f. o (x -ℤ by) y (fails_away by (On Via s) (On Via t) (On Contact s) (On Contact t) 4 (a.on Via) (a.on Contact) x y f)
moved_rule by s t a N8_5 o = λ x y f. elim f [
  | inl g ↦ o (x -ℤ by) y (inl (fails_partly by (On Via s) (On Via t) (On Poly s) (On Poly t) 4 (a.on Via) (a.on Poly) x y g))
  | inr g ↦ o (x -ℤ by) y (inr (fails_partly by (On Via s) (On Via t) (On Active s) (On Active t) 4 (a.on Via) (a.on Active) x y g))
]
moved_rule by s t a N9_1 o = width by (On Metal2 s) (On Metal2 t) 6 (a.on Metal2) o
moved_rule by s t a N9_2 o = spacing by (On Metal2 s) (On Metal2 t) 8 (a.on Metal2) o
moved_rule by s t a N9_3 o = λ x y f. o (x -ℤ by) y (fails_surround by (On Via s) (On Via t) (On Metal2 s) (On Metal2 t) 2 (a.on Via) (a.on Metal2) x y f)
