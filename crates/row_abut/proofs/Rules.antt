-- A row of drawn cells obeys the rules.
use Rattle.std.proofs.Common.{◌≡◌, ℕ, ◌+◌, ◌≤◌, ℤ, pos, Bool, true, false, inl, inr, refl, subst, arith}
use Rattle.std.proofs.lemmas.Int.{ints}
use Rattle.std.proofs.lemmas.Bool.{false≢true}
use Rattle.std.proofs.lemmas.List.Elements.{All-contains}
use Rattle.std.proofs.lemmas.List.Sums.{AllPass-from_list_all}
use Rattle.box_geom.specs.Regions.{IsEmpty}
use Rattle.box_geom.specs.declared.layer.Layer.{Layer}
use Rattle.box_geom.specs.declared.layer.Layer.TheVariants.{Well, Active, PSelect, NSelect, Poly, Contact, Metal1, Via, Metal2}
use Rattle.scmos_rules.specs.Lengths.{FailsWidth, FailsSize}
use Rattle.scmos_rules.specs.Failing.{FailsSpacing, FailsSurround, FailsAway, FailsPartly}
use Rattle.scmos_rules.specs.Layout.{On, Gate, InWell, OutOfWell, PolyContact, DiffusionContact}
use Rattle.scmos_rules.specs.Numbers.{numbers_of}
use Rattle.scmos_rules.specs.Rules.{Fails, Obeys, InDeck}
use Rattle.scmos_rules.specs.declared.number.RuleNo.{RuleNo}
use Rattle.scmos_rules.specs.declared.number.RuleNo.TheVariants.{N1_1, N2_1, N2_2, N2_3, N2_4, N3_1, N3_2, N3_3, N3_4, N3_5, N4_2, N5_1, N5_2, N5_3, N5_4, N6_2, N7_1, N7_2, N7_3, N8_1, N8_2, N8_3, N8_4, N8_5, N9_1, N9_2, N9_3}
use Rattle.scmos_rules.specs.declared.rules.Deck.TheVariants.{Plain}
use Rattle.scmos_rules.proofs.Families.{AnyOf, AreApart, any_width, any_size, any_spacing, any_surround, any_away, any_partly}
use Rattle.scmos_rules.proofs.FamilyGates.{AreGateParts, any_poly_end, any_active_end, any_field_poly}
use Rattle.scmos_rules.proofs.Rails.{AreRailed, railed_spacing}
use Rattle.well_tap.proofs.Alike.{like_width, like_size, like_spacing}
use Rattle.row_abut.proofs.Moved.{moved_rule}
use Rattle.row_abut.proofs.Beside.{Side, IsOn}
use Rattle.row_abut.proofs.Places.{row_end, within, filled}
use Rattle.row_abut.proofs.Rows.{Row, Spot, from, to, drawn, plain, own, whole, moved, consists, on_up, IsClear, clear_active, clear_poly, clear_contact, clear_via, clear_metal2, metal1_cases, rail_there, some_column, apart, one_spot, n_well_apart, well_own}

-- what a cell of the row obeys
own_rule : (g : Row) (rule : RuleNo) → InDeck Plain rule → (i : Spot g) → IsEmpty (Fails Plain rule (own g i))
own_rule g rule listed i = moved_rule (from g i) (plain g i) (own g i) (moved g i) rule ((drawn g i).obeys.none rule listed)

-- ---- layers that keep clear of the sides
record KeepsSides (g : Row) (layer : Layer) (side end : ℕ) : Type 0 where
  clear : (i : Spot g) (x y : ℤ) → On layer (own g i) x y → IsClear g i side end x y

-- what is so near is of one cell
apart_from : (g : Row) (one other : Layer) (side end d : ℕ) → KeepsSides g one side end → KeepsSides g other side end → d ≤ side + side → AreApart (λ (i : Spot g). On one (own g i)) (λ (i : Spot g). On other (own g i)) d
apart_from g one other side end d k l few = record { same = λ i j x y s t p q near. one_spot g i j d side x s few near.left near.right (k.clear i x y p).column (l.clear j s t q).column }

actives : (g : Row) → KeepsSides g Active 3 20
actives g = record { clear = clear_active g }

polys : (g : Row) → KeepsSides g Poly 3 20
polys g = record { clear = clear_poly g }

contacts : (g : Row) → KeepsSides g Contact 3 20
contacts g = record { clear = clear_contact g }

vias : (g : Row) → KeepsSides g Via 3 20
vias g = record { clear = clear_via g }

metal2s : (g : Row) → KeepsSides g Metal2 4 20
metal2s g = record { clear = clear_metal2 g }

layer_width : (g : Row) (layer : Layer) (v : ℕ) → ((i : Spot g) → IsEmpty (FailsWidth (On layer (own g i)) v)) → IsEmpty (FailsWidth (On layer (whole g)) v)
layer_width g layer v each = like_width (On layer (whole g)) (AnyOf (λ (i : Spot g). On layer (own g i))) v (consists g layer) (any_width (λ (i : Spot g). On layer (own g i)) v each)

layer_spacing : (g : Row) (layer : Layer) (v side end : ℕ) → KeepsSides g layer side end → v ≤ side + side → ((i : Spot g) → IsEmpty (FailsSpacing (On layer (own g i)) v)) → IsEmpty (FailsSpacing (On layer (whole g)) v)
layer_spacing g layer v side end k few each = like_spacing (On layer (whole g)) (AnyOf (λ (i : Spot g). On layer (own g i))) v (consists g layer) (any_spacing (λ (i : Spot g). On layer (own g i)) v (apart_from g layer layer side end v k k few) each)

layer_size : (g : Row) (layer : Layer) (v side end : ℕ) → KeepsSides g layer side end → 1 ≤ side + side → ((i : Spot g) → IsEmpty (FailsSize (On layer (own g i)) v)) → IsEmpty (FailsSize (On layer (whole g)) v)
layer_size g layer v side end k few each = like_size (On layer (whole g)) (AnyOf (λ (i : Spot g). On layer (own g i))) v (consists g layer) (any_size (λ (i : Spot g). On layer (own g i)) v (apart_from g layer layer side end 1 k k few) each)

-- ---- what lies around a cell
surround : (g : Row) (P : Spot g → ℤ → ℤ → Type 0) (Q : ℤ → ℤ → Type 0) (layer : Layer) (d : ℕ) → ((x y : ℤ) → Q x y → AnyOf P x y) → ((i : Spot g) → IsEmpty (FailsSurround (P i) (On layer (own g i)) d)) → IsEmpty (FailsSurround Q (On layer (whole g)) d)
surround g P Q layer d bound each x y f = any_surround P (λ (i : Spot g). On layer (own g i)) d each x y (record { covered = bound x y f.covered; s = f.s; t = f.t; near = f.near; out = λ q. f.out ((consists g layer f.s f.t).1 q) })

away : (g : Row) (P R : Spot g → ℤ → ℤ → Type 0) (Q S : ℤ → ℤ → Type 0) (d : ℕ) → ((x y : ℤ) → Q x y → AnyOf P x y) → ((x y : ℤ) → S x y → AnyOf R x y) → AreApart P R d → ((i : Spot g) → IsEmpty (FailsAway (P i) (R i) d)) → IsEmpty (FailsAway Q S d)
away g P R Q S d bound within apart each x y f = any_away P R d apart each x y (record { covered = bound x y f.covered; s = f.s; t = f.t; near = f.near; within = within f.s f.t f.within })

pub in_well_of : (g : Row) (x y : ℤ) → InWell (whole g) x y → AnyOf (λ (i : Spot g). InWell (own g i)) x y
in_well_of g x y c = let a = (consists g Active x y).0 c.0 in record { of = a.of; inside = (a.inside, well_own g a.of x y a.inside c.1) }

pub out_of_well_of : (g : Row) (x y : ℤ) → OutOfWell (whole g) x y → AnyOf (λ (i : Spot g). OutOfWell (own g i)) x y
out_of_well_of g x y c = let a = (consists g Active x y).0 c.0 in record { of = a.of; inside = (a.inside, λ w. c.1 (on_up g Well a.of x y w)) }

-- two layers that keep clear of the sides meet in one cell
meet_in : (g : Row) (i j : Spot g) (x y : ℤ) → IsClear g i 3 20 x y → IsClear g j 3 20 x y → i ≡ j
meet_in g i j x y k l = one_spot g i j 0 3 x x (omega arith) (omega (arith, ints)) (omega (arith, ints)) k.column l.column

pub gate_of : (g : Row) (x y : ℤ) → Gate (whole g) x y → AnyOf (λ (i : Spot g). Gate (own g i)) x y
gate_of g x y c =
    let a = (consists g Active x y).0 c.0 in
    let p = (consists g Poly x y).0 c.1 in
    let e = meet_in g p.of a.of x y (clear_poly g p.of x y p.inside) (clear_active g a.of x y a.inside) in
    record { of = a.of; inside = (a.inside, subst (λ k. On Poly (own g k) x y) e p.inside) }

poly_contact_of : (g : Row) (x y : ℤ) → PolyContact (whole g) x y → AnyOf (λ (i : Spot g). PolyContact (own g i)) x y
poly_contact_of g x y c =
    let a = (consists g Contact x y).0 c.0 in
    let p = (consists g Poly x y).0 c.1 in
    let e = meet_in g p.of a.of x y (clear_poly g p.of x y p.inside) (clear_contact g a.of x y a.inside) in
    record { of = a.of; inside = (a.inside, subst (λ k. On Poly (own g k) x y) e p.inside) }

diffusion_contact_of : (g : Row) (x y : ℤ) → DiffusionContact (whole g) x y → AnyOf (λ (i : Spot g). DiffusionContact (own g i)) x y
diffusion_contact_of g x y c =
    let a = (consists g Contact x y).0 c.0 in
    let p = (consists g Active x y).0 c.1.0 in
    let e = meet_in g p.of a.of x y (clear_active g p.of x y p.inside) (clear_contact g a.of x y a.inside) in
    record { of = a.of; inside = (a.inside, (subst (λ k. On Active (own g k) x y) e p.inside, λ q. c.1.1 (on_up g Poly a.of x y q))) }

gate_apart : (g : Row) → AreApart (λ (i : Spot g). On Contact (own g i)) (λ (i : Spot g). Gate (own g i)) 4
gate_apart g = record { same = λ i j x y s t p q near. (apart_from g Contact Active 3 20 4 (contacts g) (actives g) (omega arith)).same i j x y s t p q.0 near }

gate_parts : (g : Row) → AreGateParts (own g) (whole g)
gate_parts g = record {
  active = consists g Active;
  poly = consists g Poly;
  actives = apart_from g Active Active 3 20 2 (actives g) (actives g) (omega arith);
  gates = apart_from g Active Poly 3 20 2 (actives g) (polys g) (omega arith);
  polys = apart_from g Poly Active 3 20 2 (polys g) (actives g) (omega arith);
}

-- ---- metal1: the rails are common
railed : (g : Row) → AreRailed (λ (i : Spot g). On Metal1 (own g i)) (from g) (to g) (λ y. (side : Side) × IsOn (pos g.height) side y) (pos 0) (pos (row_end 0 g.cells))
railed g = record {
  lies = λ i x y c. elim (metal1_cases g i x y c) [ inl r ↦ r.0 | inr k ↦ (let a = k.column.left in let b = k.column.right in record { left = omega (arith, ints, a); right = omega (arith, ints, b) }) ];
  full = λ i x y c r. rail_there g i r.0 x y c r.1;
  inner = λ i x y c. elim (metal1_cases g i x y c) [ inl r ↦ inl r.1 | inr k ↦ inr k.column ];
  apart = apart g;
  some = some_column g;
  whole = λ i. let w = within 0 0 g.cells i in let low = w.0 in let high = w.1 in (omega (arith, ints, low), omega (arith, ints, high));
  filled = λ x c. filled 0 0 g.cells x c;
}

metal1_spacing : (g : Row) → ((i : Spot g) → IsEmpty (FailsSpacing (On Metal1 (own g i)) 6)) → IsEmpty (FailsSpacing (On Metal1 (whole g)) 6)
metal1_spacing g each = like_spacing (On Metal1 (whole g)) (AnyOf (λ (i : Spot g). On Metal1 (own g i))) 6 (consists g Metal1) (railed_spacing (λ (i : Spot g). On Metal1 (own g i)) (from g) (to g) (λ y. (side : Side) × IsOn (pos g.height) side y) (pos 0) (pos (row_end 0 g.cells)) (railed g) each)

-- ---- all rules
abbrev Each : (g : Row) → RuleNo → Type 0
Each g rule = (i : Spot g) → IsEmpty (Fails Plain rule (own g i))

n2_3 : (g : Row) → Each g N2_3 → IsEmpty (Fails Plain N2_3 (whole g))
n2_3 g each x y (inl f) = surround g (λ i. InWell (own g i)) (InWell (whole g)) Well 12 (in_well_of g) (λ i s t e. each i s t (inl e)) x y f
n2_3 g each x y (inr f) =
    away g (λ i. OutOfWell (own g i)) (λ i. On Well (own g i)) (OutOfWell (whole g)) (On Well (whole g)) 12
    (out_of_well_of g)
    (λ s t w. (consists g Well s t).0 w)
    (record { same = λ i j a b s t p q near. n_well_apart g i j a b s t p.0 p.1 q near })
    (λ i s t e. each i s t (inr e))
    x y f

n4_2 : (g : Row) → Each g N4_2 → IsEmpty (Fails Plain N4_2 (whole g))
n4_2 g each x y (inl f) = surround g (λ i. InWell (own g i)) (InWell (whole g)) PSelect 4 (in_well_of g) (λ i s t e. each i s t (inl e)) x y f
n4_2 g each x y (inr f) = surround g (λ i. OutOfWell (own g i)) (OutOfWell (whole g)) NSelect 4 (out_of_well_of g) (λ i s t e. each i s t (inr e)) x y f

n5_2 : (g : Row) → Each g N5_2 → IsEmpty (Fails Plain N5_2 (whole g))
n5_2 g each x y (inl f) = let a = (consists g Contact x y).0 f.0 in each a.of x y (inl (a.inside, (λ q. f.1.0 (on_up g Poly a.of x y q), λ q. f.1.1 (on_up g Active a.of x y q))))
n5_2 g each x y (inr f) = surround g (λ i. PolyContact (own g i)) (PolyContact (whole g)) Poly 3 (poly_contact_of g) (λ i s t e. each i s t (inr e)) x y f

n5_4 : (g : Row) → Each g N5_4 → IsEmpty (Fails Plain N5_4 (whole g))
n5_4 g each = away g (λ i. On Contact (own g i)) (λ i. Gate (own g i)) (On Contact (whole g)) (Gate (whole g)) 4 (λ x y c. (consists g Contact x y).0 c) (gate_of g) (gate_apart g) each

n8_4 : (g : Row) → Each g N8_4 → IsEmpty (Fails Plain N8_4 (whole g))
n8_4 g each = away g (λ i. On Via (own g i)) (λ i. On Contact (own g i)) (On Via (whole g)) (On Contact (whole g)) 4 (λ x y c. (consists g Via x y).0 c) (λ x y c. (consists g Contact x y).0 c) (apart_from g Via Contact 3 20 4 (vias g) (contacts g) (omega arith)) each

partly : (g : Row) (layer : Layer) → KeepsSides g layer 3 20 → ((i : Spot g) → IsEmpty (FailsPartly (On Via (own g i)) (On layer (own g i)) 4)) → IsEmpty (FailsPartly (On Via (whole g)) (On layer (whole g)) 4)
partly g layer k each x y (a, b) =
    any_partly (λ (i : Spot g). On Via (own g i)) (λ (i : Spot g). On layer (own g i)) 4 (apart_from g Via layer 3 20 4 (vias g) k (omega arith)) each x y (
      record { covered = (consists g Via x y).0 a.covered; s = a.s; t = a.t; near = a.near; within = (consists g layer a.s a.t).0 a.within },
      record { covered = (consists g Via x y).0 b.covered; s = b.s; t = b.t; near = b.near; out = λ q. b.out ((consists g layer b.s b.t).1 q) },
    )

n8_5 : (g : Row) → Each g N8_5 → IsEmpty (Fails Plain N8_5 (whole g))
n8_5 g each x y (inl f) = partly g Poly (polys g) (λ i s t e. each i s t (inl e)) x y f
n8_5 g each x y (inr f) = partly g Active (actives g) (λ i s t e. each i s t (inr e)) x y f

-- every rule but the one on taps
abbrev is_plain : RuleNo → Bool
is_plain N2_4 = false
is_plain rule = true

plain_rules : (rule : RuleNo) → InDeck Plain rule → is_plain rule ≡ true
plain_rules rule listed = All-contains (λ r. is_plain r ≡ true) (numbers_of Plain) rule (AllPass-from_list_all is_plain (numbers_of Plain) refl) listed

rule_of : (g : Row) (rule : RuleNo) → Each g rule → is_plain rule ≡ true → IsEmpty (Fails Plain rule (whole g))
rule_of g N1_1 each kept = layer_width g Well 24 each
rule_of g N2_1 each kept = layer_width g Active 6 each
rule_of g N2_2 each kept = layer_spacing g Active 6 3 20 (actives g) (omega arith) each
rule_of g N2_3 each kept = n2_3 g each
rule_of g N2_4 each kept = absurd (false≢true kept)
rule_of g N3_1 each kept = layer_width g Poly 4 each
rule_of g N3_2 each kept = layer_spacing g Poly 6 3 20 (polys g) (omega arith) each
rule_of g N3_3 each kept = any_poly_end (own g) (whole g) 4 (gate_parts g) each
rule_of g N3_4 each kept = any_active_end (own g) (whole g) 6 (gate_parts g) each
rule_of g N3_5 each kept = any_field_poly (own g) (whole g) (gate_parts g) each
rule_of g N4_2 each kept = n4_2 g each
rule_of g N5_1 each kept = layer_size g Contact 4 3 20 (contacts g) (omega arith) each
rule_of g N5_2 each kept = n5_2 g each
rule_of g N5_3 each kept = layer_spacing g Contact 6 3 20 (contacts g) (omega arith) each
rule_of g N5_4 each kept = n5_4 g each
rule_of g N6_2 each kept = surround g (λ i. DiffusionContact (own g i)) (DiffusionContact (whole g)) Active 3 (diffusion_contact_of g) each
rule_of g N7_1 each kept = layer_width g Metal1 6 each
rule_of g N7_2 each kept = metal1_spacing g each
rule_of g N7_3 each kept = surround g (λ i. On Contact (own g i)) (On Contact (whole g)) Metal1 2 (λ x y c. (consists g Contact x y).0 c) each
rule_of g N8_1 each kept = layer_size g Via 4 3 20 (vias g) (omega arith) each
rule_of g N8_2 each kept = layer_spacing g Via 6 3 20 (vias g) (omega arith) each
rule_of g N8_3 each kept = surround g (λ i. On Via (own g i)) (On Via (whole g)) Metal1 2 (λ x y c. (consists g Via x y).0 c) each
rule_of g N8_4 each kept = n8_4 g each
rule_of g N8_5 each kept = n8_5 g each
rule_of g N9_1 each kept = layer_width g Metal2 6 each
rule_of g N9_2 each kept = layer_spacing g Metal2 8 4 20 (metal2s g) (omega arith) each
rule_of g N9_3 each kept = surround g (λ i. On Via (own g i)) (On Via (whole g)) Metal2 2 (λ x y c. (consists g Via x y).0 c) each

pub obeys : (g : Row) → Obeys Plain (whole g)
obeys g = record { none = λ rule listed. rule_of g rule (own_rule g rule listed) (plain_rules rule listed) }
