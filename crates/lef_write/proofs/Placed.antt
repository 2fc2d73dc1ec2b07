-- Ports stand on metal1.
use Rattle.std.proofs.Common.{ℕ, suc, ◌≡◌, ◌+◌, Bool, true, cond, List, [], ◌∷◌, get_or, refl, sym, ap, ◌∙◌, inl, inr, arith, All, Contains}
use Rattle.std.specs.Prelude.{Option, Some, None, slice_get}
use Rattle.std.specs.List.{enumerate_from, flat_map, range_with_len}
use Rattle.std.proofs.lemmas.Bool.{cases_Bool, eqb-true}
use Rattle.cell_num.specs.declared.net.Pins.{Pins}
use Rattle.cell_num.proofs.Lists.{some_same, contains_none, contains_cons, contains_get, all_from_contains, kept_from}
use Rattle.cell_num.proofs.In.{Piece, in_flat}
use Rattle.box_geom.specs.declared.layer.Layer.{Layer}
use Rattle.box_geom.specs.declared.layer.Layer.TheVariants.{Well, Active, PSelect, NSelect, Poly, Contact, Metal1, Via, Metal2}
use Rattle.box_geom.specs.declared.shape.Shape.{Shape}
use Rattle.box_geom.specs.Layers.{layer_no, same_layer}
use Rattle.channel_route.specs.declared.routing.Trunk.{Trunk}
use Rattle.lef_write.specs.declared.port.Port.{Port}
use Rattle.lef_write.specs.Ports.{place_on, places_on, ports_on, ports_of, IsOn, IsPort}
use Rattle.lef_write.proofs.PortPlaces.{Stands, stands}

-- ---- a layer is told by its number

abbrev numbered : ℕ → Layer
numbered n = get_or (Well ∷ Active ∷ PSelect ∷ NSelect ∷ Poly ∷ Contact ∷ Metal1 ∷ Via ∷ Metal2 ∷ []) n Well

by_number : (layer : Layer) → numbered (layer_no layer) ≡ layer
by_number Well = refl
by_number Active = refl
by_number PSelect = refl
by_number NSelect = refl
by_number Poly = refl
by_number Contact = refl
by_number Metal1 = refl
by_number Via = refl
by_number Metal2 = refl

pub one_layer : (a b : Layer) → same_layer a b ≡ true → a ≡ b
one_layer a b e = sym (by_number a) ∙ (ap (λ (n : ℕ). numbered n) (eqb-true (layer_no a) (layer_no b) e) ∙ by_number b)

-- ---- places of shapes

-- what stands at a place of a numbered list
pub record IsAt {X : Type 0} (n : ℕ) (xs : List X) (placed : ℕ × X) : Type 0 where
  pub at : ℕ
  pub number : placed.0 ≡ n + at
  pub item : slice_get xs at ≡ Some placed.1

pub enumerated : {X : Type 0} (n : ℕ) (xs : List X) (placed : ℕ × X) → Contains (enumerate_from n xs) placed → IsAt n xs placed
enumerated n [] placed there = absurd (contains_none placed there)
enumerated n (x ∷ xs) placed there = elim (contains_cons (n, x) (enumerate_from (n + 1) xs) placed there) [
  | inl here ↦ record { at = 0; number = omega (arith, ap (λ p. p.0) here); item = ap (λ p. Some p.1) here }
  | inr later ↦ let e = enumerated (n + 1) xs placed later in record { at = suc e.at; number = omega (arith, e.number); item = e.item }
]

on_layer : (layer : Layer) (placed : ℕ × Shape) (place : ℕ) → place_on layer placed ≡ Some place → (placed.1.layer ≡ layer) × (placed.0 ≡ place)
on_layer layer placed place e = elim (cases_Bool (same_layer placed.1.layer layer)) [
  | inl same ↦ (one_layer placed.1.layer layer same, some_same placed.0 place (sym (ap (λ (b : Bool). cond b (Some placed.0) None) same) ∙ e))
  | inr other ↦ absurd (none (sym (ap (λ (b : Bool). cond b (Some placed.0) None) other) ∙ e))
]
  where
    none : ◌≡◌ {A = Option ℕ} None (Some place) → ⊥
    none e = absurd cc

-- a listed place holds a shape of the layer
pub place_is_on : (layer : Layer) (rects : List Shape) (place : ℕ) → Contains (places_on layer rects) place → IsOn layer rects place
place_is_on layer rects place there =
    let kept = kept_from (place_on layer) (enumerate_from 0 rects) place there in
    let on = on_layer layer kept.from place kept.gives in
    let at = enumerated 0 rects kept.from kept.there in
    let same : at.at ≡ place = omega (arith, at.number, on.1) in
    record { shape = kept.from.1; there = ap (λ (n : ℕ). slice_get rects n) (sym same) ∙ at.item; on = on.0 }

-- ---- ports

pub port_in_metal : (pins : Pins) (trunks : List Trunk) (metal : List ℕ) (port : Port) → Contains (flat_map (ports_on pins trunks metal) (range_with_len 0 pins.pins)) port → Contains metal port.shape
port_in_metal pins trunks metal port there =
    let piece : Piece (ports_on pins trunks metal) (range_with_len 0 pins.pins) port = in_flat (ports_on pins trunks metal) (range_with_len 0 pins.pins) port there in
    let s : Stands pins trunks metal piece.of port = stands pins trunks metal piece.of port piece.inside in
    contains_get metal s.at port.shape s.there

-- each port of a cell stands on metal1
pub ports_are : (pins : Pins) (trunks : List Trunk) (rects : List Shape) → All (IsPort rects) (ports_of pins trunks rects)
ports_are pins trunks rects = all_from_contains (IsPort rects) (ports_of pins trunks rects) (λ port there. place_is_on Metal1 rects port.shape (port_in_metal pins trunks (places_on Metal1 rects) port there))
