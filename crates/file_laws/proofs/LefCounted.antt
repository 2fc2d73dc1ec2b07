-- How many shapes stand at the ports of all pins and in the obstructions together.
use Rattle.std.proofs.Common.{ℕ, zero, suc, ◌≡◌, ◌+◌, ◌<◌, ◌≤◌, ◌==◌, Bool, true, false, cond, List, [], ◌∷◌, ◌++◌, Option, Some, None, length, inl, inr, refl, arith, length-append}
use Rattle.std.specs.Prelude.{filter, slice_get, if◌then◌else◌}
use Rattle.std.specs.List.{cons_option, flat_map, range_with_len}
use Rattle.std.specs.Option.{option_len}
use Rattle.std.proofs.lemmas.Bool.{cases_Bool, cases_eq, eq-eqb, eqb-true, ne_eqb}
use Rattle.std.proofs.lemmas.List.Sorted.{length_permutation}
use Rattle.box_geom.specs.Layers.{layer_no, same_layer}
use Rattle.box_geom.specs.declared.layer.Layer.TheVariants.{Metal1, Metal2}
use Rattle.box_geom.specs.declared.shape.Shape.{Shape}
use Rattle.cell_draw.specs.Layouts.{net_no}
use Rattle.lef_write.specs.Drawn.{AreAllMetal, all_port_shapes, shapes_on}
use Rattle.lef_write.specs.Ports.{obstructions, obstructions_on, port_shapes}
use Rattle.lef_write.specs.declared.port.Port.{Port}
use Rattle.box_geom.specs.declared.layer.Layer.{Layer}

-- ---- each port is one of one pin

-- the shapes at the ports of each of these pins
abbrev pub at_pins : List Port → List Shape → List ℕ → List Shape
at_pins ports rects ns = flat_map (λ (n : ℕ). port_shapes ports rects (net_no n)) ns

-- one where the test holds and the item is there
abbrev taken : Bool → Option Shape → ℕ
taken b o = cond b (option_len o) 0

-- how often a port is one of these pins
hits : ℕ → Option Shape → List ℕ → ℕ
hits pin o [] = 0
hits pin o (n ∷ ns) = taken (pin == n) o + hits pin o ns

-- a port is none of the pins behind its own
no_hits : (pin : ℕ) (o : Option Shape) (from count : ℕ) → pin < from → hits pin o (range_with_len from count) ≡ 0
unfolding hits
no_hits pin o from zero h = refl
no_hits pin o from (suc count) h =
    let other : (pin == from) ≡ false = ne_eqb pin from (λ e. omega (arith, e, h)) in
    rw other (omega (arith, no_hits pin o (from + 1) count (omega (arith, h))))

one_hit : (pin : ℕ) (o : Option Shape) (from count : ℕ) → hits pin o (range_with_len from count) ≤ option_len o
unfolding hits
one_hit pin o from zero = omega arith
one_hit pin o from (suc count) =
    elim (cases_eq pin from) [
      | inl same ↦ rw (eq-eqb pin from same) (omega (arith, no_hits pin o (from + 1) count (omega (arith, same))))
      | inr other ↦ rw (ne_eqb pin from other) (omega (arith, one_hit pin o (from + 1) count))
    ]

kept_length : {X : Type 0} (o : Option X) (xs : List X) → length (cons_option o xs) ≡ option_len o + length xs
kept_length None xs = omega arith
kept_length (Some x) xs = omega arith

shown : (b : Bool) (o : Option Shape) → option_len (if b then o else None) ≡ taken b o
shown true o = refl
shown false o = refl

at_none : (rects : List Shape) (ns : List ℕ) → length (at_pins [] rects ns) ≡ 0
at_none rects [] = refl
at_none rects (n ∷ ns) = at_none rects ns

at_more : (port : Port) (ports : List Port) (rects : List Shape) (ns : List ℕ) → length (at_pins (port ∷ ports) rects ns) ≡ hits port.pin.0 (slice_get rects port.shape) ns + length (at_pins ports rects ns)
unfolding hits
at_more port ports rects [] = refl
at_more port ports rects (n ∷ ns) =
    let place = slice_get rects port.shape in
    let test = port.pin.0 == n in
    omega (
      arith,
      length-append (port_shapes (port ∷ ports) rects (net_no n)) (at_pins (port ∷ ports) rects ns),
      length-append (port_shapes ports rects (net_no n)) (at_pins ports rects ns),
      kept_length (if test then place else None) (port_shapes ports rects (net_no n)),
      shown test place,
      at_more port ports rects ns,
    )

-- the ports of all pins show no more shapes than the ports do
pub at_all : (ports : List Port) (rects : List Shape) (pins : ℕ) → length (at_pins ports rects (range_with_len 0 pins)) ≤ length (all_port_shapes ports rects)
at_all [] rects pins = omega (arith, at_none rects (range_with_len 0 pins))
at_all (port ∷ ports) rects pins =
    let place = slice_get rects port.shape in
    omega (
      arith,
      at_more port ports rects (range_with_len 0 pins),
      one_hit port.pin.0 place 0 pins,
      kept_length place (all_port_shapes ports rects),
      at_all ports rects pins,
    )

-- ---- no shape is of two layers

filter_length : {X : Type 0} (test : X → Bool) (x : X) (xs : List X) → length (filter test (x ∷ xs)) ≡ cond (test x) 1 0 + length (filter test xs)
filter_length test x xs =
    elim (cases_Bool (test x)) [
      | inl yes' ↦ rw yes' (omega arith)
      | inr no' ↦ rw no' (omega arith)
    ]

not_both : (l : Layer) → cond (same_layer l Metal1) 1 0 + cond (same_layer l Metal2) 1 0 ≤ 1
not_both l =
    elim (cases_Bool (same_layer l Metal1)) [
      | inl yes' ↦
          let is : layer_no l ≡ 6 = eqb-true (layer_no l) 6 yes' in
          rw (yes', ne_eqb (layer_no l) 8 (λ e. omega (arith, e, is))) (omega arith)
      | inr no' ↦ rw no' (at_most (same_layer l Metal2))
    ]
  where
    at_most : (b : Bool) → 0 + cond b 1 0 ≤ 1
    at_most true = omega arith
    at_most false = omega arith

two_layers : (rects : List Shape) → length (shapes_on Metal1 rects) + length (shapes_on Metal2 rects) ≤ length rects
two_layers [] = omega arith
two_layers (s ∷ rects) =
    omega (
      arith,
      filter_length (λ (z : Shape). same_layer z.layer Metal1) s rects,
      filter_length (λ (z : Shape). same_layer z.layer Metal2) s rects,
      not_both s.layer,
      two_layers rects,
    )

-- ---- together

pub few_shown : (ports : List Port) (rects : List Shape) (pins : ℕ) → AreAllMetal ports rects → length (at_pins ports rects (range_with_len 0 pins)) + (length (obstructions_on Metal1 ports rects) + length (obstructions_on Metal2 ports rects)) ≤ length rects
few_shown ports rects pins all =
    omega (
      arith,
      at_all ports rects pins,
      length_permutation (all_port_shapes ports rects ++ obstructions ports rects) (shapes_on Metal1 rects ++ shapes_on Metal2 rects) all,
      length-append (all_port_shapes ports rects) (obstructions ports rects),
      length-append (obstructions_on Metal1 ports rects) (obstructions_on Metal2 ports rects),
      length-append (shapes_on Metal1 rects) (shapes_on Metal2 rects),
      two_layers rects,
    )
