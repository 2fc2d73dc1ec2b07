-- Sides of rectangles that were written in nanometres come back in grid units.
use Rattle.std.proofs.Common.{ℕ, suc, ℤ, pos, negsuc, neg_ℤ, ◌≡◌, ◌+◌, ◌-◌, ◌*◌, ◌/◌, ◌%◌, ◌<◌, ◌≤◌, ◌<ℤ◌, int_lt, Some, true, refl, sym, subst, arith}
use Rattle.std.proofs.lemmas.Int.{ints}
use Rattle.std.proofs.lemmas.Nat.{div-mul-add, mod-mul-add, row_fits}
use Rattle.box_geom.specs.Rectangle.{Rectangle}
use Rattle.box_geom.specs.declared.layer.Layer.{Layer}
use Rattle.box_geom.specs.declared.shape.Shape.{Shape}
use Rattle.lef_read.specs.Macros.{units_in, rect_in}
use Rattle.lef_read.specs.Reading.{ascending}
use Rattle.file_laws.specs.Drawn.{on_layer, IsSpelled}
use Rattle.file_laws.proofs.Microns.{nm_of}

multiple : (n unit : ℕ) → 1 ≤ unit → ((n * unit) % unit ≡ 0) × ((n * unit) / unit ≡ n)
multiple n unit u =
    let e : n * unit + 0 ≡ n * unit = omega arith in
    (subst (λ m. m % unit ≡ 0) e (mod-mul-add n unit 0 (omega (arith, u))), subst (λ m. m / unit ≡ n) e (div-mul-add n unit 0 (omega (arith, u))))

-- a negative multiple, as the number behind `negsuc`
negative : (m k : ℕ) → m ≡ suc k → neg_ℤ (pos m) ≡ negsuc k
negative m k e = subst (λ j. neg_ℤ (pos j) ≡ negsuc k) (sym e) refl

pub units_back : (unit : ℕ) (z : ℤ) → 1 ≤ unit → units_in unit (nm_of unit z) ≡ Some z
units_back unit (pos n) u = let m = multiple n unit u in rw (m.0, m.1) refl
units_back unit (negsuc n) u =
    let e : suc n * unit ≡ suc (n * unit + (unit - 1)) = omega (arith, u) in
    let m : (n * unit + (unit - 1)) % unit ≡ unit - 1 = mod-mul-add n unit (unit - 1) (omega (arith, u)) in
    let d : (n * unit + (unit - 1)) / unit ≡ n = div-mul-add n unit (unit - 1) (omega (arith, u)) in
    let none : unit - 1 - (n * unit + (unit - 1)) % unit ≡ 0 = omega (arith, m) in
    rw (negative (suc n * unit) (n * unit + (unit - 1)) e, none, d) refl

less_scaled : (unit a b : ℕ) → 1 ≤ unit → a < b → a * unit < b * unit
less_scaled unit a b u h = omega (arith, u, row_fits a unit b unit h (omega arith))

nm_rises : (unit : ℕ) (y z : ℤ) → 1 ≤ unit → y <ℤ z → nm_of unit y <ℤ nm_of unit z
nm_rises unit (pos a) (pos b) u h = let l = less_scaled unit a b u (omega (arith, ints, h)) in omega (arith, ints, l)
nm_rises unit (pos a) (negsuc b) u h = absurd (omega (arith, ints, h))
nm_rises unit (negsuc a) (pos b) u h = let l : 0 * unit < suc a * unit = less_scaled unit 0 (suc a) u (omega arith) in omega (arith, ints, l)
nm_rises unit (negsuc a) (negsuc b) u h = let l : suc b * unit < suc a * unit = less_scaled unit (suc b) (suc a) u (omega (arith, ints, h)) in omega (arith, ints, l)

less_test : (a b : ℤ) → a <ℤ b → int_lt a b ≡ true
less_test a b h = grind (arith, ints)

-- a rectangle in nanometres
abbrev pub nm_sides : ℕ → Rectangle → Rectangle
nm_sides unit r = record { x1 = nm_of unit r.x1; y1 = nm_of unit r.y1; x2 = nm_of unit r.x2; y2 = nm_of unit r.y2 }

pub sides_ascend : (unit : ℕ) (r : Rectangle) → 1 ≤ unit → IsSpelled unit r → ascending (nm_sides unit r) ≡ true
sides_ascend unit r u s = rw (less_test (nm_of unit r.x1) (nm_of unit r.x2) (nm_rises unit r.x1 r.x2 u s.proper.wide), less_test (nm_of unit r.y1) (nm_of unit r.y2) (nm_rises unit r.y1 r.y2 u s.proper.high)) refl

pub rect_back : (unit line : ℕ) (layer : Layer) (s : Shape) → 1 ≤ unit → rect_in unit (record { line = line; layer = layer; sides = nm_sides unit s.rect }) ≡ Some (on_layer layer s)
rect_back unit line layer s u = rw (units_back unit s.rect.x1 u, units_back unit s.rect.y1 u, units_back unit s.rect.x2 u, units_back unit s.rect.y2 u) refl
