-- The numbers of a written element are read back: its layer, and its coordinates in grid units.
use Rattle.std.proofs.Common.{ℕ, ◌≡◌, ◌*◌, ◌/◌, ◌^◌, List, [], ◌∷◌, map, ◌<◌, ◌≤◌, true, false, int_lt, Some, ℤ, pos, neg_ℤ, unsigned_abs, ◌*ℤ◌, ◌≤ℤ◌, ◌<ℤ◌, refl, ap, ◌∙◌, arith, mul-le-mul, FitsSigned}
use Rattle.std.specs.Int.{w32, from_be_bytes, to_be_bytes, cast_signed, cast_unsigned, int_div_euclid, int_rem_euclid}
use Rattle.std.specs.List.{range_with_len}
use Rattle.std.proofs.lemmas.Nat.{from_be_bytes-to_be_bytes_4}
use Rattle.std.proofs.lemmas.Int.{ints, to_z-of_z, unsigned_abs-mul}
use Rattle.std.proofs.Math.Facts.{Fits-of_z}
use Rattle.box_geom.specs.Rectangle.{Rectangle, IsRectangle}
use Rattle.box_geom.specs.declared.layer.Layer.{Layer}
use Rattle.box_geom.specs.declared.layer.Layer.TheVariants as layer
use Rattle.box_geom.specs.declared.shape.Shape.{Shape}
use Rattle.gds_area.specs.declared.units.Grid.{Grid}
use Rattle.gds_area.specs.declared.point.Point.{Point}
use Rattle.gds_area.specs.Units.{limited_to_grid, scaled_by, step_of_grid, two_steps, whole_units_of, floor_units_of, in_order}
use Rattle.gds_record.specs.Layers.{layer_number, layer_numbered}
use Rattle.gds_area.specs.Points.{point_at, points_of}
use Rattle.gds_area.specs.Areas.{span_of, area_of, side_of, rectangle_of}
use Rattle.gds_read.specs.Elements.{short_of, spot_of}
use Rattle.gds_write.specs.Written.{short, long, point, corners, Fits, IsWritableShape}
use Rattle.gds_write.proofs.Pieces.{corners_length}
use Rattle.gds_read.proofs.RoundTripExact.{scaled_exact, halves_exact, exact_rem, exact_div}

pub layer_back : (l : Layer) → layer_numbered (short_of (short (layer_number l))) ≡ Some l
layer_back layer.Well = refl
layer_back layer.Active = refl
layer_back layer.PSelect = refl
layer_back layer.NSelect = refl
layer_back layer.Poly = refl
layer_back layer.Contact = refl
layer_back layer.Metal1 = refl
layer_back layer.Via = refl
layer_back layer.Metal2 = refl

-- ---- four-byte integers

-- the database unit is a nanometre, and a grid unit has so many of them
abbrev pub grid : ℕ → Grid
grid unit = record { picometres = 1000; lambda_nm = 2 * unit }

-- its two's complement
abbrev pub word : ℕ → ℤ → ℕ
word unit z = cast_unsigned w32 (z *ℤ pos unit)

word_back : (unit : ℕ) (z : ℤ) → Fits unit z → from_be_bytes w32 (to_be_bytes w32 (word unit z)) ≡ word unit z
word_back unit z fits = from_be_bytes-to_be_bytes_4 (word unit z) (Fits-of_z fits).fits

number_back : (unit : ℕ) (z : ℤ) → Fits unit z → cast_signed w32 (word unit z) ≡ z *ℤ pos unit
number_back unit z fits = to_z-of_z w32 (z *ℤ pos unit) fits

signed_back : (unit : ℕ) (z : ℤ) → Fits unit z → cast_signed w32 (from_be_bytes w32 (to_be_bytes w32 (word unit z))) ≡ z *ℤ pos unit
signed_back unit z fits = ap (λ (n : ℕ). cast_signed w32 n) (word_back unit z fits) ∙ number_back unit z fits

some_step : (unit : ℕ) → 0 < unit → 0 < 500 * (2 * unit)
some_step unit some = omega (arith, some)

div_back : (unit : ℕ) (z : ℤ) → 0 < unit → int_div_euclid (scaled_by (grid unit) (z *ℤ pos unit)) (step_of_grid (grid unit)) ≡ z
div_back unit z some = ap (λ (y : ℤ). int_div_euclid y (pos (500 * (2 * unit)))) (scaled_exact z unit some) ∙ exact_div z (500 * (2 * unit)) (some_step unit some)

-- a number within the limits of a drawing
pub record IsLimited (z : ℤ) : Type 0 where
  pub least : neg_ℤ (pos 1000000000) ≤ℤ z
  pub most : z ≤ℤ pos 1000000000

limited_back : (z : ℤ) → IsLimited z → limited_to_grid z ≡ Some z
limited_back z is =
    let above : int_lt z (neg_ℤ (pos 1000000000)) ≡ false = grind (arith, ints) in
    let below : int_lt (pos 1000000000) z ≡ false = grind (arith, ints) in
    rw (above, below) refl

-- halves of a file unit
halves_div_back : (unit : ℕ) (z : ℤ) → 0 < unit → int_div_euclid (scaled_by (grid unit) (pos 2 *ℤ (z *ℤ pos unit))) (two_steps (grid unit)) ≡ z
halves_div_back unit z some = ap (λ (y : ℤ). int_div_euclid y (pos (1000 * (2 * unit)))) (halves_exact z unit some) ∙ exact_div z (1000 * (2 * unit)) (let l : 0 < 1000 * (2 * unit) = omega (arith, some) in l)

halves_rem_back : (unit : ℕ) (z : ℤ) → 0 < unit → int_rem_euclid (scaled_by (grid unit) (pos 2 *ℤ (z *ℤ pos unit))) (two_steps (grid unit)) ≡ pos 0
halves_rem_back unit z some = ap (λ (y : ℤ). int_rem_euclid y (pos (1000 * (2 * unit)))) (halves_exact z unit some) ∙ exact_rem z (1000 * (2 * unit)) (let l : 0 < 1000 * (2 * unit) = omega (arith, some) in l)

whole_back : (unit : ℕ) (z : ℤ) → 0 < unit → IsLimited z → whole_units_of (grid unit) (pos 2 *ℤ (z *ℤ pos unit)) ≡ Some z
whole_back unit z some is = rw (halves_rem_back unit z some, halves_div_back unit z some) (limited_back z is)

floor_back : (unit : ℕ) (z : ℤ) → 0 < unit → IsLimited z → floor_units_of (grid unit) (z *ℤ pos unit) ≡ Some z
floor_back unit z some is = rw (div_back unit z some) (limited_back z is)

-- ---- the corners of a rectangle

abbrev pub point_in : ℕ → ℤ → ℤ → Point
point_in unit x y = record { x = x *ℤ pos unit; y = y *ℤ pos unit }

-- the points that are read of the corners that are written
pub record AreRead (unit : ℕ) (r : Rectangle) : Type 0 where
  pub first : point_at 0 (corners unit r) ≡ point_in unit r.x1 r.y1
  pub second : point_at 8 (corners unit r) ≡ point_in unit r.x1 r.y2
  pub third : point_at 16 (corners unit r) ≡ point_in unit r.x2 r.y2
  pub fourth : point_at 24 (corners unit r) ≡ point_in unit r.x2 r.y1
  pub last : point_at 32 (corners unit r) ≡ point_in unit r.x1 r.y1

a_point : (a b x y : ℤ) → a ≡ x → b ≡ y → ◌≡◌ {A = Point} (record { x = a; y = b }) (record { x = x; y = y })
a_point a b x y e f = rw (e, f) refl

are_read : (unit : ℕ) (s : Shape) → IsWritableShape unit s → AreRead unit s.rect
unfolding long point corners
are_read unit s fits =
    let x1 = signed_back unit s.rect.x1 fits.x1 in
    let y1 = signed_back unit s.rect.y1 fits.y1 in
    let x2 = signed_back unit s.rect.x2 fits.x2 in
    let y2 = signed_back unit s.rect.y2 fits.y2 in
    record { first = a_point _ _ _ _ x1 y1; second = a_point _ _ _ _ x1 y2; third = a_point _ _ _ _ x2 y2; fourth = a_point _ _ _ _ x2 y1; last = a_point _ _ _ _ x1 y1 }

five : (a b c d e f g h i j : Point) → a ≡ f → b ≡ g → c ≡ h → d ≡ i → e ≡ j → a ∷ b ∷ c ∷ d ∷ e ∷ [] ≡ f ∷ g ∷ h ∷ i ∷ j ∷ []
five a b c d e f g h i j p q r s t = rw (p, q, r, s, t) refl

-- the walk round a rectangle in file units
abbrev pub walk_round : ℕ → Rectangle → List Point
walk_round unit r = point_in unit r.x1 r.y1 ∷ point_in unit r.x1 r.y2 ∷ point_in unit r.x2 r.y2 ∷ point_in unit r.x2 r.y1 ∷ point_in unit r.x1 r.y1 ∷ []

five_points : (unit : ℕ) (r : Rectangle) → points_of (corners unit r) ≡ point_at 0 (corners unit r) ∷ point_at 8 (corners unit r) ∷ point_at 16 (corners unit r) ∷ point_at 24 (corners unit r) ∷ point_at 32 (corners unit r) ∷ []
five_points unit r = ap (λ (n : ℕ). map (λ i. point_at (8 * i) (corners unit r)) (range_with_len 0 (n / 8))) (corners_length unit r)

pub points_back : (unit : ℕ) (s : Shape) → IsWritableShape unit s → points_of (corners unit s.rect) ≡ walk_round unit s.rect
points_back unit s fits =
    let r = are_read unit s fits in
    five_points unit s.rect ∙ five _ _ _ _ _ _ _ _ _ _ r.first r.second r.third r.fourth r.last

in_order_back : (a b : ℤ) → a <ℤ b → in_order a b ≡ Some (record { low = a; high = b })
in_order_back a b less = let e : int_lt a b ≡ true = grind (arith, ints) in rw e refl

side_back : (unit : ℕ) (a b : ℤ) → 0 < unit → IsLimited a → IsLimited b → a <ℤ b → side_of (grid unit) (span_of (a *ℤ pos unit) (b *ℤ pos unit)) ≡ Some (record { low = a; high = b })
side_back unit a b some la lb less = rw (whole_back unit a some la, whole_back unit b some lb) (in_order_back a b less)

-- the rectangle in file units
abbrev pub scaled_up : ℕ → Rectangle → Rectangle
scaled_up unit r = record { x1 = r.x1 *ℤ pos unit; y1 = r.y1 *ℤ pos unit; x2 = r.x2 *ℤ pos unit; y2 = r.y2 *ℤ pos unit }

pub rectangle_back : (unit : ℕ) (r : Rectangle) → 0 < unit → IsRectangle r → rectangle_of (grid unit) (area_of (scaled_up unit r)) ≡ Some r
unfolding rectangle_of area_of
rectangle_back unit r some is =
    let x1 : IsLimited r.x1 = omega (arith, ints) in
    let x2 : IsLimited r.x2 = omega (arith, ints) in
    let y1 : IsLimited r.y1 = omega (arith, ints) in
    let y2 : IsLimited r.y2 = omega (arith, ints) in
    rw (side_back unit r.x1 r.x2 some x1 x2 is.proper.wide, side_back unit r.y1 r.y2 some y1 y2 is.proper.high) refl

-- ---- points of labels and references

pub point_back : (unit : ℕ) (x y : ℤ) → Fits unit x → Fits unit y → point_at 0 (point unit x y) ≡ point_in unit x y
unfolding long point
point_back unit x y fx fy = a_point _ _ _ _ (signed_back unit x fx) (signed_back unit y fy)

-- with ten nanometres or more to a grid unit, four bytes hold few units
pub few_units : (unit : ℕ) (z : ℤ) → 10 ≤ unit → Fits unit z → unsigned_abs z ≤ 214748364
few_units unit z enough fits =
    let product : unsigned_abs (z *ℤ pos unit) ≡ unsigned_abs z * unit = unsigned_abs-mul z (pos unit) in
    let more : unsigned_abs z * 10 ≤ unsigned_abs z * unit = mul-le-mul (let same : unsigned_abs z ≤ unsigned_abs z = omega arith in same) enough in
    let few : unsigned_abs (z *ℤ pos unit) ≤ 2 ^ 31 = within (z *ℤ pos unit) fits in
    omega (arith, product, more, few)
  where
    within : (y : ℤ) → FitsSigned w32 y → unsigned_abs y ≤ 2 ^ 31
    within y f = omega (arith, ints)

limited : (unit : ℕ) (z : ℤ) → 10 ≤ unit → Fits unit z → IsLimited z
limited unit z enough fits = by z (few_units unit z enough fits)
  where
    by : (y : ℤ) → unsigned_abs y ≤ 214748364 → IsLimited y
    by y small = omega (arith, ints)

pub spot_back : (unit : ℕ) (on : Layer) (x y : ℤ) → 10 ≤ unit → Fits unit x → Fits unit y → spot_of (grid unit) on (point unit x y) ≡ Some (record { layer = on; x = x; y = y })
unfolding long point
spot_back unit on x y enough fx fy =
    let some : 0 < unit = omega (arith, enough) in
    rw (signed_back unit x fx, signed_back unit y fy, floor_back unit x some (limited unit x enough fx), floor_back unit y some (limited unit y enough fy)) refl
