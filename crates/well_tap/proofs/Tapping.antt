-- A base by its parts, its taps, and the cells of the taps.
use Rattle.std.proofs.Common.{◌≡◌, ℕ, ◌+◌, ◌≤◌, ℤ, pos, ◌≤ℤ◌, ◌<ℤ◌, ◌-ℤ◌, List, [], ◌∷◌, ◌++◌, inl, inr, ◌⊎◌, arith}
use Rattle.std.specs.List.{All}
use Rattle.std.proofs.lemmas.Int.{ints}
use Rattle.box_geom.specs.Rectangle.{Rectangle, Holds, Covers}
use Rattle.box_geom.specs.declared.layer.Layer.TheVariants.{Well, Active, PSelect, NSelect}
use Rattle.box_geom.specs.declared.shape.Shape.{Shape}
use Rattle.net_extract.proofs.Covering.{cover_none, cover_first, cover_later, cover_split}
use Rattle.cell_draw.specs.declared.layout.Frame.{Frame}
use Rattle.cell_draw.specs.Shapes.{cell_height, box, around, well, p_select, n_select, gnd_rail, vdd_rail, frame_shapes}
use Rattle.well_tap.specs.Base.{IsStacked, IsSpread, IsBetweenTaps}
use Rattle.well_tap.specs.Tapped.{tap_at}
use Rattle.well_tap.specs.Measures.{WELL_PAST_END}
use Rattle.well_tap.proofs.TapCells.{IsTap}

pub record Tapping : Type 0 where
  pub frame : Frame
  pub others : List Shape
  -- the lines of the taps, and the height of those of the well
  pub first : ℕ
  pub last : ℕ
  pub high : ℕ
  pub stacked : IsStacked frame
  pub spread : IsSpread frame.width first last
  pub top : high + 8 ≡ cell_height frame
  pub between : All (IsBetweenTaps frame) others

abbrev pub height : Tapping → ℤ
height g = pos (cell_height g.frame)

-- the shapes without taps
abbrev pub base : Tapping → List Shape
base g = frame_shapes g.frame ++ g.others

abbrev pub taps : Tapping → List Shape
taps g = (tap_at PSelect g.first 8 ++ tap_at NSelect g.first g.high) ++ (tap_at PSelect g.last 8 ++ tap_at NSelect g.last g.high)

abbrev pub high_well : Frame → Shape
high_well f = box Well (well f).rect.x1 (well f).rect.y1 (well f).rect.x2 (pos (cell_height f + WELL_PAST_END))

-- the shapes with taps
abbrev pub whole : Tapping → List Shape
whole g = high_well g.frame ∷ p_select g.frame ∷ n_select g.frame ∷ gnd_rail g.frame ∷ vdd_rail g.frame ∷ (g.others ++ taps g)

-- ---- cells of taps

-- the squares of all taps that reach so far to each side of their centres
pub data InTap (g : Tapping) (by : ℕ) (x y : ℤ) : Type 0 where
  first_low : Holds (around Active g.first (pos 8) by).rect x y → InTap g by x y
  first_high : Holds (around Active g.first (pos g.high) by).rect x y → InTap g by x y
  last_low : Holds (around Active g.last (pos 8) by).rect x y → InTap g by x y
  last_high : Holds (around Active g.last (pos g.high) by).rect x y → InTap g by x y

-- between the sides of the cell, as far from them as pads are
pub record IsWithin (g : Tapping) (x : ℤ) : Type 0 where
  pub left : pos 3 ≤ℤ x
  pub right : x <ℤ (pos g.frame.width -ℤ pos 3)

pub record IsTapCell (g : Tapping) (x y : ℤ) : Type 0 where
  pub across : IsWithin g x
  pub row : IsTap (height g) y

pub tap_cell : (g : Tapping) (by : ℕ) (x y : ℤ) → by ≤ 5 → InTap g by x y → IsTapCell g x y
tap_cell g by x y few (first_low h) = let s = g.spread in let t = g.top in record { across = omega (arith, ints, few, s.left, s.apart, s.right); row = inl (omega (arith, ints, few)) }
tap_cell g by x y few (first_high h) = let s = g.spread in let t = g.top in record { across = omega (arith, ints, few, s.left, s.apart, s.right); row = inr (omega (arith, ints, few, t)) }
tap_cell g by x y few (last_low h) = let s = g.spread in let t = g.top in record { across = omega (arith, ints, few, s.left, s.apart, s.right); row = inl (omega (arith, ints, few)) }
tap_cell g by x y few (last_high h) = let s = g.spread in let t = g.top in record { across = omega (arith, ints, few, s.left, s.apart, s.right); row = inr (omega (arith, ints, few, t)) }

-- a smaller square lies in a greater one of the same tap
pub wider : (g : Tapping) (by more : ℕ) (x y s t : ℤ) → ((a : ℕ) (m : ℤ) → Holds (around Active a m by).rect x y → Holds (around Active a m more).rect s t) → InTap g by x y → InTap g more s t
wider g by more x y s t grow (first_low h) = first_low (grow g.first (pos 8) h)
wider g by more x y s t grow (first_high h) = first_high (grow g.first (pos g.high) h)
wider g by more x y s t grow (last_low h) = last_low (grow g.last (pos 8) h)
wider g by more x y s t grow (last_high h) = last_high (grow g.last (pos g.high) h)

four : (a b c d : Rectangle) (x y : ℤ) → Covers (a ∷ b ∷ c ∷ d ∷ []) x y → (Holds a x y ⊎ Holds b x y) ⊎ (Holds c x y ⊎ Holds d x y)
four a b c d x y k = elim (cover_split a (b ∷ c ∷ d ∷ []) x y k) [
  | inl h ↦ inl (inl h)
  | inr r ↦ elim (cover_split b (c ∷ d ∷ []) x y r) [
    | inl h ↦ inl (inr h)
    | inr q ↦ inr (two c d x y q)
  ]
]
  where
    two : (c d : Rectangle) (x y : ℤ) → Covers (c ∷ d ∷ []) x y → Holds c x y ⊎ Holds d x y
    two c d x y k = elim (cover_split c (d ∷ []) x y k) [ inl h ↦ inl h | inr r ↦ elim (cover_split d [] x y r) [ inl h ↦ inr h | inr q ↦ absurd (cover_none x y q) ] ]

pub in_tap : (g : Tapping) (by : ℕ) (x y : ℤ) → Covers ((around Active g.first (pos 8) by).rect ∷ (around Active g.first (pos g.high) by).rect ∷ (around Active g.last (pos 8) by).rect ∷ (around Active g.last (pos g.high) by).rect ∷ []) x y → InTap g by x y
in_tap g by x y c = elim (four (around Active g.first (pos 8) by).rect (around Active g.first (pos g.high) by).rect (around Active g.last (pos 8) by).rect (around Active g.last (pos g.high) by).rect x y c) [
  | inl l ↦ elim l [ inl h ↦ first_low h | inr h ↦ first_high h ]
  | inr r ↦ elim r [ inl h ↦ last_low h | inr h ↦ last_high h ]
]

pub of_tap : (g : Tapping) (by : ℕ) (x y : ℤ) → InTap g by x y → Covers ((around Active g.first (pos 8) by).rect ∷ (around Active g.first (pos g.high) by).rect ∷ (around Active g.last (pos 8) by).rect ∷ (around Active g.last (pos g.high) by).rect ∷ []) x y
of_tap g by x y (first_low h) = cover_first _ _ x y h
of_tap g by x y (first_high h) = cover_later _ _ x y (cover_first _ _ x y h)
of_tap g by x y (last_low h) = cover_later _ _ x y (cover_later _ _ x y (cover_first _ _ x y h))
of_tap g by x y (last_high h) = cover_later _ _ x y (cover_later _ _ x y (cover_later _ _ x y (cover_first _ _ x y h)))

-- the squares of the taps of one rail
pub data AtEither (g : Tapping) (m by : ℕ) (x y : ℤ) : Type 0 where
  at_first : Holds (around Active g.first (pos m) by).rect x y → AtEither g m by x y
  at_last : Holds (around Active g.last (pos m) by).rect x y → AtEither g m by x y

pub either : (g : Tapping) (m by : ℕ) (x y : ℤ) → Covers ((around Active g.first (pos m) by).rect ∷ (around Active g.last (pos m) by).rect ∷ []) x y → AtEither g m by x y
either g m by x y c = elim (cover_split (around Active g.first (pos m) by).rect ((around Active g.last (pos m) by).rect ∷ []) x y c) [
  | inl h ↦ at_first h
  | inr r ↦ elim (cover_split (around Active g.last (pos m) by).rect [] x y r) [ inl h ↦ at_last h | inr q ↦ absurd (cover_none x y q) ]
]

pub of_either : (g : Tapping) (m by : ℕ) (x y : ℤ) → AtEither g m by x y → Covers ((around Active g.first (pos m) by).rect ∷ (around Active g.last (pos m) by).rect ∷ []) x y
of_either g m by x y (at_first h) = cover_first _ _ x y h
of_either g m by x y (at_last h) = cover_later _ _ x y (cover_first _ _ x y h)
