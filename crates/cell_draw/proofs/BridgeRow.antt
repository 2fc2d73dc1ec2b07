-- What sound fingers give of a row: widths, gates that are signals, ends on the right rail.
use Rattle.std.proofs.Common.{ℕ, ◌≡◌, ◌≤◌, List, [], ◌∷◌, Option, Some, None, fold, inl, inr, refl, ap, ◌∙◌, arith, All, Contains, option_map}
use Rattle.std.proofs.lemmas.List.Elements.{All-contains}
use Rattle.std.proofs.lemmas.List.Sorted.{Contains-permutation, IsPermutation-sym}
use Rattle.std.proofs.Math.Nat.{le-max_left, le-max_right}
use Rattle.cell_num.specs.declared.net.NetNo.{NetNo}
use Rattle.cell_num.specs.declared.net.Pins.{Pins}
use Rattle.cell_num.specs.declared.finger.Row.{Row}
use Rattle.cell_num.specs.declared.finger.Row.TheVariants.{P, N}
use Rattle.cell_num.specs.declared.finger.Finger.{Finger}
use Rattle.cell_num.specs.Fingers.{HasNoEnd}
use Rattle.cell_num.proofs.Lists.{some_same, contains_none, contains_cons, contains_filter_map, all_from_contains}
use Rattle.row_model.specs.declared.column.Placed.{Placed}
use Rattle.row_model.specs.declared.column.Column.{Column}
use Rattle.row_model.specs.Arrangement.{place, fingers_in}
use Rattle.cell_draw.specs.Frame.{wider, height_of}
use Rattle.cell_draw.specs.Small.{IsFingerWidth, HasWidths}
use Rattle.cell_draw.specs.Sound.{IsSoundRow}

-- the height of a row holds each finger, and 10
wider_above : (most : ℕ) (o : Option Placed) → most ≤ wider most o
wider_above most None = omega arith
wider_above most (Some x) = le-max_left most x.finger.width

wider_holds : (most : ℕ) (o : Option Placed) (x : Placed) → o ≡ Some x → x.finger.width ≤ wider most o
wider_holds most None x e = absurd cc
wider_holds most (Some y) x e =
    let same : y.finger.width ≡ x.finger.width = ap (λ (z : Placed). z.finger.width) (some_same y x e) in
    omega (arith, same, le-max_right most y.finger.width)

fold_above : (row : Row) (start : ℕ) (columns : List Column) → start ≤ fold (λ most column. wider most (place row column)) start columns
fold_above row start [] = omega arith
fold_above row start (c ∷ columns) = omega (arith, wider_above start (place row c), fold_above row (wider start (place row c)) columns)

fold_holds : (row : Row) (start : ℕ) (columns : List Column) (c : Column) (x : Placed) → Contains columns c → place row c ≡ Some x → x.finger.width ≤ fold (λ most column. wider most (place row column)) start columns
fold_holds row start [] c x there e = absurd (contains_none c there)
fold_holds row start (d ∷ columns) c x there e = elim (contains_cons d columns c there) [
  | inl same ↦ omega (arith, wider_holds start (place row d) x (ap (λ z. place row z) same ∙ e), fold_above row (wider start (place row d)) columns)
  | inr rest ↦ fold_holds row (wider start (place row d)) columns c x rest e
]

pub height_least : (row : Row) (columns : List Column) → 10 ≤ height_of row columns
height_least row columns = fold_above row 10 columns

pub height_holds : (row : Row) (columns : List Column) (c : Column) (x : Placed) → Contains columns c → place row c ≡ Some x → x.finger.width ≤ height_of row columns
height_holds row columns c x there e = fold_holds row 10 columns c x there e

finger_in : (row : Row) (columns : List Column) (c : Column) (x : Placed) → Contains columns c → place row c ≡ Some x → Contains (fingers_in row columns) x.finger
finger_in row columns c x there e = contains_filter_map (λ column. option_map (λ (z : Placed). z.finger) (place row column)) columns c x.finger there (ap (λ o. option_map (λ (z : Placed). z.finger) o) e)

pub p_finger : (names : List (List ℕ)) (pins : Pins) (row : List Column) (s : IsSoundRow names pins row) (c : Column) (x : Placed) → Contains row c → c.p ≡ Some x → Contains s.fingers.p x.finger
p_finger names pins row s c x there e = Contains-permutation (fingers_in P row) s.fingers.p x.finger (IsPermutation-sym s.fingers.p (fingers_in P row) s.arranged.p) (finger_in P row c x there e)

pub n_finger : (names : List (List ℕ)) (pins : Pins) (row : List Column) (s : IsSoundRow names pins row) (c : Column) (x : Placed) → Contains row c → c.n ≡ Some x → Contains s.fingers.n x.finger
n_finger names pins row s c x there e = Contains-permutation (fingers_in N row) s.fingers.n x.finger (IsPermutation-sym s.fingers.n (fingers_in N row) s.arranged.n) (finger_in N row c x there e)

filled_width : (o : Option Placed) → ((x : Placed) → o ≡ Some x → (6 ≤ x.finger.width) × (x.finger.width ≤ 400)) → IsFingerWidth o
filled_width None h = tt
filled_width (Some x) h = h x refl

-- the fingers of a sound row are 6 to 400 wide
pub widths : (names : List (List ℕ)) (pins : Pins) (row : List Column) → IsSoundRow names pins row → All HasWidths row
widths names pins row s = all_from_contains HasWidths row (λ c there. record {
  n = filled_width c.n (λ x e. All-contains (λ (f : Finger). (6 ≤ f.width) × (f.width ≤ 400)) s.fingers.n x.finger s.sound.n_widths (n_finger names pins row s c x there e));
  p = filled_width c.p (λ x e. All-contains (λ (f : Finger). (6 ≤ f.width) × (f.width ≤ 400)) s.fingers.p x.finger s.sound.p_widths (p_finger names pins row s c x there e));
})

-- the rail that no end of a row is
abbrev pub other_rail : Row → Pins → NetNo
other_rail N pins = pins.vdd
other_rail P pins = pins.gnd

pub no_end : (names : List (List ℕ)) (pins : Pins) (row : List Column) → IsSoundRow names pins row → (side : Row) (c : Column) (x : Placed) → Contains row c → place side c ≡ Some x → HasNoEnd (other_rail side pins) x.finger
no_end names pins row s N c x there e = All-contains (HasNoEnd pins.vdd) s.fingers.n x.finger s.sound.n_ends (n_finger names pins row s c x there e)
no_end names pins row s P c x there e = All-contains (HasNoEnd pins.gnd) s.fingers.p x.finger s.sound.p_ends (p_finger names pins row s c x there e)
