-- The columns of an arrangement in which a finger stands without what is left out: they arrange the fingers that stay.
use Rattle.std.proofs.Common.{ℕ, ◌≡◌, ◌-◌, ◌<◌, ◌≤◌, ◌==◌, true, false, cond, max, List, length, Option, Some, None}
use Rattle.std.proofs.Common.{option_map, map, refl, sym, ap, subst, arith, ◌∙◌, inl, inr, Contains, IsPermutation}
use Rattle.std.proofs.Common.{count_by}
use Rattle.std.proofs.lemmas.Bool.{cases_Bool}
use Rattle.std.proofs.lemmas.List.{length-map}
use Rattle.std.proofs.lemmas.List.Elements.{All-contains}
use Rattle.std.proofs.lemmas.List.Sorted.{All-permutation, sum_by-IsPermutation}
use Rattle.std.proofs.lemmas.List.Sums.{length-filter}
use Rattle.cell_num.specs.declared.finger.Row.{Row}
use Rattle.cell_num.specs.declared.finger.Row.TheVariants.{P, N}
use Rattle.cell_num.specs.declared.finger.Fingers.{Fingers}
use Rattle.cell_num.specs.Fingers.{AreFingers, IsFinger, on_gate, sum_below}
use Rattle.cell_num.proofs.Lists.{all_from_contains, contains_filter_map}
use Rattle.row_model.specs.declared.column.Placed.{Placed}
use Rattle.row_model.specs.declared.column.Column.{Column}
use Rattle.row_model.specs.Arrangement.{AreOneColumn, IsArrangement, IsColumn, fingers_in, place}
use Rattle.row_model.specs.Gaps.{gaps_of}
use Rattle.row_model.specs.Tests.{same_finger}
use Rattle.row_model.proofs.Decide.{finger_decides}
use Rattle.row_state.specs.Order.{gate_key}
use Rattle.trail_state.specs.Choices.{is_on}
use Rattle.trail_state.proofs.Grouped.{columns_of_gate, columns_on, gate_arranges, gate_at, permutation_passing}
use Rattle.trail_state.proofs.Sizes.{sum_keys}
use Rattle.trail_check.specs.Accepted.{IsLow}
use Rattle.fewer_fingers.specs.declared.fewer.LeftOut.{LeftOut}
use Rattle.fewer_fingers.specs.Fewer.{columns_lost, is_out, staying, staying_in, without_in}
use Rattle.fewer_fingers.proofs.Counts.{all_stay, none_stay, sum_same_within}
use Rattle.fewer_fingers.proofs.Dropped.{gaps_without}
use Rattle.fewer_fingers.proofs.Filled.{filled}
use Rattle.fewer_fingers.proofs.Kept.{gate_left, kept, kept_below, kept_beside, kept_columns, kept_fingers, same_on}
use Rattle.fewer_fingers.proofs.Thinned.{fewer_of, stays, thinned}

-- the columns that the fingers on a gate need
abbrev most_on : Fingers → ℕ → ℕ
most_on f g = max (on_gate g f.p) (on_gate g f.n)

module _ (f : Fingers) (ok : AreFingers f) (row : List Column) (arranges : IsArrangement row f) where
  p_finger : (c : Column) (x : Placed) → Contains row c → c.p ≡ Some x → IsFinger P f.nets x.finger
  p_finger c x there is =
      All-contains (IsFinger P f.nets) (fingers_in P row) x.finger
      (All-permutation (IsFinger P f.nets) f.p (fingers_in P row) arranges.p ok.p)
      (contains_filter_map (λ (d : Column). option_map (λ (y : Placed). y.finger) (place P d)) row c x.finger there
      (ap (option_map (λ (y : Placed). y.finger)) is))

  n_finger : (c : Column) (x : Placed) → Contains row c → c.n ≡ Some x → IsFinger N f.nets x.finger
  n_finger c x there is =
      All-contains (IsFinger N f.nets) (fingers_in N row) x.finger
      (All-permutation (IsFinger N f.nets) f.n (fingers_in N row) arranges.n ok.n)
      (contains_filter_map (λ (d : Column). option_map (λ (y : Placed). y.finger) (place N d)) row c x.finger there
      (ap (option_map (λ (y : Placed). y.finger)) is))

  gate_below : (c : Column) (x y : Option Placed) → Contains row c → c.p ≡ x → c.n ≡ y → AreOneColumn x y
      → gate_key x y < f.nets
  gate_below c (Some x) y there is_x is_y one = (p_finger c x there is_x).gate
  gate_below c None (Some y) there is_x is_y one = (n_finger c y there is_y).gate
  gate_below c None None there is_x is_y one = absurd one

  net_of : (c : Column) → Contains row c → gate_at c < f.nets
  net_of c there = gate_below c c.p c.n there refl refl (All-contains IsColumn row c arranges.columns there)

  -- the columns of a gate are as many as its fingers need
  columns_are : (g : ℕ) → g < f.nets → length (columns_on g row) ≡ most_on f g
  columns_are g within =
      (gate_arranges f row arranges (all_from_contains (λ (c : Column). gate_at c < f.nets) row net_of) g within).fewest
      ∙ columns_of_gate f g within

  p_count : (g : ℕ) → on_gate g (fingers_in P row) ≡ on_gate g f.p
  p_count g = sum_by-IsPermutation (λ x. cond (is_on g x) 1 0) f.p (fingers_in P row) arranges.p

  n_count : (g : ℕ) → on_gate g (fingers_in N row) ≡ on_gate g f.n
  n_count g = sum_by-IsPermutation (λ x. cond (is_on g x) 1 0) f.n (fingers_in N row) arranges.n

  module _ (out : LeftOut) where
    -- so are those that are kept
    gone_are : (r : Row) (g : ℕ) → is_out out g ≡ true → length (columns_on g (kept r out row))
        ≡ most_on (without_in r out f) g
    gone_are P g gone =
        omega (arith, gate_left P out row arranges.columns g gone, n_count g, none_stay out g f.p gone)
    gone_are N g gone =
        omega (arith, gate_left N out row arranges.columns g gone, p_count g, none_stay out g f.n gone)

    here_are : (r : Row) (g : ℕ) → g < f.nets → is_out out g ≡ false → length (columns_on g (kept r out row))
        ≡ most_on (without_in r out f) g
    here_are P g within here =
        omega (
          arith,
          ap length (same_on P out g row arranges.columns here),
          columns_are g within,
          all_stay out g f.p here,
        )
    here_are N g within here =
        omega (
          arith,
          ap length (same_on N out g row arranges.columns here),
          columns_are g within,
          all_stay out g f.n here,
        )

    kept_on : (r : Row) (g : ℕ) → g < f.nets → count_by (λ (c : Column). gate_at c == g) (kept r out row)
        ≡ most_on (without_in r out f) g
    kept_on r g within =
        sym (length-filter (λ (c : Column). gate_at c == g) (kept r out row))
        ∙ elim (cases_Bool (is_out out g)) [
          | inl gone ↦ gone_are r g gone
          | inr here ↦ here_are r g within here
        ]

    kept_long : (r : Row) → length (kept r out row) ≡ sum_below (most_on (without_in r out f)) f.nets
    kept_long r =
        sym (sum_keys gate_at (kept r out row) f.nets (kept_below r out row arranges.columns f.nets net_of))
        ∙ sum_same_within (λ g. count_by (λ (c : Column). gate_at c == g) (kept r out row))
        (most_on (without_in r out f)) f.nets (kept_on r)

    pub kept_arranges : (r : Row) → IsArrangement (kept r out row) (without_in r out f)
    kept_arranges P = record {
      columns = kept_columns P out row arranges.columns;
      p = subst (IsPermutation (staying_in out f.p)) (sym (kept_fingers P out row))
          (permutation_passing same_finger finger_decides (stays out) f.p (fingers_in P row) arranges.p);
      n = subst (IsPermutation f.n) (sym (kept_beside P out row)) arranges.n;
      fewest = kept_long P;
    }
    kept_arranges N = record {
      columns = kept_columns N out row arranges.columns;
      p = subst (IsPermutation f.p) (sym (kept_beside N out row)) arranges.p;
      n = subst (IsPermutation (staying_in out f.n)) (sym (kept_fingers N out row))
          (permutation_passing same_finger finger_decides (stays out) f.n (fingers_in N row) arranges.n);
      fewest = kept_long N;
    }

pub fewer_law : (f : Fingers) → AreFingers f → (out : Option LeftOut) → (gaps : ℕ) → IsLow (staying out f) gaps
    → IsLow f (gaps - columns_lost f (staying out f))
fewer_law f ok None gaps low row arranges = let least : gaps ≤ gaps_of row = low row arranges in omega (arith, least)
fewer_law f ok (Some out) gaps low row arranges =
    let stay : IsArrangement (kept out.row out row) (without_in out.row out f) =
    kept_arranges f ok row arranges out out.row in
    let least : gaps ≤ gaps_of (kept out.row out row) = low (kept out.row out row) stay in
    omega (
      arith,
      least,
      gaps_without filled (map (thinned out.row out) row),
      fewer_of out.row out row,
      length-map row (thinned out.row out),
      arranges.fewest,
      stay.fewest,
    )
