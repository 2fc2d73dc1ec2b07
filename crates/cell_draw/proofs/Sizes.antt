-- The numbers of a layout stay in order.
use Rattle.std.proofs.Common.{ℕ, ◌≡◌, ◌+◌, ◌≤◌, ◌<◌, ◌++◌, ◌∷◌, [], List, Option, Some, None, IfSome, All, length, map, filter_map, option_to_list, refl, sym, ap, subst, ◌∙◌, arith}
use Rattle.std.specs.List.{cons_option, range_with_len}
use Rattle.std.proofs.lemmas.List.Elements.{filter_map-append}
use Rattle.std.proofs.lemmas.List.FromFn.{map-range_with_len_more}
use Rattle.cell_num.proofs.Lists.{all_from_contains}
use Rattle.row_place.specs.declared.placement.Seat.{Seat}
use Rattle.row_place.specs.Units.{seats_of}
use Rattle.row_place.proofs.Bounds.{few_units}
use Rattle.row_place.proofs.Units.{SitsAt, seat_at, unit_below}
use Rattle.cell_num.specs.declared.finger.Row.{Row}
use Rattle.cell_num.specs.declared.finger.Row.TheVariants.{P, N}
use Rattle.row_model.specs.declared.column.Column.{Column}
use Rattle.row_model.specs.Arrangement.{place}
use Rattle.cell_draw.specs.Laid.{HasFinger}
use Rattle.cell_draw.specs.Small.{IsFingerWidth, HasWidths}

pub width_in : (c : Column) (row : Row) → HasWidths c → IsFingerWidth (place row c)
width_in c N h = h.n
width_in c P h = h.p

-- the ends of a gate ascend
pub low_high : (n p : Option ℕ) (low high n_edge p_edge : ℕ) → HasFinger n p → n_edge ≤ p_edge → low + 4 ≤ p_edge → IfSome n (λ w. low ≤ n_edge) → n_edge + 4 ≤ high → IfSome p (λ w. p_edge ≤ high) → low < high
low_high (Some w) p low high n_edge p_edge finger edges a b c d = omega (arith, b, c)
low_high None (Some w) low high n_edge p_edge finger edges a b c d = omega (arith, a, d)
low_high None None low high n_edge p_edge finger edges a b c d = absurd finger

-- the units of a row of at most 32 columns are few
pub seats_low : (row : List Column) (seats : List Seat) → seats ≡ seats_of row → length row ≤ 32 → All (λ seat. seat.unit ≤ 64) seats
seats_low row seats e few = subst (λ z. All (λ (s : Seat). s.unit ≤ 64) z) (sym e) (all_from_contains (λ (s : Seat). s.unit ≤ 64) (seats_of row) (λ s there.
    let at : SitsAt row s = seat_at row s there in
    omega (arith, at.unit, unit_below row at.at s.column at.stands, few_units row few)))

-- one more number in a filter_map over numbers
pub tags_more : {X : Type 0} (h : ℕ → Option X) (n : ℕ) (tags new : List X) → tags ≡ filter_map h (range_with_len 0 n) → new ≡ tags ++ option_to_list (h n) → new ≡ filter_map h (range_with_len 0 (n + 1))
tags_more {X} h n tags new e is = is ∙ ap (λ z. z ++ option_to_list (h n)) e ∙ sym (ap (λ z. filter_map h z) range ∙ filter_map-append h (range_with_len 0 n) (n ∷ []) ∙ ap (λ z. filter_map h (range_with_len 0 n) ++ z) (one (h n)))
  where
    map_id : (xs : List ℕ) → map (λ k. k) xs ≡ xs
    map_id [] = refl
    map_id (x ∷ xs) = ap (λ z. x ∷ z) (map_id xs)

    range : range_with_len 0 (n + 1) ≡ range_with_len 0 n ++ n ∷ []
    range = sym (map_id (range_with_len 0 (n + 1))) ∙ map-range_with_len_more (λ k. k) 0 n n (omega arith) ∙ ap (λ z. z ++ n ∷ []) (map_id (range_with_len 0 n))

    one : (o : Option X) → cons_option o [] ≡ option_to_list o
    one None = refl
    one (Some x) = refl
