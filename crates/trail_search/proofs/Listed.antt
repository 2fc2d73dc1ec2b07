-- The fingers of the kinds so far, and those of the other kinds.
use Rattle.std.proofs.Common.{ℕ, zero, suc, ◌≡◌, ◌+◌, ◌<◌, ◌≤◌, List, [], ◌∷◌, ◌++◌, append-nil, append_assoc, drop, get_or, length, replicate, refl, sym, ap, arith, ◌∙◌}
use Rattle.std.proofs.lemmas.List.{drop_all}
use Rattle.cell_num.specs.declared.finger.Row.{Row}
use Rattle.cell_num.specs.declared.finger.Finger.{Finger}
use Rattle.row_state.specs.declared.kind.Kind.{Kind}
use Rattle.row_state.specs.Completion.{finger_of, fingers_left}

next_kind : (row : Row) (kinds : List Kind) (left : List ℕ) (i : ℕ) (k : Kind) (c : ℕ) → i < length kinds → length left ≡ length kinds → fingers_left row (drop i kinds) (drop i left) ≡ replicate (get_or left i c) (finger_of row (get_or kinds i k)) ++ fingers_left row (drop (suc i) kinds) (drop (suc i) left)
next_kind row [] left i k c within same = absurd (omega (arith, within))
next_kind row (x ∷ xs) [] i k c within same = absurd (omega (arith, same))
next_kind row (x ∷ xs) (y ∷ ys) zero k c within same = refl
next_kind row (x ∷ xs) (y ∷ ys) (suc i) k c within same = next_kind row xs ys i k c (omega (arith, within)) (omega (arith, same))

pub kind_put : (row : Row) (kinds : List Kind) (left : List ℕ) (before all : List Finger) (i : ℕ) (k : Kind) (c : ℕ) → i < length kinds → length left ≡ length kinds → before ++ fingers_left row (drop i kinds) (drop i left) ≡ all → (before ++ replicate (get_or left i c) (finger_of row (get_or kinds i k))) ++ fingers_left row (drop (i + 1) kinds) (drop (i + 1) left) ≡ all
kind_put row kinds left before all i k c within same e =
    let one : i + 1 ≡ suc i = omega arith in
    append_assoc before (replicate (get_or left i c) (finger_of row (get_or kinds i k))) (fingers_left row (drop (i + 1) kinds) (drop (i + 1) left))
    ∙ ap (λ (n : ℕ). before ++ (replicate (get_or left i c) (finger_of row (get_or kinds i k)) ++ fingers_left row (drop n kinds) (drop n left))) one
    ∙ ap (λ (fs : List Finger). before ++ fs) (sym (next_kind row kinds left i k c within same))
    ∙ e

pub kinds_put : (row : Row) (kinds : List Kind) (left : List ℕ) (before all : List Finger) (i : ℕ) → length kinds ≤ i → before ++ fingers_left row (drop i kinds) (drop i left) ≡ all → before ≡ all
kinds_put row kinds left before all i past e =
    let none : fingers_left row (drop i kinds) (drop i left) ≡ [] = ap (λ (ks : List Kind). fingers_left row ks (drop i left)) (drop_all i kinds past) in
    sym (ap (λ (fs : List Finger). before ++ fs) none ∙ append-nil before) ∙ e
