-- The open choices of a gate as a list, found finger by finger.
use Rattle.std.specs.Prelude.{ℕ, Bool, false, ◌||◌, if◌then◌else◌, ltb, List, [], ◌∷◌, ◌++◌, fold, length, map}
use Rattle.std.specs.List.{filter, flat_map, list_any}
use Rattle.cell_num.specs.declared.finger.Finger.{Finger}
use Rattle.cell_num.specs.declared.finger.Fingers.{Fingers}
use Rattle.cell_num.specs.declared.finger.Row.{Row}
use Rattle.cell_num.specs.declared.finger.Row.TheVariants.{P, N}
use Rattle.trail_state.specs.declared.edge.Edge.{Edge}
use Rattle.trail_state.specs.declared.edge.FingerEnds.{FingerEnds}
use Rattle.trail_state.specs.Choices.{is_on}
use Rattle.trail_state.specs.Edges.{pair_edges}
use Rattle.trail_state.specs.Fronts.{without}
use Rattle.trail_state.specs.Pairings as filled
use Rattle.trail_state.specs.Pairings.{choices_of, nets_at}
use Rattle.trail_state.specs.Sorted.{inserted}
use Rattle.open_gates.specs.Open.{fingers_at, fingers_beside}
use Rattle.trail_halves.specs.declared.choice.OpenChoice.{OpenChoice}
use Rattle.trail_halves.specs.Same.{is_same}
use Rattle.trail_pools.specs.Meeting.{stays_open}

-- each choice once
abbrev pub with_new : List OpenChoice → OpenChoice → List OpenChoice
with_new choices c = if list_any (is_same c) choices then choices else choices ++ c ∷ []

abbrev pub with_all : List OpenChoice → List OpenChoice → List OpenChoice
with_all choices more = fold with_new choices more

-- a column of a finger of the row and one of the other row: turned alike, or not
abbrev pub column_edges : Row → FingerEnds → FingerEnds → List Edge
column_edges P x y = pair_edges x y
column_edges N x y = pair_edges y x

-- the choice with one of the edges more, and these half edges left
abbrev pub with_column : OpenChoice → List FingerEnds → List Edge → List OpenChoice
with_column c halves edges = map (λ e. record { edges = inserted e c.edges; halves = halves }) edges

-- a finger of the other row comes beside this one of the half edges
abbrev pub beside_one : Row → FingerEnds → OpenChoice → FingerEnds → List OpenChoice
beside_one r y c x = with_column c (without x c.halves) (column_edges r x y)

-- or beside each of them
abbrev pub beside : Row → FingerEnds → OpenChoice → List OpenChoice
beside r y c = flat_map (beside_one r y c) c.halves

abbrev pub next_front : Row → List OpenChoice → FingerEnds → List OpenChoice
next_front r front y = fold (λ choices c. with_all choices (beside r y c)) [] front

-- all fingers of the row alone
abbrev pub first_front : List FingerEnds → List OpenChoice
first_front xs = record { edges = []; halves = xs } ∷ []

-- the fingers of the row, with those of the other row beside some of them: each way once
abbrev pub front_of : Row → List FingerEnds → List FingerEnds → List OpenChoice
front_of r xs ys = fold (next_front r) (first_front xs) ys

-- the fingers on the gate by the nets at their ends
abbrev pub ends_on : ℕ → List Finger → List FingerEnds
ends_on gate fingers = map nets_at (filter (is_on gate) fingers)

-- the choice of a gate whose half columns are filled
abbrev pub filled_choice : List Edge → OpenChoice
filled_choice edges = record { edges = edges; halves = [] }

-- every open choice of the gate, once
unfoldable pub open_choices_of : Fingers → Row → (ℕ → Bool) → ℕ → List OpenChoice
open_choices_of f r counted gate =
    if stays_open f r counted gate
    then front_of r (ends_on gate (fingers_at r f)) (ends_on gate (fingers_beside r f))
    else map filled_choice (choices_of f gate)

-- after one of these fingers of the other row there are more ways than that
abbrev pub is_long_front : ℕ → Row → List OpenChoice → List FingerEnds → Bool
is_long_front most r front [] = false
is_long_front most r front (y ∷ ys) =
    ltb most (length (next_front r front y)) || is_long_front most r (next_front r front y) ys

-- there are more ways than that to pair the first fingers of the gate
unfoldable pub has_long_front : ℕ → Fingers → Row → (ℕ → Bool) → ℕ → Bool
has_long_front most f r counted gate =
    if stays_open f r counted gate
    then is_long_front most r (first_front (ends_on gate (fingers_at r f))) (ends_on gate (fingers_beside r f))
    else filled.has_long_front most f gate
