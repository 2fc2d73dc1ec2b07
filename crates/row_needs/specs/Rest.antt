-- The rows of some fingers that have the fewest gaps, and by them the needs of the states that have these fingers left.
use Rattle.std.specs.Prelude.{ℕ, ◌≡◌, ◌≤◌, ◌<◌, ◌+◌, ◌==◌, ◌||◌, Bool, false, not, if◌then◌else◌, List, [], ◌∷◌}
use Rattle.std.specs.Prelude.{Option, Some, None, All, Contains, IsSome, length, nat_eq}
use Rattle.std.specs.HashMap.{get}
use Rattle.std.specs.List.{list_any}
use Rattle.std.specs.Option.{option_map}
use Rattle.cell_num.specs.declared.finger.Fingers.{Fingers}
use Rattle.cell_num.specs.declared.net.NetNo.{NetNo}
use Rattle.row_model.specs.declared.column.Column.{Column}
use Rattle.row_model.specs.Arrangement.{IsArrangement}
use Rattle.row_model.specs.Gaps.{gaps_of, left_net}
use Rattle.row_state.specs.declared.kind.Kinds.{Kinds}
use Rattle.row_state.specs.declared.state.State.{State}
use Rattle.row_state.specs.declared.step.Step.{Step}
use Rattle.row_state.specs.Completion.{left_in}
use Rattle.row_state.specs.Decoded.{rows_code}
use Rattle.row_state.specs.Start.{IsState}
use Rattle.row_state.specs.Steps.{IsPossible, state_after}
use Rattle.row_needs.specs.declared.left_ends.LeftEnds.{LeftEnds}
use Rattle.row_needs.specs.declared.needs.Needs.{Needs}
use Rattle.row_needs.specs.declared.rest.Rest.{Rest}

-- ---- left ends

abbrev pub no_ends : LeftEnds
no_ends = record { p = None; n = None }

-- of the rows that begin with a column
abbrev pub ends_before : Column → LeftEnds
ends_before c = record { p = option_map left_net c.p; n = option_map left_net c.n }

abbrev pub left_ends : List Column → LeftEnds
left_ends [] = no_ends
left_ends (c ∷ cs) = ends_before c

abbrev pub differ : Option NetNo → Option NetNo → Bool
differ (Some net) (Some other) = not (net.0 == other.0)
differ _ _ = false

-- there is a gap between a column with these open ends and the first one of a row with these left ends
abbrev pub is_apart : Option NetNo → Option NetNo → LeftEnds → Bool
is_apart p_end n_end ends = differ p_end ends.p || differ n_end ends.n

-- ---- the rows with the fewest gaps

-- some row of the fingers has that many gaps and these ends
pub record IsStart (f : Fingers) (gaps : ℕ) (ends : LeftEnds) : Type 0 where
  pub row : List Column
  pub arranges : IsArrangement row f
  pub gaps_are : gaps_of row ≡ gaps
  pub begins : left_ends row ≡ ends

-- no row of the fingers has fewer gaps, and the left ends of the rows with as many are these
pub record IsRest (f : Fingers) (rest : Rest) : Type 0 where
  pub least : (row : List Column) → IsArrangement row f → rest.gaps ≤ gaps_of row
  pub all : (row : List Column) → IsArrangement row f → gaps_of row ≡ rest.gaps → Contains rest.starts (left_ends row)
  pub each : All (IsStart f rest.gaps) rest.starts
  pub some : 0 < length rest.starts

-- the fewest gaps behind a column with these open ends, by the rows of what is left
abbrev pub need_behind : Option NetNo → Option NetNo → Rest → ℕ
need_behind p_end n_end rest =
    if list_any (λ ends. not (is_apart p_end n_end ends)) rest.starts then rest.gaps else rest.gaps + 1

-- the need of a state by the rows of what it has left
abbrev pub need_at : State → Rest → ℕ
need_at s rest = need_behind s.p_end s.n_end rest

-- each entry of the table has the rows of what a state with its number has left
abbrev pub AreRests : Kinds → Needs → Type 0
AreRests k needs = (s : State) (rest : Rest) → IsState k s → get nat_eq needs.rests (rows_code k s) ≡ Some rest
    → IsRest (left_in k s) rest × (rest.gaps ≤ 32)

-- it has the rows of what the state has left
abbrev pub HasRest : Kinds → Needs → State → Type 0
HasRest k needs s = IsSome (get nat_eq needs.rests (rows_code k s))

-- then it has those of what is left after each next column
abbrev pub IsClosed : Kinds → Needs → Type 0
IsClosed k needs = (s : State) (step : Step) → IsState k s → IsPossible k s step → HasRest k needs s
    → HasRest k needs (state_after k s step)
