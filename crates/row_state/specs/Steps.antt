-- The possible next columns of a state, and the state after one.
use Rattle.std.specs.Prelude.{ℕ, Bool, ◌≡◌, ◌-◌, ◌<◌, List, ◌∷◌, Option, Some, None, length, slice_get, slice_set}
use Rattle.std.specs.Prelude.{slice_index, slice_index_or, All, Contains}
use Rattle.std.specs.Option.{option_map}
use Rattle.cell_num.specs.declared.finger.Row.{Row}
use Rattle.cell_num.specs.declared.finger.Row.TheVariants.{P, N}
use Rattle.row_model.specs.declared.column.Placed.{Placed}
use Rattle.row_model.specs.declared.column.Column.{Column}
use Rattle.cell_num.specs.Fingers.{on_gate}
use Rattle.row_model.specs.Arrangement.{IsColumn}
use Rattle.row_model.specs.Gaps.{right_net}
use Rattle.row_state.specs.declared.kind.Kind.{Kind}
use Rattle.row_state.specs.declared.kind.Kinds.{Kinds}
use Rattle.row_state.specs.declared.state.State.{State}
use Rattle.row_state.specs.declared.step.Side.{Side}
use Rattle.row_state.specs.declared.step.Step.{Step}
use Rattle.row_state.specs.Order.{ColumnBefore}
use Rattle.row_state.specs.Completion.{Completes, finger_of, fingers_left}

abbrev pub oriented_of : Row → Kind → Bool → Placed
oriented_of row kind flipped = record { finger = finger_of row kind; flipped = flipped }

abbrev pub placed_of : Row → List Kind → Option Side → Option Placed
placed_of row kinds None = None
placed_of row kinds (Some side) = option_map (λ (kind : Kind). oriented_of row kind side.flipped)
    (slice_get kinds side.kind)

abbrev pub column_of : Kinds → Step → Column
column_of k step = record { p = placed_of P k.p step.p; n = placed_of N k.n step.n }

-- the kind is one of the kinds, and a finger of it is left
abbrev pub IsLeft : List Kind → List ℕ → Option Side → Type 0
IsLeft kinds left None = Unit {0}
IsLeft kinds left (Some side) = (side.kind < length kinds) × (0 < slice_index left side.kind)

-- a half column stands only where its gate has more fingers left in its row than in the other
abbrev pub HalfMayStand : Option Placed → Option Placed → (ℕ → ℕ) → (ℕ → ℕ) → Type 0
HalfMayStand (Some x) None p n = n x.finger.gate.0 < p x.finger.gate.0
HalfMayStand None (Some y) p n = p y.finger.gate.0 < n y.finger.gate.0
HalfMayStand _ _ p n = Unit {0}

pub record IsPossible (k : Kinds) (s : State) (step : Step) : Type 0 where
  pub p : IsLeft k.p s.p_left step.p
  pub n : IsLeft k.n s.n_left step.n
  pub column : IsColumn (column_of k step)
  pub half : HalfMayStand (column_of k step).p (column_of k step).n (λ gate. on_gate gate (fingers_left P k.p s.p_left))
      (λ gate. on_gate gate (fingers_left N k.n s.n_left))

abbrev pub left_after : List ℕ → Option Side → List ℕ
left_after left None = left
left_after left (Some side) = slice_set left side.kind (slice_index left side.kind - 1)

abbrev pub state_after : Kinds → State → Step → State
state_after k s step =
    record {
      p_left = left_after s.p_left step.p;
      n_left = left_after s.n_left step.n;
      p_end = option_map right_net (placed_of P k.p step.p);
      n_end = option_map right_net (placed_of N k.n step.n);
    }

-- all possible next columns, each once, in order
pub record AreSuccessors (k : Kinds) (s : State) (steps : List Step) : Type 0 where
  pub possible : All (IsPossible k s) steps
  pub all : (step : Step) → IsPossible k s step → Contains steps step
  pub order : (i j : ℕ) (d : Step) → i < j → j < length steps
      → ColumnBefore (column_of k (slice_index_or steps i d)) (column_of k (slice_index_or steps j d))

-- each completion begins with one of the next columns, and its rest completes the state behind that
abbrev pub Unfolds : Kinds → State → List Step → Type 0
Unfolds k s steps = (c : Column) (cs : List Column) → Completes k s (c ∷ cs) → (step : Step) × Contains steps step
    × (column_of k step ≡ c) × Completes k (state_after k s step) cs
