-- Which lemmas are justified, and which logs are accepted.
use Rattle.std.specs.Prelude.{ℕ, ◌≡◌, ◌≤◌, ◌<◌, List, Option, Some, None, All, length, map, take, slice_get}
use Rattle.std.specs.Prelude.{slice_index_or, option_map}
use Rattle.cell_num.specs.declared.finger.Row.{Row}
use Rattle.cell_num.specs.declared.net.NetNo.{NetNo}
use Rattle.cell_num.specs.declared.finger.Fingers.{Fingers}
use Rattle.row_model.specs.declared.column.Column.{Column}
use Rattle.row_model.specs.Arrangement.{IsArrangement}
use Rattle.row_model.specs.Gaps.{gaps_of}
use Rattle.row_state.specs.declared.kind.Kind.{Kind}
use Rattle.row_state.specs.declared.kind.Kinds.{Kinds}
use Rattle.row_state.specs.declared.state.State.{State}
use Rattle.row_state.specs.declared.step.Side.{Side}
use Rattle.row_state.specs.Completion.{Need}
use Rattle.row_state.specs.Start.{AreKinds, AreSomeKinds, IsState, start_of}
use Rattle.row_state.specs.Steps.{column_of}
use Rattle.bound_log.specs.declared.log.Lemma.{Lemma}
use Rattle.bound_log.specs.declared.log.LogStep.{LogStep}
use Rattle.bound_log.specs.declared.log.Best.{Best}
use Rattle.bound_log.specs.declared.log.Log.{Log}
use Rattle.lemma_check.specs.Reaches.{RuleReaches, best_of}

-- a lemma on a valid state, by its rule, where each state has this best earlier bound
pub record IsJustified (value : Row → State → Kinds → ℕ) (k : Kinds) (best : State → ℕ) (lemma : Lemma) : Type 0 where
  pub state : IsState k lemma.state
  pub reaches : RuleReaches value k best lemma.rule lemma.state lemma.bound

-- each lemma is justified by those before it
abbrev pub AreJustified : (Row → State → Kinds → ℕ) → Kinds → List Lemma → Type 0
AreJustified value k lemmas = (i : ℕ) (d : Lemma) → i < length lemmas
    → IsJustified value k (λ s. best_of s (take i lemmas)) (slice_index_or lemmas i d)

-- every completion of the state has that many further gaps
abbrev pub IsTrueOf : Kinds → Lemma → Type 0
IsTrueOf k lemma = Need k lemma.state lemma.bound

-- the place is empty, or its kind is one of the kinds and has the gate
abbrev pub HasGate : List Kind → NetNo → Option Side → Type 0
HasGate kinds gate None = Unit {0}
HasGate kinds gate (Some side) = option_map (λ (kind : Kind). kind.gate) (slice_get kinds side.kind) ≡ Some gate

pub record IsListed (k : Kinds) (listed : LogStep) : Type 0 where
  pub p : HasGate k.p listed.gate listed.step.p
  pub n : HasGate k.n listed.gate listed.step.n

abbrev pub columns_listed : Kinds → List LogStep → List Column
columns_listed k steps = map (λ (listed : LogStep). column_of k listed.step) steps

-- gates and kinds are in order, and the columns arrange the fingers
pub record IsRow (k : Kinds) (f : Fingers) (steps : List LogStep) : Type 0 where
  pub listed : All (IsListed k) steps
  pub arranges : IsArrangement (columns_listed k steps) f

-- the log says the gaps of the row, and they are at most `best`
pub record RowPasses (k : Kinds) (f : Fingers) (best : ℕ) (row : Best) (gaps : ℕ) : Type 0 where
  pub arranges : IsRow k f row.steps
  pub said : gaps ≡ row.gaps
  pub counted : row.gaps ≡ gaps_of (columns_listed k row.steps)
  pub least : row.gaps ≤ best

-- a row is listed, and it passes
abbrev pub BestPasses : Kinds → Fingers → ℕ → Option Best → ℕ → Type 0
BestPasses k f best None gaps = ⊥
BestPasses k f best (Some row) gaps = RowPasses k f best row gaps

-- all lemmas are justified, and the row has no more gaps than they prove of the start state
pub record IsAccepted (value : Row → State → Kinds → ℕ) (k : Kinds) (f : Fingers) (log : Log) (gaps : ℕ) : Type 0 where
  pub justified : AreJustified value k log.lemmas
  pub passes : BestPasses k f (best_of (start_of k) log.lemmas) log.best gaps

-- the log lists a row, and so is the row
abbrev pub Lists : Kinds → Option Best → (List Column → Type 0) → Type 0
Lists k None Says = ⊥
Lists k (Some row) Says = Says (columns_listed k row.steps)

-- for the kinds of the fingers
abbrev pub ForKinds : Fingers → (Kinds → Type 0) → Type 0
ForKinds f Says = (k : Kinds) → AreKinds f k → AreSomeKinds k → Says k

-- with the kinds of the fingers, which there are
abbrev pub WithKinds : Fingers → (Kinds → Type 0) → Type 0
WithKinds f Says = (k : Kinds) × AreKinds f k × AreSomeKinds k × Says k
