-- How a search ended: what its log proves, and what holds of the log in either case.
use Rattle.std.specs.Prelude.{ℕ, ◌≡◌, ◌<◌, ◌≤◌, ◌+◌, List, Result, Err, IsNone, All, length, slice_index_or}
use Rattle.cell_num.specs.declared.finger.Row.{Row}
use Rattle.cell_num.specs.declared.finger.Row.TheVariants.{P, N}
use Rattle.cell_num.specs.declared.finger.Fingers.{Fingers}
use Rattle.cell_num.specs.Fingers.{columns_of}
use Rattle.row_model.specs.declared.column.Column.{Column}
use Rattle.row_model.specs.Arrangement.{IsArrangement}
use Rattle.row_model.specs.Gaps.{gaps_of}
use Rattle.row_state.specs.declared.kind.Kinds.{Kinds}
use Rattle.row_state.specs.declared.state.State.{State}
use Rattle.row_state.specs.Start.{start_of}
use Rattle.bound_log.specs.declared.log.Rule.{Rule}
use Rattle.bound_log.specs.declared.log.Rule.TheVariants as by
use Rattle.bound_log.specs.declared.log.Lemma.{Lemma}
use Rattle.bound_log.specs.declared.log.Log.{Log}
use Rattle.bound_log.specs.Fits.{Fits}
use Rattle.lemma_check.specs.Reaches.{best_of}
use Rattle.log_check.specs.Accepted.{AreJustified, IsAccepted, Lists}
use Rattle.row_search.specs.declared.found.Found.{Found}
use Rattle.row_search.specs.declared.found.Stop.{Stop}
use Rattle.row_search.specs.declared.found.Stop.TheVariants.{Unfinished}
use Rattle.row_search.specs.declared.found.FoundKept.{FoundKept}
use Rattle.row_search.specs.declared.found.StopKept.{StopKept}
use Rattle.row_search.specs.declared.found.StopKept.TheVariants as stopped
use Rattle.row_search.specs.Enough.{enough}
use Rattle.row_search.specs.Reached.{IsWithin}

-- so it is where the budget was spent
abbrev pub IfUnfinished : Result Found Stop → (Log → ℕ → Type 0) → Type 0
IfUnfinished (Err (Unfinished log proved)) Says = Says log proved
IfUnfinished _ Says = Unit {0}

-- the same where the lemmas are as they were kept
abbrev pub IfOpen : Result FoundKept StopKept → (List Lemma → ℕ → Type 0) → Type 0
IfOpen (Err (stopped.Unfinished kept proved)) Says = Says kept proved
IfOpen _ Says = Unit {0}

-- no two lemmas have one state and one bound
abbrev pub AreDistinct : List Lemma → Type 0
AreDistinct lemmas = (i j : ℕ) (d : Lemma) → i < j → j < length lemmas
    → (slice_index_or lemmas i d).state ≡ (slice_index_or lemmas j d).state
    → (slice_index_or lemmas i d).bound ≡ (slice_index_or lemmas j d).bound → ⊥

-- a bound from 1 to n
abbrev pub IsInRange : ℕ → Lemma → Type 0
IsInRange n lemma = (1 ≤ lemma.bound) × (lemma.bound ≤ n)

-- the first rule that can serve: the bound of the P row, else that of the N row, branching where neither reaches
abbrev pub IsFirstRule : (Row → State → Kinds → ℕ) → Kinds → State → ℕ → Rule → Type 0
IsFirstRule value k s bound by.P = bound ≤ value P s k
IsFirstRule value k s bound by.N = (value P s k < bound) × (bound ≤ value N s k)
IsFirstRule value k s bound by.Branch = (value P s k < bound) × (value N s k < bound)

-- a lemma has the first rule that can serve
abbrev pub IsLean : (Row → State → Kinds → ℕ) → Kinds → Lemma → Type 0
IsLean value k lemma = IsFirstRule value k lemma.state lemma.bound lemma.rule

-- The log of a search, of fingers f with the kinds k, whether it lists a row or not: its lemmas are justified by
-- those before them, no two are alike, their bounds are from 1 to the number of columns, and they are of states
-- that the limits up to the best bound of the start state reach. A text can hold the log.
pub record IsSearchLog (value : Row → State → Kinds → ℕ) (k : Kinds) (f : Fingers) (log : Log) : Type 0 where
  pub justified : AreJustified value k log.lemmas
  pub distinct : AreDistinct log.lemmas
  pub range : All (IsInRange (columns_of f)) log.lemmas
  pub reached : All (IsWithin k (best_of (start_of k) log.lemmas)) log.lemmas
  pub lean : All (IsLean value k) log.lemmas
  pub fits : Fits k log

-- The evidence of a search that found a row: the log is accepted by the rule of inference alone, and lists the
-- row. A node for each lemma, one for each column and one at the end are within the budget.
pub record IsSolved (value : Row → State → Kinds → ℕ) (k : Kinds) (f : Fingers) (budget : ℕ) (row : List Column)
    (log : Log) : Type 0 where
  pub accepted : IsAccepted value k f log (gaps_of row)
  pub lists : Lists k log.best (λ listed. listed ≡ row)
  pub kept : length log.lemmas + columns_of f + 1 ≤ budget
  pub searched : IsSearchLog value k f log

-- The evidence of a search whose budget is spent: the log lists no row, and its lemmas are as many as the budget has
-- nodes except those of one row. The best bound of the start state is proved: no arrangement has fewer gaps. A budget
-- that is enough is never spent.
pub record IsSpent (value : Row → State → Kinds → ℕ) (k : Kinds) (f : Fingers) (budget : ℕ) (log : Log)
    (proved : ℕ) : Type 0 where
  pub lists_none : IsNone log.best
  pub many : budget ≤ length log.lemmas + columns_of f
  pub few : length log.lemmas ≤ budget
  pub best : proved ≡ best_of (start_of k) log.lemmas
  pub low : (other : List Column) → IsArrangement other f → proved ≤ gaps_of other
  pub short : budget < enough k
  pub searched : IsSearchLog value k f log
