-- Why a log is refused, each cause with what was found in order before it.
use Rattle.std.specs.Prelude.{ℕ, ◌≡◌, ◌≢◌, ◌<◌, ◌+◌, List, Option, Some, None, length, take, slice_index_or}
use Rattle.cell_num.specs.declared.finger.Row.{Row}
use Rattle.cell_num.specs.declared.finger.Fingers.{Fingers}
use Rattle.row_model.specs.Gaps.{gaps_of}
use Rattle.row_state.specs.declared.kind.Kinds.{Kinds}
use Rattle.row_state.specs.declared.state.State.{State}
use Rattle.row_state.specs.Start.{start_of}
use Rattle.bound_log.specs.declared.log.Lemma.{Lemma}
use Rattle.bound_log.specs.declared.log.Best.{Best}
use Rattle.bound_log.specs.declared.log.Log.{Log}
use Rattle.lemma_check.specs.Reaches.{best_of}
use Rattle.log_check.specs.declared.refused.Refused.{Refused}
use Rattle.log_check.specs.declared.refused.Refused.TheVariants as because
use Rattle.log_check.specs.Accepted.{IsJustified, AreJustified, IsRow, columns_listed}

-- all lemmas before this one are justified, and it is not
pub record IsFirstUnjustified (value : Row → State → Kinds → ℕ) (k : Kinds) (lemmas : List Lemma) (at : ℕ) : Type 0
  where
    pub within : at < length lemmas
    pub before : (i : ℕ) (d : Lemma) → i < at
        → IsJustified value k (λ s. best_of s (take i lemmas)) (slice_index_or lemmas i d)
    pub unproved : (d : Lemma) → IsJustified value k (λ s. best_of s (take at lemmas)) (slice_index_or lemmas at d) → ⊥

-- what is wrong with the listed row, where the lemmas prove `best` gaps of the start state
abbrev pub RowRefuses : Kinds → Fingers → ℕ → Best → Refused → Type 0
RowRefuses k f best row because.NotArrangement = IsRow k f row.steps → ⊥
RowRefuses k f best row (because.Gaps said counted) =
    IsRow k f row.steps × (said ≡ row.gaps) × (counted ≡ gaps_of (columns_listed k row.steps)) × (said ≢ counted)
RowRefuses k f best row (because.NotLeast proved said) =
    IsRow k f row.steps × (row.gaps ≡ gaps_of (columns_listed k row.steps)) × (proved ≡ best) × (said ≡ row.gaps)
    × (proved < said)
RowRefuses k f best row because.NoMemory = Unit {0}
RowRefuses k f best row _ = ⊥

-- what is wrong with the listed row, or that there is none
abbrev pub BestRefuses : Kinds → Fingers → ℕ → Option Best → Refused → Type 0
BestRefuses k f best None (because.NoRow proved) = proved ≡ best
BestRefuses k f best None because.NoMemory = Unit {0}
BestRefuses k f best None _ = ⊥
BestRefuses k f best (Some row) fault = RowRefuses k f best row fault

-- the lemma numbered i is at line i + 3 of the text
abbrev pub LemmasRefuse : (Row → State → Kinds → ℕ) → Kinds → List Lemma → Refused → Type 0
LemmasRefuse value k lemmas (because.Unproved line) = (at : ℕ) × IsFirstUnjustified value k lemmas at × (line ≡ at + 3)
LemmasRefuse value k lemmas because.NoMemory = Unit {0}
LemmasRefuse value k lemmas _ = ⊥

-- a lemma is not justified; or all are, and the row is refused
abbrev pub Refuses : (Row → State → Kinds → ℕ) → Kinds → Fingers → Log → Refused → Type 0
Refuses value k f log (because.Unproved line) = LemmasRefuse value k log.lemmas (because.Unproved line)
Refuses value k f log because.NoMemory = Unit {0}
Refuses value k f log fault = AreJustified value k log.lemmas
    × BestRefuses k f (best_of (start_of k) log.lemmas) log.best fault

-- this holds of the number of gaps that the lemmas prove, where the refusal reports it
abbrev pub Proves : (ℕ → Type 0) → Refused → Type 0
Proves Says (because.NoRow best) = Says best
Proves Says (because.NotLeast best said) = Says best
Proves Says _ = Unit {0}
