-- A log checked item by item.
use Rattle.std.specs.Prelude.{ℕ, ◌≡◌, List, [], ◌++◌, Option, Some, None, length, option_map}
use Rattle.cell_num.specs.declared.finger.Row.{Row}
use Rattle.cell_num.specs.declared.finger.Fingers.{Fingers}
use Rattle.row_state.specs.declared.kind.Kinds.{Kinds}
use Rattle.row_state.specs.declared.state.State.{State}
use Rattle.row_state.specs.Start.{IsState}
use Rattle.bound_log.specs.declared.log.Lemma.{Lemma}
use Rattle.bound_log.specs.declared.log.LogStep.{LogStep}
use Rattle.bound_log.specs.declared.log.Best.{Best}
use Rattle.bound_log.specs.declared.log.Log.{Log}
use Rattle.lemma_check.specs.Reaches.{best_of}
use Rattle.lemma_check.specs.Known.{best_noted}
use Rattle.log_check.specs.declared.refused.Refused.TheVariants as because
use Rattle.log_check.specs.Accepted.{AreJustified}
use Rattle.log_check.specs.Refusal.{LemmasRefuse}

-- What a checker of logs for these fingers, with their kinds, has found up to now.
pub record Checked : Type 0 where
  -- the version of the log
  pub version : ℕ
  pub fingers : Fingers
  pub kinds : Kinds
  -- the best bounds so far, by the numbers of states
  pub known : List (ℕ × ℕ)
  -- how many lemmas came, and the line of the first that was not justified
  pub lemmas : ℕ
  pub unproved : Option ℕ
  -- the gaps said and the columns
  pub row : Option Best

-- A checker and the bound by which it checks.
pub record Checking (B : Type 0) : Type 0 where
  pub seen : Checked
  pub bound : B

-- the best bounds of valid states are those of the lemmas
abbrev pub AreBest : Kinds → (State → ℕ) → List Lemma → Type 0
AreBest k best lemmas = (s : State) → IsState k s → best s ≡ best_of s lemmas

-- all lemmas are justified, and their best bounds are known; or the first that is not is at the line
abbrev pub IsFound : (Row → State → Kinds → ℕ) → Checked → Option ℕ → List Lemma → Type 0
IsFound value c None lemmas = AreJustified value c.kinds lemmas × AreBest c.kinds (best_noted c.known c.kinds) lemmas
IsFound value c (Some line) lemmas = LemmasRefuse value c.kinds lemmas (because.Unproved line)

-- the items of this log came, where this is the bound of a row
pub record HasSeen (value : Row → State → Kinds → ℕ) (c : Checked) (log : Log) : Type 0 where
  pub version : c.version ≡ log.version
  pub counted : c.lemmas ≡ length log.lemmas
  pub found : IsFound value c c.unproved log.lemmas
  pub row : c.row ≡ log.best

-- of this version, before its first item
abbrev pub empty_log : ℕ → Log
empty_log version = record { version = version; lemmas = []; best = None }

abbrev pub with_lemmas : Log → List Lemma → Log
with_lemmas log lemmas = record { version = log.version; lemmas = log.lemmas ++ lemmas; best = log.best }

abbrev pub with_gaps : Log → ℕ → Log
with_gaps log gaps = record {
  version = log.version;
  lemmas = log.lemmas;
  best = Some (record { gaps = gaps; steps = [] });
}

abbrev pub more_steps : List LogStep → Best → Best
more_steps steps row = record { gaps = row.gaps; steps = row.steps ++ steps }

abbrev pub with_columns : Log → List LogStep → Log
with_columns log steps = record {
  version = log.version;
  lemmas = log.lemmas;
  best = option_map (more_steps steps) log.best;
}

-- so it is of each log whose items came
abbrev pub ForSeen : (Row → State → Kinds → ℕ) → Checked → (Log → Type 0) → Type 0
ForSeen value c Says = (log : Log) → HasSeen value c log → Says log
