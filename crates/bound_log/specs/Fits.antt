-- Which logs a text can hold: what is in range for the kinds of the fingers.
use Rattle.std.specs.Prelude.{ℕ, ◌≤◌, ◌<◌, ◌≢◌, ◌⊎◌, List, Option, None, length, All, IfSome}
use Rattle.row_state.specs.declared.kind.Kind.{Kind}
use Rattle.row_state.specs.declared.kind.Kinds.{Kinds}
use Rattle.row_state.specs.declared.step.Side.{Side}
use Rattle.row_state.specs.declared.step.Step.{Step}
use Rattle.row_state.specs.Start.{AreSomeKinds, IsState}
use Rattle.row_state.specs.Versions.{IsVersion}
use Rattle.bound_log.specs.declared.log.Lemma.{Lemma}
use Rattle.bound_log.specs.declared.log.LogStep.{LogStep}
use Rattle.bound_log.specs.declared.log.Best.{Best}
use Rattle.bound_log.specs.declared.log.Log.{Log}

-- a name that stands in a line of the text
pub record IsLogName (name : List ℕ) : Type 0 where
  pub some : 1 ≤ length name
  pub few : length name ≤ 32
  pub line : All (λ byte. byte ≢ 10) name

-- a valid state, and a bound from 1 to 63
pub record LemmaFits (k : Kinds) (lemma : Lemma) : Type 0 where
  pub state : IsState k lemma.state
  pub some : 1 ≤ lemma.bound
  pub few : lemma.bound ≤ 63

-- an empty place, or one of the kinds
abbrev pub SideFits : List Kind → Option Side → Type 0
SideFits kinds side = IfSome side (λ (x : Side). x.kind < length kinds)

-- at least one place is filled
abbrev pub IsFilled : Step → Type 0
IsFilled step = step.p ≢ None ⊎ step.n ≢ None

pub record StepFits (k : Kinds) (listed : LogStep) : Type 0 where
  pub gate : listed.gate.0 < k.nets
  pub p : SideFits k.p listed.step.p
  pub n : SideFits k.n listed.step.n
  pub filled : IsFilled listed.step

pub record BestFits (k : Kinds) (best : Best) : Type 0 where
  pub few : best.gaps ≤ 63
  pub steps : All (StepFits k) best.steps

pub record Fits (k : Kinds) (log : Log) : Type 0 where
  pub version : IsVersion log.version
  pub lemmas : All (LemmaFits k) log.lemmas
  pub best : IfSome log.best (BestFits k)

-- so it is for the kinds of some fingers
abbrev pub ForSome : (Kinds → Type 0) → Type 0
ForSome Says = (k : Kinds) × AreSomeKinds k × Says k
