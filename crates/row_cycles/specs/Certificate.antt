-- Which lemmas on cycles are justified, and which lists of them certify that no row can be wired.
use Rattle.std.specs.Prelude.{ℕ, ◌≡◌, ◌+◌, ◌<◌, ◌≤◌, ◌⊎◌, ◌++◌, List, [], All, Any, length, take, slice_index_or}
use Rattle.cell_num.specs.declared.net.Pins.{Pins}
use Rattle.cell_num.specs.declared.finger.Row.{Row}
use Rattle.row_state.specs.declared.kind.Kinds.{Kinds}
use Rattle.row_state.specs.declared.state.State.{State}
use Rattle.row_state.specs.declared.step.Step.{Step}
use Rattle.row_state.specs.Completion.{cost_of}
use Rattle.row_state.specs.Start.{HasFingers, IsState, start_of}
use Rattle.row_state.specs.Steps.{IsPossible, column_of, state_after}
use Rattle.track_ways.specs.Certificate.{NeedsMore}
use Rattle.row_cycles.specs.Above.{Follows, HasCycle, HasNets, above_end, above_step}
use Rattle.row_cycles.specs.declared.above.NetAbove.{NetAbove}
use Rattle.row_cycles.specs.declared.lemma.CycleLemma.{CycleLemma}

-- the lemma is on the state, on as many gaps or more, and what it asks for follows
pub record Covers (s : State) (gaps : ℕ) (above : List NetAbove) (lemma : CycleLemma) : Type 0 where
  pub state : lemma.state ≡ s
  pub enough : gaps ≤ lemma.gaps
  pub follow : All (Follows above) lemma.above

-- the state needs more gaps, there is a cycle already, or an earlier lemma is about it
abbrev pub IsRefuted : (Row → State → Kinds → ℕ) → Kinds → List CycleLemma → State → ℕ → List NetAbove → Type 0
IsRefuted value k earlier s gaps above =
    NeedsMore value k s gaps ⊎ HasCycle above ⊎ Any (Covers s gaps above) earlier

-- the state after each possible next column that does not cost more than the gaps is refuted, with what the lines up to
-- the column ask for; and where no finger is left, the last line closes a cycle
pub record Branches
    (value : Row → State → Kinds → ℕ) (pins : Pins) (k : Kinds) (earlier : List CycleLemma) (lemma : CycleLemma)
    : Type 0 where
  pub steps : (step : Step) (left : ℕ) → IsPossible k lemma.state step
      → cost_of lemma.state (column_of k step) + left ≡ lemma.gaps
      → IsRefuted value k earlier (state_after k lemma.state step) left
      (lemma.above ++ above_step pins k lemma.state step)
  pub ends : (HasFingers k lemma.state → ⊥) → HasCycle (lemma.above ++ above_end pins lemma.state)

-- a lemma on a valid state and on nets of the cell, by the bound of a row or by its next columns
pub record IsJustified
    (value : Row → State → Kinds → ℕ) (pins : Pins) (k : Kinds) (earlier : List CycleLemma) (lemma : CycleLemma)
    : Type 0 where
  pub state : IsState k lemma.state
  pub nets : All (HasNets k.nets) lemma.above
  pub holds : NeedsMore value k lemma.state lemma.gaps ⊎ Branches value pins k earlier lemma

-- each lemma is justified by those before it
abbrev pub AreJustified : (Row → State → Kinds → ℕ) → Pins → Kinds → List CycleLemma → Type 0
AreJustified value pins k lemmas =
    (i : ℕ) (d : CycleLemma) → i < length lemmas
    → IsJustified value pins k (take i lemmas) (slice_index_or lemmas i d)

-- the lemma is on the state, on as many gaps or more, and asks for nothing
pub record CoversAll (s : State) (gaps : ℕ) (lemma : CycleLemma) : Type 0 where
  pub state : lemma.state ≡ s
  pub enough : gaps ≤ lemma.gaps
  pub any : lemma.above ≡ []

-- all lemmas are justified, and one is on the start state, that many gaps, and asks for nothing
pub record Certifies
    (value : Row → State → Kinds → ℕ) (pins : Pins) (k : Kinds) (gaps : ℕ) (lemmas : List CycleLemma) : Type 0 where
  pub justified : AreJustified value pins k lemmas
  pub whole : Any (CoversAll (start_of k) gaps) lemmas
