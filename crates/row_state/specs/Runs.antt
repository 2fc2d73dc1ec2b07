-- Where the kinds of a gate stand among the kinds of a row.
use Rattle.std.specs.Prelude.{ℕ, ◌≡◌, ◌+◌, ◌≤◌, ◌<◌, List, length, get_or}
use Rattle.row_state.specs.declared.kind.Kind.{Kind}
use Rattle.row_state.specs.declared.kind.Kinds.{Kinds}
use Rattle.row_state.specs.declared.gate.Cursor.{Cursor}
use Rattle.row_state.specs.declared.gate.OnGate.{OnGate}
use Rattle.row_state.specs.declared.gate.Run.{Run}
use Rattle.row_state.specs.declared.state.State.{State}
use Rattle.row_state.specs.Start.{counts_of}
use Rattle.row_state.specs.Tests.{gate_left}

-- the kinds before `at` have lower gates, the others have this gate or higher ones
pub record GatesFrom (kinds : List Kind) (gate at : ℕ) : Type 0 where
  pub within : at ≤ length kinds
  pub lower : (i : ℕ) (d : Kind) → i < at → (get_or kinds i d).gate.0 < gate
  pub rest : (i : ℕ) (d : Kind) → at ≤ i → i < length kinds → gate ≤ (get_or kinds i d).gate.0

-- the kinds of the gate, from the first one to those of the next gate, with all their fingers and those left
pub record IsRun (kinds : List Kind) (counts : List ℕ) (gate : ℕ) (run : Run) : Type 0 where
  pub begins : GatesFrom kinds gate run.from
  pub ends : GatesFrom kinds (gate + 1) run.to
  pub order : run.from ≤ run.to
  pub all : run.all ≡ gate_left kinds (counts_of kinds) gate
  pub left : run.left ≡ gate_left kinds counts gate

pub record IsOnGate (k : Kinds) (s : State) (on : OnGate) : Type 0 where
  pub p : IsRun k.p s.p_left on.gate on.p
  pub n : IsRun k.n s.n_left on.gate on.n

-- the kinds of the gates from this one on begin here
pub record IsCursor (k : Kinds) (cursor : Cursor) : Type 0 where
  pub p : GatesFrom k.p cursor.gate cursor.p
  pub n : GatesFrom k.n cursor.gate cursor.n
  pub gate : cursor.gate ≤ k.nets

-- the least gate of the kinds that follow
pub record IsNext (k : Kinds) (cursor : Cursor) (gate : ℕ) : Type 0 where
  pub p : GatesFrom k.p gate cursor.p
  pub n : GatesFrom k.n gate cursor.n
  pub from : cursor.gate ≤ gate
  pub below : gate < k.nets

-- no kind follows
pub record IsLast (k : Kinds) (cursor : Cursor) : Type 0 where
  pub p : GatesFrom k.p k.nets cursor.p
  pub n : GatesFrom k.n k.nets cursor.n
