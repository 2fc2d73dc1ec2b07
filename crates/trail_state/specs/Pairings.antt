-- The fingers of a gate by the nets at their ends, and its choices.
use Rattle.std.specs.Prelude.{ℕ, ◌<◌, Bool, List, map}
use Rattle.std.specs.List.{filter, range_with_len}
use Rattle.cell_num.specs.declared.finger.Finger.{Finger}
use Rattle.cell_num.specs.declared.finger.Fingers.{Fingers}
use Rattle.trail_state.specs.declared.edge.Edge.{Edge}
use Rattle.trail_state.specs.declared.edge.FingerEnds.{FingerEnds}
use Rattle.trail_state.specs.declared.gate.Gate.{Gate}
use Rattle.trail_state.specs.Fronts as fronts
use Rattle.trail_state.specs.Choices.{fingers_on}
use Rattle.trail_state.specs.Nodes.{is_net_in}

abbrev pub HasSmallEnds : Finger → Type 0
HasSmallEnds x = (x.lo.0 < 256) × (x.hi.0 < 256)

abbrev pub nets_at : Finger → FingerEnds
nets_at x = record { lo = x.lo.0; hi = x.hi.0 }

-- the nets that fill the empty places of a row
abbrev pub nets_in : List Finger → ℕ → List ℕ
nets_in mine nets = filter (is_net_in mine) (range_with_len 0 nets)

abbrev pub gate_of : Fingers → ℕ → Gate
gate_of f gate = record {
  p = map nets_at (fingers_on gate f).p;
  n = map nets_at (fingers_on gate f).n;
  p_fill = nets_in f.p f.nets;
  n_fill = nets_in f.n f.nets;
}

-- every choice of the gate, once
abbrev pub choices_of : Fingers → ℕ → List (List Edge)
choices_of f gate = fronts.choices_of (gate_of f gate)

-- after one of the columns of the gate there are more ways to pair its fingers so far
abbrev pub has_long_front : ℕ → Fingers → ℕ → Bool
has_long_front most f gate = fronts.has_long_front most (gate_of f gate)
