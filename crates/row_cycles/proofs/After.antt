-- What the lines after a state ask for, step by step.
use Rattle.std.proofs.Common.{◌≡◌, ◌++◌, List, [], ◌∷◌, Contains, inl, inr, sym, ap, ◌∙◌}
use Rattle.std.proofs.lemmas.Grind.{flat_map-append}
use Rattle.std.proofs.lemmas.List.{append_assoc}
use Rattle.std.proofs.lemmas.List.Elements.{Contains-append_cases, Contains-append_left, Contains-append_right}
use Rattle.cell_num.specs.declared.net.Pins.{Pins}
use Rattle.cell_num.proofs.Lists.{contains_here}
use Rattle.cell_num.proofs.In.{contains_flat}
use Rattle.row_model.specs.declared.column.Column.{Column}
use Rattle.row_state.specs.declared.kind.Kinds.{Kinds}
use Rattle.row_state.specs.declared.state.State.{State}
use Rattle.row_state.specs.declared.step.Step.{Step}
use Rattle.row_state.specs.Steps.{column_of, state_after}
use Rattle.track_ways.specs.declared.line.Line.{Line}
use Rattle.track_ways.specs.Rows.{gate_line, lines_behind, lines_between, node_line}
use Rattle.track_ways.specs.Paths.{lines_to}
use Rattle.row_cycles.specs.declared.above.NetAbove.{NetAbove}
use Rattle.row_cycles.specs.Above.{HasCycle, above_at, above_end, above_of, above_step}
use Rattle.row_cycles.proofs.Paths.{cycle_more}

pub above_append : (pins : Pins) (xs ys : List Line) → above_of pins (xs ++ ys) ≡ above_of pins xs ++ above_of pins ys
above_append pins xs ys = flat_map-append (above_at pins) xs ys

-- the lines from the last one of a step on
abbrev pub lines_rest : Kinds → State → Step → List Column → List Line
lines_rest k s step cs = lines_behind (state_after k s step).p_end (state_after k s step).n_end cs

-- the lines of a completion are those to its first column and those after it
pub lines_first : (k : Kinds) (s : State) (step : Step) (cs : List Column)
    → lines_behind s.p_end s.n_end (column_of k step ∷ cs)
    ≡ lines_to s (column_of k step) ++ lines_rest k s step cs
lines_first k s step cs = sym (append_assoc (lines_between s.p_end s.n_end (column_of k step))
    (gate_line (column_of k step) ∷ []) (lines_rest k s step cs))

-- so is what they ask for
pub above_first : (pins : Pins) (k : Kinds) (s : State) (step : Step) (cs : List Column)
    → above_of pins (lines_behind s.p_end s.n_end (column_of k step ∷ cs))
    ≡ above_step pins k s step ++ above_of pins (lines_rest k s step cs)
above_first pins k s step cs =
    ap (above_of pins) (lines_first k s step cs)
    ∙ above_append pins (lines_to s (column_of k step)) (lines_rest k s step cs)

-- with other pairs before them
pub beside_first : (pins : Pins) (k : Kinds) (s : State) (step : Step) (cs : List Column) (above : List NetAbove)
    → (above ++ above_step pins k s step) ++ above_of pins (lines_rest k s step cs)
    ≡ above ++ above_of pins (lines_behind s.p_end s.n_end (column_of k step ∷ cs))
beside_first pins k s step cs above =
    append_assoc above (above_step pins k s step) (above_of pins (lines_rest k s step cs))
    ∙ ap (λ z. above ++ z) (sym (above_first pins k s step cs))

-- the last line of a completion without columns
pub end_there : (pins : Pins) (s : State) (a : NetAbove)
    → Contains (above_end pins s) a → Contains (above_of pins (lines_behind s.p_end s.n_end [])) a
end_there pins s a there =
    let line : Line = node_line s.p_end s.n_end in
    contains_flat (above_at pins) (line ∷ []) line a (contains_here line []) there

pub cycle_at_end : (pins : Pins) (s : State) (above : List NetAbove)
    → HasCycle (above ++ above_end pins s) → HasCycle (above ++ above_of pins (lines_behind s.p_end s.n_end []))
cycle_at_end pins s above h = cycle_more (above ++ above_end pins s) (above ++ last)
    (λ a there. elim (Contains-append_cases above (above_end pins s) a there) [
      | inl first ↦ Contains-append_left above last a first
      | inr second ↦ Contains-append_right above last a (end_there pins s a second)
    ]) h
  where
    last : List NetAbove
    last = above_of pins (lines_behind s.p_end s.n_end [])
