-- Which nets a row's lines put above others. At a node line the net in the P row needs a higher track than another one
-- in the N row, since their wires to the channel would meet; so a cycle of such nets can't be wired.
use Rattle.std.specs.Prelude.{ℕ, ◌==◌, ◌<◌, ◌||◌, if◌then◌else◌, List, [], ◌∷◌, Option, Some, Contains}
use Rattle.std.specs.List.{flat_map}
use Rattle.cell_num.specs.declared.net.NetNo.{NetNo}
use Rattle.cell_num.specs.declared.net.Pins.{Pins}
use Rattle.cell_num.specs.Pins.{is_rail}
use Rattle.row_state.specs.declared.kind.Kinds.{Kinds}
use Rattle.row_state.specs.declared.state.State.{State}
use Rattle.row_state.specs.declared.step.Step.{Step}
use Rattle.row_state.specs.Steps.{column_of}
use Rattle.track_ways.specs.declared.line.Line.{Line}
use Rattle.track_ways.specs.Paths.{lines_to}
use Rattle.track_ways.specs.Rows.{node_line}
use Rattle.row_cycles.specs.declared.above.NetAbove.{NetAbove}

abbrev pub over : NetNo → NetNo → NetAbove
over upper lower = record { upper = upper; lower = lower }

-- both nets are numbered below `nets`
abbrev pub HasNets : ℕ → NetAbove → Type 0
HasNets nets a = (a.upper.0 < nets) × (a.lower.0 < nets)

-- rails have no trunk
abbrev pub above_ends : Pins → Option NetNo → Option NetNo → List NetAbove
above_ends pins (Some upper) (Some lower) =
    if (upper.0 == lower.0) || (is_rail pins upper || is_rail pins lower) then [] else over upper lower ∷ []
above_ends pins _ _ = []

abbrev pub above_at : Pins → Line → List NetAbove
above_at pins line = above_ends pins line.p line.n

abbrev pub above_of : Pins → List Line → List NetAbove
above_of pins lines = flat_map (above_at pins) lines

-- from a state's last node line to the gate of a next column
abbrev pub above_step : Pins → Kinds → State → Step → List NetAbove
above_step pins k s step = above_of pins (lines_to s (column_of k step))

-- at the last line
abbrev pub above_end : Pins → State → List NetAbove
above_end pins s = above_at pins (node_line s.p_end s.n_end)

-- from a net down to another, by these nets between them
abbrev pub LeadsDown : List NetAbove → NetNo → List NetNo → NetNo → Type 0
LeadsDown above upper [] lower = Contains above (over upper lower)
LeadsDown above upper (net ∷ between) lower = Contains above (over upper net) × LeadsDown above net between lower

-- a net lies above another, at once or by nets between them
abbrev pub IsAbove : List NetAbove → NetNo → NetNo → Type 0
IsAbove above upper lower = (between : List NetNo) × LeadsDown above upper between lower

abbrev pub HasCycle : List NetAbove → Type 0
HasCycle above = (net : NetNo) × IsAbove above net net

abbrev pub Follows : List NetAbove → NetAbove → Type 0
Follows above a = IsAbove above a.upper a.lower
