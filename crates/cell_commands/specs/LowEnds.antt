-- The end where no row that can be wired is known: the evidence of the first least row, and its cycle.
use Rattle.std.specs.Prelude.{ℕ, true, false, Bool, ◌++◌}
use Rattle.call_end.specs.declared.end.End.{End}
use Rattle.call_end.specs.declared.status.Status.TheVariants as status
use Rattle.call_end.specs.End.{IsEnd}
use Rattle.call_end.specs.Status.{first_line}
use Rattle.channel_route.specs.declared.ring.Ring.{Ring}
use Rattle.cell_inputs.specs.Inputs.{Inputs}
use Rattle.cell_report.specs.Cells.{fewest_text}
use Rattle.cell_report.specs.Cycles.{ring_text}
use Rattle.cell_commands.specs.RowEnd.{RowEvidence}

-- Unless no row can be wired, the cycle leaves the search unfinished, and each row is known to take that many tracks.
abbrev pub IsRingEnd : Inputs → RowEvidence → (none_wired : Bool) → (fewest : ℕ) → Ring → End → Type 0
IsRingEnd inputs evidence true fewest ring =
    IsEnd status.Cycle evidence.files (first_line status.Cycle ++ ring_text inputs.cell.nets ring)
IsRingEnd inputs evidence false fewest ring =
    IsEnd status.Unfinished evidence.files
    (first_line status.Unfinished ++ fewest_text fewest ++ ring_text inputs.cell.nets ring)
