-- Why a certificate by trails is refused, by names and fields.
use Rattle.std.specs.Prelude.{ℕ, List, [], codes}
use Rattle.trail_check.specs.declared.refusal.TrailRefusal.{TrailRefusal}
use Rattle.trail_check.specs.declared.refusal.TrailRefusal.TheVariants as refusal
use Rattle.cell_report.specs.Faults.{Fault, at_line, fault_of, with_two}
use Rattle.cell_report.specs.LayoutFaults.{with_one, with_text}
use Rattle.cell_report.specs.Names.{name_of}

-- a gate is named by its net
abbrev pub trail_fault : List (List ℕ) → TrailRefusal → Fault
trail_fault nets refusal.Gates = fault_of (codes "Gates") []
trail_fault nets (refusal.Choices gate) = with_text (codes "Choices") (codes "gate") (name_of nets gate.0)
trail_fault nets (refusal.Line line) = at_line (codes "Line") line
trail_fault nets (refusal.Unproved line) = at_line (codes "Unproved") line
trail_fault nets (refusal.NoRow best) = with_one (codes "NoRow") (codes "best") best
trail_fault nets refusal.NotArrangement = fault_of (codes "NotArrangement") []
trail_fault nets (refusal.Gaps said counted) = with_two (codes "Gaps") (codes "said") said (codes "counted") counted
trail_fault nets (refusal.NotLeast best said) = with_two (codes "NotLeast") (codes "best") best (codes "said") said
trail_fault nets refusal.NoMemory = fault_of (codes "NoMemory") []
