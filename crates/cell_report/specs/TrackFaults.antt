-- Why the text of a certificate of tracks is rejected, by names and fields.
use Rattle.std.specs.Prelude.{[], codes}
use Rattle.track_check.specs.declared.rejected.TextRejected.{TextRejected}
use Rattle.track_check.specs.declared.rejected.TextRejected.TheVariants as because
use Rattle.cell_report.specs.Faults.{Fault, at_line, fault_of, log_fault}

-- a text that is no certificate has the faults of the text of a log
abbrev pub track_fault : TextRejected → Fault
track_fault (because.Text fault) = log_fault fault
track_fault (because.Unjustified line) = at_line (codes "Unproved") line
track_fault because.NoStart = fault_of (codes "NoStart") []
track_fault because.NoMemory = fault_of (codes "NoMemory") []
