-- The evidence of a row, as the code has it; and how a gate is reported that leaves a row without evidence.
use Rattle.std.specs.Prelude.{ℕ, List, codes, map}
use Rattle.cell_num.specs.Lines.{text_line}
use Rattle.cell_num.specs.declared.net.NetNo.{NetNo}
use Rattle.spice_net.specs.declared.subckt.Subckt.{Subckt}
use Rattle.cell_report.specs.Names.{name_of}
use Rattle.call_end.specs.declared.end.Output.{Output}
use Rattle.cell_commands.specs.declared.evidence.RowEvidence.{RowEvidence}
use Rattle.call_end.specs.End.{named}
use Rattle.cell_commands.specs.RowEnd.{RowEvidence as EvidenceOf}

-- its files by their names and bytes
abbrev pub evidence_files : List Output → List (List ℕ × List ℕ)
evidence_files files = map named files

abbrev pub shown : RowEvidence → EvidenceOf
shown evidence = record {
  files = evidence_files evidence.files;
  fewest = evidence.fewest;
  counts = evidence.counts;
}

-- the gate by the name of its net
abbrev pub gate_text : Subckt → NetNo → List ℕ
gate_text cell gate = text_line (codes "gate ") (name_of cell.nets gate.0)
