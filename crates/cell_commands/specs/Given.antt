-- What `make` with a file of evidence results in: the drawing of the row that the file lists, or the end of its check.
use Rattle.std.specs.Prelude.{ℕ, ◌≡◌, ◌⊎◌, List}
use Rattle.row_model.specs.declared.column.Column.{Column}
use Rattle.row_model.specs.Arrangement.{IsArrangement}
use Rattle.call_end.specs.declared.end.End.{End}
use Rattle.call_end.specs.declared.status.Status.TheVariants as status
use Rattle.call_words.specs.declared.evidence.Evidence.{Evidence}
use Rattle.call_words.specs.declared.evidence.Evidence.TheVariants.{Log, Trails}
use Rattle.cell_inputs.specs.declared.style.Style.{Style}
use Rattle.cell_inputs.specs.Inputs.{Inputs}
use Rattle.cell_commands.specs.Check as log
use Rattle.cell_commands.specs.TrailCheck as trail
use Rattle.cell_commands.specs.RowEnd.{RowEvidence, no_file}
use Rattle.cell_commands.specs.declared.certificate.Certificate.{Certificate}
use Rattle.cell_commands.specs.declared.certificate.Certificate.TheVariants as held
use Rattle.cell_commands.specs.declared.given.Given.{Given}
use Rattle.cell_commands.specs.declared.given.Given.TheVariants.{Row, Refused}
use Rattle.cell_commands.specs.Certificate.{counts_of}
use Rattle.cell_commands.specs.Make.{IsDrawnTo}

-- what a check of the bytes results in, as evidence of this kind
abbrev pub ChecksBy : Evidence → Inputs → List ℕ → End → Type 0
ChecksBy Log inputs bytes end = log.ChecksTo inputs bytes end
ChecksBy Trails inputs bytes end = trail.TrailChecksTo inputs bytes end

-- the bytes are the text of the certificate, of this kind, which is accepted and lists the row
abbrev pub IsListedBy : Evidence → Inputs → List ℕ → List Column → Certificate → Type 0
IsListedBy Log inputs bytes row (held.Log found) = log.IsListed inputs bytes row found
IsListedBy Trails inputs bytes row (held.Trails found) = trail.IsListed inputs bytes row found
IsListedBy _ inputs bytes row _ = ⊥

-- a check of the bytes does not accept them, and results in this end
abbrev pub IsRefusedBy : Evidence → Inputs → List ℕ → End → Type 0
IsRefusedBy evidence inputs bytes end = ChecksBy evidence inputs bytes end × (end.status ≡ status.Rejected)

-- no file is made of evidence that was given
abbrev pub given_evidence : Certificate → RowEvidence
given_evidence certificate = no_file (counts_of certificate)

-- the row that the bytes list is drawn, or the bytes are refused
abbrev pub MakesFromTo : Evidence → Style → Inputs → List ℕ → List ℕ → End → Type 0
MakesFromTo evidence style inputs bytes out end =
    ((row : List Column)
    × (certificate : Certificate)
    × IsListedBy evidence inputs bytes row certificate
    × IsDrawnTo style inputs out row (given_evidence certificate) end)
    ⊎ IsRefusedBy evidence inputs bytes end

-- ---- as the code has it

abbrev pub IsGiven : Evidence → Inputs → List ℕ → Given → Type 0
IsGiven evidence inputs bytes (Row row counts) =
    (certificate : Certificate) × IsListedBy evidence inputs bytes row certificate × (counts ≡ counts_of certificate)
IsGiven evidence inputs bytes (Refused end) = IsRefusedBy evidence inputs bytes end

-- a row is an arrangement of the fingers
abbrev pub Arranges : Inputs → Given → Type 0
Arranges inputs (Row row counts) = IsArrangement row inputs.fingers
Arranges inputs (Refused end) = Unit {0}

abbrev pub IsGivenEnd : Style → Inputs → List ℕ → Given → End → Type 0
IsGivenEnd style inputs out (Row row counts) end =
    IsDrawnTo style inputs out row (no_file counts) end
IsGivenEnd style inputs out (Refused refused) end = end ≡ refused
