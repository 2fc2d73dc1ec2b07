-- What `make` with `--low` results in: of all rows that can be wired with the fewest gaps the first on the fewest
-- tracks, or the first one of all; or a cycle of the first least row.
use Rattle.std.specs.Prelude.{ℕ, ◌==◌, ◌<◌, ◌⊎◌, List, [], ◌∷◌, ◌++◌, codes, if◌then◌else◌}
use Rattle.cell_num.specs.declared.net.NetNo.{NetNo}
use Rattle.row_model.specs.declared.column.Column.{Column}
use Rattle.row_model.specs.Gaps.{gaps_of}
use Rattle.channel_route.specs.declared.ring.Ring.{Ring}
use Rattle.spice_net.specs.declared.subckt.Subckt.{Subckt}
use Rattle.track_log.specs.declared.certificate.TrackCertificate.{TrackCertificate}
use Rattle.track_log.specs.Text.{certificate_text_by}
use Rattle.call_end.specs.declared.end.End.{End}
use Rattle.call_end.specs.declared.status.Status.TheVariants as status
use Rattle.call_end.specs.End.{IsEnd}
use Rattle.call_end.specs.Status.{first_line}
use Rattle.call_words.specs.declared.evidence.Evidence.{Evidence}
use Rattle.cell_inputs.specs.declared.style.Style.{Style}
use Rattle.cell_inputs.specs.declared.style.Wiring.{Wiring}
use Rattle.cell_inputs.specs.declared.style.Wiring.TheVariants.{Straight, Doglegs}
use Rattle.cell_inputs.specs.Inputs.{Inputs}
use Rattle.cell_make.specs.Low.{DrawsLow}
use Rattle.cell_make.specs.LowRows.{HasFirstLeast, IsRinged}
use Rattle.cell_make.specs.LowTracks.{ProvesTracks}
use Rattle.cell_make.specs.LowUnwired.{IsUnwiredOpen}
use Rattle.cell_make.specs.Rows.{DrawAnswer}
use Rattle.cell_report.specs.Cells.{fewest_text}
use Rattle.cell_report.specs.Cycles.{ring_text}
use Rattle.cell_commands.specs.declared.certificate.Certificate.{Certificate}
use Rattle.cell_commands.specs.Certificate.{row_evidence}
use Rattle.cell_commands.specs.Course.{course_by}
use Rattle.cell_commands.specs.Evidence.{gate_text}
use Rattle.cell_commands.specs.Make.{IsOpenEnd}
use Rattle.cell_commands.specs.RowEnd.{IsRowEnd, RowEvidence}
use Rattle.cell_commands.specs.Searched.{Crowds, IsCertifiedBy, IsFoundBy, IsOpenBy}

-- ---- the evidence

-- the text of the certificate of the tracks of nets that are wired so
abbrev pub tracks_text : Wiring → Subckt → TrackCertificate → List ℕ
tracks_text wiring cell tracks = certificate_text_by (course_by wiring) cell.name tracks

-- its file, where it proves that a row takes one track at least
abbrev pub track_files : Wiring → Subckt → List ℕ → TrackCertificate → List (List ℕ × List ℕ)
track_files wiring cell out tracks =
    if tracks.tracks == 0 then [] else (out ++ codes ".ctrack", tracks_text wiring cell tracks) ∷ []

-- the evidence of a row, and after it that of its tracks
abbrev pub low_evidence : Wiring → Subckt → List ℕ → Certificate → TrackCertificate → RowEvidence
low_evidence wiring cell out certificate tracks = record {
  files = (row_evidence cell out certificate).files ++ track_files wiring cell out tracks;
  fewest = fewest_text tracks.tracks;
  counts = (row_evidence cell out certificate).counts;
}

-- it is accepted and lists the row; or the row has more gaps than the first least one, for which it was found
abbrev pub IsLowCertifiedBy : Evidence → Inputs → List Column → Certificate → Type 0
IsLowCertifiedBy evidence inputs row certificate =
    IsCertifiedBy evidence inputs row certificate
    ⊎ ((least : List Column) × (gaps_of least < gaps_of row) × IsFoundBy evidence inputs least certificate)

-- ---- what it results in

pub data LowAnswer : Type 0 where
  Made : (row : List Column) (certificate : Certificate) (tracks : TrackCertificate) (answer : DrawAnswer) → LowAnswer
  Unwired : (row : List Column) (certificate : Certificate) (tracks : TrackCertificate) (ring : Ring) → LowAnswer
  Open : (proved : ℕ) (certificate : Certificate) → LowAnswer
  Crowded : (gate : NetNo) → LowAnswer

-- A certificate proves how many tracks each row takes at least, within its gaps, and one of the two:
-- - the row has evidence, there is a first least row, and drawing the row results in this: the lowest row, or where
--   the search for that is open the first one that can be wired with the fewest gaps; or a cycle of the first least
--   row, where no row can be wired;
-- - the search for a row that can be wired is open, and nets of the first least row, or pieces of them, are above each
--   other in this cycle.
-- Or a certificate proves that many gaps of every row, or the fingers of a gate pair in too many ways.
abbrev pub MakesLow : Evidence → Style → Inputs → LowAnswer → Type 0
MakesLow evidence style inputs (Made row certificate tracks answer) =
    ProvesTracks style.wiring inputs tracks
    × IsLowCertifiedBy evidence inputs row certificate
    × HasFirstLeast style.wiring inputs
    × DrawsLow style inputs row tracks answer
MakesLow evidence style inputs (Unwired row certificate tracks ring) =
    ProvesTracks style.wiring inputs tracks
    × IsUnwiredOpen style.wiring inputs tracks
    × IsFoundBy evidence inputs row certificate
    × IsRinged style.wiring inputs row ring
MakesLow evidence style inputs (Open proved certificate) = IsOpenBy evidence inputs proved certificate
MakesLow evidence style inputs (Crowded gate) = Crowds evidence inputs gate

-- The tracks that are reported where no row that can be wired is known. With straight trunks there are none: those rows
-- have more gaps than the certificate is about. With doglegs it is about each row with the fewest gaps.
abbrev pub open_fewest : Wiring → TrackCertificate → ℕ
open_fewest Straight tracks = 0
open_fewest Doglegs tracks = tracks.tracks

-- the evidence, without a drawing, since no row that can be wired is known; and the cycle of the first least row
abbrev pub IsUnwiredEnd : Wiring → Inputs → List ℕ → Certificate → TrackCertificate → Ring → End → Type 0
IsUnwiredEnd wiring inputs out certificate tracks ring =
    IsEnd status.Unfinished (low_evidence wiring inputs.cell out certificate tracks).files
    (first_line status.Unfinished ++ fewest_text (open_fewest wiring tracks) ++ ring_text inputs.cell.nets ring)

abbrev pub IsLowEnd : Style → Inputs → List ℕ → LowAnswer → End → Type 0
IsLowEnd style inputs out (Made row certificate tracks answer) =
    IsRowEnd style inputs out row (low_evidence style.wiring inputs.cell out certificate tracks) answer
IsLowEnd style inputs out (Unwired row certificate tracks ring) =
    IsUnwiredEnd style.wiring inputs out certificate tracks ring
IsLowEnd style inputs out (Open proved certificate) = IsOpenEnd inputs.cell out proved certificate
IsLowEnd style inputs out (Crowded gate) =
    IsEnd status.Unfinished [] (first_line status.Unfinished ++ gate_text inputs.cell gate)

-- in a style
abbrev pub MakesLowTo : Evidence → Style → Inputs → List ℕ → End → Type 0
MakesLowTo evidence style inputs out end =
    (answer : LowAnswer) × MakesLow evidence style inputs answer × IsLowEnd style inputs out answer end
