-- What `check` with `--low` results in: whether bytes are the text of an accepted certificate of tracks.
use Rattle.std.specs.Prelude.{ℕ, ◌≡◌, ◌≢◌, ◌≤◌, ◌⊎◌, List, codes}
use Rattle.row_model.specs.declared.column.Column.{Column}
use Rattle.row_model.specs.Arrangement.{IsArrangement}
use Rattle.row_model.specs.Gaps.{gaps_of}
use Rattle.row_place.specs.Places.{placement_of}
use Rattle.row_state.specs.Component.{component_value}
use Rattle.channel_route.specs.declared.routing.Routing.{Routing}
use Rattle.channel_route.specs.Routing.{IsLegal}
use Rattle.log_check.specs.Accepted.{WithKinds}
use Rattle.dogleg_route.specs.declared.piece.PieceRouting.{PieceRouting}
use Rattle.dogleg_route.specs.Routings.{ArePiecesLegal}
use Rattle.track_log.specs.declared.certificate.Course.{Course}
use Rattle.track_log.specs.declared.certificate.Course.TheVariants as course
use Rattle.track_log.specs.declared.certificate.TrackCertificate.{TrackCertificate}
use Rattle.track_log.specs.Text.{certificate_text_by}
use Rattle.track_check.specs.declared.accept.TracksProved.{TracksProved}
use Rattle.track_check.specs.declared.rejected.TextRejected.{TextRejected}
use Rattle.track_check.specs.declared.rejected.TextRejected.TheVariants as because
use Rattle.turn_check.specs.declared.course.LowProved.{LowProved}
use Rattle.turn_check.specs.Courses.{IsLowAccepted, LowRejects}
use Rattle.call_end.specs.declared.end.End.{End}
use Rattle.call_end.specs.declared.status.Status.TheVariants as status
use Rattle.call_end.specs.End.{reports}
use Rattle.cell_inputs.specs.declared.style.Wiring.{Wiring}
use Rattle.cell_inputs.specs.Inputs.{Inputs}
use Rattle.cell_report.specs.Faults.{fault_line}
use Rattle.cell_report.specs.Logs.{low_checked_text}
use Rattle.cell_report.specs.TrackFaults.{track_fault}
use Rattle.cell_commands.specs.Course.{course_by}

-- The bytes are the text of a certificate that is accepted, and proves this, of nets that go straight or may turn, as
-- the text has it. Its lemmas on tracks follow by the component bound, those on cycles by the needs of the cell's
-- states.
abbrev pub IsTextOfTracks : Inputs → List ℕ → LowProved → Type 0
IsTextOfTracks inputs bytes low =
    WithKinds inputs.fingers
    (λ k. IsLowAccepted component_value inputs.cell.pins k inputs.cell.name bytes low)

-- what a certificate proves for nets that are wired so
abbrev pub low_proved : Wiring → TrackCertificate → LowProved
low_proved wiring tracks = record {
  course = course_by wiring;
  proved = record { gaps = tracks.gaps; tracks = tracks.tracks };
}

-- the text of the certificate, for nets that are wired so, is accepted, and proves its gaps and its tracks
abbrev pub IsAcceptedTracks : Wiring → Inputs → TrackCertificate → Type 0
IsAcceptedTracks wiring inputs tracks =
    IsTextOfTracks inputs (certificate_text_by (course_by wiring) inputs.cell.name tracks) (low_proved wiring tracks)

-- each legal routing of each arrangement with at most that many gaps takes that many tracks or more: of trunks, or of
-- pieces where nets may turn
abbrev pub NeedTracksBy : Course → Inputs → TracksProved → Type 0
NeedTracksBy course.Straight inputs proved =
    (row : List Column) (r : Routing) → IsArrangement row inputs.fingers → gaps_of row ≤ proved.gaps
    → IsLegal (placement_of row) inputs.cell.pins r → proved.tracks ≤ r.tracks
NeedTracksBy course.Turning inputs proved =
    (row : List Column) (r : PieceRouting) → IsArrangement row inputs.fingers → gaps_of row ≤ proved.gaps
    → ArePiecesLegal (placement_of row) inputs.cell.pins r → proved.tracks ≤ r.tracks

abbrev pub NeedTracks : Inputs → LowProved → Type 0
NeedTracks inputs low = NeedTracksBy low.course inputs low.proved

-- the first place of the bytes that is wrong, or why their certificate proves nothing
abbrev pub AreRejected : Inputs → List ℕ → TextRejected → Type 0
AreRejected inputs bytes cause =
    WithKinds inputs.fingers
    (λ k. LowRejects component_value inputs.cell.pins k inputs.cell.name bytes cause)

-- they are the text of no accepted certificate
abbrev pub IsNoTextOfTracks : Inputs → List ℕ → Type 0
IsNoTextOfTracks inputs bytes = (low : LowProved) → IsTextOfTracks inputs bytes low → ⊥

-- the report of what an accepted certificate proves
abbrev pub accepted_text : Inputs → LowProved → List ℕ
accepted_text inputs low = low_checked_text low.course inputs.cell.name low.proved.gaps low.proved.tracks

-- The bytes are the text of an accepted certificate, and its gaps and tracks are reported; or they are that of none,
-- and the first cause is reported.
abbrev pub LowChecksTo : Inputs → List ℕ → End → Type 0
LowChecksTo inputs bytes end =
    ((low : LowProved)
    × IsTextOfTracks inputs bytes low
    × NeedTracks inputs low
    × (end ≡ reports status.Done (accepted_text inputs low)))
    ⊎ ((cause : TextRejected)
    × (cause ≢ because.NoMemory)
    × AreRejected inputs bytes cause
    × IsNoTextOfTracks inputs bytes
    × (end ≡ reports status.Rejected (fault_line (codes "tracks") (track_fault cause))))
