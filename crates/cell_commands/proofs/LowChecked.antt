-- What a check of bytes as a certificate of tracks results in, from what the checker answered.
use Rattle.std.proofs.Common.{ℕ, ◌≡◌, ◌≢◌, ◌≤◌, List, Result, IfOk, inl, inr, refl, subst}
use Rattle.std.proofs.lemmas.Result.{IfOk-weaker}
use Rattle.cell_num.specs.declared.finger.Fingers.{Fingers}
use Rattle.cell_num.specs.declared.list.NoMemory.{NoMemory}
use Rattle.cell_num.specs.declared.net.Pins.{Pins}
use Rattle.row_model.specs.declared.column.Column.{Column}
use Rattle.row_model.specs.Arrangement.{IsArrangement}
use Rattle.row_model.specs.Gaps.{gaps_of}
use Rattle.row_place.specs.Places.{placement_of}
use Rattle.row_state.specs.declared.kind.Kinds.{Kinds}
use Rattle.row_state.specs.Component.{component_value}
use Rattle.row_state.specs.Start.{AreKinds, AreSomeKinds}
use Rattle.channel_route.specs.declared.routing.Routing.{Routing}
use Rattle.channel_route.specs.Routing.{IsLegal}
use Rattle.log_check.proofs.SameKinds.{for_kinds}
use Rattle.dogleg_route.specs.declared.piece.PieceRouting.{PieceRouting}
use Rattle.dogleg_route.specs.Routings.{ArePiecesLegal}
use Rattle.track_log.specs.declared.certificate.Course.{Course}
use Rattle.track_log.specs.declared.certificate.Course.TheVariants as course
use Rattle.track_check.specs.declared.accept.TracksProved.{TracksProved}
use Rattle.track_check.specs.declared.rejected.TextRejected.{TextRejected}
use Rattle.track_check.specs.declared.rejected.TextRejected.TheVariants as because
use Rattle.turn_check.specs.declared.course.LowProved.{LowProved}
use Rattle.turn_check.specs.Courses.{IsLowAccepted, LowRejects}
use Rattle.call_end.specs.declared.end.End.{End}
use Rattle.call_end.specs.declared.status.Status.TheVariants as status
use Rattle.call_end.specs.End.{reports}
use Rattle.cell_inputs.specs.Inputs.{Inputs}
use Rattle.cell_report.specs.Faults.{fault_line}
use Rattle.cell_report.specs.TrackFaults.{track_fault}
use Rattle.cell_commands.specs.LowCheck.{IsNoTextOfTracks, IsTextOfTracks, LowChecksTo, NeedTracks, NeedTracksBy, accepted_text}
use Rattle.std.specs.Prelude.{codes}

-- what the checker says of each row, for these kinds: of trunks, or of pieces where nets may turn
abbrev pub HaveTrunks : Pins → Kinds → TracksProved → Type 0
HaveTrunks pins k proved =
    (f : Fingers) (row : List Column) (r : Routing) → AreKinds f k → IsArrangement row f → gaps_of row ≤ proved.gaps
    → IsLegal (placement_of row) pins r → proved.tracks ≤ r.tracks

abbrev pub HavePieces : Pins → Kinds → TracksProved → Type 0
HavePieces pins k proved =
    (f : Fingers) (row : List Column) (r : PieceRouting) → AreKinds f k → IsArrangement row f → gaps_of row ≤ proved.gaps
    → ArePiecesLegal (placement_of row) pins r → proved.tracks ≤ r.tracks

-- of the one that the text is about
abbrev pub HaveTracks : Pins → Kinds → LowProved → Type 0
HaveTracks pins k low = (low.course ≡ course.Straight → HaveTrunks pins k low.proved) × (low.course ≡ course.Turning → HavePieces pins k low.proved)

needs : (inputs : Inputs) (k : Kinds) (by : Course) (proved : TracksProved) → AreKinds inputs.fingers k → (by ≡ course.Straight → HaveTrunks inputs.cell.pins k proved) → (by ≡ course.Turning → HavePieces inputs.cell.pins k proved) → NeedTracksBy by inputs proved
needs inputs k course.Straight proved of_k straight turning = λ row routing. straight refl inputs.fingers row routing of_k
needs inputs k course.Turning proved of_k straight turning = λ row routing. turning refl inputs.fingers row routing of_k

accepted : (inputs : Inputs) (bytes : List ℕ) (k : Kinds) (low : LowProved) (r : Result End NoMemory) → AreKinds inputs.fingers k → AreSomeKinds k → IsLowAccepted component_value inputs.cell.pins k inputs.cell.name bytes low → HaveTracks inputs.cell.pins k low → IfOk r (λ end. end ≡ reports status.Done (accepted_text inputs low)) → IfOk r (LowChecksTo inputs bytes)
accepted inputs bytes k low r of_k some_k is (straight, turning) said =
    IfOk-weaker r (λ (end : End). end ≡ reports status.Done (accepted_text inputs low)) (LowChecksTo inputs bytes)
    (λ end told. inl (low, (k, of_k, some_k, is), needs inputs k low.course low.proved of_k straight turning, told)) said

pub accepted_checks : (inside inputs : Inputs) (bytes : List ℕ) (k : Kinds) (low : LowProved) (r : Result End NoMemory) → inside ≡ inputs → AreKinds inside.fingers k → AreSomeKinds k → IsLowAccepted component_value inside.cell.pins k inside.cell.name bytes low → HaveTracks inside.cell.pins k low → IfOk r (λ end. end ≡ reports status.Done (accepted_text inside low)) → IfOk r (LowChecksTo inputs bytes)
accepted_checks inside inputs bytes k low r same of_k some_k is have said =
    subst (λ (i : Inputs). IfOk r (LowChecksTo i bytes)) same (accepted inside bytes k low r of_k some_k is have said)

rejected : (inputs : Inputs) (bytes : List ℕ) (k : Kinds) (cause : TextRejected) (r : Result End NoMemory) → AreKinds inputs.fingers k → AreSomeKinds k → cause ≢ because.NoMemory → LowRejects component_value inputs.cell.pins k inputs.cell.name bytes cause → ((low : LowProved) → IsLowAccepted component_value inputs.cell.pins k inputs.cell.name bytes low → ⊥) → IfOk r (λ end. end ≡ reports status.Rejected (fault_line (codes "tracks") (track_fault cause))) → IfOk r (LowChecksTo inputs bytes)
rejected inputs bytes k cause r of_k some_k other rejects none said =
    IfOk-weaker r (λ (end : End). end ≡ reports status.Rejected (fault_line (codes "tracks") (track_fault cause))) (LowChecksTo inputs bytes)
    (λ end told. inr (cause, other, (k, of_k, some_k, rejects), no_text, told)) said
  where
    no_text : IsNoTextOfTracks inputs bytes
    no_text low (j, of_j, some_j, is) =
        none low (for_kinds inputs.fingers j (λ kinds. IsLowAccepted component_value inputs.cell.pins kinds inputs.cell.name bytes low) of_j some_j is k of_k some_k)

pub rejected_checks : (inside inputs : Inputs) (bytes : List ℕ) (k : Kinds) (cause : TextRejected) (r : Result End NoMemory) → inside ≡ inputs → AreKinds inside.fingers k → AreSomeKinds k → cause ≢ because.NoMemory → (cause ≢ because.NoMemory → LowRejects component_value inside.cell.pins k inside.cell.name bytes cause) → (cause ≢ because.NoMemory → (low : LowProved) → IsLowAccepted component_value inside.cell.pins k inside.cell.name bytes low → ⊥) → IfOk r (λ end. end ≡ reports status.Rejected (fault_line (codes "tracks") (track_fault cause))) → IfOk r (LowChecksTo inputs bytes)
rejected_checks inside inputs bytes k cause r same of_k some_k other rejects none said =
    subst (λ (i : Inputs). IfOk r (LowChecksTo i bytes)) same (rejected inside bytes k cause r of_k some_k other (rejects other) (none other) said)

-- ---- the status

pub done_holds : (inputs : Inputs) (bytes : List ℕ) (end : End) → LowChecksTo inputs bytes end → end.status ≡ status.Done → (low : LowProved) × IsTextOfTracks inputs bytes low × NeedTracks inputs low
done_holds inputs bytes end (inl (low, text, need, is)) done = (low, text, need)
done_holds inputs bytes end (inr (cause, other, rejects, none, is)) done = cc

pub holds_done : (inputs : Inputs) (bytes : List ℕ) (end : End) (low : LowProved) → IsTextOfTracks inputs bytes low → LowChecksTo inputs bytes end → end.status ≡ status.Done
holds_done inputs bytes end low text (inl (other, holds, need, is)) = rw is refl
holds_done inputs bytes end low text (inr (cause, other, rejects, none, is)) = absurd (none low text)
