-- What the failure of the first state means where nets may turn.
use Rattle.std.proofs.Common.{ℕ, suc, ◌≡◌, ◌<◌, ◌≤◌, ◌⊎◌, List, map, length, inl, inr, sym, ap, subst, arith}
use Rattle.std.proofs.lemmas.Bool.{cases_lt}
use Rattle.cell_num.specs.declared.net.NetNo.{NetNo}
use Rattle.cell_num.specs.declared.net.Pins.{Pins}
use Rattle.cell_num.specs.declared.finger.Fingers.{Fingers}
use Rattle.cell_num.specs.declared.finger.Row.{Row}
use Rattle.row_model.specs.declared.column.Column.{Column}
use Rattle.row_model.specs.Arrangement.{IsArrangement}
use Rattle.row_model.specs.Gaps.{gaps_of}
use Rattle.row_place.specs.Places.{placement_of}
use Rattle.row_place.specs.Trunks.{HasPins}
use Rattle.channel_route.specs.declared.routing.Trunk.{Trunk}
use Rattle.row_state.specs.declared.kind.Kinds.{Kinds}
use Rattle.row_state.specs.declared.state.State.{State}
use Rattle.row_state.specs.declared.step.Step.{Step}
use Rattle.row_state.specs.Start.{start_of, GatesAreNets, AreKinds, AreSomeKinds}
use Rattle.row_state.specs.Steps.{column_of}
use Rattle.row_state.proofs.Unfold.{completion_of, gaps_from_start}
use Rattle.row_state.proofs.Valid.{gates_are_nets}
use Rattle.track_ways.specs.Certificate.{CertifiesBy}
use Rattle.track_ways.specs.declared.lemma.TrackLemma.{TrackLemma}
use Rattle.track_ways.specs.Paths.{Leads}
use Rattle.track_ways.proofs.Failing.{runs_wider, start_open}
use Rattle.track_ways.proofs.Path.{StepsOf, steps_of}
use Rattle.track_ways.proofs.Sound.{Holds, few_columns, start_fails_by}
use Rattle.dogleg_route.specs.declared.piece.PieceRouting.{PieceRouting}
use Rattle.dogleg_route.specs.Routings.{ArePiecesLegal}
use Rattle.piece_lines.specs.Lines.{PieceLineFits}
use Rattle.piece_lines.specs.Paths.{PieceRuns}
use Rattle.piece_lines.specs.Within.{routing_on}
use Rattle.piece_lines.proofs.Again.{fits_again}
use Rattle.piece_lines.proofs.OnPaths.{again, legal_path, path_of}
use Rattle.piece_ways.specs.PieceFails.{PieceFails}
use Rattle.piece_ways.specs.TurningLaw.{turning_rule}

-- where the first state fails, each legal routing of an arrangement with at most so many gaps has more tracks
pub more_tracks : (pins : Pins) (f : Fingers) (k : Kinds) (limit gaps : ℕ) (track : NetNo → ℕ) → AreKinds f k → GatesAreNets k → PieceFails pins limit k (start_of k) track gaps
    → (row : List Column) (r : PieceRouting) → IsArrangement row f → length row ≤ 32 → gaps_of row ≤ gaps → ArePiecesLegal (placement_of row) pins r → limit < r.tracks
more_tracks pins f k limit gaps track kinds nets fails row r is few within legal = go (steps_of k (start_of k) row (completion_of f k row kinds is)) (cases_lt limit r.tracks)
  where
    go : StepsOf k (start_of k) row → (limit < r.tracks) ⊎ (r.tracks ≤ limit) → limit < r.tracks
    go s (inl more) = more
    go s (inr le) =
        absurd (fails s.steps s.leads (omega (arith, within, gaps_from_start k (map (column_of k) s.steps), ap gaps_of s.is))
        (path_of pins k s.steps r limit track nets s.leads (subst (λ cs. length cs ≤ 32) (sym s.is) few) (subst (λ cs. ArePiecesLegal (placement_of cs) pins r) (sym s.is) legal) le))

-- so with a certificate where nets may turn each such routing has more tracks
pub certified : (value : Row → State → Kinds → ℕ) (pins : Pins) (f : Fingers) (k : Kinds) (limit gaps : ℕ)
    (lemmas : List TrackLemma) → Holds value k → AreKinds f k → AreSomeKinds k →
    CertifiesBy PieceLineFits value pins limit k gaps lemmas → (row : List Column) (r : PieceRouting) →
    IsArrangement row f → gaps_of row ≤ gaps → ArePiecesLegal (placement_of row) pins r → limit < r.tracks
certified value pins f k limit gaps lemmas law kinds some h row r is few legal =
    more_tracks pins f k limit gaps (λ net. 0) kinds (gates_are_nets k some)
    (start_fails_by PieceLineFits fits_again value pins k limit gaps lemmas (λ net. 0) law some h) row r is
    (few_columns f k row kinds some is) few legal

-- a limit at which the first state fails, and a path on one track more: its row has a legal routing on as many
pub found : (pins : Pins) (k : Kinds) (limit gaps : ℕ) (start track : NetNo → ℕ) (steps : List Step) → GatesAreNets k → PieceFails pins limit k (start_of k) start gaps
    → Leads k (start_of k) steps → length (map (column_of k) steps) ≤ 32 → gaps_of (map (column_of k) steps) ≤ gaps
    → HasPins (placement_of (map (column_of k) steps)) pins
    → PieceRuns pins (suc limit) k (start_of k) track steps
    → (list : List Trunk) × ArePiecesLegal (placement_of (map (column_of k) steps)) pins (routing_on (suc limit) list)
found pins k limit gaps start track steps nets fails leads few within pinned runs =
    legal_path pins k steps (suc limit) track nets leads few pinned runs
    (λ other fewer less r. fails steps leads (omega (arith, within, gaps_from_start k (map (column_of k) steps)))
    (again pins limit k (start_of k) other start steps nets leads (λ net o. absurd (start_open pins k net o))
    (runs_wider PieceLineFits fits_again turning_rule.wider pins fewer limit k steps other nets leads (omega (arith, less)) r)))
