-- Legal routings of a row by pieces and tracks along its path of states.
use Rattle.std.proofs.Common.{ℕ, ◌≡◌, ◌<◌, ◌≤◌, ◌⊎◌, Bool, true, List, [], map, length, inl, inr, sym, subst, arith}
use Rattle.std.proofs.lemmas.Bool.{cases_lt}
use Rattle.cell_num.specs.declared.net.NetNo.{NetNo}
use Rattle.cell_num.specs.declared.net.Pins.{Pins}
use Rattle.cell_num.specs.declared.finger.Fingers.{Fingers}
use Rattle.row_model.specs.declared.column.Column.{Column}
use Rattle.row_model.specs.Arrangement.{IsArrangement}
use Rattle.row_place.specs.Places.{placement_of}
use Rattle.row_place.specs.Trunks.{HasPins}
use Rattle.channel_route.specs.declared.routing.Trunk.{Trunk}
use Rattle.row_state.specs.declared.kind.Kinds.{Kinds}
use Rattle.row_state.specs.declared.state.State.{State}
use Rattle.row_state.specs.declared.step.Step.{Step}
use Rattle.row_state.specs.Completion.{Completes}
use Rattle.row_state.specs.Start.{start_of, GatesAreNets, AreKinds}
use Rattle.row_state.specs.Steps.{column_of}
use Rattle.row_state.proofs.Unfold.{completion_of}
use Rattle.dogleg_route.specs.declared.piece.PieceRouting.{PieceRouting}
use Rattle.dogleg_route.specs.Routings.{ArePiecesLegal}
use Rattle.track_ways.specs.Lines.{is_ahead}
use Rattle.track_ways.specs.Channel.{AreLinesOf}
use Rattle.track_ways.specs.Rows.{lines_of_row}
use Rattle.track_ways.specs.States.{is_open_at}
use Rattle.track_ways.specs.Paths.{Leads}
use Rattle.track_ways.proofs.Path.{StepsOf, completes, runs, steps_of, sweeps_of}
use Rattle.track_ways.proofs.Placed.{lines_placed}
use Rattle.track_ways.proofs.Whole.{again_by, start_behind, start_fits}
use Rattle.piece_lines.specs.Lines.{PieceLineFits, PieceSweeps}
use Rattle.piece_lines.specs.Paths.{PieceRuns}
use Rattle.piece_lines.specs.Within.{routing_on}
use Rattle.piece_lines.proofs.Again.{fits_again}
use Rattle.piece_lines.proofs.Fewest.{legal}
use Rattle.piece_lines.proofs.Listed.{Within, pieces_of_sweeps}
use Rattle.piece_lines.proofs.Swept.{legal_sweeps}

abbrev pub row_of : Kinds → List Step → List Column
row_of k steps = map (column_of k) steps

lines_are : (k : Kinds) (steps : List Step) → GatesAreNets k → Leads k (start_of k) steps → length (row_of k steps) ≤ 32 → AreLinesOf (placement_of (row_of k steps)) (lines_of_row (row_of k steps))
lines_are k steps nets leads few = let whole : Completes k (start_of k) (row_of k steps) = completes k (start_of k) steps nets leads in lines_placed (row_of k steps) whole.columns few

-- to a path from the start, and back
pub to_path : (pins : Pins) (k : Kinds) (steps : List Step) (limit : ℕ) (track : NetNo → ℕ) → GatesAreNets k → Leads k (start_of k) steps → PieceSweeps pins limit (is_ahead []) track (lines_of_row (row_of k steps)) → PieceRuns pins limit k (start_of k) track steps
to_path pins k steps limit track nets leads s = runs PieceLineFits pins limit k (start_of k) track steps nets leads (start_fits k) (subst (λ (b : NetNo → Bool). PieceSweeps pins limit b track (lines_of_row (row_of k steps))) (start_behind k) s)

pub from_path : (pins : Pins) (k : Kinds) (steps : List Step) (limit : ℕ) (track : NetNo → ℕ) → GatesAreNets k → Leads k (start_of k) steps → PieceRuns pins limit k (start_of k) track steps → PieceSweeps pins limit (is_ahead []) track (lines_of_row (row_of k steps))
from_path pins k steps limit track nets leads r = subst (λ (b : NetNo → Bool). PieceSweeps pins limit b track (lines_of_row (row_of k steps))) (sym (start_behind k)) (sweeps_of PieceLineFits fits_again pins limit k (start_of k) track steps nets leads (start_fits k) r)

-- a legal routing of a row gives tracks along its path
pub path_of : (pins : Pins) (k : Kinds) (steps : List Step) (r : PieceRouting) (limit : ℕ) (track : NetNo → ℕ) →
    GatesAreNets k → Leads k (start_of k) steps → length (row_of k steps) ≤ 32 →
    ArePiecesLegal (placement_of (row_of k steps)) pins r → r.tracks ≤ limit →
    PieceRuns pins limit k (start_of k) track steps
path_of pins k steps r limit track nets leads few l enough =
    to_path pins k steps limit track nets leads (legal_sweeps (placement_of (row_of k steps)) pins (lines_of_row (row_of k steps)) (lines_are k steps nets leads few) r l limit enough track)

-- where no path of an arrangement goes on fewer tracks, no legal routing of any has fewer
pub fewest : (pins : Pins) (f : Fingers) (k : Kinds) (limit : ℕ) → AreKinds f k → GatesAreNets k
    → ((steps : List Step) (track : NetNo → ℕ) (fewer : ℕ) → fewer < limit → Leads k (start_of k) steps → IsArrangement (row_of k steps) f → PieceRuns pins fewer k (start_of k) track steps → ⊥)
    → (row : List Column) (r : PieceRouting) → IsArrangement row f → length row ≤ 32 → ArePiecesLegal (placement_of row) pins r → limit ≤ r.tracks
fewest pins f k limit kinds nets none row r is few l = go (steps_of k (start_of k) row (completion_of f k row kinds is)) (cases_lt r.tracks limit)
  where
    go : StepsOf k (start_of k) row → (r.tracks < limit) ⊎ (limit ≤ r.tracks) → limit ≤ r.tracks
    go s (inr enough) = enough
    go s (inl less) =
        absurd (none s.steps (λ net. 0) r.tracks less s.leads (subst (λ cs. IsArrangement cs f) (sym s.is) is)
        (path_of pins k s.steps r r.tracks (λ net. 0) nets s.leads (subst (λ cs. length cs ≤ 32) (sym s.is) few) (subst (λ cs. ArePiecesLegal (placement_of cs) pins r) (sym s.is) l) (omega arith)))

-- and a path on the fewest has a legal routing
pub legal_path : (pins : Pins) (k : Kinds) (steps : List Step) (limit : ℕ) (track : NetNo → ℕ) → GatesAreNets k → Leads k (start_of k) steps → length (row_of k steps) ≤ 32 → HasPins (placement_of (row_of k steps)) pins → PieceRuns pins limit k (start_of k) track steps
    → ((other : NetNo → ℕ) (fewer : ℕ) → fewer < limit → PieceRuns pins fewer k (start_of k) other steps → ⊥)
    → (list : List Trunk) × ArePiecesLegal (placement_of (row_of k steps)) pins (routing_on limit list)
legal_path pins k steps limit track nets leads few pinned r none =
    let h : AreLinesOf (placement_of (row_of k steps)) (lines_of_row (row_of k steps)) = lines_are k steps nets leads few in
    let w : Within (placement_of (row_of k steps)) pins limit = pieces_of_sweeps (placement_of (row_of k steps)) pins (lines_of_row (row_of k steps)) h pinned limit track (from_path pins k steps limit track nets leads r) in
    (w.list, legal (placement_of (row_of k steps)) pins (lines_of_row (row_of k steps)) h limit w.list w.are (λ fewer other less s. none other fewer less (to_path pins k steps fewer other nets leads s)))

-- of what is before a state the tracks of its open nets alone count
pub again : (pins : Pins) (limit : ℕ) (k : Kinds) (s : State) (track other : NetNo → ℕ) (steps : List Step) → GatesAreNets k → Leads k s steps → ((net : NetNo) → is_open_at pins k s net ≡ true → track net ≡ other net) → PieceRuns pins limit k s track steps → PieceRuns pins limit k s other steps
again = again_by PieceLineFits fits_again
