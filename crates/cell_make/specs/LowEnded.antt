-- What the searches for the lowest row ended with, as the certificate of its gaps and tracks.
use Rattle.std.specs.Prelude.{ℕ, ◌+◌, false, List, [], Option, Some, None}
use Rattle.row_cycles.specs.declared.lemma.CycleLemma.{CycleLemma}
use Rattle.channel_route.specs.declared.ring.Ring.{Ring}
use Rattle.track_search.specs.declared.lowest.Lowest.{Lowest}
use Rattle.track_search.specs.declared.lowest.Lowest.TheVariants as ended
use Rattle.piece_search.specs.declared.lowest.LowestPieces.{LowestPieces}
use Rattle.piece_search.specs.declared.lowest.LowestPieces.TheVariants as pieces
use Rattle.row_model.specs.declared.column.Column.{Column}
use Rattle.dogleg_route.specs.Routings.{as_routing}
use Rattle.track_log.specs.declared.certificate.TrackCertificate.{TrackCertificate}
use Rattle.cell_inputs.specs.Inputs.{Inputs}
use Rattle.cell_make.specs.declared.low_pieces.TheConstants.{MOST_ROUTED}
use Rattle.cell_make.specs.declared.low_planned.LowPlanned.{LowPlanned}
use Rattle.cell_make.specs.declared.low_planned.LowPlanned.TheVariants as planned

-- of a search by tracks with the gaps of this row, which can be wired; the lemmas on cycles are on fewer gaps
abbrev pub planned_by : Lowest → (row : List Column) → (gaps : ℕ) → List CycleLemma → LowPlanned
planned_by (ended.Found placement routing lemmas) row gaps cycles =
    planned.Found placement routing (record { gaps = gaps; tracks = routing.tracks; cycles = cycles; lemmas = lemmas })
planned_by (ended.Open proved lemmas) row gaps cycles =
    planned.Open row (record { gaps = gaps; tracks = proved; cycles = cycles; lemmas = lemmas })

-- no row with at most that many gaps can be wired, by these lemmas on cycles: it takes as many tracks as there are nets
abbrev pub unwired_at : List CycleLemma → (gaps nets : ℕ) → TrackCertificate
unwired_at cycles gaps nets = record { gaps = gaps; tracks = nets; cycles = cycles; lemmas = [] }

-- nothing is known of the tracks
abbrev pub nothing_at : (gaps : ℕ) → TrackCertificate
nothing_at gaps = record { gaps = gaps; tracks = 0; cycles = []; lemmas = [] }

-- the search by tracks of pieces is for a row on fewer tracks than these: where a least row can be wired, one more than
-- a routing can have, else as many as the cell has nets
abbrev pub most_tracks : Inputs → Option Ring → ℕ
most_tracks inputs None = MOST_ROUTED + 1
most_tracks inputs (Some ring) = inputs.fingers.nets

-- where the search is open: a least row that can be wired, or its cycle
abbrev pub open_by : Option Ring → (row : List Column) → TrackCertificate → LowPlanned
open_by None row certificate = planned.Open row certificate
open_by (Some ring) row certificate = planned.Unwired ring certificate false

-- of a search by tracks of pieces with the gaps of a least row, which has this cycle or can be wired
abbrev pub pieces_planned_by : LowestPieces → Option Ring → (row : List Column) → (gaps : ℕ) → LowPlanned
pieces_planned_by (pieces.Found placement routing lemmas) ring row gaps =
    planned.Found placement (as_routing routing)
    (record { gaps = gaps; tracks = routing.tracks; cycles = []; lemmas = lemmas })
pieces_planned_by (pieces.Open proved lemmas) ring row gaps =
    open_by ring row (record { gaps = gaps; tracks = proved; cycles = []; lemmas = lemmas })
