-- The lowest row by a wiring: of all rows that can be wired with the fewest gaps the first on the fewest tracks, with
-- the first of its routings on these tracks. What the search for it results in, and what drawing it does.
use Rattle.std.specs.Prelude.{ℕ, ◌≡◌, ◌≤◌, ◌⊎◌, List}
use Rattle.cell_num.specs.declared.net.Pins.{Pins}
use Rattle.row_model.specs.declared.column.Column.{Column}
use Rattle.row_model.specs.Gaps.{gaps_of}
use Rattle.row_state.specs.Order.{RowBefore}
use Rattle.row_search.specs.First.{IsFirstLeast}
use Rattle.row_place.specs.declared.placement.Placement.{Placement}
use Rattle.row_place.specs.Places.{placement_of}
use Rattle.channel_route.specs.declared.routing.Routing.{Routing}
use Rattle.first_route.specs.First.{IsFirstRouting}
use Rattle.first_pieces.specs.First.{IsFirstPieces}
use Rattle.track_log.specs.declared.certificate.TrackCertificate.{TrackCertificate}
use Rattle.cell_inputs.specs.declared.style.Style.{Style}
use Rattle.cell_inputs.specs.declared.style.Wiring.{Wiring}
use Rattle.cell_inputs.specs.declared.style.Wiring.TheVariants.{Straight, Doglegs}
use Rattle.cell_inputs.specs.Inputs.{Inputs}
use Rattle.cell_make.specs.declared.low_planned.LowPlanned.{LowPlanned}
use Rattle.cell_make.specs.declared.low_planned.LowPlanned.TheVariants as planned
use Rattle.cell_make.specs.LowRows.{IsFirstLeastWired, IsLeastWired, IsRinged}
use Rattle.cell_make.specs.LowTracks.{IsLowestSpent, ProvesTracks, TakeAtLeast}
use Rattle.cell_make.specs.LowUnwired.{IsUnwiredEnd, ProvesUnwired}
use Rattle.cell_make.specs.Making.{IsRouted}
use Rattle.cell_make.specs.Rows.{DrawAnswer, DrawsAs, RowDrawn, RowCyclic, RowTall}
use Rattle.cell_make.specs.Style.{AreLegal, HasNoRing, as_pieces}

-- ---- the lowest row

-- of the legal routings on that many tracks it is the first
abbrev pub IsFirstOn : Wiring → Placement → Pins → (count : ℕ) → Routing → Type 0
IsFirstOn Straight placement pins count routing = IsFirstRouting placement pins count routing
IsFirstOn Doglegs placement pins count routing = IsFirstPieces placement pins count (as_pieces routing)

-- The row is the first of those that can be wired on that many tracks, of all with as few gaps as any that can be wired
-- has; none of these takes fewer; and the routing is the first of its legal ones on these tracks.
pub record IsLowest
    (wiring : Wiring) (inputs : Inputs) (row : List Column) (routing : Routing) (certificate : TrackCertificate)
    : Type 0 where
  pub least : IsLeastWired wiring inputs row
  pub gaps : gaps_of row ≡ certificate.gaps
  pub acyclic : HasNoRing wiring (placement_of row) inputs.cell.pins
  pub legal : AreLegal wiring (placement_of row) inputs.cell.pins routing
  pub on : routing.tracks ≡ certificate.tracks
  pub fewest : TakeAtLeast wiring inputs (gaps_of row) routing.tracks
  pub first : (other : List Column) (r : Routing) → IsLeastWired wiring inputs other
      → AreLegal wiring (placement_of other) inputs.cell.pins r → r.tracks ≤ routing.tracks
      → (row ≡ other) ⊎ RowBefore row other
  pub first_routing : IsFirstOn wiring (placement_of row) inputs.cell.pins routing.tracks routing

-- ---- where the search for it is open

-- the first of the rows that can be wired with the fewest gaps, where the budget is spent, with its channel routed
-- legally and tightly
pub record IsFirstOpen
    (style : Style) (inputs : Inputs) (row : List Column) (certificate : TrackCertificate) (routing : Routing)
    : Type 0 where
  pub first : IsFirstLeastWired style.wiring inputs row
  pub gaps : gaps_of row ≡ certificate.gaps
  pub spent : IsLowestSpent style.wiring inputs certificate
  pub routed : IsRouted style inputs row routing

-- ---- drawing the lowest row

-- the routing of the lowest row; or where the search for it is open, that of the first row that can be wired with the
-- fewest gaps
abbrev pub IsLowRouted : Style → Inputs → List Column → TrackCertificate → Routing → Type 0
IsLowRouted style inputs row certificate routing =
    IsLowest style.wiring inputs row routing certificate ⊎ IsFirstOpen style inputs row certificate routing

-- only where no row can be wired it is a cycle, of the first least one
abbrev pub IsLowStop : Style → Inputs → List Column → TrackCertificate → DrawAnswer → Type 0
IsLowStop style inputs row certificate (RowDrawn routing xs) = Unit {0}
IsLowStop style inputs row certificate (RowCyclic ring) =
    IsFirstLeast inputs.fingers row × ProvesUnwired style.wiring inputs certificate
IsLowStop style inputs row certificate (RowTall routing) = Unit {0}

abbrev pub DrawsLow : Style → Inputs → List Column → TrackCertificate → DrawAnswer → Type 0
DrawsLow style inputs row certificate answer =
    DrawsAs (IsLowRouted style inputs row certificate) style inputs row answer
    × IsLowStop style inputs row certificate answer

-- ---- as the code answers it, by a least row

-- It can be wired, with the fewest gaps. It is the first such row, where the search began at the first least one.
pub record IsOpenRow (wiring : Wiring) (inputs : Inputs) (least row : List Column) (certificate : TrackCertificate)
    : Type 0 where
  pub wired : IsLeastWired wiring inputs row
  pub first : IsFirstLeast inputs.fingers least → IsFirstLeastWired wiring inputs row
  pub gaps : gaps_of row ≡ certificate.gaps
  pub spent : IsLowestSpent wiring inputs certificate

-- The lowest row on its lines with its routing; or a row that can be wired with the fewest gaps, where the budget is
-- spent; or a cycle of the least row, where no row that can be wired is known. The certificate proves its tracks.
abbrev pub IsLowPlanned : Wiring → Inputs → (least : List Column) → LowPlanned → Type 0
IsLowPlanned wiring inputs least (planned.Found placement routing certificate) =
    (placement ≡ placement_of placement.row)
    × IsLowest wiring inputs placement.row routing certificate
    × ProvesTracks wiring inputs certificate
IsLowPlanned wiring inputs least (planned.Open row certificate) =
    IsOpenRow wiring inputs least row certificate × ProvesTracks wiring inputs certificate
IsLowPlanned wiring inputs least (planned.Unwired ring certificate none_wired) =
    IsRinged wiring inputs least ring
    × IsUnwiredEnd wiring inputs certificate none_wired
    × ProvesTracks wiring inputs certificate
