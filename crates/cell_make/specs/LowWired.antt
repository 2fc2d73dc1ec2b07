-- With straight trunks: what the search for rows that can be wired with the fewest gaps knows of rows with fewer, and
-- what it ends with.
use Rattle.std.specs.Prelude.{ℕ, ◌⊎◌, List, [], All}
use Rattle.row_model.specs.declared.column.Column.{Column}
use Rattle.row_model.specs.Gaps.{gaps_of}
use Rattle.row_state.specs.declared.kind.Kinds.{Kinds}
use Rattle.row_search.specs.First.{IsFirstLeast}
use Rattle.row_cycles.specs.declared.lemma.CycleLemma.{CycleLemma}
use Rattle.row_cycles.specs.Fits.{CycleFits}
use Rattle.track_log.specs.declared.certificate.TrackCertificate.{TrackCertificate}
use Rattle.cell_inputs.specs.declared.style.Wiring.TheVariants.{Straight}
use Rattle.cell_inputs.specs.Inputs.{Inputs}
use Rattle.cell_make.specs.declared.low_planned.LowPlanned.{LowPlanned}
use Rattle.cell_make.specs.declared.low_wired.LowWired.{LowWired}
use Rattle.cell_make.specs.declared.low_wired.LowWired.TheVariants as wired
use Rattle.cell_make.specs.Low.{IsLowPlanned}
use Rattle.cell_make.specs.LowRows.{IsFirstLeastWired}
use Rattle.cell_make.specs.LowTracks.{IsAboveNone, ProvesTracks}
use Rattle.cell_make.specs.LowUnwired.{IsNothingProved, IsUnwiredEnd, ProvesFewerUnwired}

-- a certificate with these alone
abbrev pub cycles_at : (gaps : ℕ) → List CycleLemma → TrackCertificate
cycles_at gaps cycles = record { gaps = gaps; tracks = 0; cycles = cycles; lemmas = [] }

-- Lemmas on cycles below that many gaps: there are none, where no row has fewer gaps; or they certify that none of
-- these can be wired. A text can hold them.
pub record AreBelow (inputs : Inputs) (k : Kinds) (gaps : ℕ) (cycles : List CycleLemma) : Type 0 where
  pub below : IsAboveNone Straight inputs k (cycles_at gaps cycles)
  pub fit : All (CycleFits k) cycles

-- the certificate of what is known of rows with fewer gaps: nothing, where there are none; or that none can be wired
pub record IsBelow (inputs : Inputs) (k : Kinds) (gaps : ℕ) (certificate : TrackCertificate) : Type 0 where
  pub known : IsNothingProved inputs gaps certificate ⊎ ProvesFewerUnwired inputs gaps certificate
  pub proves : ProvesTracks Straight inputs certificate
  pub cycles : AreBelow inputs k gaps certificate.cycles

-- the first of the rows that can be wired with the fewest gaps, with what is known of those with fewer; or why no row
-- is known that can be wired
abbrev pub IsWiredEnd : Inputs → Kinds → LowWired → Type 0
IsWiredEnd inputs k (wired.Found row cycles) =
    IsFirstLeastWired Straight inputs row × AreBelow inputs k (gaps_of row) cycles
IsWiredEnd inputs k (wired.Open certificate none_wired) =
    IsUnwiredEnd Straight inputs certificate none_wired × ProvesTracks Straight inputs certificate

-- what the search by tracks came to, for each least row where this one is found by it
abbrev pub IsPlannedBy : Inputs → (row : List Column) → LowPlanned → Type 0
IsPlannedBy inputs row planned =
    (least : List Column) → (IsFirstLeast inputs.fingers least → IsFirstLeastWired Straight inputs row)
    → IsLowPlanned Straight inputs least planned
