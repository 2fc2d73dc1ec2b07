-- How many tracks each row of a cell takes at least, by either wiring, and what a certificate proves of them.
use Rattle.std.specs.Prelude.{ℕ, ◌≡◌, ◌≤◌, ◌+◌, ◌⊎◌, List, []}
use Rattle.row_model.specs.declared.column.Column.{Column}
use Rattle.row_model.specs.Arrangement.{IsArrangement}
use Rattle.row_model.specs.Gaps.{gaps_of}
use Rattle.row_state.specs.declared.kind.Kinds.{Kinds}
use Rattle.row_state.specs.Component.{component_value}
use Rattle.log_check.specs.Accepted.{WithKinds}
use Rattle.row_place.specs.Places.{placement_of}
use Rattle.channel_route.specs.declared.routing.Routing.{Routing}
use Rattle.track_ways.specs.Lines.{LineRule, StraightFits}
use Rattle.piece_lines.specs.Lines.{PieceLineFits}
use Rattle.track_log.specs.declared.certificate.TrackCertificate.{TrackCertificate}
use Rattle.track_log.specs.Fits.{CertificateFits}
use Rattle.track_search.specs.FewestBy.{ProveBy}
use Rattle.track_search.specs.Kept.{IsKeptWithinBy}
use Rattle.track_search.specs.Lowest.{IsBudgetSpent}
use Rattle.piece_search.specs.Lowest.{IsPieceBudgetSpent}
use Rattle.cell_inputs.specs.declared.style.Wiring.{Wiring}
use Rattle.cell_inputs.specs.declared.style.Wiring.TheVariants.{Straight, Doglegs}
use Rattle.cell_inputs.specs.Inputs.{Inputs}
use Rattle.cell_make.specs.LowCycles.{CertifyUnwired}
use Rattle.cell_make.specs.Style.{AreLegal}

-- what is asked of tracks at a line: that they go straight through it, or that a net turns at its node lines alone
abbrev pub fits_of : Wiring → LineRule
fits_of Straight = StraightFits
fits_of Doglegs = PieceLineFits

-- each legal routing of each arrangement with at most that many gaps takes that many tracks or more
abbrev pub TakeAtLeast : Wiring → Inputs → (gaps tracks : ℕ) → Type 0
TakeAtLeast wiring inputs gaps tracks =
    (row : List Column) (r : Routing) → IsArrangement row inputs.fingers → gaps_of row ≤ gaps
    → AreLegal wiring (placement_of row) inputs.cell.pins r → tracks ≤ r.tracks

-- Where no row with at most that many gaps has fewer tracks, the budget is spent, by the lemmas of the search for the
-- row on the fewest tracks or by the tries of the search for its routing.
abbrev pub AreTracksSpent : Wiring → Inputs → Kinds → (gaps tracks : ℕ) → Type 0
AreTracksSpent Straight inputs k gaps tracks =
    IsBudgetSpent component_value inputs.cell.pins k gaps tracks inputs.tech.budget
AreTracksSpent Doglegs inputs k gaps tracks =
    IsPieceBudgetSpent component_value inputs.cell.pins k gaps tracks inputs.tech.budget

-- ---- the certificate

-- no arrangement has fewer gaps than the certificate, and it has no lemma on cycles
pub record IsAtFewest (inputs : Inputs) (certificate : TrackCertificate) : Type 0 where
  pub fewest : (row : List Column) → IsArrangement row inputs.fingers → certificate.gaps ≤ gaps_of row
  pub alone : certificate.cycles ≡ []

-- its lemmas on cycles certify that no row with fewer gaps can be wired straight
pub record IsAboveUnwired (inputs : Inputs) (k : Kinds) (certificate : TrackCertificate) : Type 0 where
  pub below : ℕ
  pub next : certificate.gaps ≡ below + 1
  pub unwired : CertifyUnwired inputs k below certificate.cycles

-- no row with fewer gaps can be wired; lemmas on cycles are on straight trunks alone
abbrev pub IsAboveNone : Wiring → Inputs → Kinds → TrackCertificate → Type 0
IsAboveNone Straight inputs k certificate = IsAtFewest inputs certificate ⊎ IsAboveUnwired inputs k certificate
IsAboveNone Doglegs inputs k certificate = IsAtFewest inputs certificate

-- The lemmas of the certificate certify that no row has one track less, where its tracks are some. Those that the
-- search kept on fewer tracks, with these, are no more than the budget. No row with fewer gaps can be wired.
pub record CertifiesTracks (wiring : Wiring) (inputs : Inputs) (k : Kinds) (certificate : TrackCertificate)
    : Type 0 where
  pub certified :
      ProveBy (fits_of wiring) component_value inputs.cell.pins k certificate.gaps certificate.tracks
      certificate.lemmas
  pub within :
      IsKeptWithinBy (fits_of wiring) component_value inputs.cell.pins k certificate.gaps certificate.tracks
      inputs.tech.budget certificate.lemmas
  pub below : IsAboveNone wiring inputs k certificate

-- its lemmas on cycles alone certify that no row can be wired straight, within its gaps
pub record CertifiesCycles (inputs : Inputs) (k : Kinds) (certificate : TrackCertificate) : Type 0 where
  pub unwired : CertifyUnwired inputs k certificate.gaps certificate.cycles
  pub alone : certificate.lemmas ≡ []

-- its lemmas certify its tracks, or with straight trunks its lemmas on cycles
abbrev pub CertifiesLow : Wiring → Inputs → Kinds → TrackCertificate → Type 0
CertifiesLow Straight inputs k certificate =
    CertifiesTracks Straight inputs k certificate ⊎ CertifiesCycles inputs k certificate
CertifiesLow Doglegs inputs k certificate = CertifiesTracks Doglegs inputs k certificate

-- It says how many tracks each arrangement takes at least, within its gaps. Its lemmas certify it. Where the tracks are
-- not 0, a text can hold it.
pub record ProvesTracks (wiring : Wiring) (inputs : Inputs) (certificate : TrackCertificate) : Type 0 where
  pub least : TakeAtLeast wiring inputs certificate.gaps certificate.tracks
  pub certified : WithKinds inputs.fingers (λ k. CertifiesLow wiring inputs k certificate)
  pub fits : 1 ≤ certificate.tracks → WithKinds inputs.fingers (λ k. CertificateFits k certificate)

-- where the search for the lowest row is open, at the tracks of the certificate the budget is spent
abbrev pub IsLowestSpent : Wiring → Inputs → TrackCertificate → Type 0
IsLowestSpent wiring inputs certificate =
    WithKinds inputs.fingers (λ k. AreTracksSpent wiring inputs k certificate.gaps certificate.tracks)
