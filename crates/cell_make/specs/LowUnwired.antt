-- Where no row of a cell is known that can be wired: there is none, or the search for one is open.
use Rattle.std.specs.Prelude.{ℕ, ◌≡◌, ◌≤◌, ◌+◌, ◌⊎◌, Bool, true, false, List}
use Rattle.row_model.specs.declared.column.Column.{Column}
use Rattle.row_model.specs.Arrangement.{IsArrangement}
use Rattle.row_model.specs.Gaps.{gaps_of}
use Rattle.log_check.specs.Accepted.{WithKinds}
use Rattle.track_log.specs.declared.certificate.TrackCertificate.{TrackCertificate}
use Rattle.cell_inputs.specs.declared.style.Wiring.{Wiring}
use Rattle.cell_inputs.specs.declared.style.Wiring.TheVariants.{Straight, Doglegs}
use Rattle.cell_inputs.specs.Inputs.{Inputs}
use Rattle.cell_make.specs.LowCycles.{IsPassSpent}
use Rattle.cell_make.specs.LowRows.{IsLeast, NoneIsWired, NoneIsWiredWithin}
use Rattle.cell_make.specs.LowTracks.{CertifiesCycles, IsLowestSpent}

-- ---- with straight trunks

-- No arrangement can be wired, and the lemmas on cycles certify it. The tracks are as many as the cell has nets: a
-- legal routing has fewer.
pub record ProvesNoneIsWired (inputs : Inputs) (certificate : TrackCertificate) : Type 0 where
  pub none : NoneIsWired Straight inputs
  pub all : (row : List Column) → IsArrangement row inputs.fingers → gaps_of row ≤ certificate.gaps
  pub tracks : certificate.tracks ≡ inputs.fingers.nets
  pub certified : WithKinds inputs.fingers (λ k. CertifiesCycles inputs k certificate)

-- what is known of rows with fewer gaps: nothing of any row's tracks where no row has fewer, or that none of them can
-- be wired, which the lemmas on cycles certify
pub record IsNothingProved (inputs : Inputs) (gaps : ℕ) (certificate : TrackCertificate) : Type 0 where
  pub fewest : (row : List Column) → IsArrangement row inputs.fingers → gaps ≤ gaps_of row
  pub gaps_are : gaps ≡ certificate.gaps
  pub nothing : certificate.tracks ≡ 0

pub record ProvesFewerUnwired (inputs : Inputs) (gaps : ℕ) (certificate : TrackCertificate) : Type 0 where
  pub none : NoneIsWiredWithin Straight inputs certificate.gaps
  pub next : gaps ≡ certificate.gaps + 1
  pub tracks : certificate.tracks ≡ inputs.fingers.nets
  pub certified : WithKinds inputs.fingers (λ k. CertifiesCycles inputs k certificate)

-- the budget is spent by the lemmas on cycles of the search for a row without a cycle, with that many gaps; none with
-- fewer can be wired
pub record IsWiredSpent (inputs : Inputs) (certificate : TrackCertificate) : Type 0 where
  pub gaps : ℕ
  pub below : IsNothingProved inputs gaps certificate ⊎ ProvesFewerUnwired inputs gaps certificate
  pub spent : WithKinds inputs.fingers (λ k. IsPassSpent inputs k gaps)

-- ---- with doglegs

-- The search goes over the least rows alone, on fewer tracks than the cell has nets: none of them can be wired so, or
-- the budget is spent, by the lemmas or by the tries on the tracks of the certificate.
pub record IsLeastOpen (inputs : Inputs) (certificate : TrackCertificate) : Type 0 where
  pub row : List Column
  pub least : IsLeast inputs.fingers row
  pub gaps : gaps_of row ≡ certificate.gaps
  pub unwired : (certificate.tracks ≡ inputs.fingers.nets) ⊎ IsLowestSpent Doglegs inputs certificate

-- ---- by the wiring

-- no row can be wired; with doglegs this is never shown
abbrev pub ProvesUnwired : Wiring → Inputs → TrackCertificate → Type 0
ProvesUnwired Straight inputs certificate = ProvesNoneIsWired inputs certificate
ProvesUnwired Doglegs inputs certificate = ⊥

-- the search for a row that can be wired is open
abbrev pub IsUnwiredOpen : Wiring → Inputs → TrackCertificate → Type 0
IsUnwiredOpen Straight inputs certificate = IsWiredSpent inputs certificate
IsUnwiredOpen Doglegs inputs certificate = IsLeastOpen inputs certificate

-- the one or the other
abbrev pub IsUnwiredEnd : Wiring → Inputs → TrackCertificate → (none_wired : Bool) → Type 0
IsUnwiredEnd wiring inputs certificate true = ProvesUnwired wiring inputs certificate
IsUnwiredEnd wiring inputs certificate false = IsUnwiredOpen wiring inputs certificate
