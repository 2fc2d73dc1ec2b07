-- `check .. --low` accepts the certificate of tracks that a search leaves.
use Rattle.std.proofs.Common.{ℕ, ◌≡◌, ◌≤◌, ◌⊎◌, List, [], inl, inr, refl, subst, sym, arith}
use Rattle.row_state.specs.declared.kind.Kinds.{Kinds}
use Rattle.row_state.specs.Component.{component_value}
use Rattle.row_cycles.specs.declared.lemma.CycleLemma.{CycleLemma}
use Rattle.log_check.proofs.SameKinds.{for_kinds}
use Rattle.track_ways.specs.Certificate.{AreJustified, Certifies}
use Rattle.track_log.specs.declared.certificate.TrackCertificate.{TrackCertificate}
use Rattle.track_log.specs.Fits.{CertificateFits}
use Rattle.track_check.specs.Accepted.{CyclesFollow, IsCertified, limit_of}
use Rattle.turn_check.specs.Courses.{IsLowAccepted}
use Rattle.turn_check.specs.Turning.{IsTurnCertified}
use Rattle.cell_inputs.specs.declared.style.Wiring.{Wiring}
use Rattle.cell_inputs.specs.declared.style.Wiring.TheVariants.{Straight, Doglegs}
use Rattle.cell_inputs.specs.Inputs.{Inputs}
use Rattle.cell_make.specs.LowTracks.{CertifiesLow, IsAboveUnwired, IsAtFewest, ProvesTracks}
use Rattle.cell_make.specs.LowCycles.{CertifyUnwired}
use Rattle.cell_commands.specs.Low.{tracks_text}
use Rattle.cell_commands.specs.LowCheck.{IsAcceptedTracks, low_proved}

-- lemmas on cycles of a search, by the bound of its cell
unwired_follow : (inputs : Inputs) (k : Kinds) (gaps : ℕ) (cycles : List CycleLemma) → CertifyUnwired inputs k gaps cycles → CyclesFollow inputs.cell.pins k cycles
unwired_follow inputs k gaps cycles h = inr (h.bound, h.is, h.certified.justified)

-- those of a certificate: none, or those on rows with fewer gaps
cycles_follow : (inputs : Inputs) (k : Kinds) (c : TrackCertificate) → IsAtFewest inputs c ⊎ IsAboveUnwired inputs k c → CyclesFollow inputs.cell.pins k c.cycles
cycles_follow inputs k c (inl h) = inl h.alone
cycles_follow inputs k c (inr h) = unwired_follow inputs k h.below c.cycles h.unwired

no_lemmas : (inputs : Inputs) (k : Kinds) (c : TrackCertificate) → c.lemmas ≡ [] → AreJustified component_value inputs.cell.pins (limit_of c) k c.lemmas
no_lemmas inputs k c none = subst (AreJustified component_value inputs.cell.pins (limit_of c) k) (sym none) (λ i d less. absurd (omega (arith, less)))

certified : (inputs : Inputs) (k : Kinds) (c : TrackCertificate) → 1 ≤ c.tracks → CertifiesLow Straight inputs k c → IsCertified component_value inputs.cell.pins k c
certified inputs k c some (inl h) =
    let is : Certifies component_value inputs.cell.pins (limit_of c) k c.gaps c.lemmas = h.certified (limit_of c) (omega (arith, some)) in
    record {
      justified = record { cycles = cycles_follow inputs k c h.below; lemmas = is.justified };
      whole = inl is.whole;
    }
certified inputs k c some (inr h) = record {
  justified = record { cycles = unwired_follow inputs k c.gaps c.cycles h.unwired; lemmas = no_lemmas inputs k c h.alone };
  whole = inr h.unwired.certified.whole;
}

-- with doglegs there is no lemma on cycles
certified_turning : (inputs : Inputs) (k : Kinds) (c : TrackCertificate) → 1 ≤ c.tracks → CertifiesLow Doglegs inputs k c → IsTurnCertified component_value inputs.cell.pins k c
certified_turning inputs k c some h = record { cycles = h.below.alone; certifies = h.certified (limit_of c) (omega (arith, some)) }

-- the text of the wiring, for these kinds
accepted_by : (wiring : Wiring) (inputs : Inputs) (k : Kinds) (c : TrackCertificate) → 1 ≤ c.tracks → CertifiesLow wiring inputs k c → CertificateFits k c → IsLowAccepted component_value inputs.cell.pins k inputs.cell.name (tracks_text wiring inputs.cell c) (low_proved wiring c)
accepted_by Straight inputs k c some by fits = record {
  certificate = c;
  fits = fits;
  text = refl;
  gaps = refl;
  tracks = refl;
  certifies = certified inputs k c some by;
}
accepted_by Doglegs inputs k c some by fits = record {
  certificate = c;
  fits = fits;
  text = refl;
  gaps = refl;
  tracks = refl;
  certified = certified_turning inputs k c some by;
}

pub accepted_tracks : (wiring : Wiring) (inputs : Inputs) (c : TrackCertificate) → ProvesTracks wiring inputs c → 1 ≤ c.tracks → IsAcceptedTracks wiring inputs c
accepted_tracks wiring inputs c proves some =
    let (k, of_k, some_k, by) = proves.certified in
    let (j, of_j, some_j, fits) = proves.fits some in
    (k, of_k, some_k, accepted_by wiring inputs k c some by (for_kinds inputs.fingers j (λ kinds. CertificateFits kinds c) of_j some_j fits k of_k some_k))
