-- Which certificates a text can hold: what is in range for the kinds of the fingers.
use Rattle.std.specs.Prelude.{ℕ, ◌≤◌, ◌<◌, All, IsTrue}
use Rattle.row_state.specs.declared.kind.Kinds.{Kinds}
use Rattle.row_state.specs.Start.{IsState}
use Rattle.trail_log.specs.Order.{increases}
use Rattle.row_cycles.specs.Fits.{CycleFits}
use Rattle.track_ways.specs.declared.track.NetTrack.{NetTrack}
use Rattle.track_ways.specs.declared.lemma.TrackLemma.{TrackLemma}
use Rattle.track_log.specs.declared.certificate.TrackCertificate.{TrackCertificate}
use Rattle.track_log.specs.Line.{track_rank}

pub record TrackFits (nets : ℕ) (t : NetTrack) : Type 0 where
  pub net : t.net.0 < nets
  pub track : t.track < 256

-- a valid state, at most 63 gaps, and tracks in the order of their nets, no net twice
pub record LemmaFits (k : Kinds) (lemma : TrackLemma) : Type 0 where
  pub state : IsState k lemma.state
  pub gaps : lemma.gaps ≤ 63
  pub tracks : All (TrackFits k.nets) lemma.tracks
  pub order : IsTrue (increases track_rank lemma.tracks)

pub record CertificateFits (k : Kinds) (certificate : TrackCertificate) : Type 0 where
  pub gaps : certificate.gaps ≤ 63
  pub some : 1 ≤ certificate.tracks
  pub few : certificate.tracks ≤ 256
  pub cycles : All (CycleFits k) certificate.cycles
  pub lemmas : All (LemmaFits k) certificate.lemmas
