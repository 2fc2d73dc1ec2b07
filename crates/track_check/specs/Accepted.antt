-- Which texts are accepted, and why others are not.
use Rattle.std.specs.Prelude.{ℕ, ◌≡◌, ◌+◌, ◌-◌, ◌⊎◌, List, [], Any, Ok, Err, length}
use Rattle.cell_num.specs.declared.finger.Row.{Row}
use Rattle.cell_num.specs.declared.net.Pins.{Pins}
use Rattle.row_state.specs.declared.kind.Kinds.{Kinds}
use Rattle.row_state.specs.declared.state.State.{State}
use Rattle.row_state.specs.Start.{start_of}
use Rattle.track_ways.specs.Certificate.{AreJustified, CoversAll}
use Rattle.row_needs.specs.declared.need_bound.TheConstants.{MOST_LEFTOVERS}
use Rattle.row_needs.specs.declared.need_bound.NeedBound.{NeedBound}
use Rattle.row_needs.specs.Bound.{IsBoundOf, value_by}
use Rattle.row_cycles.specs.declared.lemma.CycleLemma.{CycleLemma}
use Rattle.row_cycles.specs.Certificate.{AreJustified as AreCyclesJustified, CoversAll as CycleCoversAll}
use Rattle.row_cycles.specs.Refusal.{IsFirstUnjustified as IsFirstUnjustifiedCycle}
use Rattle.track_log.specs.declared.certificate.TrackCertificate.{TrackCertificate}
use Rattle.track_log.specs.Fits.{CertificateFits}
use Rattle.track_log.specs.Reading.{certificate_of}
use Rattle.track_log.specs.Text.{certificate_text}
use Rattle.track_check.specs.Refusal.{IsFirstUnjustified}
use Rattle.track_check.specs.declared.accept.TracksProved.{TracksProved}
use Rattle.track_check.specs.declared.rejected.TextRejected.{TextRejected}
use Rattle.track_check.specs.declared.rejected.TextRejected.TheVariants as because

-- Lemmas on cycles follow, by the exact need of each state, or by the component bound where the cell's states have too
-- many different leftovers. Where there are none, no bound is asked for.
abbrev pub CyclesFollow : Pins → Kinds → List CycleLemma → Type 0
CyclesFollow pins k cycles =
    (cycles ≡ []) ⊎ ((b : NeedBound) × IsBoundOf MOST_LEFTOVERS k b × AreCyclesJustified (value_by b) pins k cycles)

-- the first of them that does not follow, by the same bound
abbrev pub IsFirstCycle : Pins → Kinds → List CycleLemma → ℕ → Type 0
IsFirstCycle pins k cycles at =
    (b : NeedBound) × IsBoundOf MOST_LEFTOVERS k b × IsFirstUnjustifiedCycle (value_by b) pins k cycles at

-- its lemmas on tracks are about one track fewer
abbrev pub limit_of : TrackCertificate → ℕ
limit_of certificate = certificate.tracks - 1

-- one lemma is about all rows with that many gaps: one on tracks about any tracks, or one on cycles that asks for
-- nothing
abbrev pub HasStart : Kinds → TrackCertificate → Type 0
HasStart k c = Any (CoversAll (start_of k) c.gaps) c.lemmas ⊎ Any (CycleCoversAll (start_of k) c.gaps) c.cycles

-- all lemmas on cycles follow, and all lemmas on tracks by the bound
pub record AreAllJustified
    (value : Row → State → Kinds → ℕ) (pins : Pins) (k : Kinds) (c : TrackCertificate) : Type 0 where
  pub cycles : CyclesFollow pins k c.cycles
  pub lemmas : AreJustified value pins (limit_of c) k c.lemmas

-- so the lemmas certify what the lines of gaps and tracks say
pub record IsCertified
    (value : Row → State → Kinds → ℕ) (pins : Pins) (k : Kinds) (c : TrackCertificate) : Type 0 where
  pub justified : AreAllJustified value pins k c
  pub whole : HasStart k c

-- the text of a certificate that fits, whose lemmas certify what its lines of gaps and tracks say
pub record IsAccepted
    (value : Row → State → Kinds → ℕ) (pins : Pins) (k : Kinds) (name bytes : List ℕ) (proved : TracksProved)
    : Type 0 where
  pub certificate : TrackCertificate
  pub fits : CertificateFits k certificate
  pub text : bytes ≡ certificate_text name certificate
  pub gaps : proved.gaps ≡ certificate.gaps
  pub tracks : proved.tracks ≡ certificate.tracks
  pub certifies : IsCertified value pins k certificate

-- the first lemma on tracks that does not follow, where all lemmas on cycles do: they are counted before it
pub record IsFirstTrack
    (value : Row → State → Kinds → ℕ) (pins : Pins) (k : Kinds) (c : TrackCertificate) (at : ℕ) : Type 0 where
  pub cycles : CyclesFollow pins k c.cycles
  pub place : ℕ
  pub at_is : at ≡ length c.cycles + place
  pub first : IsFirstUnjustified value pins (limit_of c) k c.lemmas place

-- the first lemma that does not follow, by its place among all
abbrev pub IsFirstAt : (Row → State → Kinds → ℕ) → Pins → Kinds → TrackCertificate → ℕ → Type 0
IsFirstAt value pins k c at = IsFirstCycle pins k c.cycles at ⊎ IsFirstTrack value pins k c at

-- A certificate is read, and this is the line of its first lemma that does not follow; the first is at line 5.
pub record IsUnjustifiedLine
    (value : Row → State → Kinds → ℕ) (pins : Pins) (k : Kinds) (name bytes : List ℕ) (line : ℕ) : Type 0 where
  pub certificate : TrackCertificate
  pub read : certificate_of bytes name k ≡ Ok certificate
  pub at : ℕ
  pub line_is : line ≡ at + 5
  pub first : IsFirstAt value pins k certificate at

-- a certificate is read, all its lemmas follow, and none is about all rows
pub record IsWithoutStart
    (value : Row → State → Kinds → ℕ) (pins : Pins) (k : Kinds) (name bytes : List ℕ) : Type 0 where
  pub certificate : TrackCertificate
  pub read : certificate_of bytes name k ≡ Ok certificate
  pub justified : AreAllJustified value pins k certificate
  pub none : HasStart k certificate → ⊥

abbrev pub Rejects :
    (Row → State → Kinds → ℕ) → Pins → Kinds → List ℕ → List ℕ → TextRejected → Type 0
Rejects value pins k name bytes (because.Text fault) = certificate_of bytes name k ≡ Err fault
Rejects value pins k name bytes (because.Unjustified line) = IsUnjustifiedLine value pins k name bytes line
Rejects value pins k name bytes because.NoStart = IsWithoutStart value pins k name bytes
Rejects value pins k name bytes because.NoMemory = Unit {0}
