-- Which texts of certificates where nets may turn are accepted, and why others are not.
use Rattle.std.specs.Prelude.{ℕ, ◌≡◌, ◌≢◌, ◌+◌, ◌⊎◌, List, [], Ok, Err}
use Rattle.cell_num.specs.declared.finger.Row.{Row}
use Rattle.cell_num.specs.declared.net.Pins.{Pins}
use Rattle.row_state.specs.declared.kind.Kinds.{Kinds}
use Rattle.row_state.specs.declared.state.State.{State}
use Rattle.track_ways.specs.Certificate.{CertifiesBy}
use Rattle.track_log.specs.declared.certificate.Course.TheVariants as course
use Rattle.track_log.specs.declared.certificate.TrackCertificate.{TrackCertificate}
use Rattle.track_log.specs.Fits.{CertificateFits}
use Rattle.track_log.specs.Reading.{certificate_by}
use Rattle.track_log.specs.Text.{certificate_text_by}
use Rattle.track_check.specs.declared.accept.TracksProved.{TracksProved}
use Rattle.track_check.specs.declared.rejected.TextRejected.{TextRejected}
use Rattle.track_check.specs.declared.rejected.TextRejected.TheVariants as because
use Rattle.track_check.specs.Accepted.{limit_of}
use Rattle.track_check.specs.Refusal.{HasNoStart, IsFirstUnjustifiedBy}
use Rattle.piece_lines.specs.Lines.{PieceLineFits}

-- The lemmas certify what the lines of gaps and tracks say, where nets may turn. None is on cycles, since a cycle of
-- nets that go straight is none of nets that turn.
pub record IsTurnCertified
    (value : Row → State → Kinds → ℕ) (pins : Pins) (k : Kinds) (c : TrackCertificate) : Type 0 where
  pub cycles : c.cycles ≡ []
  pub certifies : CertifiesBy PieceLineFits value pins (limit_of c) k c.gaps c.lemmas

-- the text of such a certificate, which fits
pub record IsTurnAccepted
    (value : Row → State → Kinds → ℕ) (pins : Pins) (k : Kinds) (name bytes : List ℕ) (proved : TracksProved)
    : Type 0 where
  pub certificate : TrackCertificate
  pub fits : CertificateFits k certificate
  pub text : bytes ≡ certificate_text_by course.Turning name certificate
  pub gaps : proved.gaps ≡ certificate.gaps
  pub tracks : proved.tracks ≡ certificate.tracks
  pub certified : IsTurnCertified value pins k certificate

-- The first lemma that does not follow: the first on cycles, or where there are none the first on tracks that is not
-- justified.
abbrev pub IsFirstTurn : (Row → State → Kinds → ℕ) → Pins → Kinds → TrackCertificate → ℕ → Type 0
IsFirstTurn value pins k c at =
    ((c.cycles ≢ []) × (at ≡ 0))
    ⊎ ((c.cycles ≡ []) × IsFirstUnjustifiedBy PieceLineFits value pins (limit_of c) k c.lemmas at)

-- a certificate is read, and this is the line of its first lemma that does not follow; the first is at line 5
pub record IsUnjustifiedTurn
    (value : Row → State → Kinds → ℕ) (pins : Pins) (k : Kinds) (name bytes : List ℕ) (line : ℕ) : Type 0 where
  pub certificate : TrackCertificate
  pub read : certificate_by course.Turning bytes name k ≡ Ok certificate
  pub at : ℕ
  pub line_is : line ≡ at + 5
  pub first : IsFirstTurn value pins k certificate at

-- a certificate is read, all its lemmas follow, and none is about all rows
pub record IsTurnWithoutStart
    (value : Row → State → Kinds → ℕ) (pins : Pins) (k : Kinds) (name bytes : List ℕ) : Type 0 where
  pub certificate : TrackCertificate
  pub read : certificate_by course.Turning bytes name k ≡ Ok certificate
  pub cycles : certificate.cycles ≡ []
  pub none : HasNoStart PieceLineFits value pins (limit_of certificate) k certificate.gaps certificate.lemmas

abbrev pub RejectsTurn :
    (Row → State → Kinds → ℕ) → Pins → Kinds → List ℕ → List ℕ → TextRejected → Type 0
RejectsTurn value pins k name bytes (because.Text fault) = certificate_by course.Turning bytes name k ≡ Err fault
RejectsTurn value pins k name bytes (because.Unjustified line) = IsUnjustifiedTurn value pins k name bytes line
RejectsTurn value pins k name bytes because.NoStart = IsTurnWithoutStart value pins k name bytes
RejectsTurn value pins k name bytes because.NoMemory = Unit {0}
